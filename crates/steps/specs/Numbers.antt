-- The number tests: c at the limit, as step 1 looks for it; a body with the places of its bounds' literals, as that of
-- step 3 asks for it.
-- Assumes nothing.
use Rattle.std.specs.Prelude.{Bool, List, ℕ, ◌≤◌, eqb, ℤ, nat_abs, length}
use Rattle.rules.specs.Sum.{Sum, factor, limit}
use Rattle.rules.specs.Rule.{Test, Rule}
use Rattle.rules.specs.Table.{most_words}
use Rattle.rules.specs.Steps.{bounds}
use Rattle.bodies.specs.Body.{BodyOf, BoundsAt}

-- c is 2,147,483,647 or −2,147,483,647
abbrev pub at_limit : Test → Sum → Bool
at_limit t s = eqb (nat_abs (factor 0 s)) limit

pub record SomeBounds (bs : List ℤ) (end x : ℕ) (places : List ℕ) : Type 0 where
  pub number : ℕ
  pub rule : Rule
  pub body : BodyOf bs end number rule
  pub at : BoundsAt bs x places (length places) (bounds x rule)
  pub few : length bs ≤ most_words
