-- A result's table at the start of a lent buffer of any length, and the end of a call that makes one.
-- Assumes nothing.
use Rattle.std.specs.Prelude.{◌≡◌, List, ◌≤◌, ℤ, Ok, Err}
use Rattle.rules.specs.Rule.{Rule}
use Rattle.rules.specs.Result.{Result, refused, given}
use Rattle.rules.specs.Table.{most_words, size}
use Rattle.rules.specs.Laws.{WellFormed}
use Rattle.tables.specs.Standing.{TableAt}
use Rattle.tables.specs.Refusals.{number_of}
use Rattle.elimination.specs.Stepping.{Answer}

pub record Held (ts : List ℤ) (r : Rule) : Type 0 where
  pub table : TableAt ts r
  pub formed : WellFormed r
  pub most : size r ≤ most_words

pub record SomeHeld (ts : List ℤ) : Type 0 where
  pub rule : Rule
  pub held : Held ts rule

-- a call has come to its end: what it refuses with, by its number, or else the result's table is in ts
unfoldable pub Ended : Result Rule → Answer → List ℤ → Type 0
Ended m (Ok u) ts = (f : Rule) × (m ≡ given f) × Held ts f
Ended m (Err e) ts = m ≡ refused (number_of e)

pub record SomeEnd (n : Answer) (ts : List ℤ) : Type 0 where
  pub end : Result Rule
  pub ended : Ended end n ts
