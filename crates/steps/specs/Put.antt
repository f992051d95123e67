-- The sums that step 3 puts in for x: j, and a bound with j added.
-- Assumes nothing.
use Rattle.std.specs.Prelude.{List, ℕ, ◌≤◌, ℤ, length}
use Rattle.rules.specs.Sum.{Sum}
use Rattle.rules.specs.Table.{most_words}
use Rattle.bodies.specs.Body.{BoundAt}
use Rattle.literals.specs.Changes.{InRange}

-- a literal that gives a bound stands at place p
pub record SomeBound (bs : List ℤ) (x p : ℕ) : Type 0 where
  pub bound : Sum
  pub at : BoundAt bs x p bound
  pub few : length bs ≤ most_words
  pub setting : InRange x
