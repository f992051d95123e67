-- What the walk of matching asks for: a well-formed rule with no quantifier stands in the table.
-- Assumes nothing.
use Rattle.std.specs.Prelude.{List, ℕ, ◌+◌, ℤ, drop}
use Rattle.rules.specs.Rule.{Rule}
use Rattle.rules.specs.Laws.{QuantifierFree}
use Rattle.tables.specs.Standing.{RuleAt}

-- the rule a stands in the table with the words W, as node n at place p: its entries from word n + 1 on, its bodies
-- from word p on; and it has no quantifier
pub record Matchable (W : List ℤ) (n p : ℕ) (a : Rule) : Type 0 where
  pub at : RuleAt (drop (n + 1) W) (drop p W) n p a
  pub free : QuantifierFree a

pub record SomeMatchable (W : List ℤ) (n p : ℕ) : Type 0 where
  pub rule : Rule
  pub matchable : Matchable W n p rule
