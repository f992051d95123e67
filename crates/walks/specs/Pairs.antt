-- The two sides of an and or an or, both answered, the right one first, whether or not it settles the join.
-- Assumes nothing.
use Rattle.std.specs.Prelude.{List, ◌+◌, ◌<◌, ◌≤◌, ℤ, length}
use Rattle.rules.specs.Rule.{Rule}
use Rattle.rules.specs.Table.{Node, most_words}
use Rattle.rules.proofs.Sizes.{weight, total}
use Rattle.builder.specs.Built.{Built, most_counted}
use Rattle.builder.specs.declared.push.State.{State}
use Rattle.folding.specs.Answers.{Gives, after, built_then}
use Rattle.folding.specs.declared.answers.Folded.{Folded}

-- the right side x was answered in the buffer us, then the left side y in the buffer ws
pub record Pair (ws : List ℤ) (b : State) (ds : List Node) (x y : Rule) (right left : Folded) : Type 0 where
  pub start : List ℤ
  pub between : List ℤ
  pub built : Built start b ds
  pub first : Gives between b ds x right
  pub second : Gives ws (after b right) (built_then ds x right) y left

pub record SomePair (ws : List ℤ) (b : State) (right left : Folded) : Type 0 where
  pub x : Rule
  pub y : Rule
  pub tail : List Node
  pub pair : Pair ws b tail x y right left
  pub small : total tail + weight x + weight y + 2 < most_counted
  pub room : length ws ≤ most_words
