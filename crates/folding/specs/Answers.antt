-- What a walk that folds a rule answers, and what is built then: a truth value is answered and not put, anything else
-- is put in front of what was built.
-- Assumes nothing.
use Rattle.std.specs.Prelude.{◌≡◌, Bool, false, not, cond, List, ◌++◌, ℕ, ◌+◌, ◌<◌, ◌≤◌, ℤ, length}
use Rattle.rules.specs.Rule.{Rule, Constant}
use Rattle.rules.specs.Table.{Node, most_words, nodes}
use Rattle.rules.proofs.Sizes.{weight, total}
use Rattle.rules.proofs.Folding.{Open}
use Rattle.builder.specs.Built.{Built, most_counted}
use Rattle.builder.specs.declared.push.State.{State}
use Rattle.folding.specs.declared.answers.Folded.{Folded}
use Rattle.folding.specs.declared.answers.Folded.TheVariants.{Known, Pushed}

-- the answer for the rule r, where the nodes ds were built in state b
unfoldable pub Gives : List ℤ → State → List Node → Rule → Folded → Type 0
Gives ws b ds r (Known v) = (r ≡ Constant v) × Built ws b ds
Gives ws b ds r (Pushed c) = Open r × Built ws c (nodes r ++ ds)

-- the state after an answer, and what is built then
unfoldable pub after : State → Folded → State
after b (Known v) = b
after b (Pushed c) = c

unfoldable pub built_then : List Node → Rule → Folded → List Node
built_then ds r (Known v) = ds
built_then ds r (Pushed c) = nodes r ++ ds

-- an and (true) or an or is settled by this answer of one side: false, or true
unfoldable pub settled : Bool → Folded → Bool
settled both (Known v) = cond both (not v) v
settled both (Pushed c) = false

-- some rule was answered, and so many words more can be counted
pub record Answered (ws : List ℤ) (b : State) (f : Folded) (more : ℕ) : Type 0 where
  pub rule : Rule
  pub tail : List Node
  pub gives : Gives ws b tail rule f
  pub small : total tail + weight rule + more < most_counted

-- ---- the sides of an and or an or, the right one answered first

-- the state b counts the nodes ds; then the right side x was answered, in a buffer that held `between`, and does not
-- settle the join; then the left side y was answered
pub record Sides (ws : List ℤ) (both : Bool) (b : State) (ds : List Node) (x y : Rule) (right left : Folded)
    : Type 0 where
  pub counted : (b.used ≡ total ds) × (b.nodes ≡ length ds)
  pub between : List ℤ
  pub first : Gives between b ds x right
  pub unsettled : settled both right ≡ false
  pub second : Gives ws (after b right) (built_then ds x right) y left

pub record SomeSides (ws : List ℤ) (both : Bool) (b : State) (right left : Folded) : Type 0 where
  pub x : Rule
  pub y : Rule
  pub tail : List Node
  pub sides : Sides ws both b tail x y right left
  pub small : total tail + weight x + weight y + 2 < most_counted
  pub room : length ws ≤ most_words
