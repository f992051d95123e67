-- A block: up to 64 values of j, at which a body is judged at once.
-- Assumes nothing.
use Rattle.std.specs.Prelude.{◌≡◌, List, [], ℕ, ◌+◌, ◌<◌, ℤ, pos, length, get_or}
use Rattle.rules.specs.Sum.{Sum, add, number}
use Rattle.rules.specs.Rule.{Rule, False}
use Rattle.rules.specs.Fold.{fold}
use Rattle.rules.specs.Steps.{bounds}
use Rattle.bodies.specs.Body.{BoundsAt}
use Rattle.literals.specs.Changes.{Far, Full, InRange}
use Rattle.walks.specs.Walk.{changed}
use Rattle.judging.specs.Judging.{bit, Says}
use Rattle.tables.specs.Standing.{RuleAt}

-- a body stands there, with the places of the literals that give its bounds
pub record BodyBounds (es bs : List ℤ) (n p x : ℕ) (places : List ℕ) (a : Rule) : Type 0 where
  pub there : RuleAt es bs n p a
  pub setting : InRange x
  pub bounds_at : BoundsAt bs x places (length places) (bounds x a)

pub record SomeBodyBounds (es bs : List ℤ) (n p x : ℕ) (places : List ℕ) : Type 0 where
  pub rule : Rule
  pub body : BodyBounds es bs n p x places rule

-- the far-left body at x = j, and the full one at x = b+j
abbrev pub far_at : ℕ → Rule → ℕ → Rule
far_at x a j = changed (Far x) (number (pos j)) a

abbrev pub full_at : ℕ → Rule → Sum → ℕ → Rule
full_at x a b j = changed (Full x) (add b (number (pos j))) a

-- the masks say of each d j, d (j + 1), .. what it folds to
abbrev pub Judges : ℕ → ℕ → ℕ → (ℕ → Rule) → Type 0
Judges trues falses j d = (k : ℕ) → k < 64 → Says trues falses k (d (j + k))

-- where the mask has a bit, the rule folds to false
abbrev pub FalseWhere : ℕ → ℕ → (ℕ → Rule) → Type 0
FalseWhere mask j d = (k : ℕ) → k < 64 → bit mask k ≡ 1 → fold (d (j + k)) ≡ False

-- a mask for each of the k bounds
abbrev pub FalseAtBounds : List ℕ → ℕ → ℕ → ℕ → Rule → Type 0
FalseAtBounds masks x j k a = (i : ℕ) → i < k → FalseWhere (get_or masks i 0) j (full_at x a (get_or (bounds x a) i []))
