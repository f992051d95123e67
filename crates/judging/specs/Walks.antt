-- What the walk over a body asks for and promises; its ands and ors, and the nots at its root.
-- Assumes nothing.
use Rattle.std.specs.Prelude.{◌≡◌, Bool, true, false, List, ℕ, suc, ◌<◌, ◌≤◌, ℤ, length}
use Rattle.rules.specs.Sum.{Sum}
use Rattle.rules.specs.Rule.{Rule, Constant, Join, Not, Literal, Bind}
use Rattle.rules.specs.Table.{most_words}
use Rattle.tables.specs.Standing.{Stands}
use Rattle.tables.specs.Kinds.{join_kind, kind_of}
use Rattle.tables.specs.Parts.{RuleIn}
use Rattle.tables.specs.declared.kind.Kind.{Kind}
use Rattle.tables.specs.declared.kind.Kind.TheVariants as kind
use Rattle.tables.specs.declared.part.Part.{Part}
use Rattle.literals.specs.Changes.{InRange}
use Rattle.literals.specs.Rows.{most_put}
use Rattle.judging.specs.Judging.{Says, at_sum, Sized}
use Rattle.judging.specs.Masks.{joint}
use Rattle.judging.specs.Shifts.{Shifted}

-- the body a stands there, and v is small enough
pub record Walking (p : Part) (x : ℕ) (v : Sum) (a : Rule) : Type 0 where
  pub at : RuleIn p a
  pub setting : InRange x
  pub shift : Sized most_put v

pub record SomeWalking (p : Part) (x : ℕ) (v : Sum) : Type 0 where
  pub rule : Rule
  pub walking : Walking p x v rule

-- the masks say what the body that stands there folds to at x = w, w + 1, .. where v is w − x
abbrev pub Judges : (p : Part) (far : Bool) (x : ℕ) (v : Sum) (trues falses : ℕ) → Type 0
Judges p far x v trues falses = (a : Rule) (w : Sum) (k : ℕ) → Walking p x v a → Shifted x w v → k < 64
    → Says trues falses k (at_sum far x w k a)

-- r says whether this is the kind of an and (true), or of an or
pub record SameJoin (kind : Kind) (and r : Bool) : Type 0 where
  pub same : r ≡ true → kind ≡ join_kind (joint and)
  pub other : r ≡ false → ¬ (kind ≡ join_kind (joint and))

-- some body that is one
pub record SomeSpine (and : Bool) (p : Part) (x : ℕ) (v : Sum) : Type 0 where
  pub some : SomeWalking p x v
  pub root : (a : Rule) → RuleIn p a → kind_of a ≡ join_kind (joint and)

-- some body that is a literal or a quantifier: it has none of the other kinds
pub record SomeLeaf (p : Part) (x : ℕ) (v : Sum) : Type 0 where
  pub some : SomeWalking p x v
  pub no_false : (a : Rule) → RuleIn p a → ¬ (kind_of a ≡ kind.False)
  pub no_true : (a : Rule) → RuleIn p a → ¬ (kind_of a ≡ kind.True)
  pub no_and : (a : Rule) → RuleIn p a → ¬ (kind_of a ≡ kind.And)
  pub no_or : (a : Rule) → RuleIn p a → ¬ (kind_of a ≡ kind.Or)
  pub no_not : (a : Rule) → RuleIn p a → ¬ (kind_of a ≡ kind.Not)

-- how many nots stand at the root, one under the other
unfoldable pub nots : Rule → ℕ
nots (Constant b) = 0
nots (Join j a b) = 0
nots (Not a) = suc (nots a)
nots (Literal t s) = 0
nots (Bind q v a) = 0

-- some rule's bodies start there
pub record SomeStands (bs : List ℤ) : Type 0 where
  pub entries : List ℤ
  pub number : ℕ
  pub place : ℕ
  pub rule : Rule
  pub stands : Stands entries bs number place rule
  pub few : length bs ≤ most_words
