-- What the walk that folds asks for: a rule stands there, its literals can be changed, and its words can be put.
-- Assumes nothing.
use Rattle.std.specs.Prelude.{◌≡◌, false, not, List, ℕ, ◌+◌, T, ℤ}
use Rattle.rules.specs.Sum.{Sum}
use Rattle.rules.specs.Rule.{Rule}
use Rattle.rules.specs.Table.{Node}
use Rattle.rules.specs.Literals.{some_literal, map_literals}
use Rattle.rules.specs.Eliminate.{over_limit}
use Rattle.rules.proofs.Sizes.{weight}
use Rattle.rules.specs.Calls.{words}
use Rattle.tables.specs.Standing.{RuleAt}
use Rattle.tables.specs.declared.part.Part.{Part}
use Rattle.builder.specs.Built.{Building}
use Rattle.builder.specs.declared.push.State.{State}
use Rattle.walks.specs.Chain.{unary}
use Rattle.literals.specs.Changes.{Change, change_of, put_of, becomes, Usable}
use Rattle.literals.specs.declared.change.Change.{Change as Put}

-- the rule with its literals changed, before it is folded
unfoldable pub changed : Change → Sum → Rule → Rule
unfolding map_literals becomes
changed c u a = map_literals (becomes c u) a

-- the rule a stands there as node n at place p, no number of it passes the limit once it is changed, and the nodes ds
-- are built; its words can be counted, and one more, since a literal asks for the nine of the widest
pub record Ready (es bs : List ℤ) (n p : ℕ) (c : Change) (u : Sum) (ws : List ℤ) (b : State) (a : Rule) (ds : List Node)
    : Type 0 where
  pub at : RuleAt es bs n p a
  pub usable : Usable c u
  pub numbers : T (not (some_literal over_limit (changed c u a)))
  pub building : Building ws b ds (weight a + 1)

-- the same of a rule that is neither a not nor a quantifier
pub record Core (es bs : List ℤ) (n p : ℕ) (c : Change) (u : Sum) (ws : List ℤ) (b : State) (a : Rule) (ds : List Node)
    : Type 0 where
  pub ready : Ready es bs n p c u ws b a ds
  pub bare : unary a ≡ false

-- ---- the same of a part of a table, and of a change as the code has it

abbrev pub changed_by : Put → Rule → Rule
changed_by c a = changed (change_of c) (put_of c) a

abbrev pub ReadyIn : Part → Put → List ℤ → State → Rule → List Node → Type 0
ReadyIn q c ws b = Ready (words q.entries.now) (words q.bodies.now) q.node q.place (change_of c) (put_of c) ws b

abbrev pub CoreIn : Part → Put → List ℤ → State → Rule → List Node → Type 0
CoreIn q c ws b = Core (words q.entries.now) (words q.bodies.now) q.node q.place (change_of c) (put_of c) ws b

-- it is so of some rule that stands there and some nodes that are built
pub record SomeRule (Is : Rule → List Node → Type 0) : Type 0 where
  pub rule : Rule
  pub tail : List Node
  pub ready : Is rule tail
