-- What the walks of step 1 ask for and answer.
-- Assumes nothing.
use Rattle.std.specs.Prelude.{◌≡◌, Bool, true, not, cond, Option, Some, None, List, ℕ, ◌*◌, ◌<◌, ◌≤◌, T, ℤ, length}
use Rattle.rules.specs.Sum.{Sum, limit, all_within}
use Rattle.rules.specs.Rule.{Test, Rule}
use Rattle.rules.specs.Table.{Node}
use Rattle.rules.specs.Fold.{fold}
use Rattle.rules.specs.Literals.{some_literal}
use Rattle.rules.specs.Eliminate.{over_limit}
use Rattle.rules.specs.Laws.{QuantifierFree}
use Rattle.rules.specs.Steps.{normal}
use Rattle.rules.proofs.Sizes.{weight}
use Rattle.rules.specs.Calls.{words}
use Rattle.tables.specs.Standing.{RuleAt}
use Rattle.tables.specs.Parts.{RuleIn}
use Rattle.tables.specs.declared.part.Part.{Part}
use Rattle.builder.specs.Built.{Building}
use Rattle.builder.specs.declared.push.State.{State}
use Rattle.folding.specs.Answers.{Gives}
use Rattle.folding.specs.declared.answers.Folded.{Folded}
use Rattle.literals.specs.Literal.{LiteralAt}
use Rattle.walks.specs.Chain.{unary}
use Rattle.walks.specs.Sums.{SumAt}

-- a body a without quantifiers stands there, and the nodes ds are built; a T = 0 becomes two literals under a join
pub record NormalReady (es bs : List ℤ) (n p x : ℕ) (ws : List ℤ) (b : State) (a : Rule) (ds : List Node) : Type 0 where
  pub at : RuleAt es bs n p a
  pub free : QuantifierFree a
  pub setting : (1 ≤ x) × (x ≤ 6)
  pub building : Building ws b ds (3 * weight a)

-- the same of a part of a table
abbrev pub NormalReadyIn : Part → ℕ → List ℤ → State → Rule → List Node → Type 0
NormalReadyIn q x ws b = NormalReady (words q.entries.now) (words q.bodies.now) q.node q.place x ws b

-- ---- a run of nots

-- a not stands there, over a body without quantifiers
pub record SomeNot (q : Part) : Type 0 where
  pub rule : Rule
  pub at : RuleIn q rule
  pub free : QuantifierFree rule
  pub is_not : unary rule ≡ true

-- under the nots of the rule a of q the rule `under` stands in r; where their number is odd they turn it round
pub record UnderNots (q : Part) (a : Rule) (r : Part) (odd : Bool) : Type 0 where
  pub under : Rule
  pub at : RuleIn r under
  pub free : QuantifierFree under
  pub light : weight under ≤ weight a
  pub normal_is : (plainly : Bool) (x : ℕ) → normal plainly x a ≡ normal (cond odd (not plainly) plainly) x under
  pub shorter : length (words r.entries.now) < length (words q.entries.now)

-- ---- what is answered

-- "numbers come first": a number of the normal form r passes the limit; or r is folded and put
unfoldable pub Normalled : List ℤ → State → List Node → Rule → Option Folded → Type 0
Normalled ws b ds r None = T (some_literal over_limit r)
Normalled ws b ds r (Some f) = T (not (some_literal over_limit r)) × Gives ws b ds (fold r) f

-- ---- one literal

-- its words stand there as a table can hold them, and the words of two literals under a join can be counted
pub record LiteralReady (bs : List ℤ) (n x : ℕ) (ws : List ℤ) (b : State) (t : Test) (s : Sum) (ds : List Node)
    : Type 0 where
  pub at : LiteralAt bs n t s
  pub limited : T (all_within limit s)
  pub setting : (1 ≤ x) × (x ≤ 6)
  pub building : Building ws b ds 18

pub record SomeLiteralReady (bs : List ℤ) (x : ℕ) (ws : List ℤ) (b : State) : Type 0 where
  pub node : ℕ
  pub test : Test
  pub sum : Sum
  pub tail : List Node
  pub ready : LiteralReady bs node x ws b test sum tail

-- the T of a T = 0
pub record ZeroReady (bs : List ℤ) (ws : List ℤ) (b : State) (s : Sum) (ds : List Node) : Type 0 where
  pub at : SumAt bs 1 s
  pub building : Building ws b ds 18

pub record SomeZeroReady (bs : List ℤ) (ws : List ℤ) (b : State) : Type 0 where
  pub sum : Sum
  pub tail : List Node
  pub ready : ZeroReady bs ws b sum tail
