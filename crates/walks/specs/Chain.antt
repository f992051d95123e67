-- Nots and quantifiers one under the other: what stands under them, and what is made of it again. A walk goes down and
-- up such a chain by a loop, so that it is no deeper than the ands and ors are nested.
-- Assumes nothing.
use Rattle.std.specs.Prelude.{◌≡◌, Bool, true, false, ◌⊎◌, List, ℕ, zero, suc, ◌+◌, ◌<◌, ◌≤◌, ℤ, drop}
use Rattle.rules.specs.Rule.{Quantifier, Rule, Constant, Join, Not, Literal, Bind}
use Rattle.rules.specs.Table.{Node, most_words}
use Rattle.rules.specs.Fold.{fold_not}
use Rattle.rules.specs.Laws.{WellFormed}
use Rattle.rules.proofs.Sizes.{weight, total}
use Rattle.rules.specs.Calls.{words}
use Rattle.tables.specs.Standing.{Stands, RuleAt}
use Rattle.tables.specs.declared.extent.Extent.{Extent}
use Rattle.tables.specs.declared.kind.Kind.{Kind}
use Rattle.tables.specs.declared.kind.Kind.TheVariants as kind
use Rattle.tables.specs.declared.part.Part.{Part}
use Rattle.builder.specs.Built.{most_counted}
use Rattle.builder.specs.declared.push.State.{State}
use Rattle.folding.specs.Answers.{Gives}
use Rattle.folding.specs.declared.answers.Folded.{Folded}

-- a not or a quantifier
unfoldable pub unary : Rule → Bool
unary (Constant b) = false
unary (Join j a b) = false
unary (Not a) = true
unary (Literal t s) = false
unary (Bind q v a) = true

-- the first k nodes are nots and quantifiers
pub data Chained : ℕ → Rule → Type 0 where
  no_link : (r : Rule) → Chained 0 r
  a_not : {k : ℕ} (a : Rule) → Chained k a → Chained (suc k) (Not a)
  a_bind : {k : ℕ} (q : Quantifier) (v : ℕ) (a : Rule) → Chained k a → Chained (suc k) (Bind q v a)

-- what stands under them, and how many words they have
unfoldable pub below : ℕ → Rule → Rule
below zero r = r
below (suc k) (Constant b) = Constant b
below (suc k) (Join j a b) = Join j a b
below (suc k) (Not a) = below k a
below (suc k) (Literal t s) = Literal t s
below (suc k) (Bind q v a) = below k a

unfoldable pub chain_words : ℕ → Rule → ℕ
chain_words zero r = 0
chain_words (suc k) (Constant b) = 0
chain_words (suc k) (Join j a b) = 0
chain_words (suc k) (Not a) = 1 + chain_words k a
chain_words (suc k) (Literal t s) = 0
chain_words (suc k) (Bind q v a) = 2 + chain_words k a

-- f under them, folded
unfoldable pub wrap : ℕ → Rule → Rule → Rule
unfolding fold_not
wrap zero r f = f
wrap (suc k) (Constant b) f = f
wrap (suc k) (Join j a b) f = f
wrap (suc k) (Not a) f = fold_not (wrap k a f)
wrap (suc k) (Literal t s) f = f
wrap (suc k) (Bind q v a) f = Bind q v (wrap k a f)

-- the words of a not and of a quantifier, by their kinds; 0 for every other kind
abbrev pub link_words : Kind → ℕ
link_words kind.False = 0
link_words kind.True = 0
link_words kind.And = 0
link_words kind.Or = 0
link_words kind.Not = 1
link_words kind.Positive = 0
link_words kind.Divisible = 0
link_words kind.Indivisible = 0
link_words kind.ForSome = 2
link_words kind.ForAll = 2
link_words kind.Zero = 0

-- a chain at the start of r: at most so many nodes, and as many as there are
pub record ChainOf (most : ℕ) (r : Rule) (c : Extent) : Type 0 where
  pub few : c.nodes ≤ most
  pub chained : Chained c.nodes r
  pub wide : c.words ≡ chain_words c.nodes r
  pub ends : (c.nodes ≡ most) ⊎ (unary (below c.nodes r) ≡ false)

-- some rule's bodies start there
pub record SomeStands (bs : List ℤ) : Type 0 where
  pub entries : List ℤ
  pub number : ℕ
  pub place : ℕ
  pub rule : Rule
  pub at : RuleAt entries bs number place rule

-- ---- going up again

-- under the root of the rule r, a not or a quantifier whose body is at this place of the bodies, f was answered
pub record Over (es bs : List ℤ) (n p at : ℕ) (ws : List ℤ) (b : State) (r f : Rule) (ds : List Node) (inner : Folded)
    : Type 0 where
  pub stands : Stands es (drop at bs) n p r
  pub low : at ≤ most_words
  pub formed : WellFormed r
  pub chained : Chained 1 r
  pub gives : Gives ws b ds f inner
  pub small : total ds + weight f + chain_words 1 r < most_counted

pub record SomeOver (bs : List ℤ) (at : ℕ) (ws : List ℤ) (b : State) (inner : Folded) : Type 0 where
  pub entries : List ℤ
  pub number : ℕ
  pub place : ℕ
  pub rule : Rule
  pub under : Rule
  pub tail : List Node
  pub over : Over entries bs number place at ws b rule under tail inner

-- under the first k nodes of the rule r, which stands there, f was answered
pub record Wrapping (es bs : List ℤ) (n p k : ℕ) (ws : List ℤ) (b : State) (r f : Rule) (ds : List Node)
    (inner : Folded) : Type 0 where
  pub at : RuleAt es bs n p r
  pub chained : Chained k r
  pub gives : Gives ws b ds f inner
  pub small : total ds + weight f + chain_words k r < most_counted

pub record SomeWrapping (es bs : List ℤ) (n p k : ℕ) (ws : List ℤ) (b : State) (inner : Folded) : Type 0 where
  pub rule : Rule
  pub under : Rule
  pub tail : List Node
  pub wrapping : Wrapping es bs n p k ws b rule under tail inner

-- the same of a part of a table
abbrev pub WrappingIn : Part → ℕ → List ℤ → State → Rule → Rule → List Node → Folded → Type 0
WrappingIn q k ws b r f ds inner =
    Wrapping (words q.entries.now) (words q.bodies.now) q.node q.place k ws b r f ds inner
