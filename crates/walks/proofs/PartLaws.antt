-- A rule where it stands in a part of a table, as every walk has it: what it is by its root's kind, its sides, and what
-- stands behind a chain.
-- Assumes nothing.
use mathlib.Core.Path.{◌≡◌, refl, sym, ap, ◌∙◌, subst}
use mathlib.Core.Bool.{Bool, true, false}
use mathlib.Core.Logic.{◌⊎◌, inl, inr}
use mathlib.Core.List.{List}
use Prim.Native.Nat.{ℕ, ◌+◌, ◌<◌, ◌≤◌}
use native.Mathlib.Omega.{arith}
use lib.Dec.{T}
use lib.IntN.{ℤ}
use lib.ListN.{length, drop, length-drop}
use Rattle.whole.proofs.Tests.{never}
use Rattle.rules.specs.Sum.{Sum, limit, all_within}
use Rattle.rules.specs.Rule.{and, or, Test, positive, divisible, is_zero, for_some, for_all}
use Rattle.rules.specs.Rule.{Rule, Constant, Join, Not, Literal, Bind}
use Rattle.rules.specs.Table.{most_words, bodies}
use Rattle.rules.specs.Chosen.{quantifiers}
use Rattle.rules.specs.Laws.{Each, InTable, QuantifierFree}
use Rattle.rules.specs.Calls.{words}
use Rattle.tables.specs.Kinds.{kind_of}
use Rattle.tables.specs.Parts.{Behind, RuleIn, JoinIn}
use Rattle.tables.specs.Standing.{Stands}
use Rattle.tables.specs.declared.extent.Extent.{Extent}
use Rattle.tables.specs.declared.kind.Kind.{Kind}
use Rattle.tables.specs.declared.kind.Kind.TheVariants as kind
use Rattle.tables.specs.declared.part.Part.{Part}
use Rattle.tables.proofs.Inversion.{body_at}
use Rattle.tables.proofs.Parts.{moved}
use Rattle.builder.specs.Built.{junction}
use Rattle.literals.specs.Literal.{LiteralAt}
use Rattle.walks.specs.Chain.{unary, below, ChainOf, SomeStands}
use Rattle.walks.proofs.ChainLaws.{below_formed, chain_inside, chain_stands}

-- ---- by the kind of its root

-- an and (true) or an or; a literal
pub record IsJoin (both : Bool) (a : Rule) : Type 0 where
  pub left_side : Rule
  pub right_side : Rule
  pub is : a ≡ Join (junction both) left_side right_side

pub record IsLiteral (a : Rule) : Type 0 where
  pub test : Test
  pub sum : Sum
  pub is : a ≡ Literal test sum

-- what a rule of each kind is
abbrev pub IsOf : Kind → Rule → Type 0
IsOf kind.False a = a ≡ Constant false
IsOf kind.True a = a ≡ Constant true
IsOf kind.And a = IsJoin true a
IsOf kind.Or a = IsJoin false a
IsOf kind.Not a = unary a ≡ true
IsOf kind.Positive a = IsLiteral a
IsOf kind.Divisible a = IsLiteral a
IsOf kind.Indivisible a = IsLiteral a
IsOf kind.ForSome a = unary a ≡ true
IsOf kind.ForAll a = unary a ≡ true
IsOf kind.Zero a = IsLiteral a

kind_is : (a : Rule) → IsOf (kind_of a) a
unfolding kind_of junction unary
kind_is (Constant false) = refl
kind_is (Constant true) = refl
kind_is (Join and a b) = record { left_side = a; right_side = b; is = refl }
kind_is (Join or a b) = record { left_side = a; right_side = b; is = refl }
kind_is (Not a) = refl
kind_is (Literal positive s) = record { test = _; sum = s; is = refl }
kind_is (Literal (divisible true k) s) = record { test = _; sum = s; is = refl }
kind_is (Literal (divisible false k) s) = record { test = _; sum = s; is = refl }
kind_is (Literal is_zero s) = record { test = _; sum = s; is = refl }
kind_is (Bind for_some v a) = refl
kind_is (Bind for_all v a) = refl

pub of_kind : {k : Kind} (a : Rule) → k ≡ kind_of a → IsOf k a
of_kind a e = subst (λ (k : Kind). IsOf k a) (sym e) (kind_is a)

-- a constant whose truth value is told by its kind, and a join that is told so to be an and or an or
pub constant_kind : {k : Kind} {v : Bool} → k ≡ kind.False ⊎ k ≡ kind.True → (k ≡ kind.True → v ≡ true)
    → (k ≡ kind.False → v ≡ false) → (a : Rule) → IsOf k a → a ≡ Constant v
constant_kind (inl e) when when_not a is = subst (λ (k : Kind). IsOf k a) e is ∙ ap Constant (sym (when_not e))
constant_kind (inr e) when when_not a is = subst (λ (k : Kind). IsOf k a) e is ∙ ap Constant (sym (when e))

pub join_kind : {k : Kind} {both : Bool} → k ≡ kind.And ⊎ k ≡ kind.Or → (k ≡ kind.And → both ≡ true)
    → (k ≡ kind.Or → both ≡ false) → (a : Rule) → IsOf k a → IsJoin both a
join_kind (inl e) when when_not a is =
    subst (λ (b : Bool). IsJoin b a) (sym (when e)) (subst (λ (k : Kind). IsOf k a) e is)
join_kind (inr e) when when_not a is =
    subst (λ (b : Bool). IsJoin b a) (sym (when_not e)) (subst (λ (k : Kind). IsOf k a) e is)

-- a rule that is neither a constant nor an and or or, nor a not nor a quantifier, is a literal
pub literal_kind : (k : Kind) (a : Rule) → ¬ (k ≡ kind.False) → ¬ (k ≡ kind.True) → ¬ (k ≡ kind.And) → ¬ (k ≡ kind.Or)
    → unary a ≡ false → IsOf k a → IsLiteral a
literal_kind kind.False a n0 n1 n2 n3 bare h = absurd (n0 refl)
literal_kind kind.True a n0 n1 n2 n3 bare h = absurd (n1 refl)
literal_kind kind.And a n0 n1 n2 n3 bare h = absurd (n2 refl)
literal_kind kind.Or a n0 n1 n2 n3 bare h = absurd (n3 refl)
literal_kind kind.Not a n0 n1 n2 n3 bare h = never (sym bare ∙ h)
literal_kind kind.Positive a n0 n1 n2 n3 bare h = h
literal_kind kind.Divisible a n0 n1 n2 n3 bare h = h
literal_kind kind.Indivisible a n0 n1 n2 n3 bare h = h
literal_kind kind.ForSome a n0 n1 n2 n3 bare h = never (sym bare ∙ h)
literal_kind kind.ForAll a n0 n1 n2 n3 bare h = never (sym bare ∙ h)
literal_kind kind.Zero a n0 n1 n2 n3 bare h = h

-- without quantifiers nots alone are left out
pub bare_free : (a : Rule) → ¬ (kind.Not ≡ kind_of a) → QuantifierFree a → unary a ≡ false
unfolding kind_of unary quantifiers
bare_free (Constant b) n free = refl
bare_free (Join j a b) n free = refl
bare_free (Not a) n free = absurd (n refl)
bare_free (Literal t s) n free = refl
bare_free (Bind q v a) n free = absurd (omega (arith, free))

-- ---- a literal, as a table can hold it

pub record LiteralIn (q : Part) (a : Rule) : Type 0 where
  pub test : Test
  pub sum : Sum
  pub is : a ≡ Literal test sum
  pub at : LiteralAt (words q.bodies.now) q.node test sum
  pub limited : T (all_within limit sum)

pub literal_in : (q : Part) {a : Rule} → RuleIn q a → IsLiteral a → LiteralIn q a
unfolding Each
literal_in q at l =
    let here = subst (RuleIn q) l.is at in
    let words_are = body_at l.test l.sum here.stands in
    let formed : InTable l.test l.sum = here.formed in
    record {
      test = l.test;
      sum = l.sum;
      is = l.is;
      at = record {
        after = words_are.after;
        begins = words_are.begins;
        long = formed.0;
        fair = formed.2;
      };
      limited = formed.1;
    }

-- ---- an and or an or

pub some_join : (q : Part) {both : Bool} {a : Rule} → RuleIn q a → IsJoin both a → JoinIn q
some_join q {both} at j = record {
  joint = junction both;
  left_side = j.left_side;
  right_side = j.right_side;
  at = subst (RuleIn q) j.is at;
}

-- ---- behind a chain

-- the chain is found, whatever rule stands there
abbrev pub FindsChain : Part → Extent → Type 0
FindsChain q links = (es : List ℤ) (n p : ℕ) (a : Rule) → Stands es (words q.bodies.now) n p a
    → ChainOf most_words a links

pub chain_asks : (q : Part) {a : Rule} → RuleIn q a → SomeStands (words q.bodies.now)
chain_asks q {a} at =
    record { entries = words q.entries.now; number = q.node; place = q.place; rule = a; at = at }

-- the rule a starts with that chain
pub record ChainIn (q : Part) (links : Extent) (a : Rule) : Type 0 where
  pub at : RuleIn q a
  pub chain : ChainOf most_words a links

pub chain_in : (q : Part) {links : Extent} → FindsChain q links → (a : Rule) → RuleIn q a → ChainIn q links a
chain_in q found a at =
    record { at = at; chain = found (words q.entries.now) q.node q.place a at.stands }

module _ {q : Part} {links : Extent} {a : Rule} (x : ChainIn q links a) where
  -- there are entries and words behind those of the chain
  within : (links.nodes < length (words q.entries.now)) × (links.words < length (words q.bodies.now))
  within =
      let (entries, bodies) = chain_inside links.nodes a x.chain.chained x.at.stands in
      (entries, omega (arith, bodies, x.chain.wide))

  pub behind_asks : (links.nodes ≤ length (words q.entries.now)) × (links.words ≤ length (words q.bodies.now))
      × (q.node + links.nodes ≤ most_words) × (q.place + links.words ≤ most_words)
  behind_asks = (
    omega (arith, within.0),
    omega (arith, within.1),
    omega (arith, within.0, x.at.few.few_nodes),
    omega (arith, within.1, x.at.few.few_words),
  )

  -- it is as long as it goes: there are not as many nodes as the most
  pub bare_below : unary (below links.nodes a) ≡ false
  bare_below = go x.chain.ends
    where
      go : (links.nodes ≡ most_words) ⊎ (unary (below links.nodes a) ≡ false)
          → unary (below links.nodes a) ≡ false
      go (inl e) = absurd (omega (arith, e, within.0, x.at.few.few_nodes))
      go (inr e) = e

  -- what stands under it: there are no more entries, and where there is a node in the chain, fewer
  module _ {r : Part} (behind : Behind q links.nodes links.words r) where
    pub inner_short : length (words r.entries.now) + links.nodes ≡ length (words q.entries.now)
    inner_short =
        omega (arith, within.0, ap length behind.entries_are, length-drop links.nodes (words q.entries.now))

    pub inner_here : RuleIn r (below links.nodes a)
    inner_here =
        let i = links.nodes in
        let words_are = ap length behind.bodies_are in
        record {
          stands = moved (below i a) (sym behind.entries_are)
              (ap (λ (w : ℕ). drop w (words q.bodies.now)) (sym x.chain.wide) ∙ sym behind.bodies_are)
              (sym behind.node_is) (omega (arith, x.chain.wide, behind.place_is))
              (chain_stands i a x.chain.chained x.at.stands);
          few = record {
            few_nodes = omega (arith, x.at.few.few_nodes, inner_short, behind.node_is);
            few_words = omega (
              arith,
              x.at.few.few_words,
              within.1,
              behind.place_is,
              words_are,
              length-drop links.words (words q.bodies.now),
            );
          };
          formed = below_formed i a x.at.formed;
        }
