-- The last child of a rule, by the kind of the rule's root; and the rules that a rule ends with, one in the other.
-- Assumes nothing.
use Rattle.std.proofs.Common.{◌≡◌, true, false, ℕ, ◌+◌, ◌≤◌, length, get_or, drop, refl, sym, ap, ◌∙◌, arith}
use lib.ListN.{length-drop}
use mathlib.Core.Logic.{◌⊎◌, inl, inr}
use Rattle.rules.specs.Rule.{Junction, and, or, for_some, for_all, positive, divisible, is_zero}
use Rattle.rules.specs.Rule.{Rule, Constant, Join, Not, Literal, Bind}
use Rattle.rules.specs.Table.{most_words, count}
use Rattle.rules.specs.Laws.{Each, WellFormed}
use Rattle.rules.specs.Calls.{words}
use Rattle.rules.proofs.Sizes.{weight, before_sum}
use Rattle.tables.specs.Reads.{arities, widths}
use Rattle.tables.specs.Kinds.{number_of, kind_of, join_kind, test_kind, bind_kind}
use Rattle.tables.specs.declared.kind.Kind.{Kind}
use Rattle.tables.specs.declared.kind.Kind.TheVariants as kind
use Rattle.tables.specs.declared.part.Part.{Part}
use Rattle.tables.specs.Standing.{Stands}
use Rattle.tables.specs.Parts.{Behind, RuleIn, SomeRuleIn, JoinIn, SideIn}
use Rattle.tables.proofs.Parts.{moved}
use Rattle.tables.proofs.Standings.{under_not, under_bind, inside_entries, inside_bodies}
use Rattle.bodies.specs.Span.{Leaf, EndsWith}

-- ---- the root's kind

-- how many children the root has, and how many words where its sum has seven
abbrev children : Rule → ℕ
children (Constant b) = 0
children (Join j a b) = 2
children (Not a) = 1
children (Literal t s) = 0
children (Bind q v a) = 1

abbrev root_words : Rule → ℕ
root_words (Constant b) = 1
root_words (Join j a b) = 2
root_words (Not a) = 1
root_words (Literal t s) = before_sum t + 7
root_words (Bind q v a) = 2

root : (a : Rule) → (get_or arities (number_of (kind_of a)) 0 ≡ children a)
    × (get_or widths (number_of (kind_of a)) 0 ≡ root_words a)
unfolding number_of kind_of join_kind test_kind bind_kind before_sum
root (Constant false) = (refl, refl)
root (Constant true) = (refl, refl)
root (Join and a b) = (refl, refl)
root (Join or a b) = (refl, refl)
root (Not a) = (refl, refl)
root (Literal positive s) = (refl, refl)
root (Literal (divisible true d) s) = (refl, refl)
root (Literal (divisible false d) s) = (refl, refl)
root (Literal is_zero s) = (refl, refl)
root (Bind for_some v a) = (refl, refl)
root (Bind for_all v a) = (refl, refl)

-- kinds with two children, with one and with none
abbrev pub Has : Kind → ℕ → Type 0
Has k n = get_or arities (number_of k) 0 ≡ n

pub has_two : (k : Kind) → (k ≡ kind.And) ⊎ (k ≡ kind.Or) → Has k 2
unfolding number_of
has_two k (inl e) = ap (λ (k : Kind). get_or arities (number_of k) 0) e
has_two k (inr e) = ap (λ (k : Kind). get_or arities (number_of k) 0) e

pub has_one : (k : Kind) → (k ≡ kind.Not) ⊎ ((k ≡ kind.ForSome) ⊎ (k ≡ kind.ForAll)) → Has k 1
unfolding number_of
has_one k (inl e) = ap (λ (k : Kind). get_or arities (number_of k) 0) e
has_one k (inr (inl e)) = ap (λ (k : Kind). get_or arities (number_of k) 0) e
has_one k (inr (inr e)) = ap (λ (k : Kind). get_or arities (number_of k) 0) e

pub has_none : (k : Kind) → ¬ (k ≡ kind.And) → ¬ (k ≡ kind.Or) → ¬ (k ≡ kind.Not) → ¬ (k ≡ kind.ForSome)
    → ¬ (k ≡ kind.ForAll) → Has k 0
unfolding number_of
has_none kind.False a o n s l = refl
has_none kind.True a o n s l = refl
has_none kind.And a o n s l = absurd (a refl)
has_none kind.Or a o n s l = absurd (o refl)
has_none kind.Not a o n s l = absurd (n refl)
has_none kind.Positive a o n s l = refl
has_none kind.Divisible a o n s l = refl
has_none kind.Indivisible a o n s l = refl
has_none kind.ForSome a o n s l = absurd (s refl)
has_none kind.ForAll a o n s l = absurd (l refl)
has_none kind.Zero a o n s l = refl

-- ---- the last child

module _ (p : Part) (k : Kind) where
  arity : (a : Rule) → k ≡ kind_of a → (n : ℕ) → Has k n → n ≡ children a
  arity a is n has = sym has ∙ ap (λ (k : Kind). get_or arities (number_of k) 0) is ∙ (root a).0

  -- two children: a join, which ends with its right side
  pub join_in : Has k 2 → (a : Rule) → k ≡ kind_of a → RuleIn p a → JoinIn p
  join_in two a is at = go a at (arity a is 2 two)
    where
      go : (a : Rule) → RuleIn p a → 2 ≡ children a → JoinIn p
      go (Constant b) at e = absurd (omega arith)
      go (Join j a b) at e = record { joint = j; left_side = a; right_side = b; at = at }
      go (Not a) at e = absurd (omega arith)
      go (Literal t u) at e = absurd (omega arith)
      go (Bind q v a) at e = absurd (omega arith)

  pub ends_right : {q : Part} → Has k 2
      → ((j : Junction) (a b : Rule) → RuleIn p (Join j a b) → SideIn p (1 + count a) (2 + weight a) b q)
      → (a : Rule) → k ≡ kind_of a → RuleIn p a → EndsWith p a q
  ends_right {q} two side a is at = go a at (arity a is 2 two)
    where
      go : (a : Rule) → RuleIn p a → 2 ≡ children a → EndsWith p a q
      go (Constant b) at e = absurd (omega arith)
      go (Join j a b) at e =
          let s = side j a b at in
          record {
            last = b;
            at = s.at;
            nodes_are = unfold count in omega (arith, s.node_is);
            words_are = unfold weight in omega (arith, s.place_is);
            shorter = s.shorter;
          }
      go (Not a) at e = absurd (omega arith)
      go (Literal t u) at e = absurd (omega arith)
      go (Bind q v a) at e = absurd (omega arith)

  -- one child: the rule behind the root
  record Only (a : Rule) : Type 0 where
    child : Rule
    stands : Stands (drop 1 (words p.entries.now)) (drop (root_words a) (words p.bodies.now)) (p.node + 1)
        (p.place + root_words a) child
    formed : WellFormed child
    nodes_are : 1 + count child ≡ count a
    words_are : root_words a + weight child ≡ weight a

  only : (a : Rule) → RuleIn p a → 1 ≡ children a → Only a
  only (Constant b) at e = absurd (omega arith)
  only (Join j a b) at e = absurd (omega arith)
  only (Not a) at e = record {
    child = a;
    stands = under_not a at.stands;
    formed = unfold Each in at.formed;
    nodes_are = unfold count in refl;
    words_are = unfold weight in refl;
  }
  only (Literal t u) at e = absurd (omega arith)
  only (Bind q v a) at e = record {
    child = a;
    stands = under_bind q v a at.stands;
    formed = unfold Each in at.formed.1;
    nodes_are = unfold count in refl;
    words_are = unfold weight in refl;
  }

  module _ (one : Has k 1) (a : Rule) (is : k ≡ kind_of a) (at : RuleIn p a) (w : ℕ)
      (wide : w ≡ get_or widths (number_of k) 0) where
    this : Only a
    this = only a at (arity a is 1 one)

    as_wide : w ≡ root_words a
    as_wide = wide ∙ ap (λ (k : Kind). get_or widths (number_of k) 0) is ∙ (root a).1

    pub behind_there : (1 ≤ length (words p.entries.now)) × (w ≤ length (words p.bodies.now))
        × (p.node + 1 ≤ most_words) × (p.place + w ≤ most_words)
    behind_there =
        let o = this in
        let entries = inside_entries a at.stands in
        let bodies = inside_bodies a at.stands in (
          omega (arith, entries, o.nodes_are),
          omega (arith, bodies, o.words_are, as_wide),
          omega (arith, entries, o.nodes_are, at.few.few_nodes),
          omega (arith, bodies, o.words_are, as_wide, at.few.few_words),
        )

    pub ends_only : {q : Part} → Behind p 1 w q → EndsWith p a q
    ends_only {q} behind =
        let o = this in
        let long = ap length behind.entries_are ∙ length-drop 1 (words p.entries.now) in
        let broad = ap length behind.bodies_are ∙ length-drop w (words p.bodies.now) in
        let bodies = behind.bodies_are ∙ ap (λ (m : ℕ). drop m (words p.bodies.now)) as_wide in
        let place : p.place + root_words a ≡ q.place = omega (arith, behind.place_is, as_wide) in
        record {
          last = o.child;
          at = record {
            stands = moved o.child (sym behind.entries_are) (sym bodies) (sym behind.node_is) place o.stands;
            few = record {
              few_nodes = omega (arith, behind_there.0, long, behind.node_is, at.few.few_nodes);
              few_words = omega (arith, behind_there.1, broad, behind.place_is, at.few.few_words);
            };
            formed = o.formed;
          };
          nodes_are = omega (arith, o.nodes_are, behind.node_is);
          words_are = omega (arith, o.words_are, behind.place_is, as_wide);
          shorter = omega (arith, behind_there.0, long);
        }

  -- none: the rule is its root
  pub leaf : Has k 0 → (a : Rule) → k ≡ kind_of a → RuleIn p a → Leaf a
  unfolding count weight Each
  leaf none a is at = go a (arity a is 0 none) (root a).1 at.formed
    where
      go : (a : Rule) → 0 ≡ children a → get_or widths (number_of (kind_of a)) 0 ≡ root_words a → WellFormed a → Leaf a
      go (Constant b) e i f = record { one_node = refl; root_alone = sym i }
      go (Join j a b) e i f = absurd (omega arith)
      go (Not a) e i f = absurd (omega arith)
      go (Literal t u) e i f =
          record { one_node = refl; root_alone = ap (λ (m : ℕ). before_sum t + m) f.0 ∙ sym i }
      go (Bind q v a) e i f = absurd (omega arith)

-- ---- one in the other

-- a rule of the part p ends with the one that q has, or it is that
pub record Ending (p : Part) (a : Rule) (q : Part) : Type 0 where
  pub last : Rule
  pub at : RuleIn q last
  pub nodes_are : q.node + count last ≡ p.node + count a
  pub words_are : q.place + weight last ≡ p.place + weight a

pub ending_none : {p : Part} (a : Rule) → RuleIn p a → Ending p a p
ending_none a at = record { last = a; at = at; nodes_are = refl; words_are = refl }

pub ending_more : {p q r : Part} {a : Rule} (e : Ending p a q) → EndsWith q e.last r → Ending p a r
ending_more e f = record {
  last = f.last;
  at = f.at;
  nodes_are = f.nodes_are ∙ e.nodes_are;
  words_are = f.words_are ∙ e.words_are;
}

pub some_ending : {p q : Part} {a : Rule} → Ending p a q → SomeRuleIn q
some_ending e = record { rule = e.last; at = e.at }

-- the right side of an and or or, by what the arm of the code says of the kind
pub ruleset by_kind = (has_two, ends_right)
