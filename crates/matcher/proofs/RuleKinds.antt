-- A rule by the kind of its root.
-- Assumes nothing.
use Rattle.std.proofs.Common.{◌≡◌, ◌≢◌, true, false, ℕ, refl, sym, subst}
use Rattle.rules.specs.Sum.{Sum}
use Rattle.rules.specs.Rule.{Junction, and, or, Quantifier, for_some, for_all, Test, positive, divisible, is_zero}
use Rattle.rules.specs.Rule.{Rule, Constant, Join, Literal, Bind}
use Rattle.rules.specs.Rule as rule
use Rattle.rules.specs.Laws.{QuantifierFree}
use Rattle.rules.proofs.Meaning.{bind_free}
use Rattle.tables.specs.Kinds.{kind_of}
use Rattle.tables.specs.declared.kind.Kind.{Kind}
use Rattle.tables.specs.declared.kind.Kind.TheVariants.{False, True, And, Or, Not, Positive, Divisible, Indivisible}
use Rattle.tables.specs.declared.kind.Kind.TheVariants.{ForSome, ForAll, Zero}

-- what a rule is whose root has this kind
abbrev pub RuleOf : Kind → Rule → Type 0
RuleOf False a = a ≡ Constant false
RuleOf True a = a ≡ Constant true
RuleOf And a = (b : Rule) × (c : Rule) × (a ≡ Join and b c)
RuleOf Or a = (b : Rule) × (c : Rule) × (a ≡ Join or b c)
RuleOf Not a = (b : Rule) × (a ≡ rule.Not b)
RuleOf Positive a = (t : Test) × (s : Sum) × (a ≡ Literal t s)
RuleOf Divisible a = (t : Test) × (s : Sum) × (a ≡ Literal t s)
RuleOf Indivisible a = (t : Test) × (s : Sum) × (a ≡ Literal t s)
RuleOf ForSome a = (q : Quantifier) × (v : ℕ) × (b : Rule) × (a ≡ Bind q v b)
RuleOf ForAll a = (q : Quantifier) × (v : ℕ) × (b : Rule) × (a ≡ Bind q v b)
RuleOf Zero a = (t : Test) × (s : Sum) × (a ≡ Literal t s)

by_root : (a : Rule) → RuleOf (kind_of a) a
unfolding kind_of
by_root (Constant false) = refl
by_root (Constant true) = refl
by_root (Join and b c) = (b, c, refl)
by_root (Join or b c) = (b, c, refl)
by_root (rule.Not b) = (b, refl)
by_root (Literal positive s) = (positive, s, refl)
by_root (Literal (divisible true k) s) = (divisible true k, s, refl)
by_root (Literal (divisible false k) s) = (divisible false k, s, refl)
by_root (Literal is_zero s) = (is_zero, s, refl)
by_root (Bind for_some v b) = (for_some, v, b, refl)
by_root (Bind for_all v b) = (for_all, v, b, refl)

pub by_kind : (k : Kind) (a : Rule) → k ≡ kind_of a → RuleOf k a
by_kind k a e = subst (λ (l : Kind). RuleOf l a) (sym e) (by_root a)

-- one without quantifiers that is no constant, no join and no not is a literal
pub literal_of : (k : Kind) (a : Rule) → k ≡ kind_of a → QuantifierFree a → k ≢ False → k ≢ True → k ≢ And → k ≢ Or
    → k ≢ Not → (t : Test) × (s : Sum) × (a ≡ Literal t s)
literal_of k a e free n0 n1 n2 n3 n4 = go k (by_kind k a e) n0 n1 n2 n3 n4
  where
    bound : (q : Quantifier) (v : ℕ) (b : Rule) → a ≡ Bind q v b → (t : Test) × (s : Sum) × (a ≡ Literal t s)
    bound q v b is = bind_free q v b (subst QuantifierFree is free)

    go : (k : Kind) → RuleOf k a → k ≢ False → k ≢ True → k ≢ And → k ≢ Or → k ≢ Not
        → (t : Test) × (s : Sum) × (a ≡ Literal t s)
    go False x n0 n1 n2 n3 n4 = absurd (n0 refl)
    go True x n0 n1 n2 n3 n4 = absurd (n1 refl)
    go And x n0 n1 n2 n3 n4 = absurd (n2 refl)
    go Or x n0 n1 n2 n3 n4 = absurd (n3 refl)
    go Not x n0 n1 n2 n3 n4 = absurd (n4 refl)
    go Positive x n0 n1 n2 n3 n4 = x
    go Divisible x n0 n1 n2 n3 n4 = x
    go Indivisible x n0 n1 n2 n3 n4 = x
    go ForSome (q, v, b, is) n0 n1 n2 n3 n4 = bound q v b is
    go ForAll (q, v, b, is) n0 n1 n2 n3 n4 = bound q v b is
    go Zero x n0 n1 n2 n3 n4 = x
