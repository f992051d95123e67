-- The rule that has a kind: its shape.
-- Assumes nothing.
use mathlib.Core.Path.{◌≡◌, refl, sym, ap, ◌∙◌, subst}
use mathlib.Core.Bool.{Bool, true, false, not}
use Rattle.rules.specs.Sum.{Sum}
use Rattle.rules.specs.Rule.{Junction, and, or, Quantifier, for_some, for_all, Test, positive, divisible, is_zero}
use Rattle.rules.specs.Rule.{Rule, Constant, Join, Literal, Bind}
use Rattle.rules.specs.Rule as rule
use Rattle.tables.specs.Kinds.{join_kind, test_kind, bind_kind, kind_of}
use Rattle.tables.specs.declared.kind.Kind.{Kind}
use Rattle.tables.specs.declared.kind.Kind.TheVariants.{False, True, And, Or, Not, Positive, Divisible, Indivisible}
use Rattle.tables.specs.declared.kind.Kind.TheVariants.{ForSome, ForAll, Zero}
use Prim.Native.Nat.{ℕ}
use mathlib.Core.Logic.{◌⊎◌, inl, inr}
use Rattle.judging.specs.Masks.{joint}
use Rattle.judging.specs.Walks.{SameJoin}

abbrev pub IsJoin : Junction → Rule → Type 0
IsJoin j a = (x : Rule) × (y : Rule) × (a ≡ Join j x y)

abbrev pub IsLiteral : Rule → Type 0
IsLiteral a = (t : Test) × (s : Sum) × (a ≡ Literal t s)

abbrev pub IsBind : Rule → Type 0
IsBind a = (q : Quantifier) × (v : ℕ) × (x : Rule) × (a ≡ Bind q v x)

-- what a rule of this kind is
pub Of : Kind → Rule → Type 0
Of False a = a ≡ Constant false
Of True a = a ≡ Constant true
Of And a = IsJoin and a
Of Or a = IsJoin or a
Of Not a = (x : Rule) × (a ≡ rule.Not x)
Of Positive a = IsLiteral a
Of Divisible a = IsLiteral a
Of Indivisible a = IsLiteral a
Of ForSome a = IsBind a
Of ForAll a = IsBind a
Of Zero a = IsLiteral a

of : (a : Rule) → Of (kind_of a) a
unfolding Of kind_of join_kind test_kind bind_kind
of (Constant false) = refl
of (Constant true) = refl
of (Join and x y) = (x, y, refl)
of (Join or x y) = (x, y, refl)
of (rule.Not x) = (x, refl)
of (Literal positive s) = (positive, s, refl)
of (Literal (divisible true k) s) = (divisible true k, s, refl)
of (Literal (divisible false k) s) = (divisible false k, s, refl)
of (Literal is_zero s) = (is_zero, s, refl)
of (Bind for_some v x) = (for_some, v, x, refl)
of (Bind for_all v x) = (for_all, v, x, refl)

module _ (k : Kind) (a : Rule) (e : k ≡ kind_of a) where
  of_kind : {l : Kind} → k ≡ l → Of l a
  of_kind is = subst (λ (k : Kind). Of k a) is (subst (λ (k : Kind). Of k a) (sym e) (of a))

  pub false_rule : k ≡ False → a ≡ Constant false
  unfolding Of
  false_rule is = of_kind is

  pub true_rule : k ≡ True → a ≡ Constant true
  unfolding Of
  true_rule is = of_kind is

  pub not_rule : k ≡ Not → (x : Rule) × (a ≡ rule.Not x)
  unfolding Of
  not_rule is = of_kind is

  pub join_rule : (j : Junction) → k ≡ join_kind j → IsJoin j a
  unfolding Of join_kind
  join_rule and is = of_kind is
  join_rule or is = of_kind is

  pub some_rule : k ≡ ForSome → IsBind a
  unfolding Of
  some_rule is = of_kind is

  pub all_rule : k ≡ ForAll → IsBind a
  unfolding Of
  all_rule is = of_kind is

  pub positive_rule : k ≡ Positive → IsLiteral a
  unfolding Of
  positive_rule is = of_kind is

  pub divisible_rule : k ≡ Divisible → IsLiteral a
  unfolding Of
  divisible_rule is = of_kind is

  pub indivisible_rule : k ≡ Indivisible → IsLiteral a
  unfolding Of
  indivisible_rule is = of_kind is

  pub zero_rule : k ≡ Zero → IsLiteral a
  unfolding Of
  zero_rule is = of_kind is

  -- a constant, whose truth value b is told by its kind
  pub constant_rule : {b : Bool} → (k ≡ False → b ≡ false) → (k ≡ True → b ≡ true) → (k ≡ False) ⊎ (k ≡ True)
      → a ≡ Constant b
  constant_rule f t (inl is) = false_rule is ∙ ap Constant (sym (f is))
  constant_rule f t (inr is) = true_rule is ∙ ap Constant (sym (t is))

  pub one_of_binds : (k ≡ ForSome) ⊎ (k ≡ ForAll) → IsBind a
  one_of_binds (inl is) = some_rule is
  one_of_binds (inr is) = all_rule is

  pub one_of_literals : (k ≡ Positive) ⊎ ((k ≡ Divisible) ⊎ ((k ≡ Indivisible) ⊎ (k ≡ Zero))) → IsLiteral a
  one_of_literals (inl is) = positive_rule is
  one_of_literals (inr (inl is)) = divisible_rule is
  one_of_literals (inr (inr (inl is))) = indivisible_rule is
  one_of_literals (inr (inr (inr is))) = zero_rule is

  -- the kinds that are left
  pub literal_rule : ¬ (k ≡ False) → ¬ (k ≡ True) → ¬ (k ≡ And) → ¬ (k ≡ Or) → ¬ (k ≡ Not) → ¬ (k ≡ ForSome)
      → ¬ (k ≡ ForAll) → IsLiteral a
  literal_rule f t n o m s l = by k refl
    where
      by : (i : Kind) → k ≡ i → IsLiteral a
      by False e = absurd (f e)
      by True e = absurd (t e)
      by And e = absurd (n e)
      by Or e = absurd (o e)
      by Not e = absurd (m e)
      by Positive e = positive_rule e
      by Divisible e = divisible_rule e
      by Indivisible e = indivisible_rule e
      by ForSome e = absurd (s e)
      by ForAll e = absurd (l e)
      by Zero e = zero_rule e

-- ---- whether a kind is that of an and, or of an or

module _ {k : Kind} where
  -- the kind of a join, of which b tells whether it is an and
  pub joined_kind : {b : Bool} → (k ≡ And → b ≡ true) → (k ≡ Or → b ≡ false) → (k ≡ And) ⊎ (k ≡ Or)
      → k ≡ join_kind (joint b)
  unfolding join_kind
  joined_kind n o (inl is) = is ∙ ap (λ (b : Bool). join_kind (joint b)) (sym (n is))
  joined_kind n o (inr is) = is ∙ ap (λ (b : Bool). join_kind (joint b)) (sym (o is))

  pub and_join : (b : Bool) → k ≡ And → SameJoin k b b
  unfolding join_kind
  and_join true is = record { same = λ e. is; other = λ e p. absurd (cc) }
  and_join false is = record { same = λ e. absurd (cc); other = λ e p. absurd (cc) }

  pub or_join : (b : Bool) → k ≡ Or → SameJoin k b (not b)
  unfolding join_kind
  or_join true is = record { same = λ e. absurd (cc); other = λ e p. absurd (cc) }
  or_join false is = record { same = λ e. is; other = λ e p. absurd (cc) }

  pub no_join : (b : Bool) → ¬ (k ≡ And) → ¬ (k ≡ Or) → SameJoin k b false
  unfolding join_kind
  no_join true n m = record { same = λ e. absurd (cc); other = λ e p. n p }
  no_join false n m = record { same = λ e. absurd (cc); other = λ e p. m p }
