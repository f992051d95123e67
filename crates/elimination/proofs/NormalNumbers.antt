-- Step 1 adds one to c or to −c, and makes no other number greater: where no c is at the limit, none passes it.
-- Assumes nothing.
use mathlib.Core.Path.{◌≡◌, refl, sym, ◌∙◌, ap, ap₂, subst}
use mathlib.Core.Bool.{Bool, true, false, not, ◌||◌}
use mathlib.Core.List.{[], ◌∷◌}
use Prim.Native.Nat.{ℕ, zero, suc, ◌≤◌}
use native.Mathlib.Omega.{arith}
use borrow.Author.Tests.{eq-eqb, le-ltb}
use lib.Dec.{T, le→leb}
use lib.IntN.{ℤ, pos, negsuc, nat_abs, ◌+ℤ◌}
use Rattle.whole.specs.Integers.{within}
use Rattle.whole.proofs.Tests.{T_and, is_false, not_passed}
use Rattle.rules.specs.Sum.{Sum, factor, number, negate, add, one_plus, one_minus, limit, all_within}
use Rattle.rules.specs.Rule.{Test, positive, divisible, is_zero, Rule, Constant, Join, Not, Literal, Bind}
use Rattle.rules.specs.Literals.{some_literal}
use Rattle.rules.specs.Steps.{x_not_negative, normal_literal, normal}
use Rattle.rules.specs.Eliminate.{over_limit}
use Rattle.rules.specs.Laws.{Each, InTable, WellFormed}
use Rattle.rules.proofs.Encoding.{divisor_range}
use Rattle.rules.proofs.Sums.{factor_scale, factor_add, number_factor}
use Rattle.rules.proofs.Limits.{within_table}
use Rattle.literals.proofs.Sizes.{size_mul, size_add}
use Rattle.literals.proofs.Sevens.{within_at}
use Rattle.walks.specs.Sums.{turned}
use Rattle.walks.proofs.SumLaws.{turned_within}
use Rattle.steps.specs.Numbers.{at_limit}

-- ---- tests

neither : (p q : Bool) → (p || q) ≡ false → (p ≡ false) × (q ≡ false)
neither true q e = absurd (subst T e tt)
neither false q e = (refl, e)

-- ---- sums

within_each : (s : Sum) → ((v : ℕ) → nat_abs (factor v s) ≤ limit) → T (all_within limit s)
unfolding all_within
within_each [] h = tt
within_each (a ∷ s) h =
    (T_and (within limit a) (all_within limit s)).1 (le→leb (nat_abs a) limit (h 0), within_each s (λ v. h (suc v)))

one_more : (s : Sum) → T (all_within limit s) → ¬ (nat_abs (factor 0 s) ≡ limit)
    → T (all_within limit (add (number (pos 1)) s))
one_more s h far =
    within_each _ (λ v. subst (λ (z : ℤ). nat_abs z ≤ limit) (sym (factor_add v (number (pos 1)) s)) (by v))
  where
    by : (v : ℕ) → nat_abs (factor v (number (pos 1)) +ℤ factor v s) ≤ limit
    by zero = omega (arith, size_add (pos 1) (factor 0 s), within_at limit s 0 h, far)
    by (suc v) =
        let none_added = ap nat_abs (number_factor (suc v) (pos 1) (omega arith)) in
        omega (
          arith,
          size_add (factor (suc v) (number (pos 1))) (factor (suc v) s),
          none_added,
          within_at limit s (suc v) h,
        )

negate_within : (s : Sum) → T (all_within limit s) → T (all_within limit (negate s))
unfolding turned
negate_within s h = turned_within true s h

negate_size : (s : Sum) → nat_abs (factor 0 (negate s)) ≡ nat_abs (factor 0 s)
unfolding negate
negate_size s =
    let same = size_mul (negsuc 0) (factor 0 s) in
    ap nat_abs (factor_scale 0 (negsuc 0) s) ∙ omega (arith, same)

-- ---- literals

module _ (t : Test) (s : Sum) (w : InTable t s) where
  -- with T also −T is within the limit
  turned_round : T (all_within limit (negate s))
  turned_round = negate_within s w.1

  not_negative_within : (x : ℕ) → T (all_within limit (x_not_negative x s))
  unfolding x_not_negative
  not_negative_within x = by (factor x s)
    where
      by : (z : ℤ) → T (all_within limit (elim z [ pos a ↦ s | negsuc a ↦ negate s ]))
      by (pos a) = w.1
      by (negsuc a) = turned_round

  -- so are 1+T and 1−T, where c is not at the limit
  module _ (far : at_limit t s ≡ false) where
    not_there : ¬ (nat_abs (factor 0 s) ≡ limit)
    not_there e = absurd (subst T (sym (eq-eqb (nat_abs (factor 0 s)) limit e) ∙ far) tt)

    plus_within : T (all_within limit (one_plus s))
    unfolding one_plus
    plus_within = one_more s w.1 not_there

    minus_within : T (all_within limit (one_minus s))
    unfolding one_minus
    minus_within = one_more (negate s) turned_round (λ e. not_there (sym (negate_size s) ∙ e))

positive_within : (s : Sum) → T (all_within limit s) → over_limit positive s ≡ false
unfolding over_limit
positive_within s h = ap (λ (b : Bool). b || false) (not_passed (all_within limit s) h)

divisible_within : (b : Bool) (k x : ℕ) (s : Sum) → InTable (divisible b k) s
    → over_limit (divisible b k) (x_not_negative x s) ≡ false
unfolding over_limit
divisible_within b k x s w =
    ap₂ ◌||◌ (not_passed (all_within limit (x_not_negative x s)) (not_negative_within (divisible b k) s w x))
    (le-ltb limit k (divisor_range k w.2).1)

literal_within : (plainly : Bool) (x : ℕ) (t : Test) (s : Sum) → InTable t s → at_limit t s ≡ false
    → some_literal over_limit (normal_literal plainly x t s) ≡ false
unfolding normal_literal some_literal over_limit
literal_within true x positive s w far = positive_within s w.1
literal_within false x positive s w far = positive_within (one_minus s) (minus_within positive s w far)
literal_within true x is_zero s w far =
    ap₂ ◌||◌ (positive_within (one_minus s) (minus_within is_zero s w far))
    (positive_within (one_plus s) (plus_within is_zero s w far))
literal_within false x is_zero s w far =
    ap₂ ◌||◌ (positive_within (negate s) (turned_round is_zero s w)) (positive_within s w.1)
literal_within true x (divisible b k) s w far = divisible_within b k x s w
literal_within false x (divisible b k) s w far = divisible_within b k x s w

-- ---- the normal form

pub normal_far : (plainly : Bool) (x : ℕ) (a : Rule) → WellFormed a → some_literal at_limit a ≡ false
    → some_literal over_limit (normal plainly x a) ≡ false
unfolding normal some_literal Each
normal_far plainly x (Constant b) w far = refl
normal_far plainly x (Join j a b) w far =
    let (left, right) = neither (some_literal at_limit a) (some_literal at_limit b) far in
    ap₂ ◌||◌ (normal_far plainly x a w.0 left) (normal_far plainly x b w.1 right)
normal_far plainly x (Not a) w far = normal_far (not plainly) x a w far
normal_far plainly x (Literal t s) w far = literal_within plainly x t s w far
normal_far plainly x (Bind q v a) w far = is_false (some_literal over_limit a) (within_table a w.1)
