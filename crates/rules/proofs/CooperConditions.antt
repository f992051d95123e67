-- The body as a statement of x meets the conditions of Cooper's theorem: far to the left it is the far-left body, which
-- is periodic, and one period down it still holds or a bound was passed.
-- Assumes nothing.
use mathlib.Core.Path.{◌≡◌, refl, sym, ◌∙◌, ap, subst}
use mathlib.Core.Logic.Iff
use mathlib.Core.Logic.{◌↔◌, ◌⊎◌, inl, inr}
use mathlib.Core.Bool.{Bool, cond}
use mathlib.Core.List.{List, [], ◌∷◌}
use Prim.Native.Nat.{ℕ, zero, suc, ◌+◌, ◌≤◌, ◌<◌}
use native.Mathlib.Omega.{arith}
use lib.IntN.{ℤ, pos, negsuc, neg_ℤ, nat_abs, ◌+ℤ◌, ◌-ℤ◌, ◌*ℤ◌}
use lib.Signed.{◌<ℤ◌}
use Rattle.whole.specs.Integers.{eq_ℤ}
use Rattle.whole.specs.Divides.{Divides}
use Rattle.whole.proofs.Lists.{Any, any_imp}
use Rattle.whole.proofs.Difference.{zz, z1, z2, z4}
use Rattle.whole.proofs.Integers.{≤ℤ_or->ℤ}
use Rattle.whole.proofs.Divisibility.{divides_zero, divides_mul, divides_shift}
use Rattle.whole.proofs.Cooper.{Reached, Cooper, crossed}
use Rattle.rules.specs.Sum.{Sum, Choice, with, factor, negate, put, value}
use Rattle.rules.specs.Rule.{Test, positive, divisible, is_zero}
use Rattle.rules.specs.Rule.{Rule, Constant, Join, Not, Literal, Bind, True, False, Passes, Holds}
use Rattle.rules.specs.Literals.{map_literals}
use Rattle.rules.specs.Steps.{bound_of, far_literal, far_left}
use Rattle.rules.specs.Laws.{Normal, UnitFactor, Periodic}
use Rattle.rules.proofs.Sums.{rest, value_with, value_negate}
use Rattle.rules.proofs.Meaning.{joined_iff, whether_iff, at_equal}
use Rattle.rules.proofs.OverLiterals.{normal_imp, normal_both, map_agree, goes_over, Among}

-- ---- the factor of x is 1, −1 or 0

unit_cases : (f : ℤ) → nat_abs f ≤ 1 → (f ≡ pos 1) ⊎ ((f ≡ negsuc 0) ⊎ (f ≡ pos 0))
unit_cases (pos zero) h = inr (inr refl)
unit_cases (pos (suc zero)) h = inl refl
unit_cases (pos (suc (suc n))) h = absurd (omega arith)
unit_cases (negsuc zero) h = inr (inl refl)
unit_cases (negsuc (suc n)) h = absurd (omega arith)

module _ (x : ℕ) (s : Sum) where
  -- what 0 < T becomes far to the left, by its x factor
  abbrev far_by : ℤ → Rule
  far_by f = cond (eq_ℤ f (pos 1)) False (cond (eq_ℤ f (negsuc 0)) True (Literal positive s))

  far_one : factor x s ≡ pos 1 → far_literal x positive s ≡ False
  unfolding far_literal
  far_one e = ap far_by e

  far_minus_one : factor x s ≡ negsuc 0 → far_literal x positive s ≡ True
  unfolding far_literal
  far_minus_one e = ap far_by e

  far_none : factor x s ≡ pos 0 → far_literal x positive s ≡ Literal positive s
  unfolding far_literal
  far_none e = ap far_by e

  bound_one : factor x s ≡ pos 1 → bound_of x positive s ≡ negate (put x (pos 0) s) ∷ []
  unfolding bound_of
  bound_one e = ap (λ f. cond (eq_ℤ f (pos 1)) (negate (put x (pos 0) s) ∷ []) []) e

-- ---- the body in x, at a choice of the other settings

-- y is the value of a bound of the list
unfoldable pub Bound : Choice → List Sum → ℤ → Type 0
Bound ρ bs y = Any (λ c. y ≡ value c ρ) bs

module _ (x : ℕ) (ρ : Choice) (g : 1 ≤ x) where
  abbrev pub here : ℤ → Choice
  here z = with x z ρ

  value_one : (s : Sum) (z : ℤ) → factor x s ≡ pos 1 → value s (here z) ≡ z +ℤ rest x s ρ
  value_one s z e = value_with x s z ρ g ∙ ap (λ f. f *ℤ z +ℤ rest x s ρ) e ∙ law z (rest x s ρ)
    where
      law : (z r : ℤ) → pos 1 *ℤ z +ℤ r ≡ z +ℤ r
      law = z2 _ (simp zz (omega arith))

  value_minus_one : (s : Sum) (z : ℤ) → factor x s ≡ negsuc 0 → value s (here z) ≡ rest x s ρ -ℤ z
  value_minus_one s z e = value_with x s z ρ g ∙ ap (λ f. f *ℤ z +ℤ rest x s ρ) e ∙ law z (rest x s ρ)
    where
      law : (z r : ℤ) → negsuc 0 *ℤ z +ℤ r ≡ r -ℤ z
      law = z2 _ (simp zz (omega arith))

  value_none : (s : Sum) (y z : ℤ) → factor x s ≡ pos 0 → value s (here y) ≡ value s (here z)
  value_none s y z e = alone y ∙ sym (alone z)
    where
      law : (z r : ℤ) → pos 0 *ℤ z +ℤ r ≡ r
      law = z2 _ (simp zz (omega arith))

      alone : (y : ℤ) → value s (here y) ≡ rest x s ρ
      alone y = value_with x s y ρ g ∙ ap (λ f. f *ℤ y +ℤ rest x s ρ) e ∙ law y (rest x s ρ)

  -- 1. periodic

  -- a says at z + P what it says at z
  abbrev SameAfter : ℕ → ℤ → Rule → Type 0
  SameAfter P z a = Holds a (here z) ↔ Holds a (here (z +ℤ pos P))

  divisor_periodic : (P : ℕ) (b : Bool) (k : ℕ) (s : Sum) → Periodic P x (divisible b k) s
      → (z : ℤ) → SameAfter P z (Literal (divisible b k) s)
  unfolding Holds
  divisor_periodic P b k s p z = whether_iff b
      (Iff.trans (at_equal (Divides k) (value_with x s z ρ g))
      (Iff.trans (Iff.symm (divides_shift moved (factor x s *ℤ z +ℤ rest x s ρ)))
      (at_equal (Divides k) (law (factor x s) z (rest x s ρ) (pos P) ∙ sym (value_with x s (z +ℤ pos P) ρ g)))))
    where
      none : (P : ℤ) → pos 0 ≡ pos 0 *ℤ P
      none = z1 _ (simp zz (omega arith))

      moved : Divides k (factor x s *ℤ pos P)
      moved = elim p [
        | inl e ↦ subst (λ f. Divides k (f *ℤ pos P)) (sym e) (subst (Divides k) (none (pos P)) divides_zero)
        | inr d ↦ divides_mul (factor x s) d
      ]

      law : (f z r P : ℤ) → (f *ℤ z +ℤ r) +ℤ f *ℤ P ≡ f *ℤ (z +ℤ P) +ℤ r
      law = z4 _ (simp zz (omega arith))

  abbrev UnitPeriodic : ℕ → Test → Sum → Type 0
  UnitPeriodic P t s = UnitFactor x t s × Periodic P x t s

  far_periodic : (P : ℕ) (z : ℤ) (t : Test) (s : Sum) → UnitPeriodic P t s → SameAfter P z (far_literal x t s)
  unfolding Holds far_literal
  far_periodic P z positive s h = elim (unit_cases (factor x s) h.0) [
    | inl e ↦ subst (SameAfter P z) (sym (far_one x s e)) Iff.rfl
    | inr (inl e) ↦ subst (SameAfter P z) (sym (far_minus_one x s e)) Iff.rfl
    | inr (inr e) ↦ subst (SameAfter P z) (sym (far_none x s e)) (at_equal (Passes positive) (value_none s z _ e))
  ]
  far_periodic P z (divisible b k) s h = divisor_periodic P b k s h.1 z
  far_periodic P z is_zero s h = absurd h.0

  -- 2. far below

  -- z lies below −n
  abbrev Under : ℕ → ℤ → Type 0
  Under n z = z <ℤ neg_ℤ (pos n)

  -- below some number a says what far says
  Below : Rule → Rule → Type 0
  Below a far = (n : ℕ) × ((z : ℤ) → Under n z → Holds a (here z) ↔ Holds far (here z))

  below_one : (r z : ℤ) → Under (nat_abs r) z → ¬ (pos 0 <ℤ (z +ℤ r))
  below_one (pos n) = z1 _ (simp zz (omega arith))
  below_one (negsuc n) = z1 _ (simp zz (omega arith))

  below_minus_one : (r z : ℤ) → Under (nat_abs r) z → pos 0 <ℤ (r -ℤ z)
  below_minus_one (pos n) = z1 _ (simp zz (omega arith))
  below_minus_one (negsuc n) = z1 _ (simp zz (omega arith))

  below_literal : (t : Test) (s : Sum) → UnitFactor x t s → Below (Literal t s) (far_literal x t s)
  unfolding Below Holds far_literal
  below_literal positive s h = elim (unit_cases (factor x s) h) [
    | inl e ↦ subst (Below (Literal positive s)) (sym (far_one x s e)) (nat_abs r, none e)
    | inr (inl e) ↦ subst (Below (Literal positive s)) (sym (far_minus_one x s e)) (nat_abs r, all e)
    | inr (inr e) ↦ subst (Below (Literal positive s)) (sym (far_none x s e)) (0, λ z l. Iff.rfl)
  ]
    where
      r : ℤ
      r = rest x s ρ

      none : factor x s ≡ pos 1 → (z : ℤ) → Under (nat_abs r) z
          → Passes positive (value s (here z)) ↔ Holds False (here z)
      none e z l = (λ k. below_one r z l (subst (Passes positive) (value_one s z e) k), λ k. absurd k)

      all : factor x s ≡ negsuc 0 → (z : ℤ) → Under (nat_abs r) z
          → Passes positive (value s (here z)) ↔ Holds True (here z)
      all e z l = (λ k. tt, λ k. subst (Passes positive) (sym (value_minus_one s z e)) (below_minus_one r z l))
  below_literal (divisible b k) s h = (0, λ z l. Iff.rfl)
  below_literal is_zero s h = absurd h

  low_enough : (m n : ℕ) (z : ℤ) → Under (m + n) z → Under m z × Under n z
  low_enough m n = z1 _ (simp zz (omega arith))

  below : (a : Rule) → Normal (UnitFactor x) a → Below a (far_left x a)
  unfolding Normal Below far_left map_literals Holds
  below (Constant b) n = (0, λ z l. Iff.rfl)
  below (Join j a b) n =
      let (low_a, same_a) = below a n.0 in
      let (low_b, same_b) = below b n.1 in (
        low_a + low_b,
        λ z l. let (l_a, l_b) = low_enough low_a low_b z l in joined_iff j (same_a z l_a) (same_b z l_b),
      )
  below (Not a) n = absurd n
  below (Literal t s) n = below_literal t s n
  below (Bind q v a) n = absurd n

  -- 3. one period down

  module _ (P : ℕ) (bs : List Sum) where
    -- the literal's bound is in the list
    abbrev pub HasBound : Test → Sum → Type 0
    HasBound t s = Among (bound_of x) bs t s

    -- a bound was passed between z and z + P
    abbrev Passed : ℤ → Type 0
    Passed z = Reached (Bound ρ bs) P (z +ℤ pos P)

    abbrev Down : ℤ → Test → Sum → Type 0
    Down z t s = Passes t (value s (here (z +ℤ pos P))) → Passed z ⊎ Passes t (value s (here z))

    bound_there : (s : Sum) → factor x s ≡ pos 1 → HasBound positive s → Bound ρ bs (neg_ℤ (rest x s ρ))
    unfolding Bound rest Any
    bound_there s e has_bound = any_imp
        (λ c i. sym (ap (λ (d : Sum). value d ρ) i ∙ value_negate (put x (pos 0) s) ρ)) bs
        (has_bound own (subst (Any (λ c. c ≡ own)) (sym (bound_one x s e)) (inl refl)))
      where
        own : Sum
        own = negate (put x (pos 0) s)

    down_one : (r z : ℤ) → Bound ρ bs (neg_ℤ r) → pos 0 <ℤ ((z +ℤ pos P) +ℤ r) → Passed z ⊎ (pos 0 <ℤ (z +ℤ r))
    down_one r z b h = elim (≤ℤ_or->ℤ z (neg_ℤ r)) [
      | inl l ↦ inl (neg_ℤ r, b, crossed (neg_ℤ r) z (above r (z +ℤ pos P) h) l)
      | inr l ↦ inr (over r z l)
    ]
      where
        above : (r y : ℤ) → pos 0 <ℤ (y +ℤ r) → neg_ℤ r <ℤ y
        above = z2 _ (simp zz (omega arith))

        over : (r z : ℤ) → neg_ℤ r <ℤ z → pos 0 <ℤ (z +ℤ r)
        over = z2 _ (simp zz (omega arith))

    down_literal : (z : ℤ) (t : Test) (s : Sum) → UnitPeriodic P t s × HasBound t s → Down z t s
    unfolding Holds
    down_literal z positive s ((unit, periodic), has_bound) h = elim (unit_cases (factor x s) unit) [
      | inl e ↦ one e
      | inr (inl e) ↦ inr (minus_one e)
      | inr (inr e) ↦ inr (subst (Passes positive) (value_none s (z +ℤ pos P) z e) h)
    ]
      where
        lower : (r z : ℤ) → pos 0 <ℤ (r -ℤ (z +ℤ pos P)) → pos 0 <ℤ (r -ℤ z)
        lower = z2 _ (simp zz (omega arith))

        one : factor x s ≡ pos 1 → Passed z ⊎ Passes positive (value s (here z))
        one e =
            let up = subst (Passes positive) (value_one s (z +ℤ pos P) e) h in
            let down = down_one (rest x s ρ) z (bound_there s e has_bound) up in
            subst (λ y. Passed z ⊎ Passes positive y) (sym (value_one s z e)) down

        minus_one : factor x s ≡ negsuc 0 → Passes positive (value s (here z))
        minus_one e =
            let up = subst (Passes positive) (value_minus_one s (z +ℤ pos P) e) h in
            subst (Passes positive) (sym (value_minus_one s z e)) (lower (rest x s ρ) z up)
    down_literal z (divisible b k) s ((unit, periodic), has_bound) h = inr ((divisor_periodic P b k s periodic z).1 h)
    down_literal z is_zero s ((unit, periodic), has_bound) h = absurd unit

    -- the three together
    module _ (a : Rule) (u : Normal (UnitFactor x) a) (d : Normal (Periodic P x) a) (m : Normal HasBound a) where
      unit_periodic : Normal (UnitPeriodic P) a
      unit_periodic = normal_both (UnitFactor x) (Periodic P x) a u d

      periodic : (z : ℤ) → SameAfter P z (far_left x a)
      unfolding far_left
      periodic z = map_agree (far_literal x) (far_literal x) (here z) (here (z +ℤ pos P)) a
          (normal_imp (UnitPeriodic P) (λ t s. SameAfter P z (far_literal x t s)) (far_periodic P z) a unit_periodic)

      one_period_down : (z : ℤ) → Holds a (here (z +ℤ pos P)) → Passed z ⊎ Holds a (here z)
      one_period_down z = goes_over (Passed z) (here (z +ℤ pos P)) (here z) a
          (normal_imp (λ t s. UnitPeriodic P t s × HasBound t s) (Down z) (down_literal z) a
          (normal_both (UnitPeriodic P) HasBound a unit_periodic m))

      pub body_cooper : 0 < P → Cooper (λ z. Holds a (here z)) (λ z. Holds (far_left x a) (here z)) (Bound ρ bs) P
      unfolding Below
      body_cooper p = record {
        positive = p;
        periodic = periodic;
        low = neg_ℤ (pos (below a u).0);
        far_below = (below a u).1;
        one_period_down = one_period_down;
      }
