-- Step 2 keeps the meaning of for some x: D·x is called x.
-- Assumes nothing.
use mathlib.Core.Path.{◌≡◌, refl, sym, ◌∙◌, ap, subst}
use mathlib.Core.Logic.Iff
use mathlib.Core.Logic.{◌↔◌}
use mathlib.Core.Bool.{Bool, true, false, not, cond, true≢false}
use mathlib.Core.List.{List, [], ◌∷◌}
use Prim.Native.Nat.{ℕ, zero, suc, ◌*◌, ◌/◌, ◌≤◌, ◌<◌}
use native.Mathlib.Nat.{mul_comm}
use native.Mathlib.Omega.{arith}
use lib.Dec.{eqb, eqb-suc-zero}
use lib.IntN.{ℤ, pos, negsuc, neg_ℤ, nat_abs, ◌+ℤ◌, ◌*ℤ◌}
use Rattle.whole.specs.Integers.{eq_ℤ}
use Rattle.whole.specs.Divides.{Divides}
use Rattle.whole.specs.Multiples.{lcms}
use Rattle.whole.proofs.Tests.{cond_ind}
use Rattle.whole.proofs.Lists.{All}
use Rattle.whole.proofs.Difference.{zz, z1}
use Rattle.whole.proofs.Ring.{rr, ring, r4}
use Rattle.whole.proofs.Integers.{positive_scale, *ℤ_assoc}
use Rattle.whole.proofs.Divisibility.{divides_scale, divides_times}
use Rattle.whole.proofs.Multiples.{quotient_exact, quotient_pos, lcms_pos, lcms_divided}
use Rattle.rules.specs.Sum.{Sum, Choice, with, factor, put, scale, value}
use Rattle.rules.specs.Rule.{Test, positive, divisible, is_zero, Rule, Literal, Some, Passes, Holds}
use Rattle.rules.specs.Literals.{gather, map_literals}
use Rattle.rules.specs.Steps.{size_of, common_factor, multiplier, times, sign, scale_literal, scaled}
use Rattle.rules.specs.Laws.{Each, Normal, NoZero, CommonFactorKeeps}
use Rattle.rules.proofs.Sums.{rest, value_with, value_put, value_setting, rest_scale}
use Rattle.rules.proofs.Meaning.{whether_iff, at_equal}
use Rattle.rules.proofs.OverLiterals.{normal_imp, each_normal, normal_each, map_keeps, gathered, each_gathered}

-- ---- D is positive, and a multiple of the size of each nonzero factor

pub sizes_positive : (x : ℕ) (t : Test) (s : Sum) → All (λ k. 0 < k) (size_of x t s)
unfolding size_of All
sizes_positive x t s = by_factor (factor x s)
  where
    by_factor : (f : ℤ) → All (λ k. 0 < k) (cond (not (eq_ℤ f (pos 0))) (nat_abs f ∷ []) [])
    by_factor (pos zero) = tt
    by_factor (pos (suc n)) =
        cond_ind (not (eq_ℤ (pos (suc n)) (pos 0))) (suc n ∷ []) [] (All (λ k. 0 < k)) (λ h. (omega arith, tt)) (λ h. tt)
    by_factor (negsuc n) = (omega arith, tt)

pub common_factor_pos : (x : ℕ) (a : Rule) → 0 < common_factor x a
unfolding common_factor
common_factor_pos x a = lcms_pos (gather (size_of x) a) (gathered (size_of x) (λ k. 0 < k) (sizes_positive x) a)

-- the size of the literal's factor, where it has one, divides D
unfoldable pub SizeDivides : ℕ → ℕ → Test → Sum → Type 0
SizeDivides D x t s = All (λ k. Divides k (pos D)) (size_of x t s)

pub sizes_divide : (x : ℕ) (R : Test → Sum → Type 0) (a : Rule) → Each R a
    → Each (λ t s. SizeDivides (common_factor x a) x t s × R t s) a
unfolding common_factor SizeDivides
sizes_divide x R a h =
    let sizes : List ℕ = gather (size_of x) a in
    each_gathered (size_of x) (λ k. Divides k (pos (lcms sizes))) R a h (lcms_divided sizes)

-- what a literal must be to be multiplied
abbrev pub Scalable : ℕ → ℕ → Test → Sum → Type 0
Scalable D x t s = SizeDivides D x t s × NoZero t s

pub all_scalable : (x : ℕ) (a : Rule) → Normal NoZero a → Normal (Scalable (common_factor x a) x) a
all_scalable x a n =
    each_normal NoZero (Scalable (common_factor x a) x) a n (sizes_divide x NoZero a (normal_each NoZero a n))

-- ---- the multiplier m is positive, and m times the factor is its sign times D

pub record Multiplies (D : ℕ) (f : ℤ) (m : ℕ) : Type 0 where
  pub positive : 0 < m
  pub to_D : pos m *ℤ f ≡ sign f *ℤ pos D

by_quotient : (D n : ℕ) → 0 < D → Divides (suc n) (pos D) → (0 < D / suc n) × (D / suc n * suc n ≡ D)
by_quotient D n h d = (quotient_pos h d, mul_comm (D / suc n) (suc n) ∙ sym (quotient_exact (suc n) D d))

one_times : (D n : ℕ) → n ≡ D → pos n ≡ pos 1 *ℤ pos D
one_times D n e = ap pos (e ∙ omega arith)

pub multiplies : (D x : ℕ) (t : Test) (s : Sum) → 0 < D → SizeDivides D x t s
    → Multiplies D (factor x s) (multiplier D x s)
unfolding SizeDivides size_of multiplier All
multiplies D x t s h = by_factor (factor x s)
  where
    by_factor : (f : ℤ) → All (λ k. Divides k (pos D)) (cond (not (eq_ℤ f (pos 0))) (nat_abs f ∷ []) [])
        → Multiplies D f (cond (not (eq_ℤ f (pos 0))) (D / nat_abs f) 1)
    by_factor (pos zero) d = record { positive = omega arith; to_D = law (pos D) }
      where
        law : (D : ℤ) → pos 0 ≡ pos 0 *ℤ D
        law = z1 _ (simp zz (omega arith))
    by_factor (pos (suc n)) d = nonzero (eqb (suc n) 0) (eqb-suc-zero n) d
      where
        nonzero : (c : Bool) → c ≡ false → All (λ k. Divides k (pos D)) (cond (not c) (suc n ∷ []) [])
            → Multiplies D (pos (suc n)) (cond (not c) (D / suc n) 1)
        nonzero true e d = absurd (true≢false e)
        nonzero false e d =
            let q = by_quotient D n h d.0 in
            record { positive = q.0; to_D = one_times D (D / suc n * suc n) q.1 }
    by_factor (negsuc n) d =
        let q = by_quotient D n h d.0 in
        record { positive = q.0; to_D = ap neg_ℤ (one_times D (D / suc n * suc n) q.1) ∙ law (pos D) }
      where
        law : (D : ℤ) → neg_ℤ (pos 1 *ℤ D) ≡ negsuc 0 *ℤ D
        law = z1 _ (simp zz (omega arith))

-- ---- a literal times m, where D·x is called x

module _ (D x : ℕ) (z : ℤ) (ρ : Choice) (g : 1 ≤ x) where
  abbrev called : Choice
  called = with x (pos D *ℤ z) ρ

  abbrev was : Choice
  was = with x z ρ

  value_scaled : (s : Sum) (m : ℕ) → Multiplies D (factor x s) m
      → value (put x (sign (factor x s)) (scale (pos m) s)) called ≡ pos m *ℤ value s was
  value_scaled s m u =
      value_put x (sign (factor x s)) (scale (pos m) s) (pos D *ℤ z) ρ g
      ∙ ap (λ r. sign (factor x s) *ℤ (pos D *ℤ z) +ℤ r) (rest_scale x (pos m) s ρ)
      ∙ law (sign (factor x s)) (pos D) z (pos m) (factor x s) (rest x s ρ) u.to_D
      ∙ ap (λ v. pos m *ℤ v) (sym (value_with x s z ρ g))
    where
      law : (e D z m f r : ℤ) → m *ℤ f ≡ e *ℤ D → e *ℤ (D *ℤ z) +ℤ m *ℤ r ≡ m *ℤ (f *ℤ z +ℤ r)
      law e D z m f r h = ap (λ v. v +ℤ m *ℤ r) (sym (*ℤ_assoc e D z) ∙ ap (λ v. v *ℤ z) (sym h)) ∙ spread m f z r
        where
          spread : (m f z r : ℤ) → (m *ℤ f) *ℤ z +ℤ m *ℤ r ≡ m *ℤ (f *ℤ z +ℤ r)
          spread = r4 _ (simp rr (ring refl))

  scaled_test : (t : Test) (s : Sum) (m : ℕ) (v : ℤ) → NoZero t s → 0 < m → Passes (times m t) (pos m *ℤ v) ↔ Passes t v
  scaled_test positive s m v n p = positive_scale p v
  scaled_test (divisible b k) s m v n p = whether_iff b (divides_scale p k v)
  scaled_test is_zero s m v n p = absurd n

  abbrev Keeps : Test → Sum → Type 0
  Keeps t s = Holds (scale_literal D x t s) called ↔ Holds (Literal t s) was

  literal_keeps : 0 < D → (t : Test) (s : Sum) → Scalable D x t s → Keeps t s
  unfolding scale_literal Holds
  literal_keeps h t s n =
      let m : ℕ = multiplier D x s in
      let u : Multiplies D (factor x s) m = multiplies D x t s h n.0 in
      Iff.trans
      (at_equal (Passes (times m t)) (value_scaled s m u))
      (scaled_test t s m (value s was) n.1 u.positive)

  body_keeps : 0 < D → (a : Rule) → Normal (Scalable D x) a
      → Holds (map_literals (scale_literal D x) a) called ↔ Holds a was
  body_keeps h a n = map_keeps (scale_literal D x) called was a (normal_imp (Scalable D x) Keeps (literal_keeps h) a n)

pub common_factor_keeps : CommonFactorKeeps
unfolding scaled Holds
common_factor_keeps x a g n ρ = (divided, multiplied)
  where
    D : ℕ
    D = common_factor x a

    Body : ℤ → Type 0
    Body y = Holds (map_literals (scale_literal D x) a) (with x y ρ)

    body : (z : ℤ) → Body (pos D *ℤ z) ↔ Holds a (with x z ρ)
    body z = body_keeps D x z ρ g (common_factor_pos x a) a (all_scalable x a n)

    divided : Holds (Some x (scaled D x a)) ρ → Holds (Some x a) ρ
    divided (y, (holds, is_multiple)) =
        let d : Divides D y = subst (Divides D) (value_setting x y ρ g) is_multiple in
        (d.quotient, (body d.quotient).0 (subst Body d.exact holds))

    multiplied : Holds (Some x a) ρ → Holds (Some x (scaled D x a)) ρ
    multiplied (z, holds) =
        let is_multiple = subst (Divides D) (sym (value_setting x (pos D *ℤ z) ρ g)) (divides_times D z) in
        (pos D *ℤ z, ((body z).1 holds, is_multiple))
