-- Divisibility by a natural number: what it is closed under, scaling, the period, the remainder, and its test.
-- Assumes nothing.
use mathlib.Core.Path.{◌≡◌, refl, sym, ◌∙◌, ap, subst, subst⁻¹}
use mathlib.Core.Logic.{◌↔◌}
use Prim.Native.Nat.{ℕ, zero, suc, ◌+◌, ◌*◌, ◌-◌, ◌/◌, ◌%◌, ◌<◌}
use native.Mathlib.Nat.{mod-lt, div-add-mod, mul-mod_right}
use native.Mathlib.Omega.{arith}
use lib.Dec.{T, eqb, eqb→eq, eqb_refl}
use lib.IntN.{ℤ, pos, negsuc, neg_ℤ, neg_ℤ-neg_ℤ, nat_abs, ◌+ℤ◌, ◌-ℤ◌, ◌*ℤ◌}
use Rattle.whole.specs.Divides.{Divides, divides}
use Rattle.whole.proofs.Difference.{zz, z2, z3, z5}
use Rattle.whole.proofs.Integers.{*ℤ_assoc, *ℤ-≡, 1-*ℤ, *ℤ_neg}

-- ---- what it is closed under

pub divides_zero : {k : ℕ} → Divides k (pos 0)
divides_zero {k} = record { quotient = pos 0; exact = ap pos (omega arith) }

pub divides_self : {k : ℕ} → Divides k (pos k)
divides_self {k} = record { quotient = pos 1; exact = ap pos (omega arith) }

pub one_divides : (z : ℤ) → Divides 1 z
one_divides z = record { quotient = z; exact = sym (1-*ℤ z) }

pub divides_times : (k : ℕ) (q : ℤ) → Divides k (pos k *ℤ q)
divides_times k q = record { quotient = q; exact = refl }

pub divides_add : {k : ℕ} {z w : ℤ} → Divides k z → Divides k w → Divides k (z +ℤ w)
divides_add {k} {z} {w} h g = record {
  quotient = h.quotient +ℤ g.quotient;
  exact = law (pos k) z w h.quotient g.quotient h.exact g.exact;
}
  where
    law : (k z w q r : ℤ) → z ≡ k *ℤ q → w ≡ k *ℤ r → z +ℤ w ≡ k *ℤ (q +ℤ r)
    law = z5 _ (simp zz (omega arith))

pub divides_mul : {k : ℕ} {z : ℤ} (c : ℤ) → Divides k z → Divides k (c *ℤ z)
divides_mul {k} c h = record {
  quotient = c *ℤ h.quotient;
  exact = ap (λ x. c *ℤ x) h.exact ∙ law (pos k) c h.quotient;
}
  where
    law : (k c q : ℤ) → c *ℤ (k *ℤ q) ≡ k *ℤ (c *ℤ q)
    law = z3 _ (simp zz (omega arith))

pub divides_neg : {k : ℕ} {z : ℤ} → Divides k z → Divides k (neg_ℤ z)
divides_neg {k} {z} h = record {
  quotient = neg_ℤ h.quotient;
  exact = ap neg_ℤ h.exact ∙ sym (*ℤ_neg (pos k) h.quotient);
}

pub divides_neg_iff : (k : ℕ) (z : ℤ) → Divides k (neg_ℤ z) ↔ Divides k z
divides_neg_iff k z = (λ h. subst (Divides k) (neg_ℤ-neg_ℤ z) (divides_neg h), divides_neg)

pub divides_trans : {k m : ℕ} {z : ℤ} → Divides k (pos m) → Divides m z → Divides k z
divides_trans {k} h g = record {
  quotient = h.quotient *ℤ g.quotient;
  exact = g.exact ∙ ap (λ x. x *ℤ g.quotient) h.exact ∙ *ℤ_assoc (pos k) h.quotient g.quotient;
}

-- ---- scaling: k divides z exactly when m·k divides m·z

pub divides_scale : {m : ℕ} → 0 < m → (k : ℕ) (z : ℤ) → Divides (m * k) (pos m *ℤ z) ↔ Divides k z
divides_scale {m} p k z = (
  λ h. record { quotient = h.quotient; exact = (*ℤ-≡ p _ _).0 (h.exact ∙ *ℤ_assoc (pos m) (pos k) h.quotient) },
  λ h. record {
    quotient = h.quotient;
    exact = ap (λ x. pos m *ℤ x) h.exact ∙ sym (*ℤ_assoc (pos m) (pos k) h.quotient);
  },
)

-- ---- the period: a multiple of k more or less changes nothing

pub divides_shift : {k : ℕ} {w : ℤ} → Divides k w → (z : ℤ) → Divides k (z +ℤ w) ↔ Divides k z
divides_shift h z = (λ g. subst (Divides _) (law z _) (divides_add g (divides_neg h)), λ g. divides_add g h)
  where
    law : (z w : ℤ) → z +ℤ w -ℤ w ≡ z
    law = z2 _ (simp zz (omega arith))

-- ---- the remainder, rounded down

abbrev pub quotient_of : ℤ → ℕ → ℤ
quotient_of (pos n) k = pos (n / k)
quotient_of (negsuc n) k = negsuc (n / k)

abbrev pub remainder : ℤ → ℕ → ℕ
remainder (pos n) k = n % k
remainder (negsuc n) k = k - suc (n % k)

pub remainder_less : {k : ℕ} → 0 < k → (z : ℤ) → remainder z k < k
remainder_less p (pos n) = mod-lt n p
remainder_less p (negsuc n) = omega arith

pub quotient_remainder : {k : ℕ} → 0 < k → (z : ℤ) → z ≡ pos k *ℤ quotient_of z k +ℤ pos (remainder z k)
quotient_remainder {k} p (pos n) = ap pos (sym (div-add-mod n k))
quotient_remainder {k} p (negsuc n) = ap negsuc (sym (div-add-mod n k)) ∙ law (n / k) (n % k) (mod-lt n p)
  where
    law : (d e : ℕ) → e < k → negsuc (k * d + e) ≡ pos k *ℤ negsuc d +ℤ pos (k - suc e)
    law d e h = simp zz (omega arith)

-- ---- the test decides it, at every divisor

pub size_neg : (z : ℤ) → nat_abs (neg_ℤ z) ≡ nat_abs z
size_neg (pos zero) = refl
size_neg (pos (suc n)) = refl
size_neg (negsuc n) = refl

size_times : (k : ℕ) (q : ℤ) → nat_abs (pos k *ℤ q) ≡ k * nat_abs q
size_times k (pos b) = refl
size_times k (negsuc b) = size_neg (pos (k * suc b))

whole_quotient : (k n : ℕ) → n % k ≡ 0 → Divides k (pos n)
whole_quotient k n e = record { quotient = pos (n / k); exact = ap pos nothing_over }
  where
    nothing_over : n ≡ k * (n / k)
    nothing_over = omega (arith, div-add-mod n k)

by_test : (k : ℕ) (z : ℤ) → nat_abs z % k ≡ 0 → Divides k z
by_test k (pos n) e = whole_quotient k n e
by_test k (negsuc n) e = divides_neg (whole_quotient k (suc n) e)

pub divides_test : (k : ℕ) (z : ℤ) → T (divides k z) ↔ Divides k z
divides_test k z = (
  λ t. by_test k z (eqb→eq (nat_abs z % k) 0 t),
  λ d. subst⁻¹ (λ (m : ℕ). T (eqb m 0)) (none d) (eqb_refl 0),
)
  where
    none : Divides k z → nat_abs z % k ≡ 0
    none d =
        ap (λ y. nat_abs y % k) d.exact
        ∙ ap (λ (m : ℕ). m % k) (size_times k d.quotient)
        ∙ mul-mod_right k (nat_abs d.quotient)
