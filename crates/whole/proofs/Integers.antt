-- Laws of ℤ that lib.IntN and lib.Signed leave out: of products, of the order, and of a factor that can be cancelled.
-- Assumes nothing.
-- To use one, write its ℤ arguments, which `_` does not find under +ℤ and *ℤ; `.0` and `.1` are the two ways of a `↔`.
-- A law that is missing here is one line by Difference, and a linear fact used once is one call of `omega` by Linear.
use mathlib.Core.Path.{◌≡◌, ap}
use mathlib.Core.Logic.{◌↔◌, ◌⊎◌, inl, inr}
use Prim.Native.Nat.{ℕ, suc, ◌*◌, ◌<◌}
use native.Mathlib.Nat.{mul-le-mul_left, mul-lt-mul_of_pos_left, lt_of_mul-lt-mul_left, eq_of_mul-eq-mul_left}
use native.Mathlib.Omega.{arith}
use lib.IntN.{ℤ, pos, negsuc, neg_ℤ, ◌+ℤ◌, ◌*ℤ◌}
use lib.Signed.{◌≤ℤ◌, ◌<ℤ◌, le_z}
use Rattle.whole.proofs.Tests.{T_dec}
use Rattle.whole.proofs.Difference.{zz, z1, z2, z3}

-- ---- products

pub *ℤ_assoc : (a b c : ℤ) → (a *ℤ b) *ℤ c ≡ a *ℤ (b *ℤ c)
*ℤ_assoc = z3 _ (simp zz (omega arith))

pub *ℤ-+ℤ : (a b c : ℤ) → a *ℤ (b +ℤ c) ≡ a *ℤ b +ℤ a *ℤ c
*ℤ-+ℤ = z3 _ (simp zz (omega arith))

pub +ℤ-*ℤ : (a b c : ℤ) → (a +ℤ b) *ℤ c ≡ a *ℤ c +ℤ b *ℤ c
+ℤ-*ℤ = z3 _ (simp zz (omega arith))

pub 1-*ℤ : (a : ℤ) → pos 1 *ℤ a ≡ a
1-*ℤ = z1 _ (simp zz (omega arith))

pub *ℤ_neg : (a b : ℤ) → a *ℤ neg_ℤ b ≡ neg_ℤ (a *ℤ b)
*ℤ_neg = z2 _ (simp zz (omega arith))

-- ---- the order

pub ≤ℤ_or->ℤ : (a b : ℤ) → (a ≤ℤ b) ⊎ (b <ℤ a)
≤ℤ_or->ℤ a b = elim (T_dec (le_z a b)) [
  | yes t ↦ inl (record { le = t })
  | no f ↦ inr (above a b (λ h. f h.le))
]
  where
    above : (a b : ℤ) → ¬ (a ≤ℤ b) → b <ℤ a
    above = z2 _ (simp zz (omega arith))

pub +ℤ_mono : (c a b : ℤ) → a ≤ℤ b → (c +ℤ a) ≤ℤ (c +ℤ b)
+ℤ_mono = z3 _ (simp zz (omega arith))

pub *ℤ_mono : (m : ℕ) (a b : ℤ) → a ≤ℤ b → (pos m *ℤ a) ≤ℤ (pos m *ℤ b)
*ℤ_mono m = z2 _ (λ p q r s. simp zz (λ h. omega (arith, mul-le-mul_left m h)))

-- a negative factor turns the order round
pub *ℤ_anti : (m : ℕ) (a b : ℤ) → a ≤ℤ b → (negsuc m *ℤ b) ≤ℤ (negsuc m *ℤ a)
*ℤ_anti m = z2 _ (λ p q r s. simp zz (λ h. omega (arith, mul-le-mul_left (suc m) h)))

-- ---- a positive factor cancels

pub *ℤ-≡ : {m : ℕ} → 0 < m → (a b : ℤ) → (pos m *ℤ a ≡ pos m *ℤ b) ↔ (a ≡ b)
*ℤ-≡ {m} k = z2 _ (λ p q r s. simp zz (
  λ h. eq_of_mul-eq-mul_left m k _ _ (omega arith),
  λ h. omega (arith, ap (λ x. m * x) h),
))

-- 0 < z exactly when 0 < m·z
pub positive_scale : {m : ℕ} → 0 < m → (z : ℤ) → (pos 0 <ℤ (pos m *ℤ z)) ↔ (pos 0 <ℤ z)
positive_scale {m} k = z1 _ (λ p q. simp zz (
  λ h. lt_of_mul-lt-mul_left m (omega arith),
  λ h. omega (arith, mul-lt-mul_of_pos_left h k),
))
