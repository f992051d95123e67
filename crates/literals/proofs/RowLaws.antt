-- One word as a step changes it: it fits 64 bits, and it is what the row makes of it.
-- Assumes nothing.
use mathlib.Core.Path.{◌≡◌, refl, sym, ap, ◌∙◌}
use mathlib.Core.Bool.{Bool, not, cond}
use Prim.Native.Nat.{ℕ, zero, suc, ◌/◌, ◌<◌, ◌≤◌}
use native.Mathlib.Nat.{le_trans, div-le_self}
use native.Mathlib.Omega.{arith}
use borrow.Author.Tests.{eq-eqb, ne_eqb}
use lib.Dec.{eqb}
use lib.IntN.{ℤ, pos, negsuc, nat_abs, ◌+ℤ◌, ◌*ℤ◌, +ℤ_idl}
use lib.Signed.{mag, nat_abs-le}
use mir.Syntax.{w32, w64}
use mir.Val.{SFits, to_z, of_z}
use mir.Facts.{to_z-of_z}
use Rattle.std.specs.Int.{int_signum}
use Rattle.whole.specs.Integers.{eq_ℤ}
use Rattle.rules.specs.Steps.{sign}
use Rattle.rules.specs.Eliminate.{most_period}
use Rattle.literals.proofs.Sizes.{read, wide_is, fits_size, by_bits}
use Rattle.literals.proofs.Products.{product_asks, product_is}

-- ---- a sign

sign_is : (f : ℤ) → int_signum f ≡ sign f
sign_is (pos zero) = refl
sign_is (pos (suc n)) = ap pos (omega arith)
sign_is (negsuc n) = refl

pub sign_read : {f g : ℤ} → SFits w64 f → g ≡ int_signum (read f) → g ≡ sign f
sign_read {f} h e = e ∙ ap int_signum (to_z-of_z h) ∙ sign_is f

-- ---- the multiplier

size_bits : (f : ℤ) → nat_abs f ≡ 0 → of_z w64 f ≡ 0
size_bits (pos n) z = z
size_bits (negsuc n) z = absurd (omega arith)

module _ (D : ℕ) where
  one : (f : ℤ) → nat_abs f ≡ 0 → 1 ≡ cond (not (eq_ℤ f (pos 0))) (D / nat_abs f) 1
  one (pos zero) z = refl
  one (pos (suc n)) z = absurd (omega arith)
  one (negsuc n) z = absurd (omega arith)

  quotient : (f : ℤ) → ¬ (nat_abs f ≡ 0) → D / nat_abs f ≡ cond (not (eq_ℤ f (pos 0))) (D / nat_abs f) 1
  quotient (pos n) z = sym (ap (λ (b : Bool). cond (not b) (D / n) 1) (ne_eqb n 0 z))
  quotient (negsuc n) z = refl

  module _ {f : ℤ} (g : SFits w64 f) where
    pub multiplier_one : of_z w64 f ≡ 0 → (1 ≡ cond (not (eq_ℤ f (pos 0))) (D / nat_abs f) 1) × (1 ≤ most_period)
    multiplier_one z = (one f (ap nat_abs (by_bits g z)), omega arith)

    pub size_positive : {by : ℕ} → by ≡ nat_abs (read f) → ¬ (of_z w64 f ≡ 0) → 0 < by
    size_positive {by} e n =
        let nonzero : ¬ (by ≡ 0) = λ z. n (size_bits f (sym (ap nat_abs (to_z-of_z g)) ∙ sym e ∙ z)) in omega arith

    pub multiplier_is : {by : ℕ} → by ≡ nat_abs (read f) → D ≤ most_period → ¬ (of_z w64 f ≡ 0)
        → (D / by ≡ cond (not (eq_ℤ f (pos 0))) (D / nat_abs f) 1) × (D / by ≤ most_period)
    multiplier_is {by} e h n = (
      ap (λ (k : ℕ). D / k) (e ∙ ap nat_abs (to_z-of_z g)) ∙ quotient f (λ z. n (size_bits f z)),
      le_trans (div-le_self D by) h,
    )

-- ---- a word of the table

pub term_is : {a b : ℤ} → SFits w32 a → a ≡ b
    → (read (to_z w32 (of_z w32 a)) ≡ b) × (mag (read (to_z w32 (of_z w32 a))) < 2147483648)
term_is f e = rw (wide_is f) (e, f.sfits)

-- ---- at the setting of the row, and at any other word

-- taken times a number, or the sign
pub at_setting : {i x : ℕ} {g : ℤ} (a : ℤ) → SFits w64 g → i ≡ x → read g ≡ cond (eqb i x) g a
at_setting {i} {x} {g} a f e = to_z-of_z f ∙ sym (ap (λ (b : Bool). cond b g a) (eq-eqb i x e))

module _ {a : ℤ} (f : SFits w64 a) (low : mag a < 2147483648) (m : ℕ) (h : m ≤ most_period) where
  pub times_asks : SFits w64 (to_z w64 m *ℤ read a)
  times_asks = product_asks (fits_size w64 (pos m) (omega arith)) f h (nat_abs-le a low) (omega arith)

  pub times_is : {i x : ℕ} (g : ℤ) → ¬ (i ≡ x) → read (to_z w64 m *ℤ read a) ≡ cond (eqb i x) g (pos m *ℤ a)
  times_is {i} {x} g n =
      product_is (fits_size w64 (pos m) (omega arith)) f h (nat_abs-le a low) (omega arith)
      ∙ sym (ap (λ (b : Bool). cond b g (pos m *ℤ a)) (ne_eqb i x n))

-- the factor of x times the word that is put in, added to 0 or to the word
pub plus_setting : {i x : ℕ} (a y : ℤ) → i ≡ x → y ≡ cond (eqb i x) (pos 0) a +ℤ y
plus_setting {i} {x} a y e = sym (ap (λ (b : Bool). cond b (pos 0) a +ℤ y) (eq-eqb i x e) ∙ +ℤ_idl y)

pub plus_other : {i x : ℕ} (a y : ℤ) → ¬ (i ≡ x) → a +ℤ y ≡ cond (eqb i x) (pos 0) a +ℤ y
plus_other {i} {x} a y n = sym (ap (λ (b : Bool). cond b (pos 0) a +ℤ y) (ne_eqb i x n))
