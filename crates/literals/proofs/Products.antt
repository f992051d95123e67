-- f·b and a + f·b at 64 bits, where the sizes leave room.
-- Assumes nothing.
use mathlib.Core.Path.{◌≡◌, sym, ap, ap₂, ◌∙◌}
use Prim.Native.Nat.{ℕ, ◌+◌, ◌*◌, ◌^◌, ◌<◌, ◌≤◌}
use native.Mathlib.Nat.{mul-le-mul}
use native.Mathlib.Omega.{arith}
use lib.IntN.{ℤ, nat_abs, ◌+ℤ◌, ◌*ℤ◌}
use mir.Syntax.{w64}
use mir.Val.{SFits}
use mir.Facts.{to_z-of_z}
use Rattle.literals.proofs.Sizes.{read, size_add, size_mul, fits_size}

module _ {f b : ℤ} (ff : SFits w64 f) (fb : SFits w64 b) {n p : ℕ} (lf : nat_abs f ≤ n) (lb : nat_abs b ≤ p) where
  product_size : nat_abs (f *ℤ b) ≤ n * p
  product_size = rw (size_mul f b) (mul-le-mul lf lb)

  module _ (room : n * p < 2 ^ 63) where
    product_fits : SFits w64 (f *ℤ b)
    product_fits = fits_size w64 (f *ℤ b) (omega (arith, product_size))

    pub product_asks : SFits w64 (read f *ℤ read b)
    product_asks = rw (to_z-of_z ff, to_z-of_z fb) product_fits

    pub product_is : read (read f *ℤ read b) ≡ f *ℤ b
    product_is = ap read (ap₂ ◌*ℤ◌ (to_z-of_z ff) (to_z-of_z fb)) ∙ to_z-of_z product_fits

  module _ {a : ℤ} (fa : SFits w64 a) {m : ℕ} (la : nat_abs a ≤ m) (room : m + n * p < 2 ^ 63) where
    product_read : read (read f *ℤ read b) ≡ f *ℤ b
    product_read = product_is (omega arith)

    sum_size : nat_abs (a +ℤ f *ℤ b) ≤ m + n * p
    sum_size = omega (arith, size_add a (f *ℤ b), product_size)

    sum_fits : SFits w64 (a +ℤ f *ℤ b)
    sum_fits = fits_size w64 (a +ℤ f *ℤ b) (omega (arith, sum_size))

    pub sum_asks : SFits w64 (read a +ℤ read (read f *ℤ read b))
    sum_asks = rw (to_z-of_z fa, product_read) sum_fits

    pub sum_is : read (read a +ℤ read (read f *ℤ read b)) ≡ a +ℤ f *ℤ b
    sum_is = ap read (ap₂ ◌+ℤ◌ (to_z-of_z fa) product_read) ∙ to_z-of_z sum_fits

    pub sum_small : nat_abs (read (read a +ℤ read (read f *ℤ read b))) ≤ m + n * p
    sum_small = rw sum_is sum_size

    pub sum_again : read (read a +ℤ read (read f *ℤ read b)) ≡ read a +ℤ read f *ℤ b
    sum_again = sum_is ∙ ap₂ (λ (y z : ℤ). y +ℤ z *ℤ b) (sym (to_z-of_z fa)) (sym (to_z-of_z ff))
