-- Sizes of integers, which show that a signed number fits a width.
-- Assumes nothing.
use mathlib.Core.Path.{◌≡◌, refl, sym, ap, ◌∙◌}
use mathlib.Core.Bool.{Bool, true, false, cond}
use Prim.Native.Nat.{ℕ, suc, ◌+◌, ◌-◌, ◌*◌, ◌/◌, ◌^◌, ◌<◌, ◌≤◌}
use native.Mathlib.Nat.{le_refl, le_trans, div-le_self}
use native.Mathlib.Omega.{arith}
use borrow.Author.Rules.{sfits_of}
use borrow.Author.Tests.{ltb-true}
use lib.Dec.{ltb}
use lib.IntN.{ℤ, pos, negsuc, neg_ℤ, nat_abs, ◌+ℤ◌, ◌-ℤ◌, ◌*ℤ◌}
use lib.Signed.{mag, nat_abs-le, quot_z}
use mir.Syntax.{Width, w32, w64}
use mir.Val.{SFits, to_z, of_z, hbits}
use mir.Facts.{to_z-of_z, sfits_widen}
use Rattle.whole.proofs.Divisibility.{size_neg}

-- ---- a word cast to 64 bits

pub wide_fits : {z : ℤ} → SFits w32 z → SFits w64 (to_z w32 (of_z w32 z))
wide_fits f = rw (to_z-of_z f) (sfits_widen tt f)

pub wide_is : {z : ℤ} → SFits w32 z → to_z w64 (of_z w64 (to_z w32 (of_z w32 z))) ≡ z
wide_is f = rw (to_z-of_z f) (to_z-of_z {w = w64} (sfits_widen tt f))

-- ---- sizes

pub size_mul : (a b : ℤ) → nat_abs (a *ℤ b) ≡ nat_abs a * nat_abs b
size_mul (pos a) (pos b) = refl
size_mul (pos a) (negsuc b) = size_neg (pos (a * suc b))
size_mul (negsuc a) (pos b) = size_neg (pos (suc a * b))
size_mul (negsuc a) (negsuc b) = refl

size_sub : (a b : ℕ) (t : Bool) → ltb a b ≡ t → nat_abs (cond t (negsuc (b - suc a)) (pos (a - b))) ≤ a + b
size_sub a b true e = let h = ltb-true a b e in omega arith
size_sub a b false e = omega arith

pub size_add : (a b : ℤ) → nat_abs (a +ℤ b) ≤ nat_abs a + nat_abs b
size_add (pos a) (pos b) = le_refl (a + b)
size_add (pos a) (negsuc b) = size_sub a (suc b) (ltb a (suc b)) refl
size_add (negsuc a) (pos b) = let h = size_sub b (suc a) (ltb b (suc a)) refl in omega arith
size_add (negsuc a) (negsuc b) = omega arith

pub size_less : (a b : ℤ) → nat_abs (a -ℤ b) ≤ nat_abs a + nat_abs b
size_less a b = rw (← (size_neg b)) (size_add a (neg_ℤ b))

-- division rounds toward zero
pub size_quot : (a d : ℤ) → nat_abs (quot_z a d) ≤ nat_abs a
size_quot (pos a) (pos d) = div-le_self a d
size_quot (pos a) (negsuc d) = rw (size_neg (pos (a / suc d))) (div-le_self a (suc d))
size_quot (negsuc a) (pos d) = rw (size_neg (pos (suc a / d))) (div-le_self (suc a) d)
size_quot (negsuc a) (negsuc d) = div-le_self (suc a) (suc d)

-- ---- what fits

-- a number that fits has a bounded size
pub size_of : (w : Width) {z : ℤ} → SFits w z → nat_abs z ≤ 2 ^ hbits w
size_of w {z} f = nat_abs-le z f.sfits

mag_size : (z : ℤ) → mag z ≤ nat_abs z
mag_size (pos n) = le_refl n
mag_size (negsuc n) = omega arith

-- and one of a bounded size fits
pub fits_size : (w : Width) (z : ℤ) → nat_abs z < 2 ^ hbits w → SFits w z
fits_size w z h = record { sfits = le_trans (sucs (mag_size z)) h }
  where
    sucs : {m n : ℕ} → m ≤ n → suc m ≤ suc n
    sucs k = omega arith

-- ---- a number that is passed on is read back from its bits, and keeps its size

abbrev pub read : ℤ → ℤ
read z = to_z w64 (of_z w64 z)

pub again : (w : Width) {z : ℤ} {n : ℕ} → SFits w z → nat_abs z ≤ n → nat_abs (to_z w (of_z w z)) ≤ n
again w f h = rw (to_z-of_z f) h

pub again_below : (w : Width) {z : ℤ} {n : ℕ} → SFits w z → nat_abs z < n → nat_abs (to_z w (of_z w z)) < n
again_below w f h = rw (to_z-of_z f) h

-- of what a call gives the bound alone is known
pub again_result : {n : ℕ} (z : ℤ) → mag z < 2 ^ hbits w64 → nat_abs z ≤ n → nat_abs (to_z w64 (of_z w64 z)) ≤ n
again_result z f h = again w64 (sfits_of {z = z} f) h

-- a number is known by its bits
pub by_bits : {z : ℤ} {n : ℕ} → SFits w64 z → of_z w64 z ≡ n → z ≡ to_z w64 n
by_bits f e = sym (to_z-of_z f) ∙ ap (to_z w64) e
