-- A word's 32 bits, its bytes and its number, as the machine goes between them.
-- Assumes nothing.
use mathlib.Core.Path.{◌≡◌, refl, sym, ap, ◌∙◌}
use mathlib.Core.List.{[], ◌∷◌}
use mathlib.Core.Bool.{Bool, true, false}
use Prim.Native.Nat.{ℕ}
use native.Mathlib.Omega.{arith}
use lib.Dec.{ltb}
use lib.IntN.{ℤ, pos, negsuc}
use mir.Syntax.{w32}
use mir.Val.{to_z, of_z, SFits}
use mir.Facts.{to_z-of_z}
use Rattle.std.specs.Int.{to_le_bytes}
use Rattle.rules.specs.Calls.{signed, bits, bytes_of}

-- the machine's signed reading of 32 bits is the paper's
pub signed_is : (u : ℕ) → signed u ≡ to_z w32 u
signed_is u = by (ltb u 2147483648) refl
  where
    by : (b : Bool) → ltb u 2147483648 ≡ b → signed u ≡ to_z w32 u
    by true e = rw e
    by false e = rw e (ap negsuc (omega arith))

pub bits_is : (v : ℤ) → bits v ≡ of_z w32 v
bits_is (pos n) = refl
bits_is (negsuc n) = omega arith

pub signed_bits : (v : ℤ) → SFits w32 v → signed (bits v) ≡ v
signed_bits v f = signed_is (bits v) ∙ ap (to_z w32) (bits_is v) ∙ to_z-of_z f

-- the bytes that the machine makes of a number are the paper's
pub bytes_are : (v : ℤ) → to_le_bytes w32 (of_z w32 v) ≡ bytes_of (v ∷ [])
unfolding bytes_of
bytes_are v = ap (to_le_bytes w32) (sym (bits_is v))
