-- Tests on integers that compute.
-- Assumes nothing.
use Rattle.std.specs.Prelude.{Bool, false, ℕ, eqb, leb, ℤ, pos, negsuc, nat_abs}

-- a = b
abbrev pub eq_ℤ : ℤ → ℤ → Bool
eq_ℤ (pos a) (pos b) = eqb a b
eq_ℤ (pos a) (negsuc b) = false
eq_ℤ (negsuc a) (pos b) = false
eq_ℤ (negsuc a) (negsuc b) = eqb a b

-- z lies within ±n
abbrev pub within : ℕ → ℤ → Bool
within n z = leb (nat_abs z) n
