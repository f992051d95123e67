-- Divisibility: k divides z when z is k times some integer, so 4 does not divide −6 and every k divides 0.
-- Assumes nothing.
use Rattle.std.specs.Prelude.{◌≡◌, Bool, ℕ, ◌%◌, eqb, ℤ, pos, nat_abs, ◌*ℤ◌}

pub record Divides (k : ℕ) (z : ℤ) : Type 0 where
  pub quotient : ℤ
  pub exact : z ≡ pos k *ℤ quotient

-- the same as a test that computes
abbrev pub divides : ℕ → ℤ → Bool
divides k z = eqb (nat_abs z % k) 0
