-- The least common multiple up to a limit: the answer that a greatest common divisor leads to, and no other is right.
-- Assumes nothing.
use mathlib.Core.Path.{◌≡◌, refl, ◌∙◌, ap, subst}
use Prim.Native.Nat.{ℕ, ◌*◌, ◌/◌, ◌≤◌, ◌<◌}
use native.Mathlib.Nat.{div-le_self, div-zero, mul-le-mul, mul-zero}
use native.Mathlib.Omega.{arith}
use Rattle.whole.specs.Multiples.{GreatestCommonDivisor, LeastCommonMultiple, lcm}
use Rattle.whole.specs.Bounded.{BoundedMultiple}
use Rattle.std.proofs.Common.{Option, Some, None}
use Rattle.whole.proofs.Multiples.{gcd_is, gcd_unique, lcm_is, lcm_unique}

-- the promise determines the answer
pub bounded_unique : (a b limit : ℕ) (p q : Option ℕ)
    → BoundedMultiple a b limit p → BoundedMultiple a b limit q → p ≡ q
unfolding BoundedMultiple
bounded_unique a b limit (Some m) (Some n) h k = ap Some (lcm_unique h.0 k.0)
bounded_unique a b limit (Some m) None h k = let over = k m h.0 in absurd (omega arith)
bounded_unique a b limit None (Some n) h k = let over = h n k.0 in absurd (omega arith)
bounded_unique a b limit None None h k = refl

-- the multiple is a·(b/g), also where a and b are 0 and so is g
pub multiple_by : {a b g : ℕ} → GreatestCommonDivisor a b g → LeastCommonMultiple a b (a * (b / g))
unfolding lcm
multiple_by {a} {b} h =
    subst (λ (g : ℕ). LeastCommonMultiple a b (a * (b / g))) (gcd_unique (gcd_is a b) h) (lcm_is a b)

module _ {a b g : ℕ} (limit : ℕ) (h : GreatestCommonDivisor a b g) where
  pub multiple_zero : g ≡ 0 → BoundedMultiple a b limit (Some 0)
  unfolding BoundedMultiple
  multiple_zero e = (subst (LeastCommonMultiple a b) none (multiple_by h), omega arith)
    where
      none : a * (b / g) ≡ 0
      none = ap (λ (n : ℕ). a * (b / n)) e ∙ ap (λ (n : ℕ). a * n) (div-zero b) ∙ mul-zero a

  pub multiple_within : a * (b / g) ≤ limit → BoundedMultiple a b limit (Some (a * (b / g)))
  unfolding BoundedMultiple
  multiple_within k = (multiple_by h, k)

  pub multiple_over : limit < a * (b / g) → BoundedMultiple a b limit None
  unfolding BoundedMultiple
  multiple_over k = λ m i. subst (λ (n : ℕ). limit < n) (lcm_unique (multiple_by h) i) k

-- of two numbers of 32 bits it fits 64
pub multiple_fits : (a b g : ℕ) → a < 4294967296 → b < 4294967296 → a * (b / g) < 18446744073709551616
multiple_fits a b g h k =
    let first : a ≤ 4294967295 = omega arith in
    let second : b / g ≤ 4294967295 = omega (arith, div-le_self b g) in
    omega (arith, mul-le-mul first second)
