-- Pairs of numbers with the same common divisors: what an algorithm for the greatest keeps from each pair to the next.
-- Assumes nothing.
use mathlib.Core.Path.{◌≡◌, subst, subst⁻¹}
use Prim.Native.Nat.{ℕ, ◌+◌, ◌*◌, ◌/◌, ◌%◌}
use native.Mathlib.Nat.{div-add-mod}
use native.Mathlib.Omega.{arith}
use lib.IntN.{pos, neg_ℤ, ◌+ℤ◌, ◌*ℤ◌}
use Rattle.whole.specs.Divides.{Divides}
use Rattle.whole.specs.Multiples.{GreatestCommonDivisor}
use Rattle.whole.proofs.Difference.{zz}
use Rattle.whole.proofs.Divisibility.{divides_zero, divides_self, divides_add, divides_mul, divides_neg}

-- a and b have the common divisors of c and d
pub record SameDivisors (a b c d : ℕ) : Type 0 where
  pub onward : (k : ℕ) → Divides k (pos a) → Divides k (pos b) → Divides k (pos c) × Divides k (pos d)
  pub back : (k : ℕ) → Divides k (pos c) → Divides k (pos d) → Divides k (pos a) × Divides k (pos b)

pub same_itself : {a b : ℕ} → SameDivisors a b a b
same_itself = record { onward = λ k h i. (h, i); back = λ k h i. (h, i) }

pub same_then : {a b c d e f : ℕ} → SameDivisors a b c d → SameDivisors c d e f → SameDivisors a b e f
same_then s t = record {
  onward = λ k h i. let m = s.onward k h i in t.onward k m.0 m.1;
  back = λ k h i. let m = t.back k h i in s.back k m.0 m.1;
}

-- the greatest common divisor is then the same
pub same_greatest : {a b c d g : ℕ} → SameDivisors a b c d → GreatestCommonDivisor c d g → GreatestCommonDivisor a b g
same_greatest s i = record {
  left = (s.back _ i.left i.right).0;
  right = (s.back _ i.left i.right).1;
  greatest = λ k h j. let m = s.onward k h j in i.greatest k m.0 m.1;
}

-- where a = b·d + r, the common divisors of a and b are those of b and r
pub same_step : (a b d r : ℕ) → b * d + r ≡ a → SameDivisors a b b r
same_step a b d r e = record {
  onward = λ k h i. (i, subst (Divides k) down (divides_add h (divides_neg (divides_mul (pos d) i))));
  back = λ k h i. (subst (Divides k) up (divides_add (divides_mul (pos d) h) i), h);
}
  where
    down : pos a +ℤ neg_ℤ (pos d *ℤ pos b) ≡ pos r
    down = simp zz (omega arith)

    up : pos d *ℤ pos b +ℤ pos r ≡ pos a
    up = simp zz (omega arith)

-- so a round of Euclid's algorithm keeps them
pub same_remainder : (a b : ℕ) → SameDivisors a b b (a % b)
same_remainder a b = same_step a b (a / b) (a % b) (div-add-mod a b)

-- and at the last pair, x and 0, it is x
pub same_last : {a b x y : ℕ} → SameDivisors a b x y → y ≡ 0 → GreatestCommonDivisor a b x
same_last {x} s e = same_greatest s (record {
  left = divides_self;
  right = subst⁻¹ (λ (n : ℕ). Divides x (pos n)) e divides_zero;
  greatest = λ k h i. h;
})
