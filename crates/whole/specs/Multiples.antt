-- The greatest common divisor and the least common multiple: what they are, and functions that compute them.
-- Assumes nothing.
use Rattle.std.specs.Prelude.{List, [], ◌∷◌, ℕ, zero, suc, ◌*◌, ◌/◌, ◌%◌, pos}
use Rattle.whole.specs.Divides.{Divides}

-- g divides a and b, and is a multiple of whatever divides both; with 0 and 0 it is 0
pub record GreatestCommonDivisor (a b g : ℕ) : Type 0 where
  pub left : Divides g (pos a)
  pub right : Divides g (pos b)
  pub greatest : (d : ℕ) → Divides d (pos a) → Divides d (pos b) → Divides d (pos g)

-- a and b divide m, and m divides whatever both divide; with a 0 it is 0
pub record LeastCommonMultiple (a b m : ℕ) : Type 0 where
  pub left : Divides a (pos m)
  pub right : Divides b (pos m)
  pub least : (n : ℕ) → Divides a (pos n) → Divides b (pos n) → Divides m (pos n)

-- Euclid's algorithm; the first argument bounds the number of rounds
unfoldable pub euclid : ℕ → ℕ → ℕ → ℕ
euclid zero a b = a
euclid (suc f) a zero = a
euclid (suc f) a (suc b) = euclid f (suc b) (a % suc b)

unfoldable pub gcd : ℕ → ℕ → ℕ
unfolding euclid
gcd a b = euclid b a b

unfoldable pub lcm : ℕ → ℕ → ℕ
unfolding gcd
lcm a b = a * (b / gcd a b)

-- the least common multiple of a list, 1 if it is empty
unfoldable pub lcms : List ℕ → ℕ
unfolding lcm
lcms [] = 1
lcms (a ∷ l) = lcm a (lcms l)
