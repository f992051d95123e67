-- How a step changes a sum word by word, and what the numbers must be for 64 bits to hold it.
-- Assumes nothing.
use Rattle.std.specs.Prelude.{◌≡◌, cond, List, ℕ, ◌+◌, ◌<◌, ◌≤◌, T, eqb, ℤ, pos, nat_abs, ◌+ℤ◌, ◌*ℤ◌, length, get_or}
use Rattle.rules.specs.Sum.{Sum, limit, all_within}
use Rattle.rules.specs.Eliminate.{most_period}
use Rattle.literals.specs.declared.row.Row.{Row}
use Rattle.literals.specs.declared.row.Row.TheVariants.{Times, Plus}

-- word i, which was a
unfoldable pub row_word : Row → ℕ → ℤ → ℤ
row_word (Times x g m) i a = cond (eqb i x) g (pos m *ℤ a)
row_word (Plus x f u) i a = cond (eqb i x) (pos 0) a +ℤ f *ℤ get_or u.now i (pos 0)

-- the size of a word of 32 bits
abbrev pub most_word : ℕ
most_word = 2147483648

-- the most that a word of a bound and a j comes to: one lies within the limit, the other is 4,096 at most
abbrev pub most_put : ℕ
most_put = 2147487744

-- no product of the row passes 64 bits
abbrev pub Tame : Row → Type 0
Tame (Times x g m) = m ≤ most_period
Tame (Plus x f u) = (nat_abs f ≤ most_word) × T (all_within most_put u.now)

-- the words of the sum z are what the row makes of the seven from word `at` on
pub record Makes (row : Row) (ws : List ℤ) (at : ℕ) (z : Sum) : Type 0 where
  pub seven : length z ≡ 7
  pub each : (i : ℕ) → i < 7 → get_or z i (pos 0) ≡ row_word row i (get_or ws (at + i) (pos 0))

-- what reading a changed word asks
pub record Readable (row : Row) (ws : List ℤ) (at : ℕ) : Type 0 where
  pub long : at + 7 ≤ length ws
  pub tame : Tame row

-- the changed sum lies within the limit
pub record SomeWithin (row : Row) (ws : List ℤ) (at : ℕ) : Type 0 where
  pub made : Sum
  pub makes : Makes row ws at made
  pub within : T (all_within limit made)
