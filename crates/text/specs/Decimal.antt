-- Whole numbers in decimal, as ASCII text.
-- Assumes nothing.
use Rattle.std.specs.Prelude.{true, false, List, [], ◌∷◌, ◌++◌, ℕ, zero, suc, ◌+◌, ◌/◌, ◌%◌, ltb, ℤ, pos, negsuc}

-- the character of a digit
abbrev pub digit : ℕ → ℕ
digit d = 48 + d

-- a number below 10 is its digit; of any other the tenth comes first, and then the last digit. At most so many tenths
-- are taken
unfoldable pub spelled : ℕ → ℕ → List ℕ
spelled zero n = digit n ∷ []
spelled (suc most) n = elim (ltb n 10) [
  | true ↦ digit n ∷ []
  | false ↦ spelled most (n / 10) ++ (digit (n % 10) ∷ [])
]

-- n tenths are always enough
unfoldable pub decimal : ℕ → List ℕ
unfolding spelled
decimal n = spelled n n

unfoldable pub number : ℤ → List ℕ
unfolding decimal
number (pos n) = decimal n
number (negsuc n) = 45 ∷ decimal (suc n)
