-- Lines of numbers, and a table's nodes as such lines.
-- Assumes nothing.
use Rattle.std.specs.Prelude.{List, [], ◌∷◌, ◌++◌, ℕ, ◌+◌, ℤ, pos}
use Rattle.rules.specs.Table.{Node, body}
use Rattle.text.specs.Decimal.{number}

-- numbers, each behind a space
unfoldable pub spaced : List ℤ → List ℕ
unfolding number
spaced [] = []
spaced (z ∷ zs) = (32 ∷ number z) ++ spaced zs

-- a line of numbers, one space between
unfoldable pub line : ℤ → List ℤ → List ℕ
unfolding number spaced
line z zs = number z ++ spaced zs ++ (10 ∷ [])

-- "a line per node: its number and its body", the first of them that of node i
unfoldable pub lines : ℕ → List Node → List ℕ
unfolding line body
lines i [] = []
lines i (d ∷ ds) = line (pos i) (body i d) ++ lines (i + 1) ds
