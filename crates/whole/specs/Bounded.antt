-- The least common multiple up to a limit: which answers are right.
-- Assumes nothing.
use Rattle.std.specs.Prelude.{ℕ, ◌≤◌, ◌<◌, Option, Some, None}
use Rattle.whole.specs.Multiples.{LeastCommonMultiple}

-- none is the answer where the multiple is over the limit
unfoldable pub BoundedMultiple : ℕ → ℕ → ℕ → Option ℕ → Type 0
BoundedMultiple a b limit (Some m) = LeastCommonMultiple a b m × (m ≤ limit)
BoundedMultiple a b limit None = (m : ℕ) → LeastCommonMultiple a b m → limit < m
