-- The four bytes of a word, the low byte first.
-- Assumes nothing.
use Rattle.std.specs.Prelude.{List, ℕ, ◌+◌, ◌*◌, get_or}

-- the bits of word i of l
abbrev pub bits_at : List ℕ → ℕ → ℕ
bits_at l i =
    get_or l (i * 4) 0 + 256 * (get_or l (i * 4 + 1) 0 + 256 * (get_or l (i * 4 + 2) 0 + 256 * get_or l (i * 4 + 3) 0))
