use mathlib.Core.Path.{◌≡◌}
use Prim.Native.Nat.{ℕ, ◌+◌, ◌<◌}
use lib.IntN.{pos}
use lib.ListN.{length, get_or}
use Rattle.rules.specs.Calls.{words}
use Rattle.literals.specs.Rows.{row_word}
use Rattle.literals.proofs.row.made.Given as goal

abbrev pub invariant-loop-i : goal.invariant-loop-i
invariant-loop-i l =
    (length l.m-items ≡ 7)
    × ((k : ℕ) → k < l.i → get_or l.m-items k (pos 0) ≡ row_word l.row k (get_or (words l.b) (l.at + k) (pos 0)))
