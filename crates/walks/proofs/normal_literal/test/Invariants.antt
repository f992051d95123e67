use mathlib.Core.Path.{◌≡◌}
use Prim.Native.Nat.{ℕ, ◌<◌, ◌≤◌}
use lib.IntN.{pos}
use lib.ListN.{length, get_or}
use Rattle.rules.specs.Sum.{Sum, factor}
use Rattle.rules.specs.Calls.{words}
use Rattle.walks.specs.Sums.{turned, SumAt}
use Rattle.walks.proofs.normal_literal.test.Given as goal

-- c comes first, and behind it the a's before that of v
abbrev pub invariant-loop-v : goal.invariant-loop-v
invariant-loop-v l =
    (length l.sum ≡ 7) × (get_or l.sum 0 (pos 0) ≡ l.c)
    × ((s : Sum) → SumAt (words l.bodies) l.at s → (k : ℕ) → k < l.v → 1 ≤ k
    → get_or l.sum k (pos 0) ≡ factor k (turned l.minus s))
