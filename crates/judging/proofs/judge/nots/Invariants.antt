use Prim.Native.Nat.{ℕ, ◌-◌, ◌≤◌}
use mathlib.Core.List.{List}
use lib.IntN.{ℤ}
use lib.ListN.{length}
use Rattle.rules.specs.Rule.{Rule}
use Rattle.rules.specs.Calls.{words}
use Rattle.tables.specs.Standing.{Stands}
use Rattle.judging.specs.Walks.{nots}
use Rattle.judging.proofs.judge.nots.Given as goal

abbrev pub invariant-loop-n : goal.invariant-loop-n
invariant-loop-n l = (es : List ℤ) (m p : ℕ) (a : Rule) → Stands es (words l.bodies) m p a → l.n ≤ nots a

abbrev pub decreases-loop-n : goal.decreases-loop-n
decreases-loop-n l = length (words l.bodies) - l.n
