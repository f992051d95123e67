use Prim.Native.Nat.{◌≤◌}
use Rattle.rules.specs.Calls.{words}
use Rattle.steps.specs.There.{In}
use Rattle.steps.proofs.FullLaws.{FullDone}
use Rattle.steps.proofs.full.full_blocks.Given as goal

abbrev pub invariant-loop-j : goal.invariant-loop-j
invariant-loop-j l = (l.j ≤ l.period)
    × In FullDone l.part l.x l.period l.places (words l.initial.out) l.b (words l.out) l.j l.f

abbrev pub decreases-loop-j : goal.decreases-loop-j
decreases-loop-j l = l.j
