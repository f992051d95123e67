use Prim.Native.Nat.{◌≤◌}
use Rattle.rules.specs.Calls.{words}
use Rattle.steps.specs.There.{In}
use Rattle.steps.proofs.FarLaws.{FarDone}
use Rattle.steps.proofs.far.far_bodies.Given as goal

abbrev pub invariant-loop-j : goal.invariant-loop-j
invariant-loop-j l = (l.j ≤ l.period)
    × In FarDone l.part l.x l.period (words l.initial.out) l.b l.initial.f (words l.out) l.j l.f

abbrev pub decreases-loop-j : goal.decreases-loop-j
decreases-loop-j l = l.j
