use Rattle.rules.specs.Calls.{words}
use Rattle.steps.specs.There.{In}
use Rattle.steps.proofs.BoundsLaws.{FromBound}
use Rattle.steps.proofs.full.at_bounds.Given as goal

abbrev pub invariant-loop-i : goal.invariant-loop-i
invariant-loop-i l = In FromBound l.part l.x l.j l.m l.places l.masks (words l.initial.out) l.b l.initial.f
    (words l.out) l.i l.f
