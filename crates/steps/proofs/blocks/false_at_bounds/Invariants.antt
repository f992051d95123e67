use Rattle.steps.specs.There.{In}
use Rattle.steps.proofs.BlockLaws.{FalseBefore}
use Rattle.steps.proofs.blocks.false_at_bounds.Given as goal

abbrev pub invariant-loop-i : goal.invariant-loop-i
invariant-loop-i l = In FalseBefore l.part l.x l.j l.places l.masks l.i
