use Prim.Native.Nat.{◌≤◌}
use Rattle.rules.specs.Calls.{words}
use Rattle.steps.specs.There.{In}
use Rattle.steps.proofs.FarLaws.{FarSoFar}
use Rattle.steps.proofs.far.far_block.Given as goal

abbrev pub invariant-loop-j : goal.invariant-loop-j
invariant-loop-j l = (l.low ≤ l.j) × (l.j ≤ l.high)
    × In FarSoFar l.part l.x l.low l.high l.mask (words l.initial.out) l.b l.initial.f (words l.out) l.j l.f
