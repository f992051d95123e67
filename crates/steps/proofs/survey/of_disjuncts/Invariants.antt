use Prim.Native.Nat.{◌+◌, ◌*◌, ◌≤◌}
use Rattle.steps.specs.There.{In}
use Rattle.steps.proofs.RowLaws.{RowsSoFar}
use Rattle.steps.proofs.survey.of_disjuncts.Given as goal

abbrev pub invariant-loop-p : goal.invariant-loop-p
invariant-loop-p l = (l.many ≤ (l.p-index + 1) * 4096)
    × In RowsSoFar l.part l.x l.period l.places l.p-index l.many
