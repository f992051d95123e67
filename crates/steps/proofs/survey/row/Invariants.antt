use Prim.Native.Nat.{◌+◌, ◌≤◌}
use Rattle.steps.specs.There.{In}
use Rattle.steps.proofs.SurveyLaws.{RowSoFar}
use Rattle.steps.proofs.survey.row.Given as goal

abbrev pub invariant-loop-left : goal.invariant-loop-left
invariant-loop-left l =
    (l.left ≤ l.period) × (l.many + l.left ≤ l.period)
    × In RowSoFar l.part l.far l.x l.u l.period l.left l.many

abbrev pub decreases-loop-left : goal.decreases-loop-left
decreases-loop-left l = l.left
