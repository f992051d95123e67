use Prim.Native.Nat.{◌≤◌}
use Rattle.steps.proofs.SurveyLaws.{BlockSoFar}
use Rattle.steps.proofs.survey.of_block.Given as goal

abbrev pub invariant-loop-k : goal.invariant-loop-k
invariant-loop-k l = (l.many ≤ l.k) × BlockSoFar l.judged.yes l.judged.no l.k l.many
