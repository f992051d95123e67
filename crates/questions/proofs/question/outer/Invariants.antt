-- i of them stand in the table.
use Rattle.rules.specs.Calls.{words}
use Rattle.questions.proofs.OtherLaws.{Outer}
use Rattle.questions.proofs.question.outer.Given as goal

abbrev pub invariant-loop-i : goal.invariant-loop-i
invariant-loop-i l = Outer (words l.initial.table) (words l.table) l.to l.v l.i
