-- So many fields stand behind the kind.
use Rattle.rules.specs.Calls.{words}
use Rattle.finishing.proofs.RunLaws.{Stored}
use Rattle.questions.proofs.PlaceLaws.{words_of}
use Rattle.questions.proofs.place.node.Given as goal

abbrev pub invariant-loop-j : goal.invariant-loop-j
invariant-loop-j l = Stored (words l.fn.table) (words l.table) l.i l.to (words_of l.fn.kind l.fields l.j)
