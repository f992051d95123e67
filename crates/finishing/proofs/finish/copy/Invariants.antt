-- So many of the words as the loop has come to are copied.
use Rattle.rules.specs.Calls.{words}
use Rattle.finishing.proofs.CopyLaws.{Copied}
use Rattle.finishing.proofs.finish.copy.Given as goal

abbrev pub invariant-loop-j : goal.invariant-loop-j
invariant-loop-j l = Copied (words l.work) l.from (words l.initial.table) l.to (words l.table) l.j
