-- So many of the nodes as the loop has come to are placed.
use Rattle.std.proofs.Common.{List}
use Rattle.rules.specs.Table.{Node}
use Rattle.rules.specs.Calls.{words}
use Rattle.finishing.proofs.PartwayLaws.{built, Partway}
use Rattle.finishing.proofs.finish.finish.Given as goal

abbrev pub invariant-loop-i : goal.invariant-loop-i
invariant-loop-i l =
    let first = words l.initial.table in
    (ds : List Node)
    → Partway built (words l.work) first first 0 l.initial.to l.n 0 l.initial.from l.initial.to ds
    → Partway built (words l.work) first (words l.table) 0 l.initial.to l.n l.i l.from l.to ds
