-- So many nodes of the rule whose table t is are placed.
use Rattle.rules.specs.Rule.{Rule}
use Rattle.rules.specs.Table.{nodes}
use Rattle.rules.specs.Calls.{words}
use Rattle.tables.proofs.Passed.{TableOf}
use Rattle.finishing.proofs.PartwayLaws.{numbered, Partway}
use Rattle.questions.proofs.place.rule.Given as goal

abbrev pub invariant-loop-k : goal.invariant-loop-k
invariant-loop-k l =
    (a : Rule) → TableOf l.t l.n a
    → Partway numbered (words l.t) (words l.initial.table) (words l.table) l.i l.to l.n l.k l.from l.place (nodes a)
