use Rattle.std.proofs.Common.{length, ◌≤◌}
use Rattle.rules.specs.Calls.{words}
use Rattle.tables.proofs.NodeSteps.{NodeDue}
use Rattle.tables.proofs.check.nodes.Given as goal

abbrev pub invariant-loop-i : goal.invariant-loop-i
invariant-loop-i l = record { inside : l.place ≤ length (words l.t); due : NodeDue (words l.t) l.n l.i l.place }
