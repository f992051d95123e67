-- A rule of the part ends with the rule that the loop has come to.
use Rattle.std.proofs.Common.{length}
use Rattle.rules.specs.Rule.{Rule}
use Rattle.rules.specs.Calls.{words}
use Rattle.tables.specs.Parts.{RuleIn}
use Rattle.bodies.proofs.SpanLaws.{Ending}
use Rattle.bodies.proofs.span.extent.Given as goal

abbrev pub invariant-loop-child : goal.invariant-loop-child
invariant-loop-child l = (a : Rule) → RuleIn l.part a → Ending l.part a l.last

abbrev pub decreases-loop-child : goal.decreases-loop-child
decreases-loop-child l = length (words l.last.entries.now)
