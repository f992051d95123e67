-- The set has the settings that occur in the literals that have come.
use Rattle.rules.specs.Calls.{words}
use Rattle.bodies.proofs.LiteralsLaws.{Scanned}
use Rattle.leaveoff.proofs.OccurringLaws.{Occurring}
use Rattle.leaveoff.proofs.result.occurring.Given as goal

abbrev pub invariant-loop-place : goal.invariant-loop-place
invariant-loop-place l = Scanned (words l.bodies) l.end l.place-iterator (Occurring l.set)
