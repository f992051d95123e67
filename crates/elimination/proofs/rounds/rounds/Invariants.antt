-- The rounds that are left, from the rule that the last one gave, are all of them.
use Prim.Native.Nat.{◌-◌}
use Rattle.rules.specs.Rule.{Rule}
use Rattle.rules.specs.Eliminate.{rounds}
use Rattle.rules.specs.Calls.{words}
use Rattle.elimination.specs.Stepping.{StepReady}
use Rattle.elimination.proofs.RoundLaws.{Going}
use Rattle.elimination.proofs.rounds.rounds.Given as goal

abbrev pub invariant-loop : goal.invariant-loop
invariant-loop l = (r : Rule) → StepReady (words l.fn.table) (words l.fn.work) l.room r
    → Going (words l.table) (words l.work) l.room (l.most - l.counter) (rounds l.most l.room r)
