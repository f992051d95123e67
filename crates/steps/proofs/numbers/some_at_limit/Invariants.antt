use mathlib.Core.Bool.{false}
use Rattle.rules.specs.Calls.{words}
use Rattle.bodies.proofs.LiteralsLaws.{Scanned}
use Rattle.steps.proofs.NumberLaws.{Found}
use Rattle.steps.specs.Numbers.{at_limit}
use Rattle.steps.proofs.numbers.some_at_limit.Given as goal

abbrev pub invariant-loop-place : goal.invariant-loop-place
invariant-loop-place l = Scanned (words l.bodies) l.end l.place-iterator (Found at_limit false)
