use mathlib.Core.Bool.{false}
use Rattle.rules.specs.Calls.{words}
use Rattle.bodies.proofs.LiteralsLaws.{Scanned}
use Rattle.steps.proofs.NumberLaws.{Found, over_changed}
use Rattle.literals.specs.Changes.{change_of, put_of}
use Rattle.steps.proofs.numbers.over.Given as goal

abbrev pub invariant-loop-place : goal.invariant-loop-place
invariant-loop-place l = Scanned (words l.bodies) l.end l.place-iterator
    (Found (over_changed (change_of l.change) (put_of l.change)) false)
