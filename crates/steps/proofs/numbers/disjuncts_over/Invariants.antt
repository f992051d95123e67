use Prim.Native.Nat.{ℕ}
use lib.ListN.{length}
use Rattle.rules.specs.Rule.{Rule}
use Rattle.rules.specs.Steps.{bounds}
use Rattle.rules.specs.Calls.{words}
use Rattle.bodies.specs.Body.{BodyOf, BoundsAt}
use Rattle.steps.proofs.NumberLaws.{Left}
use Rattle.steps.proofs.numbers.disjuncts_over.Given as goal

abbrev pub invariant-loop-p : goal.invariant-loop-p
invariant-loop-p l = (n : ℕ) (a : Rule) → BodyOf (words l.bodies) l.end n a
    → BoundsAt (words l.bodies) l.x l.places (length l.places) (bounds l.x a) → Left l.period l.x a l.p-index
