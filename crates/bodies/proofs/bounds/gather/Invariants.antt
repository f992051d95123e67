-- The bounds of the literals that have come are kept.
use Rattle.rules.specs.Calls.{words}
use Rattle.bodies.proofs.LiteralsLaws.{Scanned}
use Rattle.bodies.proofs.KeptLaws.{KeptOf}
use Rattle.bodies.proofs.bounds.gather.Given as goal

abbrev pub invariant-loop-place : goal.invariant-loop-place
invariant-loop-place l =
    Scanned (words l.bodies) l.end l.place-iterator (KeptOf (words l.bodies) l.x l.bounds l.places l.k)
