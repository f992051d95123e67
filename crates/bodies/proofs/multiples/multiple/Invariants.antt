-- m is the multiple of what the literals that have come bring, and within the limit.
use Rattle.rules.specs.Calls.{words}
use Rattle.bodies.specs.Multiples.{brought}
use Rattle.bodies.proofs.LiteralsLaws.{Scanned}
use Rattle.bodies.proofs.MultipleLaws.{Held}
use Rattle.bodies.proofs.multiples.multiple.Given as goal

abbrev pub invariant-loop-place : goal.invariant-loop-place
invariant-loop-place l = Scanned (words l.bodies) l.end l.place-iterator (Held (brought l.setting) l.m)
