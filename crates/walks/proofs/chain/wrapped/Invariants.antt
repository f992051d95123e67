use Rattle.rules.specs.Calls.{words}
use Rattle.walks.proofs.UpLaws.{Raised}
use Rattle.walks.proofs.chain.wrapped.Given as goal

abbrev pub invariant-loop-i : goal.invariant-loop-i
invariant-loop-i l =
    Raised (words l.part.entries.now) (words l.part.bodies.now) l.part.node l.part.place l.k
    (words l.initial.out) l.b l.initial.f l.i (words l.out) l.f
