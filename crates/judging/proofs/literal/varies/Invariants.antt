use Rattle.rules.specs.Calls.{words}
use Rattle.judging.proofs.FactorLaws.{Bare}
use Rattle.judging.proofs.literal.varies.Given as goal

abbrev pub invariant-loop-i : goal.invariant-loop-i
invariant-loop-i l = Bare (words l.b) l.start l.f l.v l.i
