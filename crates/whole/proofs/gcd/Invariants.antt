use Rattle.whole.proofs.CommonDivisors.{SameDivisors}
use Rattle.whole.proofs.gcd.Given as goal

abbrev pub invariant-loop-y : goal.invariant-loop-y
invariant-loop-y l = SameDivisors l.a l.b l.x l.y

abbrev pub decreases-loop-y : goal.decreases-loop-y
decreases-loop-y l = l.y
