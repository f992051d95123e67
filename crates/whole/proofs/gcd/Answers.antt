-- `whole::gcd` meets its contract: each pair of the loop has the common divisors of a and b, and the second number falls.
-- Assumes nothing.
use native.Mathlib.Omega.{arith}
use Rattle.whole.proofs.CommonDivisors.{same_itself, same_then, same_remainder, same_last}
use Rattle.whole.proofs.gcd.Goals as goal

pub loop-y-init : goal.loop-y-init
loop-y-init c = same_itself

pub loop-y-preserved : goal.loop-y-preserved
loop-y-preserved c = same_then c.loop-y.invariant (same_remainder _ _)

pub returns : goal.returns
returns c = same_last c.loop-y.invariant (omega arith)
