-- `whole::lcm` meets its contract: by the divisor g that `gcd` ensures the multiple is a·(b/g), which fits 64 bits.
-- Assumes nothing.
use native.Mathlib.Omega.{arith}
use Rattle.whole.proofs.Bounded.{multiple_zero, multiple_within, multiple_over, multiple_fits}
use Rattle.whole.proofs.lcm.Goals as goal

pub returns-then-g-eq0 : goal.returns-then-g-eq0
returns-then-g-eq0 c = multiple_zero _ c.before.gcd-g.ensures (omega arith)

pub overflow_mul-m : goal.overflow_mul-m
overflow_mul-m c = record { fits = multiple_fits _ _ _ (omega arith) (omega arith) }

pub returns-then-m-limit : goal.returns-then-m-limit
returns-then-m-limit c = multiple_within _ c.gcd-g.ensures (omega arith)

pub returns-else-m-limit : goal.returns-else-m-limit
returns-else-m-limit c = multiple_over _ c.gcd-g.ensures (omega arith)
