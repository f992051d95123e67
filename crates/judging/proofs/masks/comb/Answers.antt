-- `masks::comb` meets its contract: each turn doubles how far the mask is right.
-- Assumes nothing.
use native.Mathlib.Omega.{arith}
use Rattle.judging.proofs.MultipleLaws.{begun, doubled}
use Rattle.judging.proofs.masks.comb.Goals as goal

pub loop-w-init : goal.loop-w-init
loop-w-init c = (omega arith, omega arith, begun c.args.d c.requires.0)

pub loop-w-preserved : goal.loop-w-preserved
loop-w-preserved c = (
  omega arith,
  omega arith,
  doubled c.args.d c.loop-w.m c.loop-w.w c.loop-w.invariant.2,
)
