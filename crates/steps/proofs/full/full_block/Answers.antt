-- `full::full_block` meets its contract: the full bodies of the block's j's over this one are answered.
-- Assumes nothing.
use Prim.Native.Nat.{◌-◌}
use native.Mathlib.Omega.{arith}
use Rattle.steps.proofs.FullLaws.{full_block_starts, full_block_over, at_bounds_asks, at_bounds_done}
use Rattle.steps.proofs.full.full_block.Goals as goal

pub loop-j-init : goal.loop-j-init
loop-j-init c = (c.requires.full_block.block.some, omega arith, full_block_starts)

pub at_bounds-f-requires : goal.at_bounds-f-requires
at_bounds-f-requires c = at_bounds_asks c.loop-j.invariant.2 (omega arith) c.loop-j.invariant.1 c.requires

pub loop-j-preserved : goal.loop-j-preserved
loop-j-preserved c = (
  omega arith,
  omega arith,
  at_bounds_done c.loop-j.invariant.2 (omega arith) c.loop-j.invariant.1 _ _ c.at_bounds-f.ensures,
)

pub returns : goal.returns
returns c = full_block_over _ c.loop-j.invariant.0 (omega arith) c.loop-j.invariant.2

pub returns-2 : goal.returns-2
returns-2 c = full_block_over (c.loop-j.j - 1) (omega arith) (omega arith)
    (at_bounds_done c.loop-j.invariant.2 (omega arith) c.loop-j.invariant.1 _ _ c.at_bounds-f.ensures)
