-- `full::full_blocks` meets its contract: the full bodies of the j's over this one are answered.
-- Assumes nothing.
use mathlib.Core.Path.{sym, ◌∙◌}
use native.Mathlib.Omega.{arith}
use Rattle.steps.proofs.PeriodLaws.{next_block}
use Rattle.steps.proofs.FullLaws.{no_full_yet, full_over, full_settled, masks_ask, full_block_asks, full_block_done}
use Rattle.steps.proofs.full.full_blocks.Goals as goal

pub loop-j-init : goal.loop-j-init
loop-j-init c = (omega arith, no_full_yet)

pub returns-then-settles : goal.returns-then-settles
returns-then-settles c =
    full_settled _ c.loop-j.invariant.0 (sym c.settles.ensures ∙ c.if-settles.true) c.loop-j.invariant.1

pub false_at_bounds-requires : goal.false_at_bounds-requires
false_at_bounds-requires c = masks_ask _ (omega arith) c.loop-j.masks (omega arith) c.requires.0

pub full_block-f-requires : goal.full_block-f-requires
full_block-f-requires c =
    full_block_asks c.loop-j.invariant.1 (next_block _ _ c.saturating_sub-low.ensures c.loop-j.invariant.0)
    (omega arith)
    c.false_at_bounds.ensures c.requires.0

pub loop-j-preserved : goal.loop-j-preserved
loop-j-preserved c = (
  omega arith,
  full_block_done c.loop-j.invariant.1 (next_block _ _ c.saturating_sub-low.ensures c.loop-j.invariant.0) (omega arith)
      c.false_at_bounds.ensures _ _ c.full_block-f.ensures,
)

pub returns : goal.returns
returns c = full_over _ (omega arith) c.loop-j.invariant.1
