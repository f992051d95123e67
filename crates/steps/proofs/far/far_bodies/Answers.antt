-- `far::far_bodies` meets its contract: the far-left bodies of the j's over this one are answered.
-- Assumes nothing.
use native.Mathlib.Omega.{arith}
use Rattle.steps.proofs.BlockLaws.{some_far_judging, far_judged}
use Rattle.steps.proofs.PeriodLaws.{next_block}
use Rattle.steps.proofs.FarLaws.{no_far_yet, far_over, far_mask_asks, far_block_asks, far_block_done}
use Rattle.steps.proofs.far.far_bodies.Goals as goal

pub loop-j-init : goal.loop-j-init
loop-j-init c = (omega arith, no_far_yet)

pub judge-judged-requires : goal.judge-judged-requires
judge-judged-requires c =
    let (some, setting, upto) = far_mask_asks c.saturating_sub-low.result (omega arith) c.requires in
    some_far_judging upto setting _ c.numeral-zero.ensures some

pub far_block-f-requires : goal.far_block-f-requires
far_block-f-requires c =
    let (_, setting, upto) = far_mask_asks c.saturating_sub-low.result (omega arith) c.requires in
    far_block_asks c.loop-j.invariant.1 (next_block _ _ c.saturating_sub-low.ensures c.loop-j.invariant.0)
    (far_judged upto setting _ c.numeral-zero.ensures _ _ c.judge-judged.ensures) c.requires

pub loop-j-preserved : goal.loop-j-preserved
loop-j-preserved c =
    let (_, setting, upto) = far_mask_asks c.saturating_sub-low.result (omega arith) c.requires in (
      omega arith,
      far_block_done c.loop-j.invariant.1 (next_block _ _ c.saturating_sub-low.ensures c.loop-j.invariant.0)
          (far_judged upto setting _ c.numeral-zero.ensures _ _ c.judge-judged.ensures) _ _ c.far_block-f.ensures,
    )

pub returns : goal.returns
returns c = far_over _ (omega arith) c.loop-j.invariant.1
