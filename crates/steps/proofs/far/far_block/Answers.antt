-- `far::far_block` meets its contract: the far-left bodies of the block's j's over this one are answered.
-- Assumes nothing.
use mathlib.Core.Path.{◌∙◌}
use Prim.Native.Nat.{◌-◌}
use native.Mathlib.Omega.{arith}
use Rattle.steps.proofs.FarLaws.{far_block_starts, far_block_over, far_passed, far_upto, far_asks, far_done}
use Rattle.steps.proofs.ThereLaws.{same_room}
use Rattle.steps.proofs.far.far_block.Goals as goal

pub loop-j-init : goal.loop-j-init
loop-j-init c = (c.requires.far_block.block.some, omega arith, far_block_starts)

pub loop-j-preserved-then-has : goal.loop-j-preserved-then-has
loop-j-preserved-then-has c = (
  omega arith,
  omega arith,
  far_passed c.loop-j.invariant.2 (omega arith) c.loop-j.invariant.1 c.has.ensures c.if-has.true,
)

pub numeral-u-requires : goal.numeral-u-requires
numeral-u-requires c = far_upto c.loop-j.invariant.2 (omega arith) c.loop-j.invariant.1 c.requires

pub disjunct-f-requires : goal.disjunct-f-requires
disjunct-f-requires c =
    far_asks c.loop-j.invariant.2 (omega arith) c.loop-j.invariant.1 _ c.numeral-u.ensures c.requires

pub loop-j-preserved : goal.loop-j-preserved
loop-j-preserved c = (
  omega arith,
  omega arith,
  far_done c.loop-j.invariant.2 (omega arith) c.loop-j.invariant.1 _ c.numeral-u.ensures _ _
      (same_room _ _ (c.disjunct-f.auto.out ∙ c.loop-j.auto.out))
      c.disjunct-f.ensures,
)

pub returns-then-has : goal.returns-then-has
returns-then-has c = far_block_over (c.loop-j.j - 1) (omega arith) (omega arith)
    (far_passed c.loop-j.invariant.2 (omega arith) c.loop-j.invariant.1 c.has.ensures c.if-has.true)

pub returns-else-has : goal.returns-else-has
returns-else-has c = far_block_over (c.loop-j.j - 1) (omega arith) (omega arith)
    (far_done c.loop-j.invariant.2 (omega arith) c.loop-j.invariant.1 _ c.numeral-u.ensures _ _
    (same_room _ _ (c.disjunct-f.auto.out ∙ c.loop-j.auto.out)) c.disjunct-f.ensures)

pub returns : goal.returns
returns c = far_block_over _ c.loop-j.invariant.0 (omega arith) c.loop-j.invariant.2
