-- `survey::row` meets its contract: the bodies of the j's from P down to this one are counted.
-- Assumes nothing.
use Prim.Native.Nat.{◌-◌, ◌≤◌}
use native.Mathlib.Omega.{arith}
use Rattle.steps.proofs.SurveyLaws.{block_true, no_block_yet, block_asks, every_block, block_few, one_block_more}
use Rattle.steps.proofs.survey.row.Goals as goal

-- no more of a block stay open than it has
few : (c : goal.In_ok-many) → c.in_ok-many.field-0 ≤ c.loop-left.left - c.saturating_sub-low.result
few c =
    block_few _ _ _ _ _ c.loop-left.invariant.0 (omega arith) c.judge-judged.ensures c.in_ok-many.ensures c.requires

pub loop-left-init : goal.loop-left-init
loop-left-init c = (omega arith, omega arith, no_block_yet _)

pub judge-judged-requires : goal.judge-judged-requires
judge-judged-requires c = block_asks _ (omega arith) c.requires

pub returns-in_err-many : goal.returns-in_err-many
returns-in_err-many c = rw c.from_residual.ensures
    (block_true _ _ _ _ _ c.loop-left.invariant.0 (omega arith) c.judge-judged.ensures c.in_err-many.ensures)

pub overflow_add-many : goal.overflow_add-many
overflow_add-many c = omega (arith, few c)

pub loop-left-preserved : goal.loop-left-preserved
loop-left-preserved c = (
  omega arith,
  omega (arith, few c),
  one_block_more _ _ _ _ _ c.loop-left.invariant.0 (omega arith) c.judge-judged.ensures c.in_ok-many.ensures
      c.loop-left.invariant.2,
)

pub returns : goal.returns
returns c = every_block _ _ _ c.loop-left-test.false c.loop-left.invariant.2
