-- `survey::of_block` meets its contract: the first k bits are counted.
-- Assumes nothing.
use native.Mathlib.Omega.{arith}
use Rattle.steps.proofs.SurveyLaws.{no_bit_yet, one_bit_more, bit_true, every_bit, one_at_most}
use Rattle.steps.proofs.survey.of_block.Goals as goal

pub loop-k-init : goal.loop-k-init
loop-k-init c = (omega arith, no_bit_yet _ _)

pub returns-then-has : goal.returns-then-has
returns-then-has c =
    λ j d judges. bit_true _ _ _ (omega arith) _ c.loop-k-test.true c.has.ensures c.if-has.true j d judges

pub loop-k-preserved : goal.loop-k-preserved
loop-k-preserved c = (
  omega (arith, one_at_most _ c.from-many.ensures),
  one_bit_more _ _ _ (omega arith) c.has.ensures c.if-has.false c.has-in-loop-k.ensures c.from-many.ensures
      c.loop-k.invariant.1,
)

pub returns : goal.returns
returns c = every_bit _ _ _ _ _ (omega arith) (omega arith) c.loop-k.invariant.1
