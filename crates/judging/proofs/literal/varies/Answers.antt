-- `literal::varies` meets its contract: so far as they were seen, the words behind c are zero.
-- Assumes nothing.
use native.Mathlib.Omega.{arith}
use borrow.Author.Rules.{sfits_of}
use mir.Facts.{to_z-of_z}
use Rattle.judging.proofs.FactorLaws.{none_seen, one_seen, none_more, none_left}
use Rattle.judging.proofs.literal.varies.Goals as goal

pub loop-i-init : goal.loop-i-init
loop-i-init c = none_seen _ _ _ _

pub returns-then-moved-ne0 : goal.returns-then-moved-ne0
returns-then-moved-ne0 c = λ z m.
    one_seen _ _ _ _ c.loop-i.auto.i c.loop-i.invariant c.loop-i-test.true
    (sfits_of {z = c.moved.result} c.moved.type_inv) c.moved.ensures.0 c.if-moved-ne0.true
    (to_z-of_z c.ranges.f) z m

pub loop-i-preserved : goal.loop-i-preserved
loop-i-preserved c =
    none_more _ _ _ _ c.loop-i.auto.i c.loop-i.invariant c.loop-i-test.true
    (sfits_of {z = c.moved.result} c.moved.type_inv) c.moved.ensures.0 c.if-moved-ne0.false

pub returns : goal.returns
returns c = λ z m.
    none_left _ _ _ _ c.loop-i.auto.i c.loop-i.invariant c.loop-i-test.false (omega arith) (to_z-of_z c.ranges.f) z m
