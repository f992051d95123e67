-- `full::at_bounds` meets its contract: the full bodies from bound i on are answered.
-- Assumes nothing.
use mathlib.Core.Path.{refl, ◌∙◌}
use native.Mathlib.Omega.{arith}
use Rattle.steps.proofs.BoundsLaws.{no_bound_yet, every_bound, full_passed, next_bound, full_asks, full_done}
use Rattle.steps.proofs.ThereLaws.{same_room}
use Rattle.steps.proofs.full.at_bounds.Goals as goal

pub loop-i-init : goal.loop-i-init
loop-i-init c = no_bound_yet

pub loop-i-preserved-then-has : goal.loop-i-preserved-then-has
loop-i-preserved-then-has c = full_passed c.loop-i.invariant (omega arith)
    (omega arith) refl c.has.ensures c.if-has.true

pub above-u-requires : goal.above-u-requires
above-u-requires c = next_bound c.loop-i.invariant (omega arith) (omega arith) refl c.requires

pub disjunct-f-requires : goal.disjunct-f-requires
disjunct-f-requires c =
    full_asks c.loop-i.invariant (omega arith) (omega arith) refl _ c.above-u.ensures c.requires

pub loop-i-preserved : goal.loop-i-preserved
loop-i-preserved c =
    full_done c.loop-i.invariant (omega arith) (omega arith) refl _ c.above-u.ensures _ _
    (same_room _ _ (c.disjunct-f.auto.out ∙ c.loop-i.auto.out)) c.disjunct-f.ensures

pub returns : goal.returns
returns c = every_bound _ _ _ (omega arith) c.loop-i.invariant
