-- `blocks::false_at_bounds` meets its contract: the masks of the bounds before bound i are there.
-- Assumes nothing.
use mathlib.Core.Path.{refl}
use native.Mathlib.Omega.{arith}
use Rattle.steps.proofs.BlockLaws.{no_mask_yet, every_mask, bound_some, bound_asks, one_mask_more, full_judged}
use Rattle.steps.proofs.blocks.false_at_bounds.Goals as goal

pub loop-i-init : goal.loop-i-init
loop-i-init c = no_mask_yet _ _

pub above-u-requires : goal.above-u-requires
above-u-requires c = (bound_some c.requires.0 (omega arith) refl, omega arith)

pub judge-judged-requires : goal.judge-judged-requires
judge-judged-requires c = bound_asks c.requires.0 (omega arith) refl c.requires.1 _ c.above-u.ensures

pub loop-i-preserved : goal.loop-i-preserved
loop-i-preserved c =
    one_mask_more _ c.loop-i.masks _ _ _ refl (omega arith)
    (omega (arith, c.loop-i.auto.masks, c.requires.2)) refl
    (λ a bound there at. full_judged c.requires.1 (c.requires.0).body.setting bound at _
    (c.above-u.ensures bound at) _ _
    c.judge-judged.ensures a there)
    c.loop-i.invariant

pub returns : goal.returns
returns c = every_mask _ _ _ (omega arith) c.loop-i.invariant
