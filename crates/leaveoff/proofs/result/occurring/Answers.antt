-- `result::occurring` meets its contract: the set has the settings that occur in the literals that have come.
-- Assumes nothing.
use Rattle.bodies.proofs.LiteralsLaws.{scan_start, scan_here, scan_step, scan_over}
use Rattle.leaveoff.proofs.OccurringLaws.{Occurring, none_occur, more_occur, settings_found}
use Rattle.leaveoff.proofs.result.occurring.Goals as goal

pub of-place-items-requires : goal.of-place-items-requires
of-place-items-requires c = c.requires

pub loop-place-init : goal.loop-place-init
loop-place-init c =
    scan_start _ none_occur c.into_iter-place-iterator.ensures.into_iter_gives c.of-place-items.ensures.1

pub factors-requires : goal.factors-requires
factors-requires c = (_, scan_here c.loop-place.invariant c.in-Some.ensures.steps c.requires)

pub loop-place-preserved : goal.loop-place-preserved
loop-place-preserved c =
    scan_step c.loop-place.invariant c.in-Some.ensures.steps (Occurring _)
    (λ t s ls ks l q. more_occur _ t s ks (c.join-set.ensures _ _ q (c.factors.ensures _ t s ls l)))

pub returns : goal.returns
returns c = λ n a b. settings_found _ a (scan_over c.loop-place.invariant c.in-None.ensures.steps n a b)
