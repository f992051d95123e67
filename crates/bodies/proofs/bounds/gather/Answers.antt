-- `bounds::gather` meets its contract: from literal to literal, the bounds of those that have come are kept.
use Rattle.std.proofs.Common.{sym, subst}
use Rattle.bodies.specs.Body.{RoomForBounds}
use Rattle.bodies.proofs.LiteralsLaws.{scan_start, scan_here, scan_step, scan_over}
use Rattle.bodies.proofs.KeptLaws.{kept_none, kept_all, kept_asks, kept_this, kept_still}
use Rattle.bodies.proofs.bounds.gather.Goals as goal

pub loop-place-init : goal.loop-place-init
loop-place-init c =
    scan_start _ (kept_none _ _ _ _) c.into_iter-place-iterator.ensures.into_iter_gives c.of-place-items.ensures.1

pub gives_bound-requires : goal.gives_bound-requires
gives_bound-requires c =
    ((_, scan_here c.loop-place.invariant c.in-Some.ensures.steps c.requires.0), c.requires.1)

pub keep-k-requires : goal.keep-k-requires
keep-k-requires c =
    let pre = c.requires in
    kept_asks c.loop-place.invariant c.in-Some.ensures.steps pre.0
    (subst (RoomForBounds _ _ _) (sym c.loop-place.auto.bounds) pre.2)
    (subst (RoomForBounds _ _ _) (sym c.loop-place.auto.places) pre.3)
    (c.if-gives_bound.ensures c.args.end)

pub loop-place-preserved-then-gives_bound : goal.loop-place-preserved-then-gives_bound
loop-place-preserved-then-gives_bound c =
    scan_step c.loop-place.invariant c.in-Some.ensures.steps _
    (λ t s ls ks l kept. kept_this t s ks l kept c.keep-k.ensures (c.if-gives_bound.ensures c.args.end t s ls l))

pub loop-place-preserved : goal.loop-place-preserved
loop-place-preserved c =
    scan_step c.loop-place.invariant c.in-Some.ensures.steps _
    (λ t s ls ks l kept. kept_still t s ks l kept (c.if-gives_bound.ensures c.args.end t s ls l))

pub returns : goal.returns
returns c = kept_all (scan_over c.loop-place.invariant c.in-None.ensures.steps)
