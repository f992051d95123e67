-- `multiples::multiple` meets its contract: m is the multiple of what the literals that have come bring.
use Rattle.std.proofs.Common.{refl}
use Rattle.bodies.specs.Multiples.{brought}
use Rattle.bodies.proofs.LiteralsLaws.{scan_start, scan_here, scan_step, scan_ended, scan_over}
use Rattle.bodies.proofs.MultipleLaws.{Past, held_none, held_more, past, brought_over, answer_held, answer_past}
use Rattle.bodies.proofs.multiples.multiple.Goals as goal

pub loop-place-init : goal.loop-place-init
loop-place-init c =
    scan_start _ (held_none (brought c.args.setting)) c.into_iter-place-iterator.ensures.into_iter_gives
    c.of-place-items.ensures.1

pub part-requires : goal.part-requires
part-requires c =
    ((_, scan_here c.loop-place.invariant c.in-Some.ensures.steps c.requires.0), c.requires.1)

pub returns-in_err-m : goal.returns-in_err-m
returns-in_err-m c = λ n a b.
    let f = brought c.args.setting in
    answer_past f a _ c.from_residual.ensures b.formed
    (scan_ended c.loop-place.invariant c.in-Some.ensures.steps (Past f)
    (λ t s ls ks l q. past f _ _ _ c.lcm.ensures (brought_over c.args.setting) c.in_err-m.was t s ls ks q
    (c.part.ensures _ t s ls l)) n a b)

pub loop-place-preserved : goal.loop-place-preserved
loop-place-preserved c =
    let f = brought c.args.setting in
    scan_step c.loop-place.invariant c.in-Some.ensures.steps _
    (λ t s ls ks l q. held_more f _ _ _ c.lcm.ensures _ c.in_ok-m.was t s ks q (c.part.ensures _ t s ls l))

pub returns : goal.returns
returns c = λ n a b.
    answer_held (brought c.args.setting) a _ _ refl
    (scan_over c.loop-place.invariant c.in-None.ensures.steps n a b)
