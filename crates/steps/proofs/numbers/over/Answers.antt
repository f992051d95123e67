-- `numbers::over` meets its contract: none of the literals that have come has a number past the limit.
-- Assumes nothing.
use mathlib.Core.Path.{sym, ◌∙◌}
use mathlib.Core.Bool.{true, false}
use native.Mathlib.Omega.{arith}
use Rattle.bodies.proofs.LiteralsLaws.{scan_start, scan_here, scan_step, scan_ended, scan_over}
use Rattle.steps.proofs.NumberLaws.{literal_part, part_inside, part_fits, part_literal}
use Rattle.steps.proofs.NumberLaws.{Found, none_yet, none_here, one_here, over_body}
use Rattle.steps.proofs.numbers.over.Goals as goal

pub loop-place-init : goal.loop-place-init
loop-place-init c =
    scan_start _ (none_yet _) c.into_iter-place-iterator.ensures.into_iter_gives c.of-place-items.ensures.1

pub overflow_mul-place : goal.overflow_mul-place
overflow_mul-place c =
    omega (arith, part_fits _ _ (scan_here c.loop-place.invariant c.in-Some.ensures.steps c.requires.0))

pub slice_bounds-over-count : goal.slice_bounds-over-count
slice_bounds-over-count c =
    part_inside _ _ (scan_here c.loop-place.invariant c.in-Some.ensures.steps c.requires.0)

pub slice_bounds-over-start : goal.slice_bounds-over-start
slice_bounds-over-start c =
    part_inside _ _ (scan_here c.loop-place.invariant c.in-Some.ensures.steps c.requires.0)

pub over-requires : goal.over-requires
over-requires c = (
  part_literal _ _ (scan_here c.loop-place.invariant c.in-Some.ensures.steps c.requires.0),
  c.requires.1,
)

pub returns-then-over : goal.returns-then-over
returns-then-over c = λ n a b.
    over_body _ _ a
    (scan_ended c.loop-place.invariant c.in-Some.ensures.steps (Found _ true)
    (λ t s ls ks l q. one_here _ t s ls ks q (sym (c.over.ensures _ t s (literal_part _ _ l)) ∙ c.if-over.true)) n a b)

pub loop-place-preserved : goal.loop-place-preserved
loop-place-preserved c =
    scan_step c.loop-place.invariant c.in-Some.ensures.steps (Found _ false)
    (λ t s ls ks l q. none_here _ t s ks q (sym (c.over.ensures _ t s (literal_part _ _ l)) ∙ c.if-over.false))

pub returns : goal.returns
returns c = λ n a b. over_body _ _ a (scan_over c.loop-place.invariant c.in-None.ensures.steps n a b)
