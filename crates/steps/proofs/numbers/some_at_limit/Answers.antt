-- `numbers::some_at_limit` meets its contract: none of the literals that have come is at the limit.
-- Assumes nothing.
use mathlib.Core.Path.{sym, ◌∙◌}
use mathlib.Core.Bool.{true, false}
use native.Mathlib.Omega.{arith}
use Rattle.bodies.proofs.LiteralsLaws.{scan_start, scan_here, scan_step, scan_ended, scan_over}
use Rattle.steps.proofs.NumberLaws.{literal_part, part_inside, part_fits, part_literal}
use Rattle.steps.proofs.NumberLaws.{Found, none_yet, none_here, one_here, found_body}
use Rattle.steps.proofs.numbers.some_at_limit.Goals as goal

pub loop-place-init : goal.loop-place-init
loop-place-init c =
    scan_start _ (none_yet _) c.into_iter-place-iterator.ensures.into_iter_gives c.of-place-items.ensures.1

pub overflow_mul-place : goal.overflow_mul-place
overflow_mul-place c =
    omega (arith, part_fits _ _ (scan_here c.loop-place.invariant c.in-Some.ensures.steps c.requires))

pub slice_bounds-constant_at_limit-count : goal.slice_bounds-constant_at_limit-count
slice_bounds-constant_at_limit-count c =
    part_inside _ _ (scan_here c.loop-place.invariant c.in-Some.ensures.steps c.requires)

pub slice_bounds-constant_at_limit-start : goal.slice_bounds-constant_at_limit-start
slice_bounds-constant_at_limit-start c =
    part_inside _ _ (scan_here c.loop-place.invariant c.in-Some.ensures.steps c.requires)

pub constant_at_limit-requires : goal.constant_at_limit-requires
constant_at_limit-requires c =
    part_literal _ _ (scan_here c.loop-place.invariant c.in-Some.ensures.steps c.requires)

pub returns-then-constant_at_limit : goal.returns-then-constant_at_limit
returns-then-constant_at_limit c = λ n a b.
    found_body _ a
    (scan_ended c.loop-place.invariant c.in-Some.ensures.steps (Found _ true)
    (λ t s ls ks l q. one_here _ t s ls ks q
    (sym (c.constant_at_limit.ensures _ t s (literal_part _ _ l)) ∙ c.if-constant_at_limit.true)) n a b)

pub loop-place-preserved : goal.loop-place-preserved
loop-place-preserved c =
    scan_step c.loop-place.invariant c.in-Some.ensures.steps (Found _ false)
    (λ t s ls ks l q. none_here _ t s ks q
    (sym (c.constant_at_limit.ensures _ t s (literal_part _ _ l)) ∙ c.if-constant_at_limit.false))

pub returns : goal.returns
returns c = λ n a b. found_body _ a (scan_over c.loop-place.invariant c.in-None.ensures.steps n a b)
