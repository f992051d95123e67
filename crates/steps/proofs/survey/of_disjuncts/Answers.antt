-- `survey::of_disjuncts` meets its contract: the far-left row and those of the first bounds are counted.
-- Assumes nothing.
use mathlib.Core.Path.{refl}
use native.Mathlib.Omega.{arith}
use mathlib.Core.List.{[], ◌∷◌}
use lib.ListN.{get_or}
use Rattle.std.specs.Prelude.{Some}
use Rattle.rules.specs.Sum.{Sum}
use Rattle.rules.specs.Rule.{Rule}
use Rattle.rules.specs.Steps.{for_each}
use Rattle.rules.specs.Calls.{words}
use Rattle.bodies.specs.Body.{BoundAt}
use Rattle.tables.specs.Parts.{RuleIn}
use Rattle.steps.specs.Blocks.{full_at}
use Rattle.steps.specs.Surveying.{Surveyed}
use Rattle.steps.proofs.BlockLaws.{some_far_judging, bound_some, bound_asks}
use Rattle.steps.proofs.RowLaws.{one_row_more, row_true, far_few, first_row, far_true, every_row, row_few}
use Rattle.steps.proofs.RowLaws.{far_row_seen, full_row_seen}
use Rattle.steps.proofs.survey.of_disjuncts.Goals as goal

pub row-requires : goal.row-requires
row-requires c =
    let (some, upto, _) = c.requires in
    some_far_judging upto some.body.setting _ c.numeral-zero.ensures
    (record { rule = some.rule; there = some.body.there })

pub returns-in_err-many : goal.returns-in_err-many
returns-in_err-many c =
    let (some, upto, _) = c.requires in
    rw c.from_residual.ensures
    (far_true _ (far_row_seen _ upto some.body.setting _ c.numeral-zero.ensures c.in_err-many.ensures))

pub loop-p-init : goal.loop-p-init
loop-p-init c =
    let (some, upto, _) = c.requires in
    let seen = far_row_seen _ upto some.body.setting _ c.numeral-zero.ensures c.in_ok-many.ensures in
    (omega (arith, far_few _ some seen), first_row _ seen)

pub above-bound-requires : goal.above-bound-requires
above-bound-requires c = (bound_some c.requires.0 (omega arith) refl, omega arith)

pub row-requires-in-loop-p : goal.row-requires-in-loop-p
row-requires-in-loop-p c = bound_asks c.requires.0 (omega arith) refl c.requires.1 _ c.above-bound.ensures

-- what is found of the row of the next bound
seen : (c : goal.In_ok-many-2) → (a : Rule) (bound : Sum)
    → RuleIn c.args.part a
    → BoundAt (words c.args.part.bodies.now) c.args.x (get_or c.args.places.now c.loop-p.p-index 0) bound
    → Surveyed (for_each 1 c.args.period (λ j. full_at c.args.x a bound j ∷ [])) (Some c.in_ok-many-2.field-0)
seen c a bound there at = full_row_seen _ c.requires.1 (c.requires.0).body.setting bound at _
    (c.above-bound.ensures bound at) c.in_ok-many-2.ensures a there

pub returns-in_err-many-2 : goal.returns-in_err-many-2
returns-in_err-many-2 c =
    rw c.from_residual-in_err-many-2.ensures
    (row_true _ (omega arith) refl
    (λ a bound there at. full_row_seen _ c.requires.1 (c.requires.0).body.setting bound at _
    (c.above-bound.ensures bound at) c.in_err-many-2.ensures a there))

pub overflow_add-many : goal.overflow_add-many
overflow_add-many c = omega (arith, row_few _ (omega arith) refl c.requires.0 (seen c))

pub loop-p-preserved : goal.loop-p-preserved
loop-p-preserved c = (
  omega (arith, row_few _ (omega arith) refl c.requires.0 (seen c)),
  one_row_more _ (omega arith) refl (seen c) c.loop-p.invariant.1,
)

pub returns : goal.returns
returns c = every_row _ _ _ (omega arith) c.loop-p.invariant.1
