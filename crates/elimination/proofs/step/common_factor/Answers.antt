-- `step::common_factor` meets its contract: D passes 4,096, or is 1, or a number passes the limit, or the scaled body
-- is rebuilt.
-- Assumes nothing.
use mathlib.Core.Path.{refl, sym, ◌∙◌}
use Rattle.std.proofs.lemmas.Result.{err_from_is_err_and}
use Rattle.rules.specs.Rule.{Rule}
use Rattle.rules.specs.Steps.{common_factor}
use Rattle.rules.specs.Calls.{words}
use Rattle.elimination.specs.Stepping.{BodyIn}
use Rattle.elimination.proofs.StepLaws.{Least, multiple_over, multiple_least}
use Rattle.elimination.proofs.PlacedLaws.{Placed, placed, the_place, some_chosen, rebuilding, some_rebuilding}
use Rattle.elimination.proofs.PlacedLaws.{the_body, some_body, in_range}
use Rattle.elimination.proofs.CommonFactorLaws.{common_over, common_stays, scaled_usable, new_scaled}
use Rattle.elimination.proofs.CommonFactorLaws.{scaled_over, common_stepped}
use Rattle.elimination.proofs.step.common_factor.Goals.{After-body-body, In_ok-m}
use Rattle.elimination.proofs.step.common_factor.Goals as goal

-- the body is there
here : (c : After-body-body) {r : Rule}
    (p : Placed (words c.args.table.now) (words c.args.work.now) c.args.room r c.args.c)
    → BodyIn (words c.args.table.now) c.args.c.place p.body c.body-body.result
here c p = c.body-body.ensures _ _ _ _ p.there

-- D, as it is told, is the common factor
factor : (c : In_ok-m) {r : Rule} (p : Placed (words c.args.table.now) (words c.args.work.now) c.args.room r c.args.c)
    → BodyIn (words c.args.table.now) c.args.c.place p.body c.body-body.result
    → Least (common_factor c.args.c.setting p.body) c.in_ok-m.m
factor c p there =
    multiple_least _ _ _ _ (sym c.ok_or.ensures.value ∙ c.in_ok-m.was) (c.common_factor.ensures _ _ (the_body p there))

pub body-body-requires : goal.body-body-requires
body-body-requires c = some_chosen (the_place c.requires)

pub common_factor-requires : goal.common_factor-requires
common_factor-requires c =
    let p = the_place c.requires in
    (some_body p (here (goal.at.common_factor-requires c).After-body-body p), (in_range p).0, (in_range p).1)

pub returns-in_err-m : goal.returns-in_err-m
returns-in_err-m c = λ r ready at.
    let p = placed ready at in
    let body = the_body p (here (goal.at.returns-in_err-m c).After-body-body p) in
    let exit = err_from_is_err_and c.from_residual.result c.from_residual.ensures.1 in
    let over = multiple_over _ _ _ _ (sym c.ok_or.ensures.value ∙ c.in_err-m.was) (c.common_factor.ensures _ _ body) in
    rw (exit.1, exit.2, over.0) (common_over p _ over.1)

pub returns-then-taken_once : goal.returns-then-taken_once
returns-then-taken_once c = λ r ready at.
    let p = placed ready at in
    let there = here (goal.at.returns-then-taken_once c).After-body-body p in
    let d = factor (goal.at.returns-then-taken_once c).In_ok-m p there in
    common_stays p _ d (sym c.taken_once.ensures ∙ c.if-taken_once.true)

pub over-requires : goal.over-requires
over-requires c =
    let p = the_place c.requires in
    let there = here (goal.at.over-requires c).After-body-body p in
    (some_body p there, scaled_usable p _ (factor (goal.at.over-requires c).In_ok-m p there))

pub returns-then-over : goal.returns-then-over
returns-then-over c = λ r ready at.
    let p = placed ready at in
    let there = here (goal.at.returns-then-over c).After-body-body p in
    let d = factor (goal.at.returns-then-over c).In_ok-m p there in
    scaled_over p _ d _ c.if-over.true (c.over.ensures _ _ (the_body p there))

pub rebuilt-requires : goal.rebuilt-requires
rebuilt-requires c =
    let p = the_place c.requires in
    let there = here (goal.at.rebuilt-requires c).After-body-body p in
    let d = factor (goal.at.rebuilt-requires c).In_ok-m p there in
    some_rebuilding p refl refl (new_scaled p _ d _ c.if-over.false (c.over.ensures _ _ (the_body p there)))

pub returns : goal.returns
returns c = λ r ready at.
    let p = placed ready at in
    let there = here (goal.at.returns c).After-body-body p in
    let d = factor (goal.at.returns c).In_ok-m p there in
    let new = new_scaled p _ d _ c.if-over.false (c.over.ensures _ _ (the_body p there)) in
    common_stepped p _ d _ _ new (c.rebuilt.ensures r _ _ _ (rebuilding p refl refl new))
