-- `step::disjunction` meets its contract: P passes 4,096, or a number the limit, or the disjunction the
-- room, or what is planned is rebuilt.
-- Assumes nothing.
use mathlib.Core.Path.{refl, sym, ◌∙◌}
use Rattle.std.proofs.lemmas.Result.{err_from_is_err_and}
use Rattle.rules.specs.Rule.{Rule}
use Rattle.rules.specs.Calls.{words}
use Rattle.elimination.proofs.StepLaws.{multiple_over, multiple_least}
use Rattle.elimination.proofs.PlacedLaws.{Placed, placed, the_place, rebuilding, some_rebuilding}
use Rattle.elimination.proofs.PlacedLaws.{the_body, some_body, some_chosen}
use Rattle.elimination.proofs.PlacedLaws.{in_range}
use Prim.Native.Nat.{◌≤◌}
use lib.ListN.{length, take}
use lib.Seq.{length-take-le}
use Rattle.elimination.proofs.DisjunctionLaws.{period_over, room_for_bounds, Collected, collected_first, fair_period}
use Rattle.elimination.proofs.DisjunctionLaws.{some_bounds, disjuncts_over, body_judged}
use Rattle.elimination.proofs.DisjunctionLaws.{survey_asks, too_long, new_planned, planned_stepped}
use Rattle.elimination.proofs.step.disjunction.Goals.{After-collect-k}
use Rattle.elimination.proofs.step.disjunction.Goals as goal

-- P, and the places of the bounds, as they are told
collected : (c : After-collect-k) {r : Rule}
    (p : Placed (words c.args.table.now) (words c.args.work.now) c.args.room r c.args.c)
    → Collected p c.body-body.result c.in_ok-m.m (take c.collect-k.result c.collect-k.new.places)
collected c p =
    let there = c.body-body.ensures _ _ _ _ p.there in
    let body = the_body p there in
    let least = multiple_least _ _ _ _ (sym c.ok_or.ensures.value ∙ c.in_ok-m.was) (c.period.ensures _ _ body) in
    collected_first p there least (c.collect-k.ensures _ _ body) c.collect-k.auto.places

pub body-body-requires : goal.body-body-requires
body-body-requires c = some_chosen (the_place c.requires)

pub period-requires : goal.period-requires
period-requires c =
    let p = the_place c.requires in
    some_body p (c.body-body.ensures _ _ _ _ p.there)

pub returns-in_err-m : goal.returns-in_err-m
returns-in_err-m c = λ r ready at.
    let p = placed ready at in
    let body = the_body p (c.body-body.ensures _ _ _ _ p.there) in
    let exit = err_from_is_err_and c.from_residual.result c.from_residual.ensures.1 in
    let over = multiple_over _ _ _ _ (sym c.ok_or.ensures.value ∙ c.in_err-m.was) (c.period.ensures _ _ body) in
    rw (exit.1, exit.2, over.0) (period_over p _ over.1)

pub collect-k-requires : goal.collect-k-requires
collect-k-requires c =
    let p = the_place c.requires in
    let there = c.body-body.ensures _ _ _ _ p.there in
    (some_body p there, (in_range p).0, (in_range p).1, room_for_bounds p there)

-- there are no more than all
held : (c : After-collect-k) → c.collect-k.result ≤ length c.collect-k.new.places
held c =
    let p = the_place c.requires in
    (c.collect-k.ensures _ _ (the_body p (c.body-body.ensures _ _ _ _ p.there))).held

pub slice_bounds-places-end : goal.slice_bounds-places-end
slice_bounds-places-end c = held (goal.at.slice_bounds-places-end c).After-collect-k

pub slice_bounds-places-end-2 : goal.slice_bounds-places-end-2
slice_bounds-places-end-2 c = sym (length-take-le _ _ (held (goal.at.slice_bounds-places-end-2 c).After-collect-k))

pub disjuncts_over-requires : goal.disjuncts_over-requires
disjuncts_over-requires c =
    let p = the_place c.requires in
    let known = collected (goal.at.disjuncts_over-requires c).After-collect-k p in
    let fair = fair_period p known in
    (some_bounds p known, (in_range p).0, (in_range p).1, fair.0, fair.1)

pub returns-then-disjuncts_over : goal.returns-then-disjuncts_over
returns-then-disjuncts_over c = λ r ready at.
    let p = placed ready at in
    let known = collected (goal.at.returns-then-disjuncts_over c).After-collect-k p in
    disjuncts_over p known _ c.if-disjuncts_over.true
    (c.disjuncts_over.ensures _ _ (the_body p known.there) known.at)

pub of_disjuncts-seen-requires : goal.of_disjuncts-seen-requires
of_disjuncts-seen-requires c =
    let p = the_place c.requires in
    survey_asks p (collected (goal.at.of_disjuncts-seen-requires c).After-collect-k p)

pub returns-in_err-step : goal.returns-in_err-step
returns-in_err-step c = λ r ready at.
    let p = placed ready at in
    let known = collected (goal.at.returns-in_err-step c).After-collect-k p in
    let over = c.disjuncts_over.ensures _ _ (the_body p known.there) known.at in
    let planned = c.in_err-step.ensures _ _ _ (c.of_disjuncts-seen.ensures _ (body_judged p known)) in
    let exit = err_from_is_err_and c.from_residual-in_err-step.result c.from_residual-in_err-step.ensures.1 in
    rw (exit.1, exit.2) (too_long p known c.if-disjuncts_over.false over _ _ _ planned)

pub rebuilt-requires : goal.rebuilt-requires
rebuilt-requires c =
    let p = the_place c.requires in
    let known = collected (goal.at.rebuilt-requires c).After-collect-k p in
    let over = c.disjuncts_over.ensures _ _ (the_body p known.there) known.at in
    let planned = c.in_ok-step.ensures _ _ _ (c.of_disjuncts-seen.ensures _ (body_judged p known)) in
    some_rebuilding p known.there.bodies_are refl
    (new_planned p known c.if-disjuncts_over.false over _ _ planned refl)

pub returns : goal.returns
returns c = λ r ready at.
    let p = placed ready at in
    let known = collected (goal.at.returns c).After-collect-k p in
    let over = c.disjuncts_over.ensures _ _ (the_body p known.there) known.at in
    let planned = c.in_ok-step.ensures _ _ _ (c.of_disjuncts-seen.ensures _ (body_judged p known)) in
    let new = new_planned p known c.if-disjuncts_over.false over _ _ planned refl in
    planned_stepped p known c.if-disjuncts_over.false over _ _ planned _ _
    (c.rebuilt.ensures r _ _ _ (rebuilding p known.there.bodies_are refl new))
