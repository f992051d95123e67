-- `step::planned` meets its contract: each way says what the survey tells of the disjunction.
-- Assumes nothing.
use mathlib.Core.Path.{sym, ◌∙◌}
use Rattle.elimination.proofs.PlanLaws.{plan_true, plan_false, plan_long, plan_whole}
use Rattle.elimination.proofs.step.planned.Goals as goal

pub returns-in-None : goal.returns-in-None
returns-in-None c = λ P x a seen. plan_true _ P _ x a seen c.in-None.is

pub returns-in-Some-eq0 : goal.returns-in-Some-eq0
returns-in-Some-eq0 c = λ P x a seen.
    let none = c.in-Some-eq0 in
    plan_false _ P _ x a seen none.is (sym none.field-0-is ∙ none.field-0-test)

pub returns-in-Some : goal.returns-in-Some
returns-in-Some c = λ P x a seen. plan_long _ P _ x a seen c.in-Some.is c.if-room-many.true

pub returns-in-Some-2 : goal.returns-in-Some-2
returns-in-Some-2 c = λ P x a seen. plan_whole _ P _ x a
