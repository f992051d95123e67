-- `made::normalled` meets its contract: no number passes the limit, so that the normal form is made, and it is bound.
-- Assumes nothing.
use Rattle.steps.proofs.MakingLaws.{setting_low, normal_ready, never_over, made_answer, normal_gives}
use Rattle.steps.proofs.made.normalled.Goals as goal

pub plain-requires : goal.plain-requires
plain-requires c =
    let some = c.requires in record { rule = some.rule; tail = some.tail; ready = normal_ready some.making }

pub returns-in_default : goal.returns-in_default
returns-in_default c = λ a ds m. never_over m _ _ c.plain.ensures c.in_default.is

pub bound-requires : goal.bound-requires
bound-requires c =
    let some = c.requires in
    (made_answer some.making _ _ c.plain.ensures _ c.in-Some.is, setting_low some.making)

pub returns : goal.returns
returns c = λ a ds m. normal_gives m _ _ c.plain.ensures _ c.in-Some.is _ _ c.bound.ensures
