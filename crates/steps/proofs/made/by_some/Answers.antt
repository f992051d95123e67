-- `made::by_some` meets its contract: the body is folded as it is, then negated, bound and negated.
-- Assumes nothing.
use Rattle.steps.proofs.MakingLaws.{setting_low, body_ready, body_answer, opposite_answer, some_answer}
use Rattle.steps.proofs.MakingLaws.{by_some_gives}
use Rattle.steps.proofs.made.by_some.Goals as goal

pub fold-body-requires : goal.fold-body-requires
fold-body-requires c =
    let some = c.requires in record { rule = some.rule; tail = some.tail; ready = body_ready some.making }

pub negated-opposite-requires : goal.negated-opposite-requires
negated-opposite-requires c = body_answer c.requires.making _ _ c.fold-body.ensures

pub bound-some-requires : goal.bound-some-requires
bound-some-requires c = (
  opposite_answer c.requires.making _ _ c.fold-body.ensures _ _ c.negated-opposite.ensures,
  setting_low c.requires.making,
)

pub negated-requires : goal.negated-requires
negated-requires c =
    some_answer c.requires.making _ _ c.fold-body.ensures _ _ c.negated-opposite.ensures _ _ c.bound-some.ensures

pub returns : goal.returns
returns c = λ a ds m. by_some_gives m _ _ c.fold-body.ensures _ _ c.negated-opposite.ensures _ _
    c.bound-some.ensures _ _ c.negated.ensures
