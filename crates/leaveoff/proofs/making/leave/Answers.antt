-- `making::leave` meets its contract: zeros in the work buffer, then zeros in the output too, or the result.
-- Assumes nothing.
use mathlib.Core.Path.{◌∙◌, ap}
use Rattle.rules.specs.Answer.{refusal}
use Rattle.leaveoff.proofs.LentLaws.{end_given, end_refused, refused_outcome, given_outcome}
use Rattle.leaveoff.proofs.making.leave.Goals as goal

pub result-requires : goal.result-requires
result-requires c =
    let (f, e, held) = end_given c.requires.end _ c.in-Ok.is c.requires.ended in
    record { rule = f; held = held }

pub returns-in-Ok : goal.returns-in-Ok
returns-in-Ok c = λ x ended.
    let (f, e, held) = end_given x _ c.in-Ok.is ended in
    let (answer, bytes) = c.result.ensures f held in
    given_outcome _ _ e answer bytes c.zero.ensures

pub returns-in-Err : goal.returns-in-Err
returns-in-Err c = λ x ended.
    refused_outcome _ _ (end_refused x _ c.in-Err.is ended) (c.refused.ensures ∙ ap refusal c.number.ensures)
    c.zero-in-Err.ensures c.zero.ensures
