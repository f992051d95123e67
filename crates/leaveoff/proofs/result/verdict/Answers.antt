-- `result::verdict` meets its contract: a bare true, a bare false, or neither.
-- Assumes nothing.
use Rattle.leaveoff.specs.Outcome.{verdict_number}
use Rattle.leaveoff.proofs.ResultLaws.{verdict_true, verdict_false, verdict_open}
use Rattle.leaveoff.proofs.result.verdict.Goals as goal

pub returns-in-True : goal.returns-in-True
unfolding verdict_number
returns-in-True c = λ a root. verdict_true a root c.in-True.is

pub returns-in-False : goal.returns-in-False
unfolding verdict_number
returns-in-False c = λ a root. verdict_false a root c.in-False.is

pub returns-in_default : goal.returns-in_default
unfolding verdict_number
returns-in_default c = λ a root. verdict_open a root c.in_default.not-True c.in_default.not-False
