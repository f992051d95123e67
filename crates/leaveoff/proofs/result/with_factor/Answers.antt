-- `result::with_factor` meets its contract: a set stays as it is, or v is joined to it.
-- Assumes nothing.
use Rattle.leaveoff.proofs.OccurringLaws.{without_factor, with_one}
use Rattle.leaveoff.proofs.result.with_factor.Goals as goal

pub returns-then-factor-eq0 : goal.returns-then-factor-eq0
returns-then-factor-eq0 c = λ p i. without_factor _ _ _ p c.if-factor-eq0.true i

pub returns : goal.returns
returns c = λ p i. with_one _ _ _ p c.if-factor-eq0.false (c.join.ensures p _ i c.one.ensures)
