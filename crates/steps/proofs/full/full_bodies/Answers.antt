-- `full::full_bodies` meets its contract: without a bound there are none; else the masks are lent.
-- Assumes nothing.
use Rattle.steps.proofs.FullLaws.{no_full}
use Rattle.steps.proofs.full.full_bodies.Goals as goal

pub returns-then-k-eq0 : goal.returns-then-k-eq0
returns-then-k-eq0 c = no_full c.if-k-eq0.true
