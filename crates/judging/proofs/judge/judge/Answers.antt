-- `judge::judge` meets its contract: the walk goes with u + j − x.
-- Assumes nothing.
use Rattle.judging.proofs.JudgeLaws.{judged}
use Rattle.judging.proofs.judge.judge.Goals as goal

pub returns : goal.returns
returns c =
    judged c.args.part c.shifted-v.ensures.0 c.shifted-v.ensures.1 c.args.far
    c.walk.ensures
