-- `judge::is_join` meets its contract.
-- Assumes nothing.
use Rattle.judging.proofs.KindRules.{and_join, or_join, no_join}
use Rattle.judging.proofs.judge.is_join.Goals as goal

pub returns-in-And : goal.returns-in-And
returns-in-And c = and_join c.args.and c.in-And.is

pub returns-in-Or : goal.returns-in-Or
returns-in-Or c = or_join c.args.and c.in-Or.is

pub returns-in_default : goal.returns-in_default
returns-in_default c = no_join c.args.and c.in_default.not-And c.in_default.not-Or
