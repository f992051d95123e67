-- `masks::with` meets its contract.
-- Assumes nothing.
use Rattle.judging.proofs.TakenLaws.{set_there}
use Rattle.judging.proofs.masks.with.Goals as goal

pub returns-then-b : goal.returns-then-b
returns-then-b c = λ k h. set_there c.args.m c.args.i c.requires c.if-b.true k
