-- `masks::placed` meets its contract.
-- Assumes nothing.
use Rattle.judging.proofs.BitLaws.{bit_moved}
use Rattle.judging.proofs.masks.placed.Goals as goal

pub returns : goal.returns
returns c = bit_moved c.args.m c.args.p
