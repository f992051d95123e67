-- `masks::opposite` meets its contract.
-- Assumes nothing.
use Rattle.judging.proofs.BitLaws.{bit_opposite}
use Rattle.judging.proofs.masks.opposite.Goals as goal

pub returns : goal.returns
returns c = λ k h. bit_opposite c.args.m k c.ranges.m.fits h
