-- `sums::numeral` meets its contract: a j up to the limit of P is read back from its bits.
-- Assumes nothing.
use Rattle.steps.proofs.SumLaws.{numeral_is}
use Rattle.steps.proofs.sums.numeral.Goals as goal

pub returns : goal.returns
returns c = numeral_is _ c.requires
