-- `blocks::has` meets its contract: a shift and a mask read the bit.
-- Assumes nothing.
use Rattle.steps.proofs.BlockLaws.{bit_tested}
use Rattle.steps.proofs.blocks.has.Goals as goal

pub returns : goal.returns
returns c = bit_tested c.args.mask c.args.k
