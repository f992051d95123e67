-- `made::unit` meets its contract: a 1 is stored at place x among zeros.
-- Assumes nothing.
use Rattle.steps.proofs.FactorLaws.{unit_is}
use Rattle.steps.proofs.made.unit.Goals as goal

pub returns : goal.returns
returns c = unit_is c.args.x c.requires
