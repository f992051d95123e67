-- `push::start` meets its contract: no word is used.
-- Assumes nothing.
use Rattle.builder.proofs.BuiltLaws.{built_none}
use Rattle.builder.proofs.push.start.Goals as goal

pub returns : goal.returns
returns c = built_none
