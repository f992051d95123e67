-- `leaveoff_eliminate` meets its contract: it is the library's own.
-- Assumes nothing.
use Rattle.leaveoff_c.proofs.leaveoff_eliminate.Goals as goal

pub returns : goal.returns
returns c = c.leaveoff_eliminate.ensures
