-- `shift::shifted` meets its contract: j is added to c, and 1 taken off the factor of x.
-- Assumes nothing.
use Rattle.judging.proofs.ShiftLaws.{add_asks, sub_asks, written_is}
use Rattle.judging.proofs.shift.shifted.Goals as goal

pub overflow_add-v : goal.overflow_add-v
overflow_add-v c = add_asks c.requires

pub overflow_sub-v : goal.overflow_sub-v
overflow_sub-v c = sub_asks c.requires

pub returns : goal.returns
returns c = written_is c.requires
