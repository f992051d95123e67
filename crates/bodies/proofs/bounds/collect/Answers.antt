-- `bounds::collect` meets its contract: its array has room for the bounds of any rule in a table.
-- Assumes nothing.
use Rattle.bodies.proofs.BoundCount.{room_for_all}
use Rattle.bodies.proofs.bounds.collect.Goals as goal

pub gather-requires : goal.gather-requires
gather-requires c =
    let pre = c.requires in
    (pre.0, pre.2, room_for_all _ _ _ pre.0, pre.3)
