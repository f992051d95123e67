-- `masks::multiples` meets its contract: the comb, moved to the first multiple.
-- Assumes nothing.
use mir.Facts.{to_z-of_z}
use Rattle.judging.proofs.MultipleLaws.{multiples_are}
use Rattle.judging.proofs.masks.multiples.Goals as goal

pub returns : goal.returns
returns c =
    multiples_are c.args.d c.comb.result c.distance.result
    c.placed.result (to_z-of_z c.ranges.c) c.comb.ensures
    c.distance.ensures.0 c.distance.ensures.1 c.placed.ensures
