-- `masks::distance` meets its contract: the rest of −c is how far it is up to the next multiple.
-- Assumes nothing.
use Rattle.judging.proofs.MultipleLaws.{distance_is}
use Rattle.judging.proofs.masks.distance.Goals as goal

pub returns : goal.returns
returns c =
    distance_is c.requires.0 c.args.c c.ranges.c c.requires.2 c.requires.1 c.rem_euclid.ensures.value
