-- `Part::right` meets its contract: what stands behind the left side is the right one.
-- Assumes nothing.
use Rattle.tables.proofs.PartSides.{join_there, right_side}
use Rattle.tables.proofs.part.Part.right.Goals as goal

pub behind_left-requires : goal.behind_left-requires
behind_left-requires c = join_there c.requires

pub returns : goal.returns
returns c = λ j a b at. right_side j a b at (c.behind_left.ensures j a b at.stands)
