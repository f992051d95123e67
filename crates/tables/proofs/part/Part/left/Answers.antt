-- `Part::left` meets its contract: a join's body has two words.
-- Assumes nothing.
use Rattle.tables.proofs.PartSides.{left_there, left_side}
use Rattle.tables.proofs.part.Part.left.Goals as goal

pub behind-requires : goal.behind-requires
behind-requires c = left_there c.requires

pub returns : goal.returns
returns c = λ j a b at. left_side j a b at c.behind.ensures
