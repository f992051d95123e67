-- `Part::behind_left` meets its contract: the number is read, then the entry that it leads to.
-- Assumes nothing.
use Rattle.tables.proofs.SideLaws.{child_behind, child_inside, at_behind}
use Rattle.tables.proofs.PartSides.{number_there, node_in, place_in, right_asked, right_behind}
use Rattle.tables.proofs.part.Part.behind_left.Goals as goal

pub natural-requires : goal.natural-requires
natural-requires c = number_there c.args.self c.requires

pub overflow_sub-nodes : goal.overflow_sub-nodes
overflow_sub-nodes c = child_behind (node_in c.args.self c.requires _ c.natural.ensures.1)

pub natural-place-requires : goal.natural-place-requires
natural-place-requires c = child_inside (node_in c.args.self c.requires _ c.natural.ensures.1)

pub overflow_sub-place : goal.overflow_sub-place
overflow_sub-place c = at_behind (place_in c.args.self c.requires _ c.natural.ensures.1 _ c.natural-place.ensures.1)

pub behind-requires : goal.behind-requires
behind-requires c = right_asked c.args.self (place_in c.args.self c.requires _ c.natural.ensures.1 _ c.natural-place.ensures.1)

pub returns : goal.returns
returns c = λ j a b stands.
    right_behind c.args.self (place_in c.args.self c.requires _ c.natural.ensures.1 _ c.natural-place.ensures.1) j a b stands c.behind.ensures
