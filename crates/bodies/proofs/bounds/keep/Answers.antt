-- `bounds::keep` meets its contract: the bound is looked for among those that are kept, and kept where it is new.
use Rattle.bodies.proofs.CursorLaws.{literal_eight}
use Rattle.bodies.proofs.KeptLaws.{kept_there, kept_behind}
use Rattle.bodies.proofs.bounds.keep.Goals as goal

pub of-bound-requires : goal.of-bound-requires
of-bound-requires c = (literal_eight c.requires.literal.at, c.requires.literal.few)

pub returns-then-is_among : goal.returns-then-is_among
returns-then-is_among c = λ x end t s ls found l g h.
    kept_there c.of-bound.ensures.0 c.of-bound.ensures.1 found h l g c.if-is_among.ensures

pub returns : goal.returns
returns c = λ x end t s ls found l g h.
    kept_behind c.of-bound.ensures.0 c.of-bound.ensures.1 found h l g c.if-is_among.ensures c.requires.room
    c.requires.room_for_place
