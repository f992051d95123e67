-- `parts::body` meets its contract: the part that starts with the next node, two words on.
-- Assumes nothing.
use native.Mathlib.Omega.{arith}
use Rattle.elimination.proofs.LocateLaws.{body_there, entry_there, body_in}
use Rattle.elimination.proofs.parts.body.Goals as goal

pub overflow_add-node : goal.overflow_add-node
overflow_add-node c = let k = c.requires.there in omega (arith, entry_there k, k.has.few)

pub overflow_add-place : goal.overflow_add-place
overflow_add-place c = let k = c.requires.there in omega (arith, body_there k, k.has.few)

pub at-requires : goal.at-requires
at-requires c =
    let k = c.requires.there in
    (omega (arith, entry_there k), omega (arith, body_there k), k.has.few)

pub returns : goal.returns
returns c = λ r q x a k. body_in k c.at.ensures
