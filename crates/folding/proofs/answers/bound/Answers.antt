-- `answers::bound` meets its contract: the body is put, whatever it is, and then the quantifier.
-- Assumes nothing.
use native.Mathlib.Omega.{arith}
use Rattle.folding.proofs.UnderLaws.{answered_fewer, stood_countable, bound_gives}
use Rattle.folding.proofs.answers.bound.Goals as goal

pub stood-c-requires : goal.stood-c-requires
stood-c-requires c = answered_fewer _ _ _ 2 0 (omega arith) c.requires.0

pub bind-requires : goal.bind-requires
bind-requires c =
    let pre = c.requires in
    let some = pre.0 in
    (stood_countable _ _ _ _ _ 2 some (c.stood-c.ensures some.rule some.tail some.gives), pre.1)

pub returns : goal.returns
returns c =
    λ x ds h. bound_gives _ _ _ _ _ ds x _ _ (c.stood-c.ensures x ds h)
    c.bind.ensures
