-- `change::sum` meets its contract: the row makes the changed sum of T.
-- Assumes nothing.
use Rattle.literals.proofs.ChangeLaws.{makes, some_within}
use Rattle.literals.proofs.change.sum.Goals as goal

pub made-requires : goal.made-requires
made-requires c =
    let some = c.requires in
    let at = c.sum_at.ensures in
    let row = c.row_of.ensures in (
      record { long = at.1; tame = row.1 },
      some_within _ some (at.0 _ _ _ some.literal.at) (row.0 _ _ _ some.literal.at),
    )

pub returns : goal.returns
returns c = λ n t s l.
    let some = c.requires in
    let at = c.sum_at.ensures in
    let row = c.row_of.ensures in
    c.made.ensures _ (makes _ some.usable l (at.0 n t s l) (row.0 n t s l))
