-- `reading::number` meets its contract: word 1 is there, and its bits lie in the range.
-- Assumes nothing.
use Rattle.std.proofs.Common.{rules, sym, ap, ◌∙◌, subst}
use Rattle.std.specs.Prelude.{is_some}
use borrow.Author.Tests.{lt-leb}
use Rattle.tables.specs.Reads.{NumberAt}
use Rattle.tables.proofs.Fields.{some_if, no_number, in_range}
use Rattle.tables.proofs.reading.number.Goals as goal
use Rattle.tables.proofs.reading.number.Goals.{then-count-ge2, else-count-ge2}

pub returns-clause-reads : goal.returns-clause-reads
returns-clause-reads c =
    subst (NumberAt _ c.args.most) (sym (ap is_some c.then_some.ensures ∙ some_if _ _))
    (elim c.if-count-ge2.branch [
      | then-count-ge2 w ↦ rw w.then_some-is
          (in_range _ _ _ c.count.ensures _ w.if-count-ge2.true c.requires w.natural.ensures.1 _ (search rules))
      | else-count-ge2 w ↦ rw (w.then_some-is, lt-leb _ _ w.if-count-ge2.false)
          (no_number _ _ _ c.count.ensures w.if-count-ge2.false)
    ])
