-- `reading::sum` meets its contract: seven words are there and lie within the limit.
-- Assumes nothing.
use Rattle.std.proofs.Common.{sym, ap, ◌∙◌, subst}
use Rattle.std.specs.Prelude.{is_some}
use borrow.Author.Tests.{lt-leb}
use Rattle.tables.specs.Reads.{SumAt}
use Rattle.tables.proofs.Fields.{some_if, no_sum, a_sum}
use Rattle.tables.proofs.reading.sum.Goals as goal
use Rattle.tables.proofs.reading.sum.Goals.{then-end-count, else-end-count}

pub returns-clause-reads : goal.returns-clause-reads
returns-clause-reads c =
    subst (SumAt _ c.args.q) (sym (ap is_some c.then_some.ensures ∙ some_if _ _))
    (elim c.if-end-count.branch [
      | then-end-count w ↦ rw w.then_some-is
          (a_sum _ _ _ c.count.ensures w.if-end-count.true _ w.within_limit.ensures)
      | else-end-count w ↦ rw (w.then_some-is, lt-leb _ _ w.if-end-count.false)
          (no_sum _ _ _ c.count.ensures w.if-end-count.false)
    ])
