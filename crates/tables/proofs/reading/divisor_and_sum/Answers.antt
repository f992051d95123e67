-- `reading::divisor_and_sum` meets its contract: the sum is looked for only behind a divisor.
-- Assumes nothing.
use Rattle.std.proofs.Common.{refl, ℕ, subst}
use Rattle.std.specs.Prelude.{is_some}
use Rattle.rules.specs.Calls.{words}
use Rattle.tables.specs.Reads.{SumAt}
use Rattle.tables.proofs.Fields.{not_divided, divided}
use Rattle.tables.proofs.reading.divisor_and_sum.Goals as goal

pub returns-in_err-behind-clause-reads : goal.returns-in_err-behind-clause-reads
returns-in_err-behind-clause-reads c =
    rw c.from_residual.ensures (not_divided _ _ c.in_err-behind.ensures.reads refl)

pub returns-clause-reads : goal.returns-clause-reads
returns-clause-reads c =
    let two = c.in_ok-behind.ensures.ends in
    divided _ _ c.in_ok-behind.ensures.reads refl _
    (subst (λ (q : ℕ). SumAt (words c.args.b.now) q (is_some c.sum.result)) two c.sum.ensures.reads)
