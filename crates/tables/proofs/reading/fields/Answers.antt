-- `reading::fields` meets its contract: a kind has the fields that are looked for, and they end where its body does.
-- Assumes nothing.
use Rattle.std.proofs.Common.{rules, ◌≡◌, ℕ, ap, ◌∙◌, subst}
use Rattle.std.specs.Prelude.{is_some, IfSome}
use lib.Dec.{leb}
use lib.ListN.{get_or}
use Rattle.tables.specs.Kinds.{number_of}
use Rattle.tables.specs.Reads.{widths}
use Rattle.tables.proofs.Fields.{some_if, only_if}
use Rattle.tables.proofs.ReadingLaws as laws
use Rattle.tables.proofs.reading.fields.Goals as goal

pub returns-in-False-clause-reads : goal.returns-in-False-clause-reads
returns-in-False-clause-reads c = laws.fields _ _ _ (search rules)

pub returns-in-False-clause-ends : goal.returns-in-False-clause-ends
unfolding number_of
returns-in-False-clause-ends c = search rules

pub returns-in-And-clause-reads : goal.returns-in-And-clause-reads
returns-in-And-clause-reads c =
    let e = ap is_some c.then_some.ensures ∙ some_if _ _ ∙ ap (leb 2) c.count.ensures in
    laws.fields _ _ _ (search rules)

pub returns-in-And-clause-ends : goal.returns-in-And-clause-ends
unfolding number_of
returns-in-And-clause-ends c =
    let wide : 2 ≡ get_or widths (number_of c.args.kind) 0 = search rules in
    rw (c.then_some.ensures, ← wide) (only_if _ 2)

pub returns-in-Positive-clause-reads : goal.returns-in-Positive-clause-reads
returns-in-Positive-clause-reads c = laws.fields _ _ _ (search rules)

pub returns-in-Positive-clause-ends : goal.returns-in-Positive-clause-ends
unfolding number_of
returns-in-Positive-clause-ends c =
    let wide : 8 ≡ get_or widths (number_of c.args.kind) 0 = search rules in
    subst (λ (n : ℕ). IfSome c.sum.result (λ e. e ≡ n)) wide c.sum.ensures.ends

pub returns-in-Divisible-clause-reads : goal.returns-in-Divisible-clause-reads
returns-in-Divisible-clause-reads c = laws.fields _ _ _ (search rules)

pub returns-in-Divisible-clause-ends : goal.returns-in-Divisible-clause-ends
unfolding number_of
returns-in-Divisible-clause-ends c =
    let wide : 9 ≡ get_or widths (number_of c.args.kind) 0 = search rules in
    subst (λ (n : ℕ). IfSome c.divisor_and_sum.result (λ e. e ≡ n)) wide c.divisor_and_sum.ensures.ends

pub returns-in-ForSome-clause-reads : goal.returns-in-ForSome-clause-reads
returns-in-ForSome-clause-reads c = laws.fields _ _ _ (search rules)

pub returns-in-ForSome-clause-ends : goal.returns-in-ForSome-clause-ends
unfolding number_of
returns-in-ForSome-clause-ends c =
    let wide : 2 ≡ get_or widths (number_of c.args.kind) 0 = search rules in
    subst (λ (n : ℕ). IfSome c.number.result (λ e. e ≡ n)) wide c.number.ensures.ends
