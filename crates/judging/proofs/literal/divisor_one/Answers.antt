-- `literal::divisor_one` meets its contract.
-- Assumes nothing.
use mathlib.Core.Path.{ap}
use mathlib.Core.Bool.{true, false}
use Rattle.tables.specs.Kinds.{number_of}
use Rattle.tables.specs.declared.kind.Kind.TheVariants.{Divisible, Indivisible}
use Rattle.literals.proofs.KindNumbers.{other_number}
use Rattle.judging.proofs.LiteralLaws.{one_folds, divisible_test, no_divisor}
use Rattle.judging.proofs.literal.divisor_one.Goals as goal

pub returns-in-Divisible : goal.returns-in-Divisible
unfolding number_of
returns-in-Divisible c = λ t m z.
    one_folds t z (divisible_test t m true (ap number_of c.in-Divisible.is)) c.if-k-ne1.false

pub returns-in-Indivisible : goal.returns-in-Indivisible
unfolding number_of
returns-in-Indivisible c = λ t m z.
    one_folds t z (divisible_test t m false (ap number_of c.in-Indivisible.is)) c.if-k-ne1.false

pub returns-in_default : goal.returns-in_default
unfolding number_of
returns-in_default c = λ t m.
    no_divisor t m (other_number c.args.kind Divisible c.in_default.not-Divisible)
    (other_number c.args.kind Indivisible c.in_default.not-Indivisible)
