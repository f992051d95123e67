-- `normal_literal::traded` meets its contract: of the two kinds the other one.
-- Assumes nothing.
use mathlib.Core.Path.{ap}
use Rattle.tables.specs.Kinds.{number_of}
use Rattle.tables.specs.declared.kind.Kind.TheVariants as kind
use Rattle.literals.proofs.KindNumbers.{other_number}
use Rattle.walks.proofs.LiteralLaws.{traded_same, traded_yes, traded_no}
use Rattle.walks.proofs.normal_literal.traded.Goals as goal

pub returns-then-plainly : goal.returns-then-plainly
returns-then-plainly c = traded_same c.if-plainly.true

pub returns-in-Divisible : goal.returns-in-Divisible
unfolding number_of
returns-in-Divisible c = traded_yes c.if-plainly.false (ap number_of c.in-Divisible.is)

pub returns-in_default : goal.returns-in_default
unfolding number_of
returns-in_default c = traded_no c.if-plainly.false (other_number _ kind.Divisible c.in_default.not-Divisible)
