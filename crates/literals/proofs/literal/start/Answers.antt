-- `literal::start` meets its contract: T starts behind the divisor in kinds 6 and 7, behind the kind in 5 and 10.
-- Assumes nothing.
use mathlib.Core.Path.{ap}
use native.Mathlib.Omega.{arith}
use mathlib.Core.Logic.{inl, inr}
use Rattle.tables.specs.Kinds.{number_of}
use Rattle.tables.specs.declared.kind.Kind.TheVariants.{Divisible, Indivisible}
use Rattle.literals.proofs.KindNumbers.{other_number}
use Rattle.literals.proofs.Tests.{start_two, start_one}
use Rattle.literals.proofs.literal.start.Goals as goal

pub returns-in-Divisible : goal.returns-in-Divisible
unfolding number_of
returns-in-Divisible c =
    elim c.in-Divisible.is [
      | inl e ↦ let six = ap number_of e in start_two (omega arith) (omega arith)
      | inr e ↦ let seven = ap number_of e in start_two (omega arith) (omega arith)
    ]

pub returns-in_default : goal.returns-in_default
unfolding number_of
returns-in_default c =
    start_one (other_number c.args.kind Divisible c.in_default.not-Divisible)
    (other_number c.args.kind Indivisible c.in_default.not-Indivisible)
