-- `put::truth` meets its contract: a divisor 0 is seen before any division.
-- Assumes nothing.
use mathlib.Core.Path.{ap}
use Rattle.tables.specs.Kinds.{number_of}
use Rattle.tables.specs.declared.kind.Kind.TheVariants as kind
use Rattle.literals.proofs.KindNumbers.{other_number}
use Rattle.walks.proofs.PutLaws.{some_divisor, some_other, wide_below, zero_passes, zero_fails}
use Rattle.walks.proofs.put.truth.Goals as goal
use Rattle.walks.proofs.put.truth.Goals.{in_default-via-in-Divisible+in_default}
use Rattle.walks.proofs.put.truth.Goals.{in_default-via-in-Indivisible+in_default, in_default-via-in_default}

pub passes-requires : goal.passes-requires
unfolding number_of
passes-requires c = (
  elim c.in_default.branch [
    | in_default-via-in-Divisible+in_default w ↦ some_divisor c.requires w.in_default.is-1.1
    | in_default-via-in-Indivisible+in_default w ↦ some_divisor c.requires w.in_default.is-1.1
    | in_default-via-in_default w ↦ some_other c.requires
        (other_number _ kind.Divisible w.in_default.not-Divisible-0)
        (other_number _ kind.Indivisible w.in_default.not-Indivisible-0)
  ],
  wide_below c.ranges.c,
)

pub returns-in-Divisible-eq0 : goal.returns-in-Divisible-eq0
unfolding number_of
returns-in-Divisible-eq0 c =
    zero_passes c.ranges.c c.in-Divisible-eq0.is-1 (ap number_of c.in-Divisible-eq0.is-0)

pub returns-in-Indivisible-eq0 : goal.returns-in-Indivisible-eq0
unfolding number_of
returns-in-Indivisible-eq0 c =
    zero_fails c.ranges.c c.in-Indivisible-eq0.is-1 (ap number_of c.in-Indivisible-eq0.is-0)
