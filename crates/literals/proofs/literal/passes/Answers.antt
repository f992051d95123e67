-- `literal::passes` meets its contract: each kind has one test.
-- Assumes nothing.
use mathlib.Core.Path.{ap}
use mir.Syntax.{w64}
use Rattle.tables.specs.Kinds.{number_of}
use Rattle.tables.specs.declared.kind.Kind.TheVariants.{Positive, Divisible, Zero}
use Rattle.literals.proofs.Sizes.{again_below}
use Rattle.literals.proofs.KindNumbers.{other_number}
use Rattle.literals.proofs.Tests.{passes_positive, passes_zero, passes_divided, passes_undivided, divisor_fair}
use Rattle.literals.proofs.literal.passes.Goals as goal

pub returns-in-Positive : goal.returns-in-Positive
unfolding number_of
returns-in-Positive c = passes_positive c.ranges.z (ap number_of c.in-Positive.is)

pub returns-in-Zero : goal.returns-in-Zero
unfolding number_of
returns-in-Zero c = passes_zero c.ranges.z (ap number_of c.in-Zero.is)

pub divides-divided-requires : goal.divides-divided-requires
unfolding number_of
divides-divided-requires c =
    let n5 = other_number c.args.kind Positive c.in_default.not-Positive in
    let n10 = other_number c.args.kind Zero c.in_default.not-Zero in
    let fair = divisor_fair n5 n10 c.requires.0 in
    (fair.0, fair.1, again_below w64 c.ranges.z c.requires.1)

pub returns-in-Divisible : goal.returns-in-Divisible
unfolding number_of
returns-in-Divisible c = passes_divided c.ranges.z (ap number_of c.in-Divisible.is) c.divides-divided.ensures

pub returns-in_default-kind : goal.returns-in_default-kind
unfolding number_of
returns-in_default-kind c =
    let n5 = other_number c.args.kind Positive c.in_default.not-Positive in
    let n10 = other_number c.args.kind Zero c.in_default.not-Zero in
    let n6 = other_number c.args.kind Divisible c.in_default-kind.not-Divisible in
    passes_undivided c.ranges.z n5 n10 n6 c.divides-divided.ensures
