-- `literal::passing` meets its contract, by the kind and by f.
-- Assumes nothing.
use mathlib.Core.Path.{ap, ◌∙◌}
use native.Mathlib.Omega.{arith}
use lib.IntN.{pos, ◌+ℤ◌}
use mir.Syntax.{w64}
use Rattle.whole.specs.Divides.{divides}
use Rattle.tables.specs.Kinds.{number_of}
use Rattle.literals.proofs.Sizes.{read, again_below, by_bits}
use Rattle.literals.proofs.Tests.{divisor_fair}
use Rattle.judging.proofs.BitLaws.{opposite_is}
use Rattle.judging.proofs.LiteralLaws.{passes_again, passes_rising, passes_falling}
use Rattle.judging.proofs.LiteralLaws.{passes_divided, passes_undivided}
use Rattle.judging.proofs.literal.passing.Goals as goal

pub returns-then-f-eq1 : goal.returns-then-f-eq1
unfolding number_of
returns-then-f-eq1 c = λ t m i h.
    c.rising.ensures i h
    ∙ passes_rising c.ranges.c c.ranges.f t i m (ap number_of c.in-Positive.is) (by_bits c.ranges.f c.if-f-eq1.true)

pub returns-then-f-eqminus1 : goal.returns-then-f-eqminus1
unfolding number_of
returns-then-f-eqminus1 c = λ t m i h.
    c.falling.ensures i h
    ∙ passes_falling c.ranges.c c.ranges.f t i m (ap number_of c.in-Positive.is) (by_bits c.ranges.f c.if-f-eqminus1.true)

pub returns-in-Positive : goal.returns-in-Positive
returns-in-Positive c = λ t m i h.
    c.one_by_one.ensures t m i h ∙ passes_again c.ranges.c c.ranges.f t i

pub returns-then-f-ne1 : goal.returns-then-f-ne1
returns-then-f-ne1 c = λ t m i h.
    c.one_by_one-then-f-ne1.ensures t m i h ∙ passes_again c.ranges.c c.ranges.f t i

pub multiples-requires : goal.multiples-requires
unfolding number_of
multiples-requires c =
    let six = ap number_of c.in-Divisible.is in
    let fair = divisor_fair (λ e. omega arith) (λ e. omega arith) c.requires.0 in
    (fair.0, fair.1, again_below w64 c.ranges.c (omega arith))

pub returns-in-Divisible : goal.returns-in-Divisible
unfolding number_of
returns-in-Divisible c = λ t m i h.
    c.multiples.ensures i h
    ∙ passes_divided c.ranges.c c.ranges.f t i m (ap number_of c.in-Divisible.is)
    (by_bits c.ranges.f c.if-f-ne1.false)

pub multiples-requires-in-Indivisible : goal.multiples-requires-in-Indivisible
unfolding number_of
multiples-requires-in-Indivisible c =
    let seven = ap number_of c.in-Indivisible.is in
    let fair = divisor_fair (λ e. omega arith) (λ e. omega arith) c.requires.0 in
    (fair.0, fair.1, again_below w64 c.ranges.c (omega arith))

pub returns-in-Indivisible : goal.returns-in-Indivisible
unfolding number_of
returns-in-Indivisible c = λ t m i h.
    opposite_is _ _ (λ n. divides c.args.k (read c.args.c +ℤ pos n)) c.multiples-in-Indivisible.ensures
    c.opposite.ensures i h
    ∙ passes_undivided c.ranges.c c.ranges.f t i m (ap number_of c.in-Indivisible.is)
    (by_bits c.ranges.f c.if-f-ne1.false)
