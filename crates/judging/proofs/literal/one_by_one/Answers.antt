-- `literal::one_by_one` meets its contract: so far as they were taken, the bits are right.
-- Assumes nothing.
use mathlib.Core.Path.{ap, ◌∙◌}
use native.Mathlib.Omega.{arith}
use lib.IntN.{pos, ◌+ℤ◌, ◌*ℤ◌}
use mir.Syntax.{w64}
use Rattle.rules.specs.Rule.{passes}
use Rattle.literals.proofs.Sizes.{read, fits_size}
use Rattle.literals.proofs.Products.{sum_again}
use Rattle.judging.proofs.TakenLaws.{one_taken}
use Rattle.judging.proofs.literal.one_by_one.Goals as goal

pub loop-i-preserved : goal.loop-i-preserved
loop-i-preserved c =
    let i = c.loop-i.i in
    λ t marked. one_taken (λ n. passes t (read c.args.c +ℤ read c.args.f *ℤ pos n)) _ i _ _
    (c.loop-i.invariant t marked) (omega arith)
    (c.passes.ensures t marked
    ∙ ap (passes t) (sum_again c.ranges.f (fits_size w64 (pos i) (omega arith)) {p = 64}
    c.requires.2 (omega arith) c.ranges.c c.requires.1 (omega arith)))
    c.with-m.ensures
