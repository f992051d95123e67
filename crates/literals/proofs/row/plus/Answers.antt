-- `row::plus` meets its contract: the product, and a word more, fits 64 bits.
-- Assumes nothing.
use mathlib.Core.Path.{◌∙◌}
use native.Mathlib.Omega.{arith}
use lib.Signed.{nat_abs-le}
use Rattle.literals.proofs.Products.{sum_is}
use Rattle.literals.proofs.RowLaws.{plus_other}
use Rattle.literals.proofs.row.plus.Goals as goal

pub returns : goal.returns
returns c =
    sum_is c.ranges.f c.ranges.b c.requires.1 c.requires.2 c.ranges.a
    (nat_abs-le c.args.a c.requires.0) (omega arith)
    ∙ plus_other c.args.a _ c.if-i-x.false
