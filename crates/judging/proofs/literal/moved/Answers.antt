-- `literal::moved` meets its contract: the product and the sum fit 64 bits.
-- Assumes nothing.
use mathlib.Core.Path.{ap, ◌∙◌}
use native.Mathlib.Omega.{arith}
use borrow.Author.Rules.{sfits_of}
use lib.IntN.{ℤ, pos, ◌+ℤ◌, ◌*ℤ◌}
use lib.ListN.{get_or}
use lib.Signed.{nat_abs-le}
use Rattle.tables.proofs.WordLaws.{words_length}
use Rattle.literals.proofs.Products.{product_asks, sum_asks, sum_is, sum_small}
use Rattle.literals.proofs.Sevens.{within_at}
use Rattle.literals.proofs.SumLaws.{put_fits}
use Rattle.judging.proofs.literal.moved.Goals as goal

pub overflow_add-start : goal.overflow_add-start
overflow_add-start c = omega (arith, words_length c.args.b.now, c.requires.0.long)

pub overflow_mul-result : goal.overflow_mul-result
overflow_mul-result c =
    product_asks c.ranges.f (put_fits c.args.v.now c.args.i c.requires.0.shift.within) c.requires.0.small
    (within_at _ c.args.v.now c.args.i c.requires.0.shift.within) (omega arith)

pub overflow_add-result : goal.overflow_add-result
overflow_add-result c =
    let a = c.term in
    sum_asks c.ranges.f (put_fits c.args.v.now c.args.i c.requires.0.shift.within) c.requires.0.small
    (within_at _ c.args.v.now c.args.i c.requires.0.shift.within)
    (sfits_of {z = a.result} a.type_inv) (nat_abs-le a.result a.ensures.1) (omega arith)

pub returns : goal.returns
returns c =
    let a = c.term in
    let v = c.args.v.now in
    let fits = put_fits v c.args.i c.requires.0.shift.within in
    let small = within_at _ v c.args.i c.requires.0.shift.within in
    let size = nat_abs-le a.result a.ensures.1 in (
      sum_is c.ranges.f fits c.requires.0.small small (sfits_of {z = a.result} a.type_inv) size (omega arith)
          ∙ ap (λ (y : ℤ). y +ℤ c.args.f *ℤ get_or v c.args.i (pos 0)) a.ensures.0,
      sum_small c.ranges.f fits c.requires.0.small small (sfits_of {z = a.result} a.type_inv) size (omega arith),
    )
