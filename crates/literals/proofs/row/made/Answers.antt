-- `row::made` meets its contract: so far as the array is written, it holds the words.
-- Assumes nothing.
use Rattle.std.proofs.Common.{◌≢◌, ◌<◌, ◌∙◌, sym, length, arith, below_more, get_or-set_other, get_or-set_same, length-set}
use borrow.Author.Rules.{sfits_of}
use lib.IntN.{pos}
use lib.Seq.{ext_get_or}
use Rattle.literals.proofs.SumLaws.{narrow_asks, narrow_is}
use Rattle.literals.proofs.row.made.Goals as goal

pub overflow_cast-m : goal.overflow_cast-m
overflow_cast-m c =
    narrow_asks c.requires.1 c.loop-i-test.true (sfits_of {z = c.word.result} c.word.type_inv) c.word.ensures

pub loop-i-preserved : goal.loop-i-preserved
loop-i-preserved c = (
  length-set _ _ _ ∙ c.loop-i.invariant.0,
  below_more _ _
      (λ k h. let ne : k ≢ c.loop-i.i = omega arith in rw get_or-set_other (c.loop-i.invariant.1 k h))
      (let lt : c.loop-i.i < length c.loop-i.m-items = omega (arith, c.loop-i.invariant.0) in
      rw get_or-set_same
      (narrow_is c.requires.1 c.loop-i-test.true (sfits_of {z = c.word.result} c.word.type_inv) c.word.ensures)),
)

pub returns : goal.returns
returns c = λ z m.
    ext_get_or (pos 0) _ z (c.loop-i.invariant.0 ∙ sym m.seven)
    (λ i h. c.loop-i.invariant.1 i (omega (arith, c.loop-i.invariant.0)) ∙ sym (m.each i (omega (arith, c.loop-i.invariant.0))))
