-- `row::all_within` meets its contract: so far as they were seen, the words lie within the limit.
-- Assumes nothing.
use borrow.Author.Rules.{sfits_of}
use Rattle.literals.proofs.SumLaws.{one_over, one_within, all_seen}
use mathlib.Core.Bool.{not}
use mathlib.Core.Path.{ap}
use Rattle.literals.proofs.row.all_within.Goals as goal

pub returns-then-not-within : goal.returns-then-not-within
returns-then-not-within c = λ z m.
    one_over m c.loop-i-test.true (sfits_of {z = c.word.result} c.word.type_inv) c.word.ensures
    c.within.ensures (c.loop-i.invariant z m) (ap not c.if-not-within.true)

pub loop-i-preserved : goal.loop-i-preserved
loop-i-preserved c = λ z m.
    one_within m c.loop-i-test.true (sfits_of {z = c.word.result} c.word.type_inv) c.word.ensures
    c.within.ensures (c.loop-i.invariant z m) (ap not c.if-not-within.false)

pub returns : goal.returns
returns c = λ z m. all_seen m c.loop-i-test.false c.loop-i.auto.i-end (c.loop-i.invariant z m)
