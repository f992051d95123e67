-- `literal::plus` meets its contract: a term is at most 2^31 times 500,000,000, so seven of them fit 64 bits.
-- Assumes nothing.
use native.Mathlib.Omega.{arith}
use borrow.Author.Rules.{sfits_of}
use Rattle.tables.proofs.WordLaws.{words_length}
use Rattle.literals.proofs.Terms.{sum_asks, sum_is}
use Rattle.literals.proofs.literal.plus.Goals as goal

pub overflow_add-at : goal.overflow_add-at
overflow_add-at c = omega (arith, words_length c.args.b.now)

pub overflow_add-result : goal.overflow_add-result
overflow_add-result c =
    sum_asks (sfits_of {z = c.get-a.result} c.get-a.type_inv) c.ranges.s c.requires.2 c.ranges.x c.requires.3
    c.requires.1

pub returns : goal.returns
returns c =
    sum_is (sfits_of {z = c.get-a.result} c.get-a.type_inv) c.ranges.s c.requires.2 c.ranges.x c.requires.3 c.requires.1
    c.get-a.ensures
