-- `normal_literal::factor` meets its contract: the word that is read, or 0 less it.
-- Assumes nothing.
use native.Mathlib.Omega.{arith}
use borrow.Author.Rules.{sfits_of}
use Rattle.tables.proofs.WordLaws.{words_length}
use Rattle.walks.proofs.SumLaws.{minus_fits, factor_minus, factor_plain}
use Rattle.walks.proofs.normal_literal.factor.Goals as goal

pub overflow_add-at : goal.overflow_add-at
overflow_add-at c = omega (arith, c.requires.0.there.inside, c.requires.1, words_length c.args.bodies.now)

pub get-a-requires : goal.get-a-requires
get-a-requires c = omega (arith, c.requires.0.there.inside, c.requires.1)

pub overflow_sub-result : goal.overflow_sub-result
overflow_sub-result c = minus_fits c.requires.1 (sfits_of c.get-a.type_inv) c.get-a.ensures c.requires.0

pub returns-then-minus : goal.returns-then-minus
returns-then-minus c =
    factor_minus c.requires.1 (sfits_of c.get-a.type_inv) c.get-a.ensures _ c.if-minus.true c.requires.0

pub returns-else-minus : goal.returns-else-minus
returns-else-minus c = factor_plain c.requires.1 (sfits_of c.get-a.type_inv) c.get-a.ensures _ c.if-minus.false
