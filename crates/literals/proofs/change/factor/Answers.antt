-- `change::factor` meets its contract: the word of x, counted from where T starts.
-- Assumes nothing.
use native.Mathlib.Omega.{arith}
use borrow.Author.Rules.{sfits_of}
use Rattle.tables.proofs.WordLaws.{words_length}
use Rattle.literals.proofs.ChangeLaws.{factor_is, factor_small}
use Rattle.literals.proofs.change.factor.Goals as goal

pub overflow_add-sum_at : goal.overflow_add-sum_at
overflow_add-sum_at c = omega (arith, words_length c.args.bodies.now, c.sum_at.ensures.1)

pub returns : goal.returns
returns c =
    let f = sfits_of {z = c.term.result} c.term.type_inv in
    let at = c.sum_at in (
      λ n t s l. factor_is l (at.ensures.0 n t s l) c.requires.1 f c.term.ensures.0,
      factor_small f c.term.ensures.1,
    )
