-- `answers::settles` meets its contract: a mask of ones settles the join throughout.
-- Assumes nothing.
use borrow.Author.Tests.{eqb-true}
use Rattle.judging.proofs.SaidLaws.{all_false, all_true}
use Rattle.judging.proofs.answers.settles.Goals as goal

pub returns-then-and : goal.returns-then-and
returns-then-and c = λ e k a b h s. all_false c.if-and.true (eqb-true _ _ e) a b h s

pub returns : goal.returns
returns c = λ e k a b h s. all_true c.if-and.false (eqb-true _ _ e) a b h s
