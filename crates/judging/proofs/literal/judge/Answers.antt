-- `literal::judge` meets its contract: a truth value of the far-left body, or the literal that is kept.
-- Assumes nothing.
use Rattle.judging.proofs.SaidLaws.{says_throughout}
use Rattle.judging.proofs.LiteralLaws.{value_folds, far_kept, full_kept}
use Rattle.judging.proofs.literal.judge.Goals as goal

pub returns-then-not-put : goal.returns-then-not-put
returns-then-not-put c = λ n t s w k l shifted h.
    full_kept c.args.put.far c.args.put.x t s _ c.if-not-put.true (c.kept.ensures n t s w k l shifted h)

pub returns-in-Some : goal.returns-in-Some
returns-in-Some c = λ n t s w k l shifted h.
    says_throughout
    (value_folds c.args.put.far c.args.put.x t s _ c.if-not-put.false (c.far_left.ensures n t s l) c.in-Some.is)
    c.known.ensures h

pub returns-in-None : goal.returns-in-None
returns-in-None c = λ n t s w k l shifted h.
    far_kept c.args.put.far c.args.put.x t s _ c.if-not-put.false (c.far_left.ensures n t s l) c.in-None.is
    (c.kept-in-None.ensures n t s w k l shifted h)
