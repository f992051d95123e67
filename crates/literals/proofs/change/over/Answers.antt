-- `change::over` meets its contract: a truth value has no numbers, a literal its words and its divisor.
-- Assumes nothing.
use mathlib.Core.Path.{sym}
use native.Mathlib.Omega.{arith}
use Rattle.literals.proofs.ChangeLaws.{is_none_of, some_of, makes, known_within, divisor_passes, words_decide}
use Rattle.literals.proofs.change.over.Goals as goal

pub returns-then-is_some : goal.returns-then-is_some
returns-then-is_some c = λ n t s l.
    known_within _ t s (c.far.ensures n t s l) _ (some_of _ (sym c.if-is_some.ensures)).1

pub returns-then-divisor-gt-LIMIT : goal.returns-then-divisor-gt-LIMIT
returns-then-divisor-gt-LIMIT c = λ n t s l.
    divisor_passes _ t s (c.far.ensures n t s l) _ (is_none_of _ (sym c.if-is_some.ensures)) (c.divisor.ensures n t s l) (omega arith)

pub returns : goal.returns
returns c = λ n t s l.
    words_decide _ t s (c.far.ensures n t s l) _ (is_none_of _ (sym c.if-is_some.ensures))
    (c.divisor.ensures n t s l) (omega arith)
    (c.all_within.ensures _ (makes _ c.requires.1 l (c.sum_at.ensures.0 n t s l) (c.row_of.ensures.0 n t s l)))
