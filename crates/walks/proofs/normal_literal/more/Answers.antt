-- `normal_literal::more` meets its contract: one more than c is a word where c is not the limit.
-- Assumes nothing.
use Rattle.walks.proofs.SumLaws.{raise_one, raise_none}
use Rattle.walks.proofs.normal_literal.more.Goals as goal

pub returns-then-one : goal.returns-then-one
returns-then-one c = raise_one c.ranges.c _ c.if-one.true _ c.checked_add.ensures

pub returns-else-one : goal.returns-else-one
returns-else-one c = raise_none c.ranges.c _ c.if-one.false
