-- `numbers::either_over` meets its contract: it is the one or the other.
-- Assumes nothing.
use mathlib.Core.Path.{sym, ◌∙◌}
use Rattle.steps.proofs.NumberLaws.{or_first, or_second}
use Rattle.steps.proofs.numbers.either_over.Goals as goal

pub returns-then-over : goal.returns-then-over
returns-then-over c = λ n a b. c.if-over.true ∙ or_first _ (sym (c.over.ensures n a b) ∙ c.if-over.true)

pub returns-else-over : goal.returns-else-over
returns-else-over c = λ n a b. or_second (sym (c.over.ensures n a b) ∙ c.if-over.false) (c.over-else-over.ensures n a b)
