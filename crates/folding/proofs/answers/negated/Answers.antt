-- `answers::negated` meets its contract: a truth value is turned round, a not is put before anything else.
-- Assumes nothing.
use Rattle.folding.proofs.UnderLaws.{pushed_countable, not_known, not_pushed}
use Rattle.folding.proofs.answers.negated.Goals as goal

pub not-requires : goal.not-requires
not-requires c =
    pushed_countable _ _ _ _ _ c.in-Pushed.is c.requires

pub returns-in-Known : goal.returns-in-Known
returns-in-Known c = λ x ds. not_known _ _ ds x _ _ c.in-Known.is

pub returns-in-Pushed : goal.returns-in-Pushed
returns-in-Pushed c =
    λ x ds h. not_pushed _ _ ds x _ _ _ _ c.in-Pushed.is h c.not.ensures
