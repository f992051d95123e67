-- `answers::stood` meets its contract: a truth value is put, anything else was put.
-- Assumes nothing.
use Rattle.folding.proofs.AnswerLaws.{gives_pushed}
use Rattle.folding.proofs.UnderLaws.{known_countable, known_stood}
use Rattle.folding.proofs.answers.stood.Goals as goal

pub constant-requires : goal.constant-requires
constant-requires c =
    known_countable _ _ _ _ c.in-Known.is c.requires

pub returns-in-Known : goal.returns-in-Known
returns-in-Known c =
    λ x ds h. known_stood _ _ ds x _ _ _ _ c.in-Known.is h c.constant.ensures

pub returns-in-Pushed : goal.returns-in-Pushed
returns-in-Pushed c = λ x ds h. (gives_pushed _ _ ds x _ _ c.in-Pushed.is h).1
