-- `sums::above` meets its contract: its seven words are those of the bound, j added to the first.
-- Assumes nothing.
use Rattle.steps.proofs.SumLaws.{above_is, word_back, added_fits, added_back}
use Rattle.steps.proofs.sums.above.Goals as goal

pub overflow_add-result : goal.overflow_add-result
overflow_add-result c = added_fits c.word.result c.word.type_inv c.word.ensures.1 _ c.requires.1

pub returns : goal.returns
returns c =
    λ b l.
    above_is b l _ c.requires.0.setting
    (added_back c.word.result c.word.type_inv c.word.ensures.1 _ c.requires.1
    (c.word.ensures.0 b l))
    (word_back c.word-2.result c.word-2.type_inv (c.word-2.ensures.0 b l))
    (word_back c.word-3.result c.word-3.type_inv (c.word-3.ensures.0 b l))
    (word_back c.word-4.result c.word-4.type_inv (c.word-4.ensures.0 b l))
    (word_back c.word-5.result c.word-5.type_inv (c.word-5.ensures.0 b l))
    (word_back c.word-6.result c.word-6.type_inv (c.word-6.ensures.0 b l))
    (word_back c.word-7.result c.word-7.type_inv (c.word-7.ensures.0 b l))
