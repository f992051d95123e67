-- `words::count` meets its contract: a slice has a quarter as many words as bytes, rounded down.
-- Assumes nothing.
use mathlib.Core.Path.{sym}
use Rattle.tables.proofs.WordLaws.{words_length}
use Rattle.tables.proofs.words.count.Goals as goal

pub returns : goal.returns
returns c = sym (words_length _)
