-- `words::natural` meets its contract: the bits at i are those of word i.
-- Assumes nothing.
use mathlib.Core.Path.{sym, ap, ◌∙◌}
use Rattle.rules.specs.Calls.{signed}
use Rattle.tables.proofs.WordLaws.{word_bytes, words_get}
use Rattle.tables.proofs.words.natural.Goals as goal

pub bits-requires : goal.bits-requires
bits-requires c = word_bytes _ _ c.requires

pub returns : goal.returns
returns c = (c.bits.type_inv, words_get _ _ c.requires ∙ ap signed (sym c.bits.ensures))
