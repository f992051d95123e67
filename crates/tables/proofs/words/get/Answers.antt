-- `words::get` meets its contract: the machine reads the sign of a word's bits as the paper does.
-- Assumes nothing.
use Rattle.std.proofs.Common.{sym, ap, ◌∙◌, rules}
use mir.Facts.{to_z-of_z}
use mir.Syntax.{w32}
use mir.Val.{SFits}
use Rattle.rules.specs.Calls.{signed}
use Rattle.tables.proofs.SignedBits.{signed_is}
use Rattle.tables.proofs.WordLaws.{word_bytes, words_get}
use Rattle.tables.proofs.words.get.Goals as goal

pub bits-requires : goal.bits-requires
bits-requires c = word_bytes _ _ c.requires

pub returns : goal.returns
returns c =
    let fits : SFits w32 c.cast_signed.result = search rules in
    to_z-of_z fits ∙ c.cast_signed.ensures ∙ sym (signed_is c.bits.result) ∙ ap signed c.bits.ensures
    ∙ sym (words_get _ _ c.requires)
