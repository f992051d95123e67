-- `words::put` meets its contract: the bytes of v are stored over those of word i.
-- Assumes nothing.
use Rattle.std.proofs.Common.{◌*◌, ℤ, length, arith, rules, refl, ap, ◌∙◌}
use Rattle.std.specs.Int.{to_le_bytes}
use mir.Facts.{to_z-of_z}
use mir.Syntax.{w32}
use mir.Val.{of_z}
use lib.Seq.{sets}
use Rattle.rules.specs.Calls.{bytes_of}
use Rattle.tables.proofs.SignedBits.{bytes_are}
use Rattle.tables.proofs.WordLaws.{word_bytes, stored, words_put}
use Rattle.tables.proofs.words.put.Goals as goal

pub overflow_mul-p : goal.overflow_mul-p
overflow_mul-p c = let h = word_bytes _ _ c.requires in search rules

pub overflow_add-p : goal.overflow_add-p
overflow_add-p c = let h = word_bytes _ _ c.requires in search rules

pub slice_bounds-copy_from_slice-end : goal.slice_bounds-copy_from_slice-end
slice_bounds-copy_from_slice-end c = let h = word_bytes _ _ c.requires in search rules

pub returns : goal.returns
returns c =
    let bytes = c.copy_from_slice.ensures.after ∙ c.to_le_bytes.ensures
    ∙ ap (λ (z : ℤ). to_le_bytes w32 (of_z w32 z)) (to_z-of_z c.ranges.v) ∙ bytes_are c.args.v in
    words_put _ _ _ _ c.ranges.v c.requires
    (stored _ _ c.args.i _ c.requires (ap length bytes ∙ unfold bytes_of in refl) (omega arith)
    ∙ ap (sets c.args.b.now (c.args.i * 4)) bytes)
