-- `front::number` meets its contract: where there is room it is a word.
-- Assumes nothing.
use mathlib.Core.Path.{refl}
use native.Mathlib.Omega.{arith}
use mir.Facts.{to_z-of_z}
use Rattle.builder.proofs.EndLaws.{number_fits, word_is, ends_past}
use Rattle.builder.proofs.front.number.Goals as goal

pub overflow_cast-n : goal.overflow_cast-n
overflow_cast-n c =
    number_fits _ (c.requires.1 (omega (arith, c.count.ensures)))

pub returns-then-used-count : goal.returns-then-used-count
returns-then-used-count c =
    let put = c.word in
    let fits = number_fits _ (c.requires.1 (omega (arith, c.count.ensures))) in
    (λ l b. word_is _ _ _ _ l (to_z-of_z fits) (put.ensures.0 l b), put.ensures.1)

pub returns : goal.returns
returns c =
    let counted = c.count in
    (λ l b. ends_past _ _ _ l b (omega (arith, counted.ensures)), refl)
