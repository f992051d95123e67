-- `front::word` meets its contract: it is stored where there is room, and counted in any case.
-- Assumes nothing.
use mathlib.Core.Path.{refl}
use native.Mathlib.Omega.{arith}
use mir.Facts.{to_z-of_z}
use Rattle.builder.proofs.EndLaws.{word_in, ends_past}
use Rattle.builder.proofs.front.word.Goals as goal

pub returns-then-used-room : goal.returns-then-used-room
returns-then-used-room c =
    let stored = to_z-of_z c.ranges.v in (
      λ l b. word_in _ _ _ c.count-room.result _ _ l b c.count-room.ensures (omega arith) stored
          c.put.ensures.0,
      refl,
    )

pub returns : goal.returns
returns c =
    let counted = c.count-room in
    (λ l b. ends_past _ _ _ l b (omega (arith, counted.ensures)), refl)
