-- `masks::rising` meets its contract: the ones start where c + k passes 0.
-- Assumes nothing.
use mathlib.Core.Path.{sym, ap, ◌∙◌}
use lib.Signed.{lt_z}
use lib.IntN.{pos}
use mir.Facts.{to_z-of_z}
use Rattle.judging.proofs.MaskLaws.{rising_all, rising_some, whole_fits}
use Rattle.judging.proofs.masks.rising.Goals as goal

pub returns-then-c-gt0 : goal.returns-then-c-gt0
returns-then-c-gt0 c =
    rising_all c.args.c
    (ap (lt_z (pos 0)) (sym (to_z-of_z (whole_fits c.args.c c.requires))) ∙ c.if-c-gt0.true)

pub returns : goal.returns
returns c =
    rising_some c.args.c c.requires c.if-c-gt0.false c.placed.result
    c.placed.ensures
