-- `step::for_all` meets its contract: a for-all is rebuilt as not, for some, not.
-- Assumes nothing.
use mathlib.Core.Path.{refl}
use Rattle.elimination.proofs.PlacedLaws.{placed, the_place, rebuilding, some_rebuilding}
use Rattle.elimination.proofs.NormalLaws.{new_by_some, for_all_stepped}
use Rattle.elimination.proofs.step.for_all.Goals as goal

pub rebuilt-requires : goal.rebuilt-requires
rebuilt-requires c = let p = the_place c.requires.0 in some_rebuilding p refl refl (new_by_some p _)

pub returns : goal.returns
returns c = λ r ready at.
    let p = placed ready at in
    for_all_stepped p _ _ c.requires.1 (c.rebuilt.ensures r _ _ _ (rebuilding p refl refl (new_by_some p _)))
