-- `step::normal_form` meets its contract: a number of the normal form passes the limit, or it is rebuilt.
-- Assumes nothing.
use mathlib.Core.Path.{refl}
use Rattle.tables.proofs.WordLaws.{same_words}
use Rattle.elimination.proofs.PlacedLaws.{placed, the_place, rebuilding, some_rebuilding}
use Rattle.elimination.proofs.NormalLaws.{new_normal, normal_refused, normal_stepped}
use Rattle.elimination.proofs.step.normal_form.Goals as goal

pub normal_over-requires : goal.normal_over-requires
normal_over-requires c = (_, c.requires)

pub returns-then-normal_over : goal.returns-then-normal_over
returns-then-normal_over c = λ r ready at.
    normal_refused (placed ready at) _ c.if-normal_over.true (c.normal_over.ensures _ r ready at)

pub rebuilt-requires : goal.rebuilt-requires
rebuilt-requires c =
    let pre = c.requires in
    let p = the_place pre in
    some_rebuilding p refl (same_words _ _ c.normal_over.auto.work)
    (new_normal p _ c.if-normal_over.false (c.normal_over.ensures _ pre.rule pre.ready pre.locates))

pub returns : goal.returns
returns c = λ r ready at.
    let p = placed ready at in
    let new = new_normal p _ c.if-normal_over.false (c.normal_over.ensures _ r ready at) in
    normal_stepped p _ _ new
    (c.rebuilt.ensures r _ _ _ (rebuilding p refl (same_words _ _ c.normal_over.auto.work) new))
