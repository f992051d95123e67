-- `disjunct::disjunct` meets its contract: those that are answered are true, or the body is answered and joined.
-- Assumes nothing.
use mathlib.Core.Path.{sym, ◌∙◌}
use Rattle.steps.proofs.DisjunctLaws.{disjunct_settled, disjunct_ready, disjunct_sides, disjunct_joins}
use Rattle.steps.proofs.DisjunctLaws.{some_disjunct_ready, disjunct_answered}
use Rattle.steps.proofs.ThereLaws.{same_room}
use Rattle.steps.proofs.disjunct.disjunct.Goals as goal

pub returns-then-settles : goal.returns-then-settles
returns-then-settles c = λ a l ds d. disjunct_settled d (sym c.settles.ensures ∙ c.if-settles.true)

pub fold-answered-requires : goal.fold-answered-requires
fold-answered-requires c =
    some_disjunct_ready c.requires _ c.after-c.ensures

pub joined-requires : goal.joined-requires
joined-requires c =
    let some = c.requires in
    let d = some.disjunct in
    disjunct_joins d _ _ _ c.after-c.ensures (sym c.settles.ensures ∙ c.if-settles.false)
    (c.fold-answered.ensures _ _ (disjunct_ready d _ c.after-c.ensures))
    (same_room _ _ c.fold-answered.auto.out d.room)

pub returns : goal.returns
returns c =
    λ a l ds d. disjunct_answered _ _ ds _ l _ (c.joined.ensures _ _ ds
    (disjunct_sides d _ _ _ c.after-c.ensures (sym c.settles.ensures ∙ c.if-settles.false)
    (c.fold-answered.ensures _ _ (disjunct_ready d _ c.after-c.ensures))))
