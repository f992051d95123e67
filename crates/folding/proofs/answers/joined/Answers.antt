-- `answers::joined` meets its contract: one side is a truth value, or both are built and the join is put in front.
-- Assumes nothing.
use mathlib.Core.Path.{sym}
use native.Mathlib.Omega.{arith}
use Rattle.folding.proofs.JoinLaws.{settled_left, dropped_left, dropped_right, both_built, both_join}
use Rattle.folding.proofs.JoinLaws.{join_asks}
use Rattle.folding.proofs.answers.joined.Goals as goal

pub returns-in_default-Known : goal.returns-in_default-Known
returns-in_default-Known c = λ x y ds. settled_left _ c.args.both _ ds x y _ _ (sym c.if-settles.ensures)

pub returns-in_default-Known-2 : goal.returns-in_default-Known-2
returns-in_default-Known-2 c =
    λ x y ds. dropped_left _ c.args.both _ ds x y _ _ _ c.in_default-Known-2.is-1 (sym c.if-settles.ensures)

pub returns-in-Known-Pushed : goal.returns-in-Known-Pushed
returns-in-Known-Pushed c =
    λ x y ds. dropped_right _ c.args.both _ ds x y _ _ _ _ c.in-Known-Pushed.is-0 c.in-Known-Pushed.is-1

pub overflow_sub-distance : goal.overflow_sub-distance
overflow_sub-distance c =
    (join_asks _ _ _ _ _ _ _ c.in-Pushed-Pushed.is-0 c.in-Pushed-Pushed.is-1 c.requires).behind

pub overflow_add-distance : goal.overflow_add-distance
overflow_add-distance c =
    let asks = join_asks _ _ _ _ _ _ _ c.in-Pushed-Pushed.is-0 c.in-Pushed-Pushed.is-1 c.requires in
    omega (arith, asks.countable.nodes)

pub join-requires : goal.join-requires
join-requires c =
    let asks = join_asks _ _ _ _ _ _ _ c.in-Pushed-Pushed.is-0 c.in-Pushed-Pushed.is-1 c.requires in
    (asks.countable, asks.distance, c.requires.room)

pub returns-in-Pushed-Pushed : goal.returns-in-Pushed-Pushed
returns-in-Pushed-Pushed c =
    λ x y ds h. both_join _ c.args.both _ ds x y _ _ _ _
    (both_built _ c.args.both _ ds x y _ _ _ _ c.in-Pushed-Pushed.is-0 c.in-Pushed-Pushed.is-1 h) c.join.ensures
