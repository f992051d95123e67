-- `made::scaled` meets its contract: "D divides x" is put first, then the scaled body, then their and; and it is bound.
-- Assumes nothing.
use lib.ListN.{length}
use Prim.Native.Nat.{◌≤◌}
use Rattle.rules.specs.Table.{most_words}
use Rattle.rules.specs.Calls.{words}
use Rattle.steps.proofs.ThereLaws.{same_room}
use Rattle.steps.proofs.MakingLaws.{setting_low}
use Rattle.steps.proofs.FactorLaws.{divisor_asks, scaled_ready, joins, both_answer, scaled_gives}
use Rattle.steps.proofs.made.scaled.Goals as goal
use Rattle.steps.proofs.made.scaled.Goals.{After-put-right}

room : (c : After-put-right) → length (words c.put-right.new.out) ≤ most_words
room c = same_room _ _ c.put-right.auto.out c.requires.0.making.on.room

pub put-right-requires : goal.put-right-requires
put-right-requires c =
    let (some, from, to) = c.requires in divisor_asks (from, to) some.making _ c.unit-sum.ensures

pub fold-left-requires : goal.fold-left-requires
fold-left-requires c =
    let (some, from, to) = c.requires in record {
      rule = some.rule;
      tail = _;
      ready = scaled_ready (from, to) some.making _ c.unit-sum.ensures _ _ c.put-right.ensures _ c.after-c.ensures
          (room (goal.at.fold-left-requires c).After-put-right);
    }

pub joined-both-requires : goal.joined-both-requires
joined-both-requires c =
    let (some, from, to) = c.requires in
    let room = room (goal.at.joined-both-requires c).After-put-right in
    joins (from, to) some.making _ c.unit-sum.ensures _ _ c.put-right.ensures _ c.after-c.ensures room _ _
    c.fold-left.ensures (same_room _ _ c.fold-left.auto.out room)

pub bound-requires : goal.bound-requires
bound-requires c =
    let (some, from, to) = c.requires in (
      both_answer (from, to) some.making _ c.unit-sum.ensures _ _ c.put-right.ensures _ c.after-c.ensures
          (room (goal.at.bound-requires c).After-put-right) _ _ c.fold-left.ensures _ _ c.joined-both.ensures,
      setting_low some.making,
    )

pub returns : goal.returns
returns c =
    let (_, from, to) = c.requires in
    let room = room (goal.at.returns c).After-put-right in
    λ a ds m. scaled_gives (from, to) m _ c.unit-sum.ensures _ _ c.put-right.ensures _ c.after-c.ensures room _ _
    c.fold-left.ensures _ _ c.joined-both.ensures _ _ c.bound.ensures
