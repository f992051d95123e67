-- `eliminate::eliminate` meets its contract: the steps in the room of both buffers, then what is left of them.
-- Assumes nothing.
use mathlib.Core.List.{◌++◌}
use Prim.Native.Nat.{◌*◌}
use lib.ListN.{length, drop}
use Rattle.rules.specs.Calls.{words}
use Rattle.leaveoff.specs.Outcome.{steps_of}
use Rattle.leaveoff.specs.Result.{Ended}
use Rattle.leaveoff.proofs.LentLaws.{room_there, part_length, parts_ready, whole_length, part_ended, outcome_in}
use Rattle.leaveoff.proofs.EliminatedLaws.{steps_give, eliminates_so}
use Rattle.leaveoff.proofs.eliminate.eliminate.Goals.{After-stepped-made}
use Rattle.leaveoff.proofs.eliminate.eliminate.Goals as goal

-- the steps' end, in the whole output buffer
ended : (c : After-stepped-made) → Ended (steps_of c.args.t.now c.room-room.result) c.stepped-made.result
    (words (c.stepped-made.new.out ++ drop (c.room-room.result * 4) c.args.out.now))
ended c =
    let n = c.room-room.result in
    let (in-out, in-work, most) = room_there (length c.args.out.now) (length c.args.work.now) n c.room-room.ensures in
    part_ended _ _ n c.args.out.now _ (steps_give _ n) most in-out c.stepped-made.auto.out c.stepped-made.ensures

pub slice_bounds-stepped-end-2 : goal.slice_bounds-stepped-end-2
slice_bounds-stepped-end-2 c =
    part_length _ _ (room_there _ (length c.args.work.now) c.room-room.result c.room-room.ensures).0

pub slice_bounds-stepped-end-4 : goal.slice_bounds-stepped-end-4
slice_bounds-stepped-end-4 c =
    part_length _ _ (room_there (length c.args.out.now) _ c.room-room.result c.room-room.ensures).1

pub stepped-made-requires : goal.stepped-made-requires
stepped-made-requires c = parts_ready _ _ _ c.room-room.ensures

pub leave-requires : goal.leave-requires
leave-requires c = record { end = _; ended = ended (goal.at.leave-requires c).After-stepped-made }

pub returns : goal.returns
returns c =
    let n = c.room-room.result * 4 in
    let (after, says) =
    eliminates_so c.args.t.now _ _
    (outcome_in (steps_of c.args.t.now) (c.leave.ensures _ (ended (goal.at.returns c).After-stepped-made))
    (whole_length c.args.out.now c.stepped-made.new.out n c.stepped-made.auto.out)
    (whole_length c.args.work.now c.stepped-made.new.work n c.stepped-made.auto.work) c.room-room.ensures) in
    record { work_after = after; eliminates = says }
