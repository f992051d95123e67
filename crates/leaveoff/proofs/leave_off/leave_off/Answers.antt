-- `leave_off::leave_off` meets its contract: the test in the room of both buffers, then what is left of them.
-- Assumes nothing.
use mathlib.Core.List.{◌++◌}
use Prim.Native.Nat.{◌*◌}
use lib.ListN.{length, drop}
use Rattle.rules.specs.Calls.{words}
use Rattle.leaveoff.specs.Outcome.{test_of}
use Rattle.leaveoff.specs.Result.{Ended}
use Rattle.leaveoff.proofs.LentLaws.{room_there, part_length, parts_ready, whole_length, part_ended, outcome_in}
use Rattle.leaveoff.proofs.LeftOffLaws.{again, test_gives, tests_so}
use Rattle.leaveoff.proofs.leave_off.leave_off.Goals.{After-tested-made}
use Rattle.leaveoff.proofs.leave_off.leave_off.Goals as goal

-- the test's end, in the whole output buffer
ended : (c : After-tested-made)
    → Ended (test_of c.args.t.now (again c.args.v) c.room-room.result) c.tested-made.result
    (words (c.tested-made.new.out ++ drop (c.room-room.result * 4) c.args.out.now))
ended c =
    let n = c.room-room.result in
    let (in-out, in-work, most) = room_there (length c.args.out.now) (length c.args.work.now) n c.room-room.ensures in
    part_ended _ _ n c.args.out.now _ (test_gives _ _ n) most in-out c.tested-made.auto.out c.tested-made.ensures

pub slice_bounds-tested-end-2 : goal.slice_bounds-tested-end-2
slice_bounds-tested-end-2 c =
    part_length _ _ (room_there _ (length c.args.work.now) c.room-room.result c.room-room.ensures).0

pub slice_bounds-tested-end-4 : goal.slice_bounds-tested-end-4
slice_bounds-tested-end-4 c =
    part_length _ _ (room_there (length c.args.out.now) _ c.room-room.result c.room-room.ensures).1

pub tested-made-requires : goal.tested-made-requires
tested-made-requires c = parts_ready _ _ _ c.room-room.ensures

pub leave-requires : goal.leave-requires
leave-requires c = record { end = _; ended = ended (goal.at.leave-requires c).After-tested-made }

pub returns : goal.returns
returns c =
    let n = c.room-room.result * 4 in
    let (after, says) =
    tests_so c.args.t.now c.args.v _ _ c.ranges.v
    (outcome_in (test_of c.args.t.now (again c.args.v))
    (c.leave.ensures _ (ended (goal.at.returns c).After-tested-made))
    (whole_length c.args.out.now c.tested-made.new.out n c.tested-made.auto.out)
    (whole_length c.args.work.now c.tested-made.new.work n c.tested-made.auto.work) c.room-room.ensures) in
    record { work_after = after; tests_line = says }
