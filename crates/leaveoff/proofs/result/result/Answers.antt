-- `result::result` meets its contract: the table within the room is answered of, and zeros are put after its words.
-- Assumes nothing.
use mathlib.Core.Path.{◌≡◌, sym}
use Prim.Native.Nat.{◌*◌, ◌≤◌}
use lib.ListN.{length}
use lib.Seq.{length-take-le}
use Rattle.rules.specs.Rule.{Rule}
use Rattle.rules.specs.Result.{given}
use Rattle.rules.specs.Answer.{table_answer}
use Rattle.rules.specs.Calls.{words}
use Rattle.leaveoff.specs.Outcome.{answer_of}
use Rattle.leaveoff.specs.Result.{Held}
use Rattle.leaveoff.proofs.ResultLaws.{answer_words}
use Rattle.leaveoff.proofs.ResultBytes.{table_inside, room_inside, in_room, zeros_after}
use Rattle.leaveoff.proofs.result.result.Goals.{After-answered-answer}
use Rattle.leaveoff.proofs.result.result.Goals as goal

-- what is answered of a rule whose table this is
told : (c : After-answered-answer) (r : Rule)
    → Held (words c.args.out.now) r → answer_of c.answered-answer.result ≡ table_answer (given r)
told c r held =
    c.answered-answer.ensures r (in_room _ _ held c.room-most.result c.room-most.ensures)

-- the table is there
there : (c : After-answered-answer) → c.answered-answer.result.words * 4 ≤ length c.args.out.now
there c =
    let rule = c.requires.rule in
    table_inside _ _ c.requires.held _ (answer_words rule (told c rule c.requires.held))

pub slice_bounds-answered-end-2 : goal.slice_bounds-answered-end-2
slice_bounds-answered-end-2 c =
    sym (length-take-le _ _ (room_inside _ _ c.requires.held c.room-most.result c.room-most.ensures))

pub answered-answer-requires : goal.answered-answer-requires
answered-answer-requires c =
    record { rule = _; has = in_room _ _ c.requires.held c.room-most.result c.room-most.ensures }

pub slice_bounds-zero-count : goal.slice_bounds-zero-count
slice_bounds-zero-count c = there (goal.at.slice_bounds-zero-count c).After-answered-answer

pub slice_bounds-zero-start : goal.slice_bounds-zero-start
slice_bounds-zero-start c = there (goal.at.slice_bounds-zero-start c).After-answered-answer

pub returns : goal.returns
returns c = λ r held.
    let e = told (goal.at.returns c).After-answered-answer r held in
    (e, zeros_after _ r held (λ k. (c.slice_known-1.given k).fits) _ (answer_words r e) _ c.zero.ensures)
