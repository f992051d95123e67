-- `leave_off::answered` meets its contract: the question has no room, or is built and eliminated.
-- Assumes nothing.
use mathlib.Core.Path.{◌≡◌, refl}
use native.Mathlib.Omega.{arith}
use Rattle.std.proofs.lemmas.Result.{err_from_is_err_and}
use Rattle.rules.specs.Rule.{Rule}
use Rattle.rules.specs.Result.{given}
use Rattle.rules.specs.LeaveOff.{question}
use Rattle.rules.specs.Calls.{words, rule_of}
use Rattle.tables.proofs.WordLaws.{same_words}
use Rattle.tables.proofs.Passed.{passed, verdict_table}
use Rattle.elimination.specs.Stepping.{InPlace}
use Rattle.elimination.proofs.RebuildLaws.{here_ready}
use Rattle.leaveoff.proofs.FirstLaws.{First, first_refused, first_ready, rounds_stepped}
use Rattle.leaveoff.proofs.LeftOffLaws.{too_large, asked_ready, asked_stepped}
use Rattle.leaveoff.proofs.leave_off.answered.Goals.{After-question, In_ok-first_here}
use Rattle.leaveoff.proofs.leave_off.answered.Goals as goal

-- the question is ready for its first step
asked : (c : After-question) (r : Rule) → rule_of c.args.t.now ≡ given r
    → InPlace (words c.question.new.out) (words c.args.work.now) c.args.room (question c.args.v r)
asked c r decodes =
    asked_ready c.args.room c.args.v (verdict_table c.requires.0 decodes) c.requires.1 c.requires.2
    (same_words _ _ c.question.auto.out) (c.question.ensures r decodes)

-- its first step table is ready for the rounds
made : (c : In_ok-first_here) (r : Rule)
    → InPlace (words c.question.new.out) (words c.args.work.now) c.args.room (question c.args.v r)
    → First c.args.room (question c.args.v r) (words c.first_here.new.table) (words c.first_here.new.work)
made c r k =
    first_ready _ (question c.args.v r) _ _ k.has.formed (c.in_ok-first_here.ensures _ k) (here_ready k)
    (same_words _ _ c.first_here.auto.table) (same_words _ _ c.first_here.auto.work)

pub returns-then-room-size : goal.returns-then-room-size
returns-then-room-size c = λ r decodes.
    let setting = c.requires.1 in
    too_large c.args.room c.args.v r setting _ (c.size.ensures r _ decodes setting) c.if-room-size.true

pub question-requires : goal.question-requires
question-requires c =
    let pre = c.requires in (
      pre.0,
      pre.1,
      λ r decodes. omega (arith, c.size.ensures r _ decodes pre.1, c.if-room-size.false, pre.2.table_room),
      omega (arith, pre.2.table_room, pre.2.most),
    )

pub first_here-requires : goal.first_here-requires
first_here-requires c =
    let (r, t) = passed _ _ refl c.requires.0 in
    record { rule = _; ready = asked (goal.at.first_here-requires c).After-question r t.decodes }

pub returns-in_err-first_here : goal.returns-in_err-first_here
returns-in_err-first_here c = λ r decodes.
    let setting = c.requires.1 in
    let v = c.args.v in
    let k = asked (goal.at.returns-in_err-first_here c).After-question r decodes in
    let exit = err_from_is_err_and c.from_residual.result c.from_residual.ensures.1 in
    rw (exit.1, exit.2) (asked_stepped _ v r setting _ _ (c.size.ensures r _ decodes setting) c.if-room-size.false
    (first_refused _ (question v r) _ _ (c.in_err-first_here.ensures _ k)))

pub all_rounds-requires : goal.all_rounds-requires
all_rounds-requires c =
    let (r, t) = passed _ _ refl c.requires.0 in
    let k = asked (goal.at.all_rounds-requires c).After-question r t.decodes in
    record { rule = _; ready = (made (goal.at.all_rounds-requires c).In_ok-first_here r k).ready }

pub returns : goal.returns
returns c = λ r decodes.
    let setting = c.requires.1 in
    let v = c.args.v in
    let k = asked (goal.at.returns c).After-question r decodes in
    let f = made (goal.at.returns c).In_ok-first_here r k in
    asked_stepped _ v r setting _ _ (c.size.ensures r _ decodes setting) c.if-room-size.false
    (rounds_stepped _ (question v r) _ _ f.is (c.all_rounds.ensures f.rule f.ready))
