-- `rounds::round` meets its contract: a for-all is first made a for-some, then come the numbered steps.
-- Assumes nothing.
use Rattle.std.proofs.lemmas.Result.{err_from_is_err_and}
use Rattle.rules.specs.Rule.{Rule}
use Rattle.rules.specs.Eliminate.{for_all_step}
use Rattle.rules.specs.Calls.{words}
use Rattle.tables.proofs.WordLaws.{same_words}
use Rattle.elimination.specs.Stepping.{StepReady, Locates, numbered}
use Rattle.elimination.proofs.StepLaws.{nowhere}
use Rattle.elimination.proofs.FairLaws.{for_all_fair}
use Rattle.elimination.proofs.RoundLaws.{Come, come_first, come_located, come_table, come_stays, come_over}
use Rattle.elimination.proofs.RoundLaws.{come_next, answered_next, there, to_for_all, numbered_none}
use Rattle.elimination.proofs.RoundLaws.{round_answered, some_answered, ended_for_all}
use Rattle.elimination.proofs.rounds.round.Goals.{In_ok-for_all}
use Rattle.elimination.proofs.rounds.round.Goals as goal

-- where the line has come to after the for-all's own step
turned : (c : In_ok-for_all) (r : Rule)
    → StepReady (words c.args.table.now) (words c.args.work.now) c.args.room r → Locates r c.args.c
    → Come (words c.for_all.new.table) (words c.for_all.new.work) c.args.room (to_for_all c.args.room r)
turned c r ready at =
    come_next (come_first r ready) (for_all_step _) (for_all_fair _) _ _ (c.in_ok-for_all.ensures r ready at)
    (same_words _ _ c.for_all.auto.table) (same_words _ _ c.for_all.auto.work)

pub returns-then-c : goal.returns-then-c
returns-then-c c = λ r ready at. some_answered _ r _ _ at c.if-c.true (c.numbered.ensures r ready at)

pub returns-in_err-for_all : goal.returns-in_err-for_all
returns-in_err-for_all c = λ r ready at.
    let p = err_from_is_err_and c.from_residual.result c.from_residual.ensures.1 in
    rw (p.1, p.2) (ended_for_all _ r _ _
    (answered_next (come_first r ready) (for_all_step _) _ _ (c.in_err-for_all.ensures r ready at)))

pub locate-requires : goal.locate-requires
locate-requires c =
    let pre = c.requires in
    come_table (turned (goal.at.locate-requires c).In_ok-for_all pre.rule pre.ready pre.locates)

pub returns-in_default : goal.returns-in_default
returns-in_default c = λ r ready at.
    let come = turned (goal.at.returns-in_default c).In_ok-for_all r ready at in
    let none = nowhere come.rule (c.in_default.ensures come.rule come.ready.has) in
    round_answered _ r _ _ (come_over (come_stays come (numbered _) (numbered_none _ _ none)))

pub numbered-requires-2 : goal.numbered-requires-2
numbered-requires-2 c =
    let pre = c.requires in
    let come = turned (goal.at.numbered-requires-2 c).In_ok-for_all pre.rule pre.ready pre.locates in
    come_located come (there come.rule (c.in-Some.ensures come.rule come.ready.has))

pub returns : goal.returns
returns c = λ r ready at.
    let come = turned (goal.at.returns c).In_ok-for_all r ready at in
    let found = there come.rule (c.in-Some.ensures come.rule come.ready.has) in
    round_answered _ r _ _ (answered_next come (numbered _) _ _ (c.numbered-2.ensures come.rule come.ready found))
