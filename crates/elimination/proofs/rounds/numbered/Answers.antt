-- `rounds::numbered` meets its contract: each step has the table that the last one gave, and a refusal ends the line.
-- Assumes nothing.
use Rattle.std.proofs.lemmas.Result.{err_from_is_err_and}
use Rattle.rules.specs.Rule.{Rule}
use Rattle.rules.specs.Eliminate.{normal_step, common_step, disjunction_step}
use Rattle.rules.specs.Calls.{words}
use Rattle.tables.proofs.WordLaws.{same_words}
use Rattle.elimination.specs.Stepping.{StepReady, Locates}
use Rattle.elimination.proofs.StepLaws.{nowhere, common_none, disjunction_none}
use Rattle.elimination.proofs.FairLaws.{normal_fair, common_fair}
use Rattle.elimination.proofs.RoundLaws.{Come, come_first, come_located, come_table, come_stays, come_over}
use Rattle.elimination.proofs.RoundLaws.{come_next, answered_next, there, to_normal, to_common}
use Rattle.elimination.proofs.RoundLaws.{numbered_answered, ended_common, ended_normal}
use Rattle.elimination.proofs.rounds.numbered.Goals.{In_ok-normal_form, In_ok-common_factor}
use Rattle.elimination.proofs.rounds.numbered.Goals as goal

-- where the line has come to after each step
normalled : (c : In_ok-normal_form) (r : Rule)
    → StepReady (words c.args.table.now) (words c.args.work.now) c.args.room r → Locates r c.args.c
    → Come (words c.normal_form.new.table) (words c.normal_form.new.work) c.args.room (to_normal c.args.room r)
normalled c r ready at =
    come_next (come_first r ready) (normal_step _) (normal_fair _) _ _ (c.in_ok-normal_form.ensures r ready at)
    (same_words _ _ c.normal_form.auto.table) (same_words _ _ c.normal_form.auto.work)

scaled : (c : In_ok-common_factor) (r : Rule)
    → StepReady (words c.args.table.now) (words c.args.work.now) c.args.room r → Locates r c.args.c
    → Come (words c.common_factor.new.table) (words c.common_factor.new.work) c.args.room (to_common c.args.room r)
scaled c r ready at =
    let come = normalled (goal.at.locate-requires-2 c).In_ok-normal_form r ready at in
    let found = there come.rule (c.in-Some.ensures come.rule come.ready.has) in
    come_next come (common_step _) (common_fair _) _ _ (c.in_ok-common_factor.ensures come.rule come.ready found)
    (same_words _ _ c.common_factor.auto.table) (same_words _ _ c.common_factor.auto.work)

pub returns-in_err-normal_form : goal.returns-in_err-normal_form
returns-in_err-normal_form c = λ r ready at.
    let p = err_from_is_err_and c.from_residual.result c.from_residual.ensures.1 in
    rw (p.1, p.2) (ended_normal _ r _ _
    (answered_next (come_first r ready) (normal_step _) _ _ (c.in_err-normal_form.ensures r ready at)))

pub locate-requires : goal.locate-requires
locate-requires c =
    let pre = c.requires in
    come_table (normalled (goal.at.locate-requires c).In_ok-normal_form pre.rule pre.ready pre.locates)

pub returns-in_default : goal.returns-in_default
returns-in_default c = λ r ready at.
    let come = normalled (goal.at.returns-in_default c).In_ok-normal_form r ready at in
    let none = nowhere come.rule (c.in_default.ensures come.rule come.ready.has) in
    let scaled = come_stays come (common_step _) (common_none _ _ none) in
    numbered_answered _ r _ _ (come_over (come_stays scaled (disjunction_step _) (disjunction_none _ _ none)))

pub common_factor-requires : goal.common_factor-requires
common_factor-requires c =
    let pre = c.requires in
    let come = normalled (goal.at.common_factor-requires c).In_ok-normal_form pre.rule pre.ready pre.locates in
    come_located come (there come.rule (c.in-Some.ensures come.rule come.ready.has))

pub returns-in_err-common_factor : goal.returns-in_err-common_factor
returns-in_err-common_factor c = λ r ready at.
    let come = normalled (goal.at.returns-in_err-common_factor c).In_ok-normal_form r ready at in
    let found = there come.rule (c.in-Some.ensures come.rule come.ready.has) in
    let exit = c.from_residual-in_err-common_factor in
    let p = err_from_is_err_and exit.result exit.ensures.1 in
    rw (p.1, p.2) (ended_common _ r _ _
    (answered_next come (common_step _) _ _ (c.in_err-common_factor.ensures come.rule come.ready found)))

pub locate-requires-2 : goal.locate-requires-2
locate-requires-2 c =
    let pre = c.requires in
    come_table (scaled (goal.at.locate-requires-2 c).In_ok-common_factor pre.rule pre.ready pre.locates)

pub returns-in_default-locate : goal.returns-in_default-locate
returns-in_default-locate c = λ r ready at.
    let come = scaled (goal.at.returns-in_default-locate c).In_ok-common_factor r ready at in
    let none = nowhere come.rule (c.in_default-locate.ensures come.rule come.ready.has) in
    numbered_answered _ r _ _ (come_over (come_stays come (disjunction_step _) (disjunction_none _ _ none)))

pub disjunction-requires : goal.disjunction-requires
disjunction-requires c =
    let pre = c.requires in
    let come = scaled (goal.at.disjunction-requires c).In_ok-common_factor pre.rule pre.ready pre.locates in
    come_located come (there come.rule (c.in-Some-locate.ensures come.rule come.ready.has))

pub returns : goal.returns
returns c = λ r ready at.
    let come = scaled (goal.at.returns c).In_ok-common_factor r ready at in
    let found = there come.rule (c.in-Some-locate.ensures come.rule come.ready.has) in
    numbered_answered _ r _ _
    (answered_next come (disjunction_step _) _ _ (c.disjunction.ensures come.rule come.ready found))
