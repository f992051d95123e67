-- `eliminate::stepped` meets its contract: the refusal of the check or of the first step table, or what rounds make.
-- Assumes nothing.
use mathlib.Core.Path.{refl}
use Rattle.std.proofs.lemmas.Result.{err_from_is_err_and}
use Rattle.rules.specs.Rule.{Rule}
use Rattle.rules.specs.Calls.{words}
use Rattle.tables.proofs.WordLaws.{same_words}
use Rattle.tables.proofs.Passed.{TableOf, passed, table_formed}
use Rattle.elimination.proofs.StepLaws.{answered}
use Rattle.leaveoff.proofs.FirstLaws.{First, first_refused, first_ready, rounds_stepped}
use Rattle.leaveoff.proofs.EliminatedLaws.{steps_are, steps_refused}
use Rattle.leaveoff.proofs.eliminate.stepped.Goals.{In_ok-check, In_ok-first}
use Rattle.leaveoff.proofs.eliminate.stepped.Goals as goal

-- the rule whose table passed the check
table : (c : In_ok-check) → (r : Rule) × TableOf c.args.t.now c.in_ok-check.field-0 r
table c = passed _ _ refl c.in_ok-check.ensures

-- its first step table is ready for the rounds
made : (c : In_ok-first) {r : Rule} → TableOf c.args.t.now c.in_ok-check.field-0 r
    → First c.args.room r (words c.first.new.table) (words c.first.new.work)
made c {r} t =
    first_ready _ r _ _ (table_formed t) (c.in_ok-first.ensures r t.decodes) c.requires
    (same_words _ _ c.first.auto.table) (same_words _ _ c.first.auto.work)

pub returns-in_err-check : goal.returns-in_err-check
returns-in_err-check c =
    let exit = err_from_is_err_and c.from_residual.result c.from_residual.ensures.1 in
    rw (exit.1, exit.2) (steps_refused _ _ _ _ c.in_err-check.ensures)

pub first-requires : goal.first-requires
first-requires c = (record { rule = _; decodes = (table (goal.at.first-requires c).In_ok-check).1.decodes }, c.requires)

pub returns-in_err-first : goal.returns-in_err-first
returns-in_err-first c =
    let (r, t) = table (goal.at.returns-in_err-first c).In_ok-check in
    let exit = err_from_is_err_and c.from_residual-in_err-first.result c.from_residual-in_err-first.ensures.1 in
    rw (exit.1, exit.2) (answered _ _ (steps_are _ t) (first_refused _ r _ _ (c.in_err-first.ensures r t.decodes)))

pub all_rounds-requires : goal.all_rounds-requires
all_rounds-requires c =
    let t = (table (goal.at.all_rounds-requires c).In_ok-check).1 in
    record { rule = _; ready = (made (goal.at.all_rounds-requires c).In_ok-first t).ready }

pub returns : goal.returns
returns c =
    let (r, t) = table (goal.at.returns c).In_ok-check in
    let f = made (goal.at.returns c).In_ok-first t in
    answered _ _ (steps_are _ t) (rounds_stepped _ r _ _ f.is (c.all_rounds.ensures f.rule f.ready))
