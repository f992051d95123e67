-- `leave_off::tested` meets its contract: the refusal of the check, then 8, or what the question's elimination makes.
-- Assumes nothing.
use mathlib.Core.Path.{refl, subst}
use lib.IntN.{ℤ}
use Rattle.std.proofs.lemmas.Result.{err_from_is_err_and}
use Rattle.rules.specs.Rule.{Rule}
use Rattle.rules.specs.LeaveOff.{leave_off}
use Rattle.rules.specs.Calls.{words}
use Rattle.tables.proofs.Passed.{TableOf, passed}
use Rattle.elimination.specs.Stepping.{Stepped}
use Rattle.elimination.proofs.StepLaws.{answered}
use Rattle.leaveoff.proofs.LeftOffLaws.{none_found, passes, setting_again, is_natural}
use Rattle.leaveoff.proofs.LeftOffLaws.{test_is, test_refused, no_setting}
use Rattle.leaveoff.proofs.leave_off.tested.Goals.{In_ok-n}
use Rattle.leaveoff.proofs.leave_off.tested.Goals as goal

-- the rule whose table passed the check
table : (c : In_ok-n) → (r : Rule) × TableOf c.args.t.now c.in_ok-n.n r
table c = passed _ _ refl c.in_ok-n.ensures

pub returns-in_err-n : goal.returns-in_err-n
returns-in_err-n c =
    let exit = err_from_is_err_and c.from_residual.result c.from_residual.ensures.1 in
    rw (exit.1, exit.2) (test_refused _ _ _ _ _ c.in_err-n.ensures)

pub returns-then-not-is_setting : goal.returns-then-not-is_setting
returns-then-not-is_setting c =
    let (r, t) = table (goal.at.returns-then-not-is_setting c).In_ok-n in
    let none = none_found _ c.ranges.v c.is_setting.ensures c.if-not-is_setting.true in
    answered _ _ (test_is _ _ t) (no_setting _ _ r _ none)

pub overflow_cast-v : goal.overflow_cast-v
overflow_cast-v c = is_natural _ c.ranges.v c.is_setting.ensures c.if-not-is_setting.false

pub answered-requires : goal.answered-requires
answered-requires c =
    (c.in_ok-n.ensures, passes _ c.ranges.v c.is_setting.ensures c.if-not-is_setting.false, c.requires)

pub returns : goal.returns
returns c =
    let (r, t) = table (goal.at.returns c).In_ok-n in
    let same = setting_again _ c.ranges.v c.is_setting.ensures c.if-not-is_setting.false in
    answered _ _ (test_is _ _ t)
    (subst (λ (v : ℤ). Stepped (leave_off c.args.room v r) c.answered.result (words c.answered.new.out)) same
    (c.answered.ensures r t.decodes))
