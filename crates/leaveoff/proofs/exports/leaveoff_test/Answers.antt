-- `leaveoff_test` meets its contract: the answer of the leave-off test lies within its bits, and packs.
-- Assumes nothing.
use mathlib.Core.Path.{◌≡◌, ◌∙◌, ap, subst}
use lib.IntN.{ℤ}
use lib.ListN.{length}
use mir.Facts.{to_z-of_z}
use Rattle.rules.specs.Calls.{left_off}
use Rattle.leaveoff.specs.Outcome.{answer_of, outcome_of, TestsLine}
use Rattle.leaveoff.proofs.LentLaws.{fits_so, packed_so}
use Rattle.leaveoff.proofs.LeftOffLaws.{left_off_fits}
use Rattle.leaveoff.proofs.exports.leaveoff_test.Goals.{After-leave_off}
use Rattle.leaveoff.proofs.exports.leaveoff_test.Goals as goal

-- its outcome is that of the setting as it was given
outcome : (c : After-leave_off)
    → outcome_of c.leave_off.result c.leave_off.new.out c.leave_off.new.work
    ≡ left_off c.args.table.now c.args.setting (length c.args.out.now) (length c.args.work.now)
outcome c =
    c.leave_off.ensures.work_after
    ∙ ap (λ (v : ℤ). left_off c.args.table.now v (length c.args.out.now) (length c.args.work.now))
    (to_z-of_z c.ranges.setting)

pub pack-requires : goal.pack-requires
pack-requires c = fits_so _ (left_off_fits _ _ _ _) (outcome (goal.at.pack-requires c).After-leave_off)

pub returns : goal.returns
returns c =
    let told = subst (λ (v : ℤ). TestsLine c.args.table.now v (answer_of c.leave_off.result))
    (to_z-of_z c.ranges.setting) c.leave_off.ensures.tests_line in
    let (leaves, tests) =
    packed_so _ (left_off_fits _ _ _ _) (outcome (goal.at.returns c).After-leave_off) (TestsLine _ _) told
    c.pack.ensures in
    record { leaves = leaves; tests_line = tests }
