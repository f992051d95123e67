-- `leaveoff_test` meets its contract: it is the library's own, of the setting as it was given.
-- Assumes nothing.
use mathlib.Core.Path.{◌≡◌, subst}
use lib.IntN.{ℤ}
use lib.ListN.{length}
use mir.Facts.{to_z-of_z}
use mir.Syntax.{w32}
use mir.Val.{to_z, of_z}
use Rattle.rules.specs.Calls.{left_off}
use Rattle.leaveoff.specs.Outcome.{Leaves, TestsLine, unpacked}
use Rattle.leaveoff_c.proofs.leaveoff_test.Goals as goal

pub returns : goal.returns
returns c =
    let call = c.leaveoff_test in
    let args = c.args in
    let given : to_z w32 (of_z w32 args.setting) ≡ args.setting = to_z-of_z c.ranges.setting in
    record {
      leaves = subst
          (λ (v : ℤ). Leaves (left_off args.table.now v (length args.out.now) (length args.work.now)) call.result
          call.new.out call.new.work)
          given call.ensures.leaves;
      tests_line = subst (λ (v : ℤ). TestsLine args.table.now v (unpacked call.result)) given call.ensures.tests_line;
    }
