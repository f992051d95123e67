-- `leaveoff_match` meets its contract: it is the library's own, of the values as they were given.
-- Assumes nothing.
use mathlib.Core.Path.{◌≡◌}
use lib.IntN.{ℤ}
use mir.Facts.{to_z-of_z}
use mir.Syntax.{w32}
use mir.Val.{to_z, of_z, SFits}
use Rattle.leaveoff_c.proofs.leaveoff_match.Goals as goal

given : (v : ℤ) → SFits w32 v → to_z w32 (of_z w32 v) ≡ v
given v f = to_z-of_z f

pub returns : goal.returns
returns c =
    let call = c.leaveoff_match in
    let a = c.args in
    let f = c.ranges in
    rw (given a.s1 f.s1, given a.s2 f.s2, given a.s3 f.s3, given a.s4 f.s4, given a.s5 f.s5, given a.s6 f.s6)
    at call.ensures
