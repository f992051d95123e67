use Rattle.std.proofs.Common.{◌-◌}
use Rattle.rules.specs.Calls.{words}
use Rattle.tables.proofs.DueTrees.{Due}
use Rattle.tables.proofs.check.+walk.Given as goal

abbrev pub decreases-walk : goal.decreases-walk
decreases-walk l = l.left

abbrev pub invariant-loop-m : goal.invariant-loop-m
invariant-loop-m l = Due (words l.bodies) l.node l.left l.m l.w

abbrev pub decreases-loop-m : goal.decreases-loop-m
decreases-loop-m l = l.left - l.m
