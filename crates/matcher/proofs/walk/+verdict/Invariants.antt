-- The walk comes to a part with fewer entries, and the rule there decides.
use Rattle.std.proofs.Common.{◌-◌, length}
use Rattle.rules.specs.Calls.{words}
use Rattle.matcher.proofs.WalkLaws.{CameTo, Within}
use Rattle.matcher.proofs.walk.+verdict.Given as goal

abbrev pub decreases-verdict : goal.decreases-verdict
decreases-verdict l = length (words l.t.now) - l.node

abbrev pub invariant-loop-odd : goal.invariant-loop-odd
invariant-loop-odd l = CameTo l.values l.initial.rule l.rule l.odd × Within (words l.t) l.rule

abbrev pub decreases-loop-odd : goal.decreases-loop-odd
decreases-loop-odd l = length (words l.rule.entries.now)
