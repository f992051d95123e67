-- What falls is the number of entries: a side's walk and the joins of a spine may have all of them still, what stands
-- under nots and the sides of a join have fewer.
use Prim.Native.Nat.{◌+◌, ◌*◌}
use lib.ListN.{length}
use Rattle.rules.specs.Calls.{words}
use Rattle.judging.proofs.SpineLaws.{Along}
use Rattle.judging.proofs.judge.+side_spine_walk.Given as goal

abbrev pub decreases-side : goal.decreases-side
decreases-side l = 3 * length (words l.part.entries.now) + 2

abbrev pub decreases-spine : goal.decreases-spine
decreases-spine l = 3 * length (words l.part.entries.now)

abbrev pub decreases-walk : goal.decreases-walk
decreases-walk l = 3 * length (words l.part.entries.now) + 1

abbrev pub invariant-spine-loop-rest : goal.invariant-spine-loop-rest
invariant-spine-loop-rest l = Along l.part l.put.far l.put.x l.put.v.now l.and l.before l.rest

abbrev pub decreases-spine-loop-rest : goal.decreases-spine-loop-rest
decreases-spine-loop-rest l = length (words l.rest.entries.now)
