-- The entries get fewer at each call.
use lib.ListN.{length}
use Rattle.rules.specs.Calls.{words}
use Rattle.walks.proofs.normal.+plain_under.Given as goal

abbrev pub decreases-plain : goal.decreases-plain
decreases-plain l = length (words l.part.entries.now)

abbrev pub decreases-under : goal.decreases-under
decreases-under l = length (words l.part.entries.now)
