-- The entries of a side are fewer; what stands under a chain may have all of them still.
use lib.ListN.{length}
use Prim.Native.Nat.{◌+◌, ◌*◌}
use Rattle.rules.specs.Calls.{words}
use Rattle.walks.proofs.fold.+chained_core_fold.Given as goal

abbrev pub decreases-core : goal.decreases-core
decreases-core l = 3 * length (words l.part.entries.now)

abbrev pub decreases-chained : goal.decreases-chained
decreases-chained l = 3 * length (words l.part.entries.now) + 1

abbrev pub decreases-fold : goal.decreases-fold
decreases-fold l = 3 * length (words l.part.entries.now) + 2
