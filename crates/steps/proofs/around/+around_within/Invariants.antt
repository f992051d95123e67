-- The entries of a side are fewer; what stands under a chain may have all of them still.
use lib.ListN.{length}
use Prim.Native.Nat.{◌+◌, ◌*◌}
use Rattle.rules.specs.Calls.{words}
use Rattle.steps.proofs.around.+around_within.Given as goal

abbrev pub decreases-within : goal.decreases-within
decreases-within l = 2 * length (words l.part.entries.now)

abbrev pub decreases-around : goal.decreases-around
decreases-around l = 2 * length (words l.part.entries.now) + 1
