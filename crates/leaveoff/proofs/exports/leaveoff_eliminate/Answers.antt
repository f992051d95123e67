-- `leaveoff_eliminate` meets its contract: the answer of elimination lies within its bits, and packs.
-- Assumes nothing.
use Rattle.leaveoff.specs.Outcome.{Eliminates}
use Rattle.leaveoff.proofs.LentLaws.{fits_so, packed_so}
use Rattle.leaveoff.proofs.EliminatedLaws.{eliminated_fits}
use Rattle.leaveoff.proofs.exports.leaveoff_eliminate.Goals as goal

pub pack-requires : goal.pack-requires
pack-requires c = fits_so _ (eliminated_fits _ _ _) c.eliminate.ensures.work_after

pub returns : goal.returns
returns c =
    let answered = c.eliminate.ensures in
    let (leaves, eliminates) =
    packed_so _ (eliminated_fits _ _ _) answered.work_after (Eliminates _ _) answered.eliminates c.pack.ensures in
    record { leaves = leaves; eliminates = eliminates }
