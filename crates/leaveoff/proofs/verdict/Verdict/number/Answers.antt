-- `Verdict::number` meets its contract: an enum counts its variants from 0, and the paper its verdicts from 1.
-- Assumes nothing.
use Rattle.std.proofs.Common.{◌≡◌, ◌+◌, refl}
use denote.Enum.Declared.{tag_of}
use Rattle.leaveoff.specs.Outcome.{verdict_number}
use Rattle.leaveoff.specs.contracts.verdict.Verdict.{the_type}
use Rattle.leaveoff.specs.declared.verdict.Verdict.{Verdict}
use Rattle.leaveoff.specs.declared.verdict.Verdict.TheVariants.{True, False, Open}
use Rattle.leaveoff.proofs.verdict.Verdict.number.Goals as goal

counted : (v : Verdict) → tag_of the_type v + 1 ≡ verdict_number v
unfolding verdict_number
counted True = refl
counted False = refl
counted Open = refl

pub returns : goal.returns
returns c = counted c.args.self
