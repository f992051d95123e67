-- `spaced` meets its contract: a space and the number.
use Rattle.std.proofs.Common.{arith, to_z-of_z, w64}
use Rattle.text.proofs.PlacedLaws.{puts_then, puts_as, puts_left}
use Rattle.text.proofs.LineLaws.{spaced_one, length_spaced}
use Rattle.text.proofs.lent.Text.spaced.Goals as goal

pub byte-requires : goal.byte-requires
byte-requires c = omega (arith, length_spaced c.args.n)

pub whole-requires : goal.whole-requires
whole-requires c = rw (to_z-of_z {w = w64} c.ranges.n) (omega (arith, length_spaced c.args.n, puts_left c.byte.ensures))

pub returns : goal.returns
returns c =
    let number = rw (to_z-of_z {w = w64} c.ranges.n) at c.whole.ensures in
    puts_as (puts_then c.byte.ensures number) (spaced_one c.args.n)
