-- `whole` meets its contract: the sign, where there is one, and then the number without it.
use Rattle.std.proofs.Common.{sym, ap, arith, length, to_z-of_z, w64}
use Rattle.text.proofs.PlacedLaws.{puts_then, puts_as, puts_left}
use Rattle.text.proofs.DecimalLaws.{number_from, number_under}
use Rattle.text.proofs.lent.Text.whole.Goals as goal
use Rattle.text.proofs.lent.Text.whole.Goals.{then-n-lt0, else-n-lt0}

pub byte-requires : goal.byte-requires
byte-requires c =
    let same = to_z-of_z {w = w64} c.ranges.n in
    omega (arith, ap length (number_under _ same c.if-n-lt0.true))

pub natural-requires : goal.natural-requires
natural-requires c =
    let same = to_z-of_z {w = w64} c.ranges.n in
    rw c.unsigned_abs.ensures.value (elim c.if-n-lt0.branch [
      | then-n-lt0 w ↦
          rw w.self-is (omega (arith, puts_left w.byte.ensures, ap length (number_under _ same w.if-n-lt0.true)))
      | else-n-lt0 w ↦ rw w.self-is (omega (arith, ap length (number_from _ same w.if-n-lt0.false)))
    ])

pub returns : goal.returns
returns c =
    let same = to_z-of_z {w = w64} c.ranges.n in
    let digits = rw c.unsigned_abs.ensures.value at c.natural.ensures in
    elim c.if-n-lt0.branch [
      | then-n-lt0 w ↦
          puts_as (puts_then w.byte.ensures (rw w.self-is at digits)) (sym (number_under _ same w.if-n-lt0.true))
      | else-n-lt0 w ↦ puts_as (rw w.self-is at digits) (sym (number_from _ same w.if-n-lt0.false))
    ]
