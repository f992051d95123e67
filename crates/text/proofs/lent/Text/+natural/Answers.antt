-- `natural` meets its contract: the number's tenth first, where it has one, and then the last digit.
use Rattle.std.proofs.Common.{sym, ap, arith, length}
use Rattle.text.proofs.PlacedLaws.{puts_then, puts_as, puts_left}
use Rattle.text.proofs.DecimalLaws.{one_digit, more_digits, digits_one_more}
use Rattle.text.proofs.lent.Text.+natural.Goals as goal
use Rattle.text.proofs.lent.Text.+natural.Goals.{then-n-ge10, else-n-ge10}

pub natural-requires : goal.natural-requires
natural-requires t c = (omega arith, omega (arith, digits_one_more _ c.if-n-ge10.true))

pub byte-requires : goal.byte-requires
byte-requires t c = elim c.if-n-ge10.branch [
  | then-n-ge10 w ↦ rw w.self-is (omega (arith, puts_left w.natural.ensures, digits_one_more _ w.if-n-ge10.true))
  | else-n-ge10 w ↦ rw w.self-is (omega (arith, ap length (one_digit _ w.if-n-ge10.false)))
]

pub returns : goal.returns
returns t c =
    elim c.if-n-ge10.branch [
      | then-n-ge10 w ↦ puts_as (puts_then w.natural.ensures (rw w.self-is at c.byte.ensures)) (sym (more_digits _ w.if-n-ge10.true))
      | else-n-ge10 w ↦ puts_as (rw w.self-is at c.byte.ensures) (sym (one_digit _ w.if-n-ge10.false))
    ]
