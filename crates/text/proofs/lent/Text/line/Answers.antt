-- `line` meets its contract: each word is put as the loop passes it.
use Rattle.std.proofs.Common.{arith, sym, FitsSigned, w32}
use Rattle.text.proofs.PlacedLaws.{puts_left}
use Rattle.text.proofs.DecimalLaws.{few_of_word}
use Rattle.text.proofs.LineLaws.{none_put, one_more, all_put, few_behind_whole, word_again}
use Rattle.text.proofs.lent.Text.line.Goals as goal

pub natural-requires : goal.natural-requires
natural-requires c = omega (arith, few_of_word c.from.result (omega arith))

pub loop-i-init : goal.loop-i-init
loop-i-init c = none_put

pub spaced-requires : goal.spaced-requires
spaced-requires c =
    let fits : FitsSigned w32 c.get.result = record { sfits = c.get.type_inv } in
    rw (word_again fits c.from-in-loop-i.ensures) (omega (
      arith,
      puts_left c.natural.ensures,
      few_of_word c.from.result (omega arith),
      few_behind_whole _ fits,
    ))

pub loop-i-preserved : goal.loop-i-preserved
loop-i-preserved c =
    let fits : FitsSigned w32 c.get.result = record { sfits = c.get.type_inv } in
    one_more c.loop-i.invariant _ (omega arith) (sym c.get.ensures)
    (rw (word_again fits c.from-in-loop-i.ensures) at c.spaced.ensures) (few_behind_whole _ fits)

pub byte-requires : goal.byte-requires
byte-requires c = omega (arith, puts_left c.natural.ensures, few_of_word c.from.result (omega arith))

pub returns-clause-line : goal.returns-clause-line
returns-clause-line c =
    all_put c.loop-i.invariant _ (omega arith) (rw c.from.ensures at c.natural.ensures) c.byte.ensures

pub returns-clause-short : goal.returns-clause-short
returns-clause-short c = omega (arith, few_of_word c.from.result (omega arith))
