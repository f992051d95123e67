-- `four` meets its contract: each number behind the first is put as the loop passes it.
use Rattle.std.proofs.Common.{arith, ◌∙◌, to_z-of_z, w64, ℕ, ℤ, pos}
use Rattle.std.proofs.lemmas.List.{length-map}
use Rattle.std.proofs.Math.ListN.{get_or-map}
use Rattle.text.proofs.PlacedLaws.{puts_left}
use Rattle.text.proofs.DecimalLaws.{few_of_word}
use Rattle.text.proofs.LineLaws.{none_put, one_more, all_put, few_behind_word}
use Rattle.text.proofs.lent.Text.four.Goals as goal

pub natural-requires : goal.natural-requires
natural-requires c = omega (arith, few_of_word c.from.result (omega arith))

pub loop-n-init : goal.loop-n-init
loop-n-init c = none_put

pub spaced-requires : goal.spaced-requires
spaced-requires c =
    let same = to_z-of_z {w = w64} (record { sfits = c.from-in-loop-n.type_inv }) ∙ c.from-in-loop-n.ensures in
    rw same (omega (
      arith,
      puts_left c.natural.ensures,
      few_of_word c.from.result (omega arith),
      few_behind_word _ c.loop-n-test.element_fits.fits,
    ))

pub loop-n-preserved : goal.loop-n-preserved
loop-n-preserved c =
    let same = to_z-of_z {w = w64} (record { sfits = c.from-in-loop-n.type_inv }) ∙ c.from-in-loop-n.ensures in
    one_more c.loop-n.invariant _ (omega (arith, length-map {A = ℕ} {B = ℤ})) (get_or-map pos c.args.others c.loop-n.n-index 0) (rw same at c.spaced.ensures)
    (few_behind_word _ c.loop-n-test.element_fits.fits)

pub byte-requires : goal.byte-requires
byte-requires c = omega (arith, puts_left c.natural.ensures, few_of_word c.from.result (omega arith))

pub returns-clause-line : goal.returns-clause-line
returns-clause-line c =
    all_put c.loop-n.invariant _ (omega (arith, length-map {A = ℕ} {B = ℤ})) (rw c.from.ensures at c.natural.ensures) c.byte.ensures

pub returns-clause-short : goal.returns-clause-short
returns-clause-short c = omega (arith, few_of_word c.from.result (omega arith))
