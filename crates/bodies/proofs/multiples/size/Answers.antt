-- `multiples::size` meets its contract: the word read is the factor of x.
use Rattle.std.proofs.Common.{◌≡◌, ℕ, ◌+◌, max, List, ap, ◌∙◌, arith}
use borrow.Author.Rules.{sfits_of}
use lib.IntN.{nat_abs}
use mir.Facts.{to_z-of_z}
use mir.Syntax.{w32}
use Rattle.rules.specs.Sum.{Sum}
use Rattle.rules.specs.Rule.{Test}
use Rattle.rules.specs.Calls.{words}
use Rattle.rules.proofs.Sizes.{before_sum}
use Rattle.bodies.specs.Cursor.{LiteralAt}
use Rattle.bodies.proofs.CursorLaws.{literal_inside}
use Rattle.bodies.proofs.LiteralKinds.{kinded, wide_is}
use Rattle.bodies.proofs.MultipleLaws.{factor_word, brings_size}
use Rattle.bodies.proofs.multiples.size.Goals as goal
use Rattle.bodies.proofs.multiples.size.Goals.{After-width-width}

-- how many words the body of the literal has
wide : (c : After-width-width) {end : ℕ} {t : Test} {s : Sum} {ls : List (Test × Sum)}
    → LiteralAt (words c.args.bodies.now) c.args.place end t s ls
    → c.width-width.result ≡ before_sum t + 7
wide c l = wide_is l c.at.result c.at.ensures c.width-width.result c.width-width.ensures.0

pub at-requires : goal.at-requires
at-requires c = kinded c.requires.0.1.at

pub overflow_sub-width : goal.overflow_sub-width
overflow_sub-width c = omega (arith, wide (goal.at.overflow_sub-width c).After-width-width c.requires.0.1.at)

pub overflow_add-place-2 : goal.overflow_add-place-2
overflow_add-place-2 c =
    let at = c.requires.0.1.at in
    omega (arith, wide (goal.at.overflow_add-place-2 c).After-width-width at, literal_inside at, c.requires.0.1.few)

pub get-requires : goal.get-requires
get-requires c =
    let at = c.requires.0.1.at in
    omega (arith, wide (goal.at.get-requires c).After-width-width at, literal_inside at)

pub returns : goal.returns
returns c = λ end t s ls l.
    let there = wide (goal.at.returns c).After-width-width l in
    let word = factor_word l c.width-width.result there c.args.x c.requires.1 in
    let got = to_z-of_z {w = w32} (sfits_of c.get.type_inv) ∙ c.get.ensures ∙ word in
    c.max.ensures ∙ ap (λ (n : ℕ). max n 1) (c.unsigned_abs.ensures.value ∙ ap nat_abs got) ∙ brings_size c.args.x t s
