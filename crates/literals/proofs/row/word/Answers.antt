-- `row::word` meets its contract: the word of the table, changed as the row says.
-- Assumes nothing.
use mathlib.Core.Path.{subst⁻¹}
use Prim.Native.Nat.{◌<◌}
use native.Mathlib.Omega.{arith}
use borrow.Author.Rules.{rules, sfits_of}
use lib.IntN.{ℤ}
use lib.Signed.{mag}
use mir.Facts.{to_z-of_z}
use Rattle.tables.proofs.WordLaws.{words_length}
use Rattle.literals.proofs.Sizes.{again}
use Rattle.literals.proofs.SumLaws.{plus_tame, put_small, word_times, word_plus}
use mir.Syntax.{w64}
use mir.Val.{SFits}
use Rattle.literals.proofs.row.word.Goals as goal

pub overflow_add-at : goal.overflow_add-at
overflow_add-at c = omega (arith, words_length c.args.b.now, c.requires.0.long)

pub plus-requires : goal.plus-requires
plus-requires c =
    let a = c.term-a in
    let f : SFits w64 c.in-Plus.f = search rules in
    let tame = plus_tame c.in-Plus.is c.requires.0.tame in (
      subst⁻¹ (λ (z : ℤ). mag z < 2147483648) (to_z-of_z {w = w64} (sfits_of {z = a.result} a.type_inv)) a.ensures.1,
      again w64 f tame.0,
      put_small c.in-Plus.u.now _ tame.1,
    )

pub returns-in-Times : goal.returns-in-Times
returns-in-Times c =
    let a = c.term-a in
    let g : SFits w64 c.in-Times.sign = search rules in
    word_times c.in-Times.is _ g (sfits_of {z = a.result} a.type_inv)
    (sfits_of {z = c.times.result} c.times.type_inv) c.times.ensures a.ensures.0

pub returns-in-Plus : goal.returns-in-Plus
returns-in-Plus c =
    let a = c.term-a in
    let f : SFits w64 c.in-Plus.f = search rules in
    word_plus c.in-Plus.is _ c.requires.0.tame f (sfits_of {z = a.result} a.type_inv)
    (sfits_of {z = c.plus.result} c.plus.type_inv) c.plus.ensures a.ensures.0
