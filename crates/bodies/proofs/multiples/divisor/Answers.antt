-- `multiples::divisor` meets its contract: the word read is the divisor, where the kind has one.
use Rattle.std.proofs.Common.{◌≡◌, subst, ◌∙◌, arith}
use mathlib.Core.Logic.{◌⊎◌}
use Rattle.tables.specs.declared.kind.Kind.{Kind}
use Rattle.tables.specs.declared.kind.Kind.TheVariants as kind
use Rattle.bodies.proofs.CursorLaws.{literal_eight}
use Rattle.bodies.proofs.LiteralKinds.{kinded, kind_is}
use Rattle.bodies.proofs.MultipleLaws.{brings_divisor, brings_nothing}
use Rattle.bodies.proofs.multiples.divisor.Goals as goal

pub at-requires : goal.at-requires
at-requires c = kinded c.requires.1.at

pub overflow_add-place : goal.overflow_add-place
overflow_add-place c = omega (arith, literal_eight c.requires.1.at, c.requires.1.few)

pub natural-requires : goal.natural-requires
natural-requires c = omega (arith, literal_eight c.requires.1.at)

pub returns-in-Divisible : goal.returns-in-Divisible
returns-in-Divisible c = λ end t s ls l.
    brings_divisor t l
    (subst (λ (k : Kind). (k ≡ kind.Divisible) ⊎ (k ≡ kind.Indivisible)) (kind_is l c.at.result c.at.ensures)
    c.in-Divisible.is)
    c.natural.result c.natural.ensures.1

pub returns-in_default : goal.returns-in_default
returns-in_default c = λ end t s ls l.
    let is = kind_is l c.at.result c.at.ensures in
    brings_nothing t s (λ e. c.in_default.not-Divisible (is ∙ e)) (λ e. c.in_default.not-Indivisible (is ∙ e))
