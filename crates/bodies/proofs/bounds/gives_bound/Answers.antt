-- `bounds::gives_bound` meets its contract: the kind is 0 < T, and the word read is the factor of x.
use Rattle.std.proofs.Common.{sym, ◌∙◌, arith}
use Rattle.bodies.proofs.CursorLaws.{literal_eight}
use Rattle.bodies.proofs.LiteralKinds.{kinded, kind_is}
use Rattle.bodies.proofs.GivenLaws.{gives_none, gives_factor}
use Rattle.bodies.proofs.bounds.gives_bound.Goals as goal

pub at-requires : goal.at-requires
at-requires c = kinded c.requires.0.1.at

pub overflow_add-place : goal.overflow_add-place
overflow_add-place c = omega (arith, literal_eight c.requires.0.1.at, c.requires.0.1.few)

pub overflow_add-place-in-Positive : goal.overflow_add-place-in-Positive
overflow_add-place-in-Positive c =
    omega (arith, literal_eight c.requires.0.1.at, c.requires.0.1.few, c.requires.1)

pub natural-requires : goal.natural-requires
natural-requires c = omega (arith, literal_eight c.requires.0.1.at, c.requires.1)

pub returns-in-Positive : goal.returns-in-Positive
returns-in-Positive c = λ end t s ls l.
    gives_factor l (sym (kind_is l c.at.result c.at.ensures) ∙ c.in-Positive.is) c.args.x c.requires.1 c.natural.result
    c.natural.ensures.1

pub returns-in_default : goal.returns-in_default
returns-in_default c = λ end t s ls l.
    gives_none c.args.x t s (λ e. c.in_default.not-Positive (kind_is l c.at.result c.at.ensures ∙ e))
