-- `literal::holds` meets its contract: the words have the kind, the divisor and the T of the literal that stands there.
-- Assumes nothing.
use native.Mathlib.Omega.{arith}
use borrow.Author.Rules.{sfits_of}
use mir.Syntax.{w64}
use Rattle.rules.specs.Calls.{words}
use Rattle.literals.proofs.Sizes.{again_below}
use Rattle.literals.proofs.KindNumbers.{literal_kinded, read_signed}
use Rattle.literals.proofs.Literals.{literal_long, value_asks, passes_asks, holds_is}
use Rattle.literals.proofs.literal.holds.Goals as goal

pub at-kind-requires : goal.at-kind-requires
at-kind-requires c = literal_kinded c.requires.0

pub natural-k-requires : goal.natural-k-requires
natural-k-requires c = omega (arith, literal_long c.requires.0)

pub value-requires : goal.value-requires
value-requires c = record {
  at_in_bounds = value_asks c.requires.0 (read_signed (words c.args.b.now) c.at-kind.result c.at-kind.ensures) c.start.ensures;
  t = c.requires.1;
}

pub passes-requires : goal.passes-requires
passes-requires c =
    let z = c.value in (
      passes_asks c.requires.0 (read_signed (words c.args.b.now) c.at-kind.result c.at-kind.ensures) c.natural-k.ensures.1,
      again_below w64 (sfits_of {z = z.result} z.type_inv) z.ensures.1,
    )

pub returns : goal.returns
returns c n t s l =
    let z = c.value in
    holds_is l (read_signed (words c.args.b.now) c.at-kind.result c.at-kind.ensures) c.natural-k.ensures.1 c.start.ensures
    _ z.result z.type_inv z.ensures.0 c.passes.ensures
