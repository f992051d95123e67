-- `numbers::constant_at_limit` meets its contract: the word read is c, where T starts.
-- Assumes nothing.
use mathlib.Core.Path.{ap, ◌∙◌}
use lib.IntN.{nat_abs}
use mir.Syntax.{w32}
use mir.Facts.{to_z-of_z}
use native.Mathlib.Omega.{arith}
use borrow.Author.Rules.{sfits_of}
use Rattle.rules.specs.Calls.{words}
use Rattle.literals.proofs.KindNumbers.{literal_kinded, read_signed}
use Rattle.literals.proofs.Literals.{literal_start}
use Rattle.steps.proofs.NumberLaws.{limit_decides}
use Rattle.steps.proofs.numbers.constant_at_limit.Goals as goal

pub at-requires : goal.at-requires
at-requires c = literal_kinded c.requires

pub get-c-requires : goal.get-c-requires
get-c-requires c = omega (
  arith,
  (literal_start c.requires.test c.requires.at (read_signed (words c.args.bodies.now) c.at.result c.at.ensures)
      c.start.ensures).1,
)

pub returns : goal.returns
returns c = λ n t s l. limit_decides c.get-c.ensures l
    (literal_start t l (read_signed (words c.args.bodies.now) c.at.result c.at.ensures) c.start.ensures).0
    (c.unsigned_abs.ensures.value ∙ ap nat_abs {y = c.get-c.result} (to_z-of_z {w = w32} (sfits_of c.get-c.type_inv)))
