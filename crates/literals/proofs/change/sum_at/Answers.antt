-- `change::sum_at` meets its contract.
-- Assumes nothing.
use Rattle.rules.specs.Calls.{words}
use Rattle.literals.proofs.KindNumbers.{literal_kinded, read_signed}
use Rattle.literals.proofs.Literals.{literal_start}
use Rattle.literals.proofs.change.sum_at.Goals as goal

pub at-requires : goal.at-requires
at-requires c = literal_kinded c.requires

pub returns : goal.returns
returns c =
    let first = read_signed (words c.args.bodies.now) c.at.result c.at.ensures in (
      λ n t s l. (literal_start t l first c.start.ensures).0,
      (literal_start c.requires.test c.requires.at first c.start.ensures).1,
    )
