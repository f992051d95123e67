-- `Bound::is_among` meets its contract: one of them is the first that is the same.
-- Assumes nothing.
use Rattle.std.proofs.Common.{sym, subst}
use Rattle.rules.specs.Rule.{Whether}
use Rattle.rules.specs.Calls.{words}
use Rattle.bodies.specs.Bounds.{Known}
use Rattle.bodies.proofs.KeptLaws.{among}
use Rattle.bodies.proofs.bound.Bound.is_among.Goals as goal

pub returns : goal.returns
returns c =
    subst (λ r. Whether r (Known (words c.args.bodies.now) c.args.bounds.now c.args.self)) (sym c.is_some.ensures)
    (among (words c.args.bodies.now) c.args.bounds.now c.args.self c.first.result c.first.ensures)
