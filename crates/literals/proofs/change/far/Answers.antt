-- `change::far` meets its contract: only the far-left body has truth values.
-- Assumes nothing.
use Rattle.literals.proofs.ChangeLaws.{far_fair, stays, far_settles}
use Rattle.literals.proofs.change.far.Goals as goal

pub far_left-requires : goal.far_left-requires
far_left-requires c = (c.requires.0, far_fair c.in-Far.is c.requires.1)

pub returns-in-Far : goal.returns-in-Far
returns-in-Far c = λ n t s l. far_settles t s _ c.in-Far.is (c.far_left.ensures n t s l)

pub returns-in_default : goal.returns-in_default
returns-in_default c = λ n t s l. stays _ t s c.in_default.not-Far
