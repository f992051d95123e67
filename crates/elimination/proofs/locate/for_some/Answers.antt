-- `locate::for_some` meets its contract: of the two kinds of a quantifier it is the first.
-- Assumes nothing.
use Rattle.elimination.proofs.LocateLaws.{is_for_some, is_for_all}
use Rattle.elimination.proofs.locate.for_some.Goals as goal

pub returns-in-ForSome : goal.returns-in-ForSome
returns-in-ForSome c = λ q is. is_for_some q is c.in-ForSome.is

pub returns-in_default : goal.returns-in_default
returns-in_default c = λ q is. is_for_all q is c.in_default.not-ForSome
