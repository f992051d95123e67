-- `multiples::period` meets its contract: without a setting the literals bring their divisors.
use Rattle.rules.specs.Steps.{period}
use Rattle.bodies.proofs.multiples.period.Goals as goal

pub returns : goal.returns
unfolding period
returns c = c.multiple.ensures
