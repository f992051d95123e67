-- `multiples::common_factor` meets its contract: the literals bring the sizes of their factors of x.
use Rattle.rules.specs.Steps.{common_factor}
use Rattle.bodies.proofs.multiples.common_factor.Goals as goal

pub returns : goal.returns
unfolding common_factor
returns c = c.multiple.ensures
