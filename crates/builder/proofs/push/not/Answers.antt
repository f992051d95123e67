-- `push::not` meets its contract: its kind is its body.
-- Assumes nothing.
use mathlib.Core.Path.{refl}
use Rattle.rules.specs.Table.{not_node, body}
use Rattle.tables.specs.Kinds.{number_of}
use Rattle.builder.proofs.push.not.Goals as goal

pub returns : goal.returns
unfolding body number_of
returns c = λ ds b. c.node.ensures not_node _ ds refl b.counted b.ends
