-- `push::constant` meets its contract: its kind is its body.
-- Assumes nothing.
use mathlib.Core.Path.{refl}
use mathlib.Core.Bool.{Bool}
use mathlib.Core.Logic.{inl, inr}
use mathlib.Core.List.{[]}
use Rattle.tables.specs.Kinds.{number_of}
use Rattle.rules.specs.Table.{constant_node, body}
use Rattle.builder.proofs.BuiltLaws.{either_body}
use Rattle.builder.proofs.push.constant.Goals as goal
use Rattle.builder.proofs.push.constant.Goals.{then-v, else-v}

pub returns : goal.returns
unfolding body number_of
returns c =
    λ ds b. c.node.ensures _ _ ds
    (either_body (λ (v : Bool). constant_node v) ([]) _ _ refl refl
    (elim c.if-v.branch [
      | then-v w ↦ inl (w.if-v.true, w.kind-is)
      | else-v w ↦ inr (w.if-v.false, w.kind-is)
    ])) b.counted (b.ends)
