-- `push::join` meets its contract: its right child is put first, then its kind.
-- Assumes nothing.
use mathlib.Core.Bool.{Bool}
use mathlib.Core.Logic.{inl, inr}
use mathlib.Core.List.{[], ◌∷◌}
use lib.IntN.{pos}
use Rattle.tables.specs.Kinds.{number_of}
use Rattle.rules.specs.Table.{join_node, body}
use Rattle.builder.specs.Built.{junction}
use Rattle.builder.proofs.BuiltLaws.{either_body, right_child}
use Rattle.builder.proofs.push.join.Goals as goal
use Rattle.builder.proofs.push.join.Goals.{then-both, else-both}

pub returns : goal.returns
unfolding body number_of junction
returns c =
    let n = c.args.right in
    λ ds b. c.node.ensures _ _ ds
    (either_body (λ (both : Bool). join_node (junction both) (pos n)) (pos n ∷ []) _ _
    (right_child _ n) (right_child _ n)
    (elim c.if-both.branch [
      | then-both w ↦ inl (w.if-both.true, w.kind-is)
      | else-both w ↦ inr (w.if-both.false, w.kind-is)
    ])) b.counted (c.number-u.ensures.0 _ b.ends)
