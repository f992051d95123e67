-- `push::bind` meets its contract: its setting is put first, then its kind.
-- Assumes nothing.
use mathlib.Core.Path.{refl}
use mathlib.Core.Bool.{Bool}
use mathlib.Core.Logic.{inl, inr}
use mathlib.Core.List.{[], ◌∷◌}
use lib.IntN.{pos}
use Rattle.tables.specs.Kinds.{number_of}
use Rattle.rules.specs.Table.{bind_node, body}
use Rattle.builder.specs.Built.{quantifier}
use Rattle.builder.proofs.BuiltLaws.{either_body}
use Rattle.builder.proofs.push.bind.Goals as goal
use Rattle.builder.proofs.push.bind.Goals.{then-some, else-some}

pub returns : goal.returns
unfolding body number_of quantifier
returns c =
    let v = c.args.v in
    λ ds b. c.node.ensures _ _ ds
    (either_body (λ (some : Bool). bind_node (quantifier some) v) (pos v ∷ []) _ _ refl refl
    (elim c.if-some.branch [
      | then-some w ↦ inl (w.if-some.true, w.kind-is)
      | else-some w ↦ inr (w.if-some.false, w.kind-is)
    ])) b.counted (c.number-u.ensures.0 _ b.ends)
