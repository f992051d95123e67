-- `push::divided` meets its contract: the sum is put first, then the divisor, then the kind.
-- Assumes nothing.
use mathlib.Core.Path.{refl}
use mathlib.Core.Bool.{Bool}
use mathlib.Core.Logic.{inl, inr}
use mathlib.Core.List.{◌∷◌}
use lib.IntN.{pos}
use Rattle.tables.specs.Kinds.{number_of}
use Rattle.rules.specs.Rule.{divisible}
use Rattle.rules.specs.Table.{literal_node, body}
use Rattle.builder.proofs.BuiltLaws.{either_body}
use Rattle.builder.proofs.push.divided.Goals as goal
use Rattle.builder.proofs.push.divided.Goals.{then-yes, else-yes}

pub returns : goal.returns
unfolding body number_of
returns c =
    let k = c.args.k in
    let s = c.args.sum.now in
    λ ds b. c.node.ensures _ _ ds
    (either_body (λ (yes : Bool). literal_node (divisible yes k) s) (pos k ∷ s) _ _ refl refl
    (elim c.if-yes.branch [
      | then-yes w ↦ inl (w.if-yes.true, w.kind-is)
      | else-yes w ↦ inr (w.if-yes.false, w.kind-is)
    ])) b.counted (c.number-u.ensures.0 _ (c.given-u.ensures.0 _ b.ends))
