-- `push::compared` meets its contract: the sum is put first, then the kind.
-- Assumes nothing.
use mathlib.Core.Path.{refl}
use mathlib.Core.Bool.{Bool}
use mathlib.Core.Logic.{inl, inr}
use Rattle.tables.specs.Kinds.{number_of}
use Rattle.rules.specs.Table.{literal_node, body}
use Rattle.builder.specs.Built.{compared}
use Rattle.builder.proofs.BuiltLaws.{either_body}
use Rattle.builder.proofs.push.compared.Goals as goal
use Rattle.builder.proofs.push.compared.Goals.{then-zero, else-zero}

pub returns : goal.returns
unfolding body number_of compared
returns c =
    let s = c.args.sum.now in
    λ ds b. c.node.ensures _ _ ds
    (either_body (λ (zero : Bool). literal_node (compared zero) s) (s) _ _ refl refl
    (elim c.if-zero.branch [
      | then-zero w ↦ inl (w.if-zero.true, w.kind-is)
      | else-zero w ↦ inr (w.if-zero.false, w.kind-is)
    ])) b.counted (c.given-u.ensures.0 _ b.ends)
