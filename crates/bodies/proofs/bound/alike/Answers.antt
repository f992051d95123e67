-- `bound::alike` meets its contract: the same bytes are the same words.
use Rattle.std.proofs.lemmas.Slice.Eq.{slice_eq-Decides}
use Rattle.std.proofs.lemmas.Bool.Decides.{Decides-eqb}
use Rattle.std.proofs.Common.{arith}
use Rattle.bodies.proofs.BoundLaws.{seven_alike, alike_seven, decides_whether}
use Rattle.bodies.proofs.bound.alike.Goals as goal

pub returns : goal.returns
returns c =
    let pre = c.requires in
    decides_whether _ (slice_eq-Decides Decides-eqb _ _ _ c.eq.ensures) (seven_alike _ _ _ pre.0 pre.1)
    (alike_seven _ _ _ pre.0 pre.1 (λ k. omega (arith, (c.type_inv.bodies k).fits)))
