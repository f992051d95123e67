-- A rule whose literals are changed has no more words than before, once it is folded.
-- Assumes nothing.
use mathlib.Core.Path.{refl}
use Prim.Native.Nat.{◌≤◌}
use native.Mathlib.Omega.{arith}
use lib.IntN.{pos}
use Rattle.rules.specs.Sum.{Sum, number, setting}
use Rattle.rules.specs.Rule.{Test, Rule, Literal}
use Rattle.rules.specs.Fold.{fold}
use Rattle.rules.specs.Steps.{scaled, far_left, body_at}
use Rattle.rules.specs.Literals.{map_literals}
use Rattle.rules.specs.Laws.{Each, InTable, WellFormed}
use Rattle.rules.proofs.Sizes.{weight}
use Rattle.rules.proofs.OverLiterals.{each_imp}
use Rattle.rules.proofs.Shapes.{seven_put}
use Rattle.rules.proofs.Weights.{fold_lighter, Lighter, map_each_lighter}
use Rattle.rules.proofs.Weights.{scaled_lighter, body_lighter, far_body_lighter}
use Rattle.literals.specs.Changes.{becomes, Fair, Usable}
use Rattle.literals.specs.Changes.{Change, Same, Scaled, Far, Full}
use Rattle.walks.specs.Walk.{changed}

becomes_lighter : (c : Change) (u : Sum) → Usable c u → (t : Test) (s : Sum) → InTable t s → Lighter (becomes c u) t s
unfolding becomes Fair Each
becomes_lighter Same u h t s w = omega arith
becomes_lighter (Scaled D x) u h t s w =
    let (from, to) = h.fair.0 in
    unfold scaled map_literals setting weight in
    omega (
      arith,
      scaled_lighter D x (Literal t s) from to w,
      seven_put x (pos 1) (number (pos 0)) (omega (arith, to)) refl,
    )
becomes_lighter (Far x) u h t s w =
    unfold far_left map_literals in far_body_lighter x u (Literal t s) (omega (arith, h.fair.1)) h.seven w
becomes_lighter (Full x) u h t s w =
    unfold body_at map_literals in body_lighter x u (Literal t s) (omega (arith, h.fair.1)) h.seven w

pub changed_lighter : (c : Change) (u : Sum) (a : Rule) → Usable c u → WellFormed a
    → weight (fold (changed c u a)) ≤ weight a
unfolding changed
changed_lighter c u a h w = omega (
  arith,
  fold_lighter (changed c u a),
  map_each_lighter (becomes c u) a (each_imp InTable (Lighter (becomes c u)) (becomes_lighter c u h) a w),
)
