-- `numbers::disjuncts_over` meets its contract: what all bounds tell is what those tell that are not yet looked at.
-- Assumes nothing.
use mathlib.Core.Path.{refl, sym, ◌∙◌, subst}
use native.Mathlib.Omega.{arith}
use Rattle.literals.specs.Changes.{Usable}
use Rattle.steps.proofs.SumLaws.{number_usable, above_usable}
use Rattle.steps.proofs.NumberLaws.{bounds_body, bound_here, some_bound_here, far_is, full_is, ends_are}
use Rattle.steps.proofs.NumberLaws.{left_none, left_one, left_over, far_decides, bounds_decide}
use Rattle.steps.proofs.numbers.disjuncts_over.Goals as goal

pub either_over-requires : goal.either_over-requires
either_over-requires c =
    let (some, from, upto, _, most) = c.requires in (
      bounds_body some,
      subst (Usable _) (sym c.numeral-first.ensures) (number_usable _ _ (from, upto) (omega arith)),
      subst (Usable _) (sym c.numeral-last.ensures) (number_usable _ _ (from, upto) most),
    )

pub returns-then-either_over : goal.returns-then-either_over
returns-then-either_over c = λ n a b at.
    far_decides _ _ a c.requires.3 (sym c.if-either_over.true ∙ c.either_over.ensures n a b
    ∙ ends_are (far_is _ _ _ a c.numeral-first.ensures) (far_is _ _ _ a c.numeral-last.ensures))

pub above-first-requires : goal.above-first-requires
above-first-requires c =
    let (some, from, upto, _, most) = c.requires in
    (some_bound_here some (from, upto) _ _ (omega arith) refl, omega arith)

pub above-last-requires : goal.above-last-requires
above-last-requires c =
    let (some, from, upto, _, most) = c.requires in (some_bound_here some (from, upto) _ _ (omega arith) refl, most)

pub either_over-requires-in-loop-p : goal.either_over-requires-in-loop-p
either_over-requires-in-loop-p c =
    let (some, from, upto, _, most) = c.requires in
    let bound = some_bound_here some (from, upto) _ _ c.loop-p-test.true refl in (
      bounds_body some,
      subst (Usable _) (sym (c.above-first.ensures bound.bound bound.at))
          (above_usable bound.bound bound.at 1 bound.setting (omega arith)),
      subst (Usable _) (sym (c.above-last.ensures bound.bound bound.at))
          (above_usable bound.bound bound.at _ bound.setting most),
    )

pub loop-p-init : goal.loop-p-init
loop-p-init c = λ n a b at. refl

pub returns-then-either_over-2 : goal.returns-then-either_over-2
returns-then-either_over-2 c = λ n a b at.
    let l = bound_here at _ _ c.loop-p-test.true refl in
    bounds_decide _ _ a c.requires.3
    (sym c.if-either_over.false ∙ c.either_over.ensures n a b
    ∙ ends_are (far_is _ _ _ a c.numeral-first.ensures) (far_is _ _ _ a c.numeral-last.ensures))
    (left_one _ a at _ (c.loop-p.invariant n a b at) c.loop-p-test.true
    (sym c.if-either_over-2.true ∙ c.either_over-in-loop-p.ensures n a b
    ∙ ends_are (full_is _ _ _ a _ (c.above-first.ensures _ l)) (full_is _ _ _ a _ (c.above-last.ensures _ l))))

pub loop-p-preserved : goal.loop-p-preserved
loop-p-preserved c = λ n a b at.
    let l = bound_here at _ _ c.loop-p-test.true refl in
    left_none _ a at _ (c.loop-p.invariant n a b at) c.loop-p-test.true
    (sym c.if-either_over-2.false ∙ c.either_over-in-loop-p.ensures n a b
    ∙ ends_are (full_is _ _ _ a _ (c.above-first.ensures _ l)) (full_is _ _ _ a _ (c.above-last.ensures _ l)))

pub returns : goal.returns
returns c = λ n a b at.
    bounds_decide _ _ a c.requires.3
    (sym c.if-either_over.false ∙ c.either_over.ensures n a b
    ∙ ends_are (far_is _ _ _ a c.numeral-first.ensures) (far_is _ _ _ a c.numeral-last.ensures))
    (left_over _ a at _ (c.loop-p.invariant n a b at) (omega arith))
