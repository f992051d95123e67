-- `result::factors` meets its contract: before setting v the set has those below v with a nonzero factor.
-- Assumes nothing.
use mathlib.Core.Path.{◌≡◌, sym, ◌∙◌}
use mathlib.Core.List.{List}
use Prim.Native.Nat.{ℕ, ◌+◌}
use native.Mathlib.Omega.{arith}
use Rattle.rules.specs.Sum.{Sum}
use Rattle.rules.specs.Rule.{Test}
use Rattle.rules.specs.Calls.{words}
use Rattle.rules.proofs.Sizes.{before_sum}
use Rattle.bodies.specs.Cursor.{LiteralAt}
use Rattle.bodies.proofs.CursorLaws.{literal_inside}
use Rattle.bodies.proofs.LiteralKinds.{kinded, wide_is}
use Rattle.bodies.proofs.MultipleLaws.{factor_word}
use Rattle.leaveoff.proofs.OccurringLaws.{factors_below, none_below, one_more, all_below}
use Rattle.leaveoff.proofs.result.factors.Goals.{After-width}
use Rattle.leaveoff.proofs.result.factors.Goals as goal

-- how many words the body of the literal has
wide : (c : After-width) {end : ℕ} {t : Test} {s : Sum} {ls : List (Test × Sum)}
    → LiteralAt (words c.args.bodies.now) c.args.place end t s ls → c.width.result ≡ before_sum t + 7
wide c l = wide_is l c.at.result c.at.ensures c.width.result c.width.ensures.0

pub at-requires : goal.at-requires
at-requires c = kinded c.requires.1.at

pub overflow_sub-sum : goal.overflow_sub-sum
overflow_sub-sum c = omega (arith, wide (goal.at.overflow_sub-sum c).After-width c.requires.1.at)

pub overflow_add-sum : goal.overflow_add-sum
overflow_add-sum c =
    let at = c.requires.1.at in
    omega (arith, wide (goal.at.overflow_add-sum c).After-width at, literal_inside at, c.requires.1.few)

pub loop-v-init : goal.loop-v-init
loop-v-init c = λ end t s ls l. none_below s

pub overflow_add-sum-in-loop-v : goal.overflow_add-sum-in-loop-v
overflow_add-sum-in-loop-v c =
    let at = c.requires.1.at in
    let width = wide (goal.at.overflow_add-sum-in-loop-v c).After-width at in
    omega (arith, width, literal_inside at, c.requires.1.few, c.loop-v-test.true)

pub natural-requires : goal.natural-requires
natural-requires c =
    let at = c.requires.1.at in
    let width = wide (goal.at.natural-requires c).After-width at in
    omega (arith, width, literal_inside at, c.loop-v-test.true)

pub loop-v-preserved : goal.loop-v-preserved
loop-v-preserved c = λ end t s ls l.
    let v = c.loop-v.v in
    let width = wide (goal.at.loop-v-preserved c).After-width l in
    one_more _ v c.natural.result s
    (sym (factor_word l _ width v (omega (arith, c.loop-v-test.true))) ∙ c.natural.ensures.1)
    (c.with_factor-set.ensures (factors_below v s) (c.loop-v.invariant end t s ls l))

pub returns : goal.returns
returns c = λ end t s ls l. all_below _ _ s c.loop-v-test.false (c.loop-v.invariant end t s ls l)
