-- `literal::value` meets its contract: each term is added to those behind it.
-- Assumes nothing.
use Rattle.std.proofs.Common.{◌≡◌, ℕ, ◌-◌, subst, arith}
use lib.Dec.{lit≤}
use lib.ListN.{take, drop}
use mir.Syntax.{w64}
use mir.Val.{to_z}
use Rattle.rules.specs.Calls.{words}
use Rattle.literals.proofs.Sizes.{again_result}
use Rattle.literals.proofs.Terms.{behind, last, turn, closed, value_fits, value_small}
use Rattle.literals.proofs.literal.value.Goals as goal

pub plus-x-requires : goal.plus-x-requires
plus-x-requires c = (
  c.requires.at_in_bounds,
  omega arith,
  value_small c.args.values.now (c.loop-v.v - 1) c.requires.t,
  omega (arith, c.loop-v.invariant.1),
)

pub loop-v-init : goal.loop-v-init
loop-v-init c = (last (words c.args.b.now) c.args.at c.requires.at_in_bounds c.args.values.now, lit≤ tt)

pub loop-v-preserved : goal.loop-v-preserved
loop-v-preserved c =
    let m = c.loop-v.v - 1 in (
      turn (words c.args.b.now) c.args.at c.requires.at_in_bounds c.args.values.now m (omega arith) (omega arith)
          (value_fits c.args.values.now m c.requires.t) c.plus-x.type_inv c.plus-x.ensures.0 c.loop-v.invariant.0,
      again_result c.plus-x.result c.plus-x.type_inv (omega (arith, c.plus-x.ensures.1)),
    )

pub returns : goal.returns
returns c =
    closed (words c.args.b.now) c.args.at c.requires.at_in_bounds c.args.values.now c.plus.type_inv c.plus.ensures.0
    (subst (λ (v : ℕ). to_z w64 c.loop-v.x-bits ≡ behind (take 7 (drop c.args.at (words c.args.b.now))) c.args.values.now v)
    (omega arith) c.loop-v.invariant.0) c.plus.ensures.1
