-- `sums::word` meets its contract: the word that it reads is that of T, which lies within the limit.
-- Assumes nothing.
use mathlib.Core.Path.{◌∙◌, subst, sym}
use Prim.Native.Nat.{◌≤◌}
use native.Mathlib.Omega.{arith}
use borrow.Author.Rules.{sfits_of}
use lib.IntN.{ℤ, pos, nat_abs, ◌-ℤ◌}
use Rattle.rules.specs.Sum.{limit}
use Rattle.steps.proofs.SumLaws.{bound_none, bound_inside, read_negated, negated_small}
use Rattle.steps.proofs.SumLaws.{wide_fits, negated_fits, negated_back}
use Rattle.steps.proofs.sums.word.Goals as goal
use Rattle.steps.proofs.sums.word.Goals.{After-get}

small : (c : After-get) → nat_abs (pos 0 -ℤ c.get.result) ≤ limit
small c = negated_small c.requires.0.at _ c.requires.1 _ c.get.ensures

pub returns-then-i-x : goal.returns-then-i-x
returns-then-i-x c = (λ b l. bound_none l _ c.if-i-x.true, omega arith)

pub overflow_add-p : goal.overflow_add-p
overflow_add-p c = omega (arith, bound_inside c.requires.0.at, c.requires.0.few)

pub overflow_add-p-2 : goal.overflow_add-p-2
overflow_add-p-2 c = omega (arith, bound_inside c.requires.0.at, c.requires.0.few)

pub get-requires : goal.get-requires
get-requires c = omega (arith, bound_inside c.requires.0.at)

pub overflow_cast-result : goal.overflow_cast-result
overflow_cast-result c = wide_fits {z = c.get.result} (sfits_of c.get.type_inv)

pub overflow_sub-result : goal.overflow_sub-result
overflow_sub-result c = negated_fits {z = c.get.result} (sfits_of c.get.type_inv)
    (small (goal.at.overflow_sub-result c).After-get)

pub returns : goal.returns
returns c =
    let few = small (goal.at.returns c).After-get in
    let back = negated_back {z = c.get.result} (sfits_of c.get.type_inv) few in (
      λ b l. back ∙ read_negated l _ c.requires.1 _ c.get.ensures c.if-i-x.false,
      subst (λ (z : ℤ). nat_abs z ≤ limit) (sym back) few,
    )
