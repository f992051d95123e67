-- The words of step 3's disjunction: every disjunct has at most those of the body, and all of them can be counted.
-- Assumes nothing.
use mathlib.Core.Path.{◌≡◌, refl, ap}
use Prim.Native.Nat.{ℕ, ◌+◌, ◌*◌, ◌<◌, ◌≤◌}
use native.Mathlib.Nat.{mul-le-mul}
use native.Mathlib.Omega.{arith}
use lib.IntN.{pos}
use lib.ListN.{length}
use Rattle.whole.proofs.Lists.{All, all_append, all_map, all_imp}
use Rattle.rules.specs.Sum.{Sum, add, number}
use Rattle.rules.specs.Rule.{Rule}
use Rattle.rules.specs.Table.{most_words}
use Rattle.rules.specs.Fold.{fold}
use Rattle.rules.specs.Steps.{bounds, body_at, for_each, disjuncts, disjunction}
use Rattle.rules.specs.Eliminate.{most_period}
use Rattle.rules.specs.Laws.{WellFormed}
use Rattle.rules.proofs.Sizes.{weight}
use Rattle.rules.proofs.Shapes.{formed_shape, seven_add, bounds_seven}
use Rattle.rules.proofs.Weights.{body_lighter, far_body_lighter, any_lighter}
use Rattle.rules.proofs.Disjuncts.{fold_any_of, length_disjuncts, all_for_each, fars, nears}
use Rattle.steps.specs.There.{most_made}

pub all_lighter : (P x : ℕ) (a : Rule) → x ≤ 6 → WellFormed a → All (λ d. weight d ≤ weight a) (disjuncts P x a)
unfolding disjuncts
all_lighter P x a high w = (all_append Light (for_each 1 P (fars x a)) (for_each 1 P (nears x a))).1
    (all_for_each Light 1 P (fars x a) far, all_for_each Light 1 P (nears x a) full)
  where
    Light : Rule → Type 0
    Light d = weight d ≤ weight a

    in_range : x < 7
    in_range = omega (arith, high)

    far : (j : ℕ) → All Light (fars x a j)
    far j = unfold All in (far_body_lighter x (number (pos j)) a in_range refl w, tt)

    full : (j : ℕ) → All Light (nears x a j)
    full j =
        let above : Sum → Sum = λ b. add b (number (pos j)) in
        all_map Light (λ b. body_at x (above b) a) (bounds x a)
        (all_imp (λ b seven. body_lighter x (above b) a in_range (seven_add b (number (pos j)) seven refl) w)
        (bounds x a) (bounds_seven x in_range a (formed_shape a w)))

-- at most 4,096 for each of 1,365 bounds and for none, each with its or
pub all_counted : (P k m w : ℕ) → P ≤ most_period → k ≤ 1365 → m ≤ P + P * k → w ≤ most_words
    → 1 + m * (2 + w) ≤ most_made
all_counted P k m w period few some light =
    let full : P * k ≤ 4096 * 1365 = mul-le-mul period few in
    let many : m ≤ 5595136 = omega (arith, full) in
    let each : 2 + w ≤ 16386 = omega arith in
    let made : m * (2 + w) ≤ 5595136 * 16386 = mul-le-mul many each in
    omega (arith, made)

pub disjunction_light : (P k x : ℕ) (a : Rule) → P ≤ most_period → k ≤ 1365 → k ≡ length (bounds x a) → 1 ≤ x → x ≤ 6
    → WellFormed a → weight a ≤ most_words → weight (fold (disjunction P x a)) ≤ most_made
unfolding disjunction
disjunction_light P k x a period few as_many low high w light =
    let m = length (disjuncts P x a) in
    let long : m ≤ P + P * k = omega (arith, length_disjuncts P x a, ap (λ (n : ℕ). P * n) as_many) in
    let made = all_counted P k m (weight a) period few long light in
    omega (
      arith,
      ap weight (fold_any_of (disjuncts P x a)),
      any_lighter (weight a) (disjuncts P x a) (all_lighter P x a high w),
      made,
    )
