-- How many words the bodies of a rule have after folding and after each step, against those that they had before.
-- Assumes nothing.
use mathlib.Core.Path.{◌≡◌, refl, ◌∙◌}
use mathlib.Core.Bool.{Bool, true, false, not}
use mathlib.Core.List.{List, [], ◌∷◌}
use Prim.Native.Nat.{ℕ, ◌+◌, ◌*◌, ◌≤◌, ◌<◌}
use native.Mathlib.Omega.{arith}
use lib.IntN.{pos}
use lib.ListN.{length}
use Rattle.whole.proofs.Lists.{All}
use Rattle.rules.specs.Sum.{Sum, factor, scale, negate, number, setting, one_plus, one_minus}
use Rattle.rules.specs.Rule.{Junction, or, Test, positive, divisible, is_zero}
use Rattle.rules.specs.Rule.{Rule, Constant, Join, Not, Literal, Bind}
use Rattle.rules.specs.Fold.{fold_join, fold}
use Rattle.rules.specs.Literals.{map_literals}
use Rattle.rules.specs.Steps.{by_some, normal_literal, normal, multiplier, times, sign, scale_literal, scaled}
use Rattle.rules.specs.Steps.{far_literal, far_left, sum_at, body_at}
use Rattle.rules.specs.Laws.{Each, WellFormed}
use Rattle.rules.proofs.Sums.{length_scale}
use Rattle.rules.proofs.Folding.{fold_literal_ind, fold_join_ind, fold_not_ind}
use Rattle.rules.proofs.NormalForm.{x_not_negative_ind}
use Rattle.rules.proofs.OverLiterals.{each_imp}
use Rattle.rules.proofs.Sizes.{before_sum, weight, weight_pos}
use Rattle.rules.proofs.Shapes.{Seven, Shape, formed_shape, seven_negate, seven_add, seven_put}
use Rattle.rules.proofs.Shapes.{shape_substitutes}
use Rattle.rules.proofs.Disjuncts.{far_literal_ind, far_each, fold_any}

-- ---- folding

pub join_lighter : (j : Junction) (a b : Rule) → weight (fold_join j a b) ≤ 2 + weight a + weight b
unfolding weight
join_lighter j a b = fold_join_ind (λ r. weight r ≤ 2 + weight a + weight b) j a b
    (omega arith) (omega arith) (λ o p. omega arith)

pub fold_lighter : (r : Rule) → weight (fold r) ≤ weight r
unfolding fold weight
fold_lighter (Constant b) = omega arith
fold_lighter (Join j a b) = omega (arith, join_lighter j (fold a) (fold b), fold_lighter a, fold_lighter b)
fold_lighter (Not a) =
    let under = fold_lighter a in
    fold_not_ind (λ r. weight r ≤ 1 + weight a) (fold a) (λ b. omega arith) (λ o. omega arith)
fold_lighter (Literal t s) =
    fold_literal_ind (λ r. weight r ≤ weight (Literal t s)) t s (λ c. weight_pos (Literal t s)) (λ c. omega arith)
fold_lighter (Bind q v a) = omega (arith, fold_lighter a)

-- ---- literals made anew

module _ (f : Test → Sum → Rule) where
  -- f makes no more words of a literal than it has
  abbrev pub Lighter : Test → Sum → Type 0
  Lighter t s = weight (f t s) ≤ weight (Literal t s)

  pub map_each_lighter : (a : Rule) → Each Lighter a → weight (map_literals f a) ≤ weight a
  unfolding Each map_literals weight
  map_each_lighter (Constant b) h = omega arith
  map_each_lighter (Join j a b) h = omega (arith, map_each_lighter a h.0, map_each_lighter b h.1)
  map_each_lighter (Not a) h = omega (arith, map_each_lighter a h)
  map_each_lighter (Literal t s) h = h
  map_each_lighter (Bind q v a) h = omega (arith, map_each_lighter a h.1)

-- ---- for-all

pub by_some_weight : (x : ℕ) (a : Rule) → weight (by_some x a) ≡ 4 + weight a
unfolding weight
by_some_weight x a = omega arith

-- ---- normal form: T = 0 becomes two literals and their and or or

literal_lighter : (plainly : Bool) (x : ℕ) (t : Test) (s : Sum) → Seven s
    → weight (normal_literal plainly x t s) ≤ 3 * weight (Literal t s)
unfolding normal_literal one_plus one_minus weight
literal_lighter true x positive s h = omega arith
literal_lighter false x positive s h = omega (arith, seven_add (number (pos 1)) (negate s) refl (seven_negate s h))
literal_lighter true x is_zero s h = omega (
  arith,
  seven_add (number (pos 1)) (negate s) refl (seven_negate s h),
  seven_add (number (pos 1)) s refl h,
)
literal_lighter false x is_zero s h = omega (arith, seven_negate s h)
literal_lighter plainly x (divisible b k) s h = omega (arith, x_not_negative_ind Seven x s h (seven_negate s h))

pub normal_lighter : (plainly : Bool) (x : ℕ) (a : Rule) → WellFormed a → weight (normal plainly x a) ≤ 3 * weight a
unfolding normal weight Each
normal_lighter plainly x (Constant b) w = omega arith
normal_lighter plainly x (Join j a b) w =
    omega (arith, normal_lighter plainly x a w.0, normal_lighter plainly x b w.1)
normal_lighter plainly x (Not a) w = omega (arith, normal_lighter (not plainly) x a w)
normal_lighter plainly x (Literal t s) w = literal_lighter plainly x t s w.0
normal_lighter plainly x (Bind q v a) w = omega arith

pub folded_normal_lighter : (plainly : Bool) (x : ℕ) (a : Rule) → WellFormed a
    → weight (fold (normal plainly x a)) ≤ 3 * weight a
folded_normal_lighter plainly x a w = omega (arith, fold_lighter (normal plainly x a), normal_lighter plainly x a w)

-- ---- common factor: a join and a divisibility literal come

times_before : (m : ℕ) (t : Test) → before_sum (times m t) ≡ before_sum t
unfolding before_sum
times_before m positive = refl
times_before m (divisible b k) = refl
times_before m is_zero = refl

pub scaled_lighter : (D x : ℕ) (a : Rule) → 1 ≤ x → x ≤ 6 → WellFormed a
    → weight (scaled D x a) ≤ 2 + weight a + 9
unfolding scaled setting weight
scaled_lighter D x a from to w = omega (
  arith,
  map_each_lighter (scale_literal D x) a (each_imp Shape (Lighter (scale_literal D x)) literal a (formed_shape a w)),
  seven_put x (pos 1) (number (pos 0)) in_range refl,
)
  where
    in_range : x < 7
    in_range = omega arith

    literal : (t : Test) (s : Sum) → Shape t s → Lighter (scale_literal D x) t s
    literal t s h = unfold scale_literal weight in omega (
      arith,
      times_before (multiplier D x s) t,
      seven_put x (sign (factor x s)) (scale (pos (multiplier D x s)) s) in_range
          (length_scale (pos (multiplier D x s)) s ∙ h.0),
      h.0,
    )

-- ---- disjunction: a sum put in for x

-- over any rule of the shape
shaped_lighter : (x : ℕ) (u : Sum) (a : Rule) → x < 7 → Seven u → Each Shape a → weight (body_at x u a) ≤ weight a
unfolding body_at
shaped_lighter x u a in_range seven h = map_each_lighter made a (each_imp Shape (Lighter made) literal a h)
  where
    made : Test → Sum → Rule
    made t s = Literal t (sum_at x u s)

    literal : (t : Test) (s : Sum) → Shape t s → Lighter made t s
    literal t s k = unfold weight in
        omega (arith, ((shape_substitutes x in_range).literal t s u k seven).0, k.0)

pub body_lighter : (x : ℕ) (u : Sum) (a : Rule) → x < 7 → Seven u → WellFormed a → weight (body_at x u a) ≤ weight a
body_lighter x u a in_range seven w = shaped_lighter x u a in_range seven (formed_shape a w)

pub far_body_lighter : (x : ℕ) (u : Sum) (a : Rule) → x < 7 → Seven u → WellFormed a
    → weight (body_at x u (far_left x a)) ≤ weight a
far_body_lighter x u a in_range seven w =
    let shaped : Each Shape a = formed_shape a w in
    let made = shaped_lighter x u (far_left x a) in_range seven (far_each x Shape a shaped) in
    omega (arith, made, far_lighter a shaped)
  where
    literal : (t : Test) (s : Sum) → Shape t s → Lighter (far_literal x) t s
    literal t s h = unfold weight in
        far_literal_ind (λ r. weight r ≤ weight (Literal t s)) x t s (λ b. weight_pos (Literal t s)) (omega arith)

    far_lighter : (b : Rule) → Each Shape b → weight (far_left x b) ≤ weight b
    far_lighter b h = unfold far_left in
        map_each_lighter (far_literal x) b (each_imp Shape (Lighter (far_literal x)) literal b h)

-- ---- the disjuncts, folded

pub any_lighter : (w : ℕ) (l : List Rule) → All (λ d. weight d ≤ w) l → weight (fold_any l) ≤ 1 + length l * (2 + w)
unfolding fold_any weight All
any_lighter w [] h = omega arith
any_lighter w (d ∷ l) h =
    omega (arith, join_lighter or (fold d) (fold_any l), fold_lighter d, h.0, any_lighter w l h.1)
