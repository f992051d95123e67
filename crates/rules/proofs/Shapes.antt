-- The shape of literals, seven words and a positive divisor, is kept by the steps; each leaves what the next asks for.
-- Assumes nothing.
use mathlib.Core.Path.{◌≡◌, refl, sym, ◌∙◌, subst}
use mathlib.Core.Bool.{Bool, true, false, not}
use mathlib.Core.List.{[], ◌∷◌}
use Prim.Native.Nat.{ℕ, zero, suc, ◌≤◌, ◌<◌}
use native.Mathlib.Nat.{mul-pos}
use native.Mathlib.Omega.{arith}
use lib.Dec.{T}
use lib.IntN.{ℤ, pos, negsuc, nat_abs}
use lib.ListN.{length}
use Rattle.whole.specs.Integers.{eq_ℤ}
use Rattle.whole.proofs.Tests.{cond_ind}
use Rattle.whole.proofs.Lists.{All, all_imp}
use Rattle.rules.specs.Sum.{Sum, factor, add, scale, negate, put, number, setting, one_plus, one_minus}
use Rattle.rules.specs.Rule.{Test, positive, divisible, is_zero, Rule, Constant, Join, Not, Literal, Bind, Some}
use Rattle.rules.specs.Table.{is_setting, is_divisor}
use Rattle.rules.specs.Literals.{gather}
use Rattle.rules.specs.Steps.{by_some, normal_literal, normal, common_factor, multiplier, times, sign}
use Rattle.rules.specs.Steps.{scale_literal, scaled, period, bound_of, bounds, far_left, sum_at, body_at}
use Rattle.rules.specs.Steps.{disjunction}
use Rattle.rules.specs.Laws.{DivisorOf, PositiveDivisor, Each, InTable, WellFormed, Normal, NoZero, UnitFactor}
use Rattle.rules.proofs.Sums.{factor_put, length_scale, length_add, length_put}
use Rattle.rules.proofs.Encoding.{one_to, divisor_range}
use Rattle.rules.proofs.Folding.{ByParts}
use Rattle.rules.proofs.NormalForm.{x_not_negative_ind}
use Rattle.rules.proofs.OverLiterals.{each_imp, map_normal, map_each, gathered_each}
use Rattle.rules.proofs.CommonFactor.{common_factor_pos, SizeDivides, sizes_divide, multiplies}
use Rattle.rules.proofs.Bounds.{all_once}
use Rattle.rules.proofs.Disjuncts.{far_each, disjunction_all}
use Rattle.rules.proofs.Disjunction.{period_pos}

-- ---- conditions on literals go by parts

pub each_by_parts : (Q : Test → Sum → Type 0) → ByParts (Each Q)
unfolding Each
each_by_parts Q = record {
  constant = λ b. tt;
  join = λ j a b h k. (h, k);
  left = λ j a b h. h.0;
  right = λ j a b h. h.1;
  under_not = λ a b f h. f h;
  under_bind = λ q v a b f h. (h.0, f h.1);
}

pub normal_by_parts : (Q : Test → Sum → Type 0) → ByParts (Normal Q)
unfolding Normal
normal_by_parts Q = record {
  constant = λ b. tt;
  join = λ j a b h k. (h, k);
  left = λ j a b h. h.0;
  right = λ j a b h. h.1;
  under_not = λ a b f h. absurd h;
  under_bind = λ q v a b f h. absurd h;
}

-- ---- shape: seven words and a positive divisor, as what a table holds has it

abbrev pub Seven : Sum → Type 0
Seven s = length s ≡ 7

abbrev pub Shape : Test → Sum → Type 0
Shape t s = Seven s × PositiveDivisor t s

pub formed_shape : (a : Rule) → WellFormed a → Each Shape a
formed_shape = each_imp InTable Shape (λ t s h. (h.0, positive_divisor t h.2))
  where
    positive_divisor : (t : Test) → DivisorOf (λ k. T (is_divisor (pos k))) t → DivisorOf (λ k. 0 < k) t
    positive_divisor positive h = tt
    positive_divisor (divisible b k) h = (divisor_range k h).0
    positive_divisor is_zero h = tt

-- ---- sums of seven words

pub seven_negate : (s : Sum) → Seven s → Seven (negate s)
unfolding negate
seven_negate s e = length_scale (negsuc 0) s ∙ e

pub seven_add : (s t : Sum) → Seven s → Seven t → Seven (add s t)
seven_add s t e f = length_add s t (e ∙ sym f) ∙ f

pub seven_put : (v : ℕ) (a : ℤ) (s : Sum) → v < 7 → Seven s → Seven (put v a s)
seven_put v a s h e = length_put v a s (subst (λ (n : ℕ). v < n) (sym e) h) ∙ e

-- ---- step 1

literal_shape : (plainly : Bool) (x : ℕ) (t : Test) (s : Sum) → Shape t s → Each Shape (normal_literal plainly x t s)
unfolding normal_literal Each one_minus one_plus
literal_shape true x positive s h = h
literal_shape false x positive s h = (seven_add (number (pos 1)) (negate s) refl (seven_negate s h.0), tt)
literal_shape true x is_zero s h = (
  (seven_add (number (pos 1)) (negate s) refl (seven_negate s h.0), tt),
  (seven_add (number (pos 1)) s refl h.0, tt),
)
literal_shape false x is_zero s h = ((seven_negate s h.0, tt), (h.0, tt))
literal_shape plainly x (divisible b k) s h = (x_not_negative_ind Seven x s h.0 (seven_negate s h.0), h.1)

pub normal_shape : (plainly : Bool) (x : ℕ) (a : Rule) → Each Shape a → Each Shape (normal plainly x a)
unfolding normal Each
normal_shape plainly x (Constant b) h = tt
normal_shape plainly x (Join j a b) h = (normal_shape plainly x a h.0, normal_shape plainly x b h.1)
normal_shape plainly x (Not a) h = normal_shape (not plainly) x a h
normal_shape plainly x (Literal t s) h = literal_shape plainly x t s h
normal_shape plainly x (Bind q v a) h = h

-- ---- step 2

sign_size : (f : ℤ) → nat_abs (sign f) ≤ 1
sign_size (pos zero) = omega arith
sign_size (pos (suc n)) = omega arith
sign_size (negsuc n) = omega arith

-- "Then put 1 or −1 for the x factor"
pub scaled_unit : (D x : ℕ) (a : Rule) → Normal NoZero a → Normal (UnitFactor x) (scaled D x a)
unfolding scaled Normal
scaled_unit D x a n = (map_normal (scale_literal D x) NoZero (UnitFactor x) unit a n, tt)
  where
    unit : (t : Test) (s : Sum) → NoZero t s → Normal (UnitFactor x) (scale_literal D x t s)
    unit positive s n = unfold scale_literal Normal in
        subst (λ f. nat_abs f ≤ 1) (sym (factor_put x (sign (factor x s)) _)) (sign_size (factor x s))
    unit (divisible b k) s n = unfold scale_literal Normal in tt
    unit is_zero s n = absurd n

pub scaled_each : (x : ℕ) (a : Rule) → x < 7 → Each Shape a → Each Shape (scaled (common_factor x a) x a)
unfolding scaled Each setting
scaled_each x a in_range h = (
  map_each (scale_literal D x) (λ t s. SizeDivides D x t s × Shape t s) Shape multiplied a (sizes_divide x Shape a h),
  (seven_put x (pos 1) (number (pos 0)) in_range refl, common_factor_pos x a),
)
  where
    D : ℕ
    D = common_factor x a

    divisor : (m : ℕ) → 0 < m → (t : Test) → DivisorOf (λ k. 0 < k) t → DivisorOf (λ k. 0 < k) (times m t)
    divisor m p positive d = tt
    divisor m p (divisible b k) d = mul-pos p d
    divisor m p is_zero d = tt

    multiplied : (t : Test) (s : Sum) → SizeDivides D x t s × Shape t s → Each Shape (scale_literal D x t s)
    multiplied t s (sized, (seven, positive_divisor)) = unfold scale_literal Each in
        let m : ℕ = multiplier D x s in (
          seven_put x (sign (factor x s)) (scale (pos m) s) in_range (length_scale (pos m) s ∙ seven),
          divisor m (multiplies D x t s (common_factor_pos x a) sized).positive t positive_divisor,
        )

-- ---- step 3, over what is asked of the literals (Q), of the sums put in for x (B), and of the literals made (R)

pub record Substitutes (x : ℕ) (Q : Test → Sum → Type 0) (B : Sum → Type 0) (R : Test → Sum → Type 0) : Type 0 where
  pub numeral : (j : ℕ) → B (number (pos j))
  pub above : (b : Sum) (j : ℕ) → B b → B (add b (number (pos j)))
  pub bound : (s : Sum) → Q positive s → B (negate (put x (pos 0) s))
  pub literal : (t : Test) (s u : Sum) → Q t s → B u → R t (sum_at x u s)

module _ (x : ℕ) (Q : Test → Sum → Type 0) (B : Sum → Type 0) (R : Test → Sum → Type 0) (by : Substitutes x Q B R) where
  body_each : (u : Sum) → B u → (a : Rule) → Each Q a → Each R (body_at x u a)
  unfolding body_at
  body_each u b = map_each (λ t s. Literal t (sum_at x u s)) Q R (λ t s h. unfold Each in by.literal t s u h b)

  bound_all : (t : Test) (s : Sum) → Q t s → All B (bound_of x t s)
  unfolding bound_of All
  bound_all positive s h = cond_ind (eq_ℤ (factor x s) (pos 1)) (negate (put x (pos 0) s) ∷ []) [] (All B)
      (λ c. (by.bound s h, tt)) (λ c. tt)
  bound_all (divisible b k) s h = tt
  bound_all is_zero s h = tt

  pub bounds_each : (a : Rule) → Each Q a → All B (bounds x a)
  unfolding bounds
  bounds_each a h = all_once B (gather (bound_of x) a) (gathered_each (bound_of x) B Q bound_all a h)

  pub disjunction_each : (P : ℕ) (a : Rule) → Each Q a → Each R (disjunction P x a)
  disjunction_each P a h = disjunction_all (Each R) (each_by_parts R) P x a
      (λ j. body_each (number (pos j)) (by.numeral j) (far_left x a) (far_each x Q a h))
      (λ j. all_imp (λ b k. body_each (add b (number (pos j))) (by.above b j k) a h) (bounds x a) (bounds_each a h))

pub shape_substitutes : (x : ℕ) → x < 7 → Substitutes x Shape Seven Shape
unfolding sum_at
shape_substitutes x g = record {
  numeral = λ j. refl;
  above = λ b j h. seven_add b (number (pos j)) h refl;
  bound = λ s h. seven_negate (put x (pos 0) s) (seven_put x (pos 0) s g h.0);
  literal = λ t s u h b. (at_sum s u h.0 b, h.1);
}
  where
    at_sum : (s u : Sum) → Seven s → Seven u → Seven (sum_at x u s)
    at_sum s u h b = seven_add (put x (pos 0) s) (scale (factor x s) u)
        (seven_put x (pos 0) s g h) (length_scale (factor x s) u ∙ b)

pub bounds_seven : (x : ℕ) → x < 7 → (a : Rule) → Each Shape a → All Seven (bounds x a)
bounds_seven x in_range = bounds_each x Shape Seven Shape (shape_substitutes x in_range)

-- ---- the steps, on any well-formed body

pub setting_of_range : (x : ℕ) → 1 ≤ x → x ≤ 6 → T (is_setting (pos x))
unfolding is_setting
setting_of_range x from to = (one_to 6 x).1 (from, to)

pub some_shape : (x : ℕ) (a : Rule) → 1 ≤ x → x ≤ 6 → Each Shape a → Each Shape (Some x a)
unfolding Each
some_shape x a from to h = (setting_of_range x from to, h)

module _ (x : ℕ) (a : Rule) (from : 1 ≤ x) (to : x ≤ 6) (w : WellFormed a) where
  pub by_some_shape : Each Shape (by_some x a)
  unfolding Each
  by_some_shape = some_shape x (Not a) from to (formed_shape a w)

  pub scaled_shape : Each Shape (scaled (common_factor x a) x a)
  scaled_shape = scaled_each x a (omega arith) (formed_shape a w)

pub disjunction_shape : (P x : ℕ) (a : Rule) → 1 ≤ x → x ≤ 6 → WellFormed a → Each Shape (disjunction P x a)
disjunction_shape P x a from to w =
    disjunction_each x Shape Seven Shape (shape_substitutes x (omega arith)) P a (formed_shape a w)

pub period_positive : (a : Rule) → WellFormed a → 0 < period a
period_positive a w = period_pos a (each_imp Shape PositiveDivisor (λ t s h. h.1) a (formed_shape a w))
