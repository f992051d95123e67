-- Step 3 keeps the meaning of for some x: Cooper's theorem on rules.
-- Assumes nothing.
use mathlib.Core.Path.{◌≡◌, sym, ◌∙◌, ap, subst}
use mathlib.Core.Logic.Iff
use mathlib.Core.Logic.{◌↔◌, inl, inr}
use mathlib.Core.List.{List, ◌++◌}
use Prim.Native.Nat.{ℕ, ◌≤◌, ◌<◌}
use lib.IntN.{ℤ, pos, ◌+ℤ◌, ◌*ℤ◌, +ℤ_comm}
use Rattle.whole.specs.Divides.{Divides}
use Rattle.whole.specs.Multiples.{lcms}
use Rattle.whole.proofs.Lists.{All, Any, ⊎-iff, any_imp, any_found, any_append, any_map}
use Rattle.whole.proofs.Multiples.{lcms_pos, lcms_divided}
use Rattle.whole.proofs.Cooper.{UpTo, cooper}
use Rattle.rules.specs.Sum.{Sum, Choice, with, factor, add, scale, put, number, value}
use Rattle.rules.specs.Rule.{Test, positive, divisible, is_zero, Rule, Literal, Some, Passes, Holds}
use Rattle.rules.specs.Literals.{gather}
use Rattle.rules.specs.Steps.{divisor_of, period, bounds, far_left}
use Rattle.rules.specs.Steps.{sum_at, body_at, for_each, disjuncts, disjunction}
use Rattle.rules.specs.Laws.{PositiveDivisor, Each, Normal, UnitFactor, Periodic}
use Rattle.rules.specs.Laws.{CooperTheorem, DisjunctionKeeps}
use Rattle.rules.proofs.Sums.{rest, value_with, value_add, value_scale, value_number}
use Rattle.rules.proofs.Meaning.{at_equal}
use Rattle.rules.proofs.Disjuncts.{far_normal, fars, nears, any_for_each, from_one, any_of_holds}
use Rattle.rules.proofs.OverLiterals.{normal_imp, each_imp, each_normal, map_keeps}
use Rattle.rules.proofs.OverLiterals.{gathered_each, each_gathered}
use Rattle.rules.proofs.Bounds.{bounds_among}
use Rattle.rules.proofs.CooperConditions.{Bound, body_cooper}

-- ---- the disjuncts at a choice of the other settings

module _ (x : ℕ) (ρ : Choice) (g : 1 ≤ x) where
  abbrev here : ℤ → Choice
  here z = with x z ρ

  value_at : (u s : Sum) → value (sum_at x u s) ρ ≡ value s (here (value u ρ))
  unfolding sum_at rest
  value_at u s =
      value_add (put x (pos 0) s) (scale (factor x s) u) ρ
      ∙ ap (λ z. value (put x (pos 0) s) ρ +ℤ z) (value_scale (factor x s) u ρ)
      ∙ +ℤ_comm (value (put x (pos 0) s) ρ) (factor x s *ℤ value u ρ)
      ∙ sym (value_with x s (value u ρ) ρ g)

  body_at_keeps : (R : Test → Sum → Type 0) (u : Sum) (a : Rule) → Normal R a
      → Holds (body_at x u a) ρ ↔ Holds a (here (value u ρ))
  unfolding body_at
  body_at_keeps R u a n = map_keeps (λ t s. Literal t (sum_at x u s)) ρ (here (value u ρ)) a
      (normal_imp R (λ t s. Holds (Literal t (sum_at x u s)) ρ ↔ Holds (Literal t s) (here (value u ρ)))
      (λ t s r. unfold Holds in at_equal (Passes t) (value_at u s)) a n)

  far_at : (a : Rule) → Normal (UnitFactor x) a → (j : ℕ)
      → Holds (body_at x (number (pos j)) (far_left x a)) ρ ↔ Holds (far_left x a) (here (pos j))
  far_at a n j = Iff.trans
      (body_at_keeps (UnitFactor x) (number (pos j)) (far_left x a) (far_normal x (UnitFactor x) a n))
      (at_equal (λ z. Holds (far_left x a) (here z)) (value_number (pos j) ρ))

  near_at : (a : Rule) → Normal (UnitFactor x) a → (b : Sum) (j : ℕ)
      → Holds (body_at x (add b (number (pos j))) a) ρ ↔ Holds a (here (value b ρ +ℤ pos j))
  near_at a n b j = Iff.trans
      (body_at_keeps (UnitFactor x) (add b (number (pos j))) a n)
      (at_equal (λ z. Holds a (here z)) value_above)
    where
      value_above : value (add b (number (pos j))) ρ ≡ value b ρ +ℤ pos j
      value_above = value_add b (number (pos j)) ρ ∙ ap (λ z. value b ρ +ℤ z) (value_number (pos j) ρ)

-- ---- the theorem

module _ (P x : ℕ) (a : Rule) (g : 1 ≤ x) (n : Normal (UnitFactor x) a) (ρ : Choice) where
  abbrev bs : List Sum
  bs = bounds x a

  abbrev FarAt : ℕ → Type 0
  FarAt j = Holds (far_left x a) (with x (pos j) ρ)

  abbrev NearAt : ℤ → ℕ → Type 0
  NearAt b j = Holds a (with x (b +ℤ pos j) ρ)

  abbrev Near : Type 0
  Near = (b : ℤ) × Bound ρ bs b × UpTo P (NearAt b)

  abbrev Held : Rule → Type 0
  Held d = Holds d ρ

  any_far : Any Held (for_each 1 P (fars x a)) ↔ UpTo P FarAt
  any_far = Iff.trans (any_for_each Held 1 P (fars x a)) (from_one P (λ j. Any Held (fars x a j)) FarAt one)
    where
      one : (j : ℕ) → Any Held (fars x a j) ↔ FarAt j
      one j = unfold Any in
          Iff.trans (λ h. elim h [ inl k ↦ k | inr k ↦ absurd k ], λ h. inl h) (far_at x ρ g a n j)

  any_near : Any Held (for_each 1 P (nears x a)) ↔ Near
  unfolding Bound
  any_near = Iff.trans (any_for_each Held 1 P (nears x a))
      (Iff.trans (from_one P (λ j. Any Held (nears x a j)) (λ j. Any (λ b. NearAt (value b ρ) j) bs) each) (to, fro))
    where
      each : (j : ℕ) → Any Held (nears x a j) ↔ Any (λ b. NearAt (value b ρ) j) bs
      each j = Iff.trans (any_map Held (λ b. body_at x (add b (number (pos j))) a) bs)
          (any_imp (λ b. (near_at x ρ g a n b j).0) bs, any_imp (λ b. (near_at x ρ g a n b j).1) bs)

      to : UpTo P (λ j. Any (λ b. NearAt (value b ρ) j) bs) → Near
      to (j, from, upto, some) =
          let (b, there, near) = any_found (λ b. NearAt (value b ρ) j) bs some in
          let bound = any_imp (λ c e. ap (λ (d : Sum). value d ρ) e) bs there in
          (value b ρ, bound, (j, from, upto, near))

      fro : Near → UpTo P (λ j. Any (λ b. NearAt (value b ρ) j) bs)
      fro (b, bound, (j, from, upto, near)) =
          (j, from, upto, any_imp (λ c e. subst (λ y. NearAt y j) e near) bs bound)

  disjunction_cooper : 0 < P → Normal (Periodic P x) a → Holds (disjunction P x a) ρ ↔ Holds (Some x a) ρ
  unfolding disjunction disjuncts Holds
  disjunction_cooper p d =
      Iff.trans (any_of_holds (for_each 1 P (fars x a) ++ for_each 1 P (nears x a)) ρ)
      (Iff.trans (any_append Held (for_each 1 P (fars x a)) (for_each 1 P (nears x a)))
      (Iff.trans (⊎-iff any_far any_near)
      (Iff.symm (cooper (body_cooper x ρ g P bs a n d (bounds_among x (UnitFactor x) a n) p)))))

pub cooper_theorem : CooperTheorem
cooper_theorem P x a g p u d ρ = disjunction_cooper P x a g u ρ p d

-- ---- the period is such a P

pub period_pos : (a : Rule) → Each PositiveDivisor a → 0 < period a
unfolding period
period_pos a h =
    lcms_pos (gather divisor_of a) (gathered_each divisor_of (λ k. 0 < k) PositiveDivisor divisors_positive a h)
  where
    divisors_positive : (t : Test) (s : Sum) → PositiveDivisor t s → All (λ k. 0 < k) (divisor_of t s)
    divisors_positive positive s h = unfold All in tt
    divisors_positive (divisible b k) s h = unfold All in (h, tt)
    divisors_positive is_zero s h = unfold All in tt

periodic_literal : (P x : ℕ) (t : Test) (s : Sum)
    → All (λ k. Divides k (pos P)) (divisor_of t s) → Periodic P x t s
unfolding All
periodic_literal P x positive s h = tt
periodic_literal P x (divisible b k) s h = inr h.0
periodic_literal P x is_zero s h = tt

pub disjunction_keeps : DisjunctionKeeps
unfolding period
disjunction_keeps x a g u e = cooper_theorem P x a g (period_pos a e) u periodic
  where
    divisors : List ℕ
    divisors = gather divisor_of a

    P : ℕ
    P = lcms divisors

    divided : Each (λ t s. All (λ k. Divides k (pos P)) (divisor_of t s) × PositiveDivisor t s) a
    divided = each_gathered divisor_of (λ k. Divides k (pos P)) PositiveDivisor a e (lcms_divided divisors)

    periodic : Normal (Periodic P x) a
    periodic = each_normal (UnitFactor x) (Periodic P x) a u
        (each_imp _ (Periodic P x) (λ t s h. periodic_literal P x t s h.0) a divided)
