-- "each once, in order of first place": what a list of sums without repeats becomes when one is put behind it.
-- Assumes nothing.
use mathlib.Core.Path.{◌≡◌, refl, ◌∙◌, ap, subst}
use mathlib.Core.Logic.{◌⊎◌, inl, inr}
use mathlib.Core.Bool.{Bool, true, false, cond}
use mathlib.Core.List.{List, [], ◌∷◌, ◌++◌, append-nil}
use Prim.Native.Nat.{ℕ, zero, suc, ◌<◌, ◌≤◌}
use native.Mathlib.Omega.{arith}
use lib.Dec.{T}
use lib.ListN.{length, get_or}
use Rattle.whole.specs.Integers.{eq_ℤ}
use Rattle.whole.proofs.Tests.{T_and, T_no, T_dec, cond_ind, eq→eq_ℤ}
use Rattle.whole.proofs.Lists.{Any}
use Rattle.rules.specs.Sum.{Sum, same}
use Rattle.rules.specs.Steps.{without, once}
use Rattle.rules.proofs.Bounds.{same→eq, any_without}

-- ---- equal sums

same_itself : (s : Sum) → T (same s s)
unfolding same
same_itself [] = tt
same_itself (a ∷ s) = (T_and (eq_ℤ a a) (same s s)).1 (eq→eq_ℤ a a refl, same_itself s)

eq→same : (s t : Sum) → s ≡ t → T (same s t)
eq→same s t e = subst (λ (u : Sum). T (same s u)) e (same_itself s)

-- ---- b is in a list

abbrev pub In : Sum → List Sum → Type 0
In b l = Any (λ c. c ≡ b) l

in_dec : (b : Sum) (l : List Sum) → Dec (In b l)
unfolding Any
in_dec b [] = no (λ h. h)
in_dec b (c ∷ l) = by (T_dec (same c b)) (in_dec b l)
  where
    by : Dec (T (same c b)) → Dec (In b l) → Dec ((c ≡ b) ⊎ In b l)
    by (yes t) d = yes (inl (same→eq c b t))
    by (no f) (yes h) = yes (inr h)
    by (no f) (no g) = no (λ s. elim s [ inl e ↦ f (eq→same c b e) | inr h ↦ g h ])

pub at_in : (b : Sum) (l : List Sum) (i : ℕ) → i < length l → get_or l i [] ≡ b → In b l
unfolding Any
at_in b [] i h e = absurd (omega (arith, h))
at_in b (c ∷ l) zero h e = inl e
at_in b (c ∷ l) (suc i) h e = inr (at_in b l i (omega (arith, h)) e)

pub in_at : (b : Sum) (l : List Sum) → In b l → (i : ℕ) × (i < length l) × (get_or l i [] ≡ b)
unfolding Any
in_at b [] h = absurd h
in_at b (c ∷ l) (inl e) = (0, omega arith, e)
in_at b (c ∷ l) (inr h) = let (i, k, e) = in_at b l h in (suc i, omega (arith, k), e)

-- ---- a list without b

without_in : (b c : Sum) (l : List Sum) → In c (without b l) → In c l
unfolding Any without
without_in b c [] = λ h. h
without_in b c (d ∷ l) = cond_ind (same b d) (without b l) (d ∷ without b l)
    (λ (m : List Sum). In c m → (d ≡ c) ⊎ In c l)
    (λ t h. inr (without_in b c l h))
    (λ t h. elim h [ inl e ↦ inl e | inr r ↦ inr (without_in b c l r) ])

without_append : (b : Sum) (k l : List Sum) → without b (k ++ l) ≡ without b k ++ without b l
unfolding without
without_append b [] l = refl
without_append b (c ∷ k) l = by (same b c) (without_append b k l)
  where
    by : (t : Bool) → without b (k ++ l) ≡ without b k ++ without b l
        → cond t (without b (k ++ l)) (c ∷ without b (k ++ l))
        ≡ cond t (without b k) (c ∷ without b k) ++ without b l
    by true e = e
    by false e = ap (λ (m : List Sum). c ∷ m) e

without_itself : (b : Sum) → without b (b ∷ []) ≡ []
unfolding without
without_itself b = cond_ind (same b b) [] (b ∷ []) (λ (m : List Sum). m ≡ [])
    (λ t. refl) (λ t. absurd ((T_no (same b b)).0 t (same_itself b)))

without_other : (a b : Sum) → ¬ (a ≡ b) → without a (b ∷ []) ≡ b ∷ []
unfolding without
without_other a b f = cond_ind (same a b) [] (b ∷ []) (λ (m : List Sum). m ≡ b ∷ [])
    (λ t. absurd (f (same→eq a b t))) (λ t. refl)

-- ---- each once

-- put behind, b makes no difference where it is there, and else stands behind
record Grows (b : Sum) (l : List Sum) : Type 0 where
  there : In b (once l) → once (l ++ (b ∷ [])) ≡ once l
  new : ¬ In b (once l) → once (l ++ (b ∷ [])) ≡ once l ++ (b ∷ [])

grows : (b : Sum) (l : List Sum) → Grows b l
unfolding once Any without
grows b [] = record { there = λ h. absurd h; new = λ f. refl }
grows b (a ∷ l) = step (grows b l) (in_dec b (once l))
  where
    behind : Grows b l → Dec (In b (once l)) → a ≡ b → without a (once (l ++ (b ∷ []))) ≡ without a (once l)
    behind g (yes h) e = ap (without a) (g.there h)
    behind g (no f) e =
        ap (without a) (g.new f) ∙ without_append a (once l) (b ∷ [])
        ∙ ap (λ (m : List Sum). without a (once l) ++ m)
        (subst (λ (c : Sum). without a (c ∷ []) ≡ []) e (without_itself a)) ∙ append-nil (without a (once l))

    step : Grows b l → Dec (In b (once l)) → Grows b (a ∷ l)
    step g d = record {
      there = λ h. ap (λ (m : List Sum). a ∷ m) (elim h [
        | inl e ↦ behind g d e
        | inr k ↦ ap (without a) (g.there (without_in a b (once l) k))
      ]);
      new = λ f. ap (λ (m : List Sum). a ∷ m)
          (ap (without a) (g.new (λ h. f (any_without a b (once l) h)))
          ∙ without_append a (once l) (b ∷ [])
          ∙ ap (λ (m : List Sum). without a (once l) ++ m) (without_other a b (λ e. f (inl e))));
    }

pub once_there : (b : Sum) (l : List Sum) → In b (once l) → once (l ++ (b ∷ [])) ≡ once l
once_there b l h = (grows b l).there h

pub once_new : (b : Sum) (l : List Sum) → ¬ In b (once l) → once (l ++ (b ∷ [])) ≡ once l ++ (b ∷ [])
once_new b l f = (grows b l).new f

length_without : (b : Sum) (l : List Sum) → length (without b l) ≤ length l
unfolding without
length_without b [] = omega arith
length_without b (c ∷ l) = cond_ind (same b c) (without b l) (c ∷ without b l)
    (λ (m : List Sum). length m ≤ suc (length l))
    (λ t. omega (arith, length_without b l)) (λ t. omega (arith, length_without b l))

pub length_once : (l : List Sum) → length (once l) ≤ length l
unfolding once
length_once [] = omega arith
length_once (b ∷ l) = omega (arith, length_without b (once l), length_once l)
