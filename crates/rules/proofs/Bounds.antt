-- The list of lower bounds, each once: what holds of all that literals give holds of all in it, and none is lost.
-- Assumes nothing.
use mathlib.Core.Path.{◌≡◌, refl, ◌∙◌, ap}
use mathlib.Core.Logic.{◌⊎◌, inl, inr}
use mathlib.Core.List.{List, [], ◌∷◌}
use Prim.Native.Nat.{ℕ}
use lib.Dec.{T}
use Rattle.whole.specs.Integers.{eq_ℤ}
use Rattle.whole.proofs.Tests.{T_and, cond_ind, eq_ℤ→eq}
use Rattle.whole.proofs.Lists.{All, Any}
use Rattle.rules.specs.Sum.{Sum, same}
use Rattle.rules.specs.Rule.{Test, Rule}
use Rattle.rules.specs.Literals.{gather}
use Rattle.rules.specs.Steps.{bound_of, without, once, bounds}
use Rattle.rules.specs.Laws.{Normal}
use Rattle.rules.proofs.OverLiterals.{normal_imp, Among, gathered_among}

-- ---- what holds of all

module _ (B : Sum → Type 0) where
  all_without : (b : Sum) (l : List Sum) → All B l → All B (without b l)
  unfolding All without
  all_without b [] h = tt
  all_without b (c ∷ l) h =
      let rest : All B (without b l) = all_without b l h.1 in
      cond_ind (same b c) (without b l) (c ∷ without b l) (All B) (λ t. rest) (λ t. (h.0, rest))

  pub all_once : (l : List Sum) → All B l → All B (once l)
  unfolding All once
  all_once [] h = tt
  all_once (b ∷ l) h = (h.0, all_without b (once l) (all_once l h.1))

-- ---- none is lost

pub same→eq : (s t : Sum) → T (same s t) → s ≡ t
unfolding same
same→eq [] [] h = refl
same→eq [] (b ∷ t) h = absurd h
same→eq (a ∷ s) [] h = absurd h
same→eq (a ∷ s) (b ∷ t) h =
    let k = (T_and (eq_ℤ a b) (same s t)).0 h in
    ap (λ z. z ∷ s) (eq_ℤ→eq a b k.0) ∙ ap (λ (l : Sum). b ∷ l) (same→eq s t k.1)

pub any_without : (b c : Sum) (l : List Sum) → Any (λ d. d ≡ c) l → (b ≡ c) ⊎ Any (λ d. d ≡ c) (without b l)
unfolding Any without
any_without b c [] h = absurd h
any_without b c (d ∷ l) h = cond_ind (same b d) (without b l) (d ∷ without b l)
    (λ (m : List Sum). (b ≡ c) ⊎ Any (λ e. e ≡ c) m)
    (λ t. elim h [ inl k ↦ inl (same→eq b d t ∙ k) | inr k ↦ any_without b c l k ])
    (λ t. elim h [ inl k ↦ inr (inl k) | inr k ↦ elim (any_without b c l k) [ inl e ↦ inl e | inr r ↦ inr (inr r) ] ])

any_once : (c : Sum) (l : List Sum) → Any (λ d. d ≡ c) l → Any (λ d. d ≡ c) (once l)
unfolding Any once
any_once c [] h = h
any_once c (b ∷ l) (inl k) = inl k
any_once c (b ∷ l) (inr k) = any_without b c (once l) (any_once c l k)

pub bounds_among : (x : ℕ) (R : Test → Sum → Type 0) (a : Rule) → Normal R a
    → Normal (Among (bound_of x) (bounds x a)) a
unfolding bounds
bounds_among x R a n =
    let every : List Sum = gather (bound_of x) a in
    normal_imp (Among (bound_of x) every) (Among (bound_of x) (once every))
    (λ t s among y h. any_once y every (among y h)) a (gathered_among (bound_of x) R a n)
