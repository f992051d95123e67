-- What a test that passed says: joined tests, negations, equality of integers, and a choice made by a test.
-- Assumes nothing.
use mathlib.Core.Path.{◌≡◌, refl, sym, ap, subst}
use mathlib.Core.Logic.{◌↔◌, ◌⊎◌, inl, inr}
use mathlib.Core.Bool.{Bool, true, false, not, ◌&&◌, ◌||◌, cond, false≢true}
use lib.Dec.{T, T_not, not_T, eqb→eq, eqb_refl}
use lib.IntN.{ℤ, pos, negsuc}
use Rattle.whole.specs.Integers.{eq_ℤ}

pub T_and : (a b : Bool) → T (a && b) ↔ (T a × T b)
T_and true b = (λ t. (tt, t), λ h. h.1)
T_and false b = (λ t. absurd t, λ h. h.0)

pub T_or : (a b : Bool) → T (a || b) ↔ (T a ⊎ T b)
T_or true b = (λ t. inl tt, λ h. tt)
T_or false b = (λ t. inr t, λ h. elim h [ inl k ↦ absurd k | inr k ↦ k ])

pub T_no : (a : Bool) → T (not a) ↔ (¬ T a)
T_no a = (T_not a, not_T a)

pub is_true : (b : Bool) → T b → b ≡ true
is_true true h = refl
is_true false h = absurd h

pub is_false : (b : Bool) → T (not b) → b ≡ false
is_false true h = absurd h
is_false false h = refl

pub not_passed : (b : Bool) → T b → not b ≡ false
not_passed true h = refl
not_passed false h = absurd h

pub never : {A : Type 0} → false ≡ true → A
never e = absurd (false≢true e)

-- two tests that pass together are one
pub same_truth : (a b : Bool) → T a ↔ T b → a ≡ b
same_truth true b h = sym (is_true b (h.0 tt))
same_truth false true h = absurd (h.1 tt)
same_truth false false h = refl

pub not_or : (a b : Bool) → T (not (a || b)) → T (not a) × T (not b)
not_or true b h = absurd h
not_or false b h = (tt, h)

pub not_not : (a : Bool) → T (not (not a)) → T a
not_not true h = tt
not_not false h = h

pub T_dec : (b : Bool) → Dec (T b)
T_dec true = yes tt
T_dec false = no (λ h. h)

-- a choice by a test, with what the test said
pub cond_ind {ℓ₁ ℓ₂} : {A : Type ℓ₁} (c : Bool) (x y : A) (P : A → Type ℓ₂)
    → (T c → P x) → (T (not c) → P y) → P (cond c x y)
cond_ind true x y P f g = f tt
cond_ind false x y P f g = g tt

pub eq_ℤ→eq : (a b : ℤ) → T (eq_ℤ a b) → a ≡ b
eq_ℤ→eq (pos a) (pos b) t = ap pos (eqb→eq a b t)
eq_ℤ→eq (pos a) (negsuc b) t = absurd t
eq_ℤ→eq (negsuc a) (pos b) t = absurd t
eq_ℤ→eq (negsuc a) (negsuc b) t = ap negsuc (eqb→eq a b t)

eq_ℤ_refl : (a : ℤ) → T (eq_ℤ a a)
eq_ℤ_refl (pos a) = eqb_refl a
eq_ℤ_refl (negsuc a) = eqb_refl a

pub eq→eq_ℤ : (a b : ℤ) → a ≡ b → T (eq_ℤ a b)
eq→eq_ℤ a b e = subst (λ z. T (eq_ℤ a z)) e (eq_ℤ_refl a)
