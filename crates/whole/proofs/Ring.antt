-- A solver for equations that hold in every commutative ring, over ℤ: both sides are brought into one normal form.
-- Assumes nothing.
-- To use it: `law = r3 _ (simp rr (ring refl))` proves `(a b c : ℤ) → left ≡ right`, and r1 to r6 laws of as many
-- integers. r3 puts `⟦ var i ⟧ ρ` for each, the rules rr gather each side into one `⟦ e ⟧ ρ`, and `ring refl` compares
-- the two normal forms. For an equation of low degree, or a law with conditions, Difference is as short.
use mathlib.Core.Path.{◌≡◌, refl}
use mathlib.Core.Logic.{◌↔◌}
use Prim.Native.Nat.{ℕ}
use mathlib.Core.List.{[], ◌∷◌}
use lib.IntN.{ℤ, pos, negsuc, neg_ℤ, ◌+ℤ◌, ◌*ℤ◌}
use Rattle.whole.proofs.Polynomials.{Term, var, nat, minus, add, mul, neg, Env, ⟦◌⟧◌, normal, same_normal}

-- ---- two terms

pub record SameValue (e f : Term) (ρ : Env) : Type 0 where
  pub equal : ⟦ e ⟧ ρ ≡ ⟦ f ⟧ ρ

pub ring : {e f : Term} → normal e ≡ normal f → (ρ : Env) → SameValue e f ρ
ring {e} {f} h ρ = record { equal = same_normal e f h ρ }

-- ---- the rules that gather a statement of `⟦ var i ⟧ ρ` into one of terms

pub r_eq : (e f : Term) (ρ : Env) → (⟦ e ⟧ ρ ≡ ⟦ f ⟧ ρ) ↔ SameValue e f ρ
r_eq e f ρ = (λ h. record { equal = h }, λ s. s.equal)

pub r_eq_nat : (e : Term) (n : ℕ) (ρ : Env) → (⟦ e ⟧ ρ ≡ pos n) ↔ SameValue e (nat n) ρ
unfolding ⟦◌⟧◌
r_eq_nat e n ρ = r_eq e (nat n) ρ

pub r_nat_eq : (e : Term) (n : ℕ) (ρ : Env) → (pos n ≡ ⟦ e ⟧ ρ) ↔ SameValue (nat n) e ρ
unfolding ⟦◌⟧◌
r_nat_eq e n ρ = r_eq (nat n) e ρ

pub r_add : (e f : Term) (ρ : Env) → ⟦ e ⟧ ρ +ℤ ⟦ f ⟧ ρ ≡ ⟦ add e f ⟧ ρ
unfolding ⟦◌⟧◌
r_add e f ρ = refl

pub r_mul : (e f : Term) (ρ : Env) → ⟦ e ⟧ ρ *ℤ ⟦ f ⟧ ρ ≡ ⟦ mul e f ⟧ ρ
unfolding ⟦◌⟧◌
r_mul e f ρ = refl

pub r_neg : (e : Term) (ρ : Env) → neg_ℤ (⟦ e ⟧ ρ) ≡ ⟦ neg e ⟧ ρ
unfolding ⟦◌⟧◌
r_neg e ρ = refl

pub r_nat_add : (n : ℕ) (e : Term) (ρ : Env) → pos n +ℤ ⟦ e ⟧ ρ ≡ ⟦ add (nat n) e ⟧ ρ
unfolding ⟦◌⟧◌
r_nat_add n e ρ = refl

pub r_add_nat : (n : ℕ) (e : Term) (ρ : Env) → ⟦ e ⟧ ρ +ℤ pos n ≡ ⟦ add e (nat n) ⟧ ρ
unfolding ⟦◌⟧◌
r_add_nat n e ρ = refl

pub r_minus_add : (n : ℕ) (e : Term) (ρ : Env) → negsuc n +ℤ ⟦ e ⟧ ρ ≡ ⟦ add (minus n) e ⟧ ρ
unfolding ⟦◌⟧◌
r_minus_add n e ρ = refl

pub r_add_minus : (n : ℕ) (e : Term) (ρ : Env) → ⟦ e ⟧ ρ +ℤ negsuc n ≡ ⟦ add e (minus n) ⟧ ρ
unfolding ⟦◌⟧◌
r_add_minus n e ρ = refl

pub r_nat_mul : (n : ℕ) (e : Term) (ρ : Env) → pos n *ℤ ⟦ e ⟧ ρ ≡ ⟦ mul (nat n) e ⟧ ρ
unfolding ⟦◌⟧◌
r_nat_mul n e ρ = refl

pub r_mul_nat : (n : ℕ) (e : Term) (ρ : Env) → ⟦ e ⟧ ρ *ℤ pos n ≡ ⟦ mul e (nat n) ⟧ ρ
unfolding ⟦◌⟧◌
r_mul_nat n e ρ = refl

pub r_minus_mul : (n : ℕ) (e : Term) (ρ : Env) → negsuc n *ℤ ⟦ e ⟧ ρ ≡ ⟦ mul (minus n) e ⟧ ρ
unfolding ⟦◌⟧◌
r_minus_mul n e ρ = refl

pub r_mul_minus : (n : ℕ) (e : Term) (ρ : Env) → ⟦ e ⟧ ρ *ℤ negsuc n ≡ ⟦ mul e (minus n) ⟧ ρ
unfolding ⟦◌⟧◌
r_mul_minus n e ρ = refl

pub ruleset rr = (
  r_add,
  r_mul,
  r_neg,
  r_nat_add,
  r_add_nat,
  r_minus_add,
  r_add_minus,
  r_nat_mul,
  r_mul_nat,
  r_minus_mul,
  r_mul_minus,
  r_eq,
  r_eq_nat,
  r_nat_eq,
)

-- ---- the variables: what holds of `⟦ var 0 ⟧ ρ` and so on at every ρ holds of all integers

pub r1 {ℓ} : (P : ℤ → Type ℓ) → ((ρ : Env) → P (⟦ var 0 ⟧ ρ)) → (a : ℤ) → P a
unfolding ⟦◌⟧◌
r1 P f a = f (a ∷ [])

pub r2 {ℓ} : (P : ℤ → ℤ → Type ℓ) → ((ρ : Env) → P (⟦ var 0 ⟧ ρ) (⟦ var 1 ⟧ ρ)) → (a b : ℤ) → P a b
unfolding ⟦◌⟧◌
r2 P f a b = f (a ∷ b ∷ [])

pub r3 {ℓ} :
    (P : ℤ → ℤ → ℤ → Type ℓ) →
    ((ρ : Env) → P (⟦ var 0 ⟧ ρ) (⟦ var 1 ⟧ ρ) (⟦ var 2 ⟧ ρ)) →
    (a b c : ℤ) → P a b c
unfolding ⟦◌⟧◌
r3 P f a b c = f (a ∷ b ∷ c ∷ [])

pub r4 {ℓ} :
    (P : ℤ → ℤ → ℤ → ℤ → Type ℓ) →
    ((ρ : Env) → P (⟦ var 0 ⟧ ρ) (⟦ var 1 ⟧ ρ) (⟦ var 2 ⟧ ρ) (⟦ var 3 ⟧ ρ)) →
    (a b c d : ℤ) → P a b c d
unfolding ⟦◌⟧◌
r4 P f a b c d = f (a ∷ b ∷ c ∷ d ∷ [])

pub r5 {ℓ} :
    (P : ℤ → ℤ → ℤ → ℤ → ℤ → Type ℓ) →
    ((ρ : Env) → P (⟦ var 0 ⟧ ρ) (⟦ var 1 ⟧ ρ) (⟦ var 2 ⟧ ρ) (⟦ var 3 ⟧ ρ) (⟦ var 4 ⟧ ρ)) →
    (a b c d e : ℤ) → P a b c d e
unfolding ⟦◌⟧◌
r5 P f a b c d e = f (a ∷ b ∷ c ∷ d ∷ e ∷ [])

pub r6 {ℓ} :
    (P : ℤ → ℤ → ℤ → ℤ → ℤ → ℤ → Type ℓ) →
    ((ρ : Env) → P (⟦ var 0 ⟧ ρ) (⟦ var 1 ⟧ ρ) (⟦ var 2 ⟧ ρ) (⟦ var 3 ⟧ ρ) (⟦ var 4 ⟧ ρ) (⟦ var 5 ⟧ ρ)) →
    (a b c d e g : ℤ) → P a b c d e g
unfolding ⟦◌⟧◌
r6 P f a b c d e g = f (a ∷ b ∷ c ∷ d ∷ e ∷ g ∷ [])
