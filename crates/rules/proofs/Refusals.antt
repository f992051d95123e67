-- What a chain of results says: where nothing is refused it goes on, where something is given every part was,
-- and where something is refused a part was.
-- Assumes nothing.
use mathlib.Core.Path.{◌≡◌, refl, sym, ap, subst}
use mathlib.Core.Bool.{Bool, true, false}
use Prim.Native.Nat.{ℕ}
use lib.Dec.{T}
use Rattle.rules.specs.Result.{Result, refused, given, ◌>>=◌, require}

-- ---- forward

pub then : {A B : Type 0} {m : Result A} {a : A} (f : A → Result B) → m ≡ given a → (m >>= f) ≡ f a
unfolding ◌>>=◌
then f e = ap (λ r. r >>= f) e

pub stopped : {A B : Type 0} {m : Result A} {n : ℕ} (f : A → Result B) → m ≡ refused n → (m >>= f) ≡ refused n
unfolding ◌>>=◌
stopped f e = ap (λ r. r >>= f) e

pub passed : (b : Bool) (n : ℕ) → T b → require b n ≡ given tt
unfolding require
passed true n t = refl
passed false n t = absurd t

pub failed : (b : Bool) (n : ℕ) → ¬ T b → require b n ≡ refused n
unfolding require
failed true n f = absurd (f tt)
failed false n f = refl

-- ---- backward

IsGiven : {A : Type 0} → Result A → Type 0
IsGiven (refused n) = ⊥
IsGiven (given a) = Unit {0}

pub never : {A X : Type 0} {n : ℕ} {a : A} → refused n ≡ given a → X
unfolding IsGiven
never e = absurd (subst IsGiven (sym e) tt)

given_or : {A : Type 0} → A → Result A → A
given_or d (refused n) = d
given_or d (given a) = a

pub given_inj : {A : Type 0} {a b : A} → given a ≡ given b → a ≡ b
unfolding given_or
given_inj {a} e = ap (given_or a) e

-- the first part gave something, and the rest went on with it
pub parts : {A B : Type 0} (m : Result A) (f : A → Result B) {b : B}
    → (m >>= f) ≡ given b → (a : A) × (m ≡ given a) × (f a ≡ given b)
unfolding ◌>>=◌
parts (refused n) f e = never e
parts (given a) f e = (a, refl, e)

-- the test passed, and the rest went on
pub required : {B : Type 0} (c : Bool) (n : ℕ) (f : Unit {0} → Result B) {b : B}
    → (require c n >>= f) ≡ given b → T c × (f tt ≡ given b)
unfolding require ◌>>=◌
required true n f e = (tt, e)
required false n f e = never e

-- ---- by which number

-- if it refuses, then by a number that is as Q says
abbrev pub RefusedAs : {A : Type 0} → (ℕ → Type 0) → Result A → Type 0
RefusedAs Q (given a) = Unit {0}
RefusedAs Q (refused n) = Q n

module _ (Q : ℕ → Type 0) where
  pub then_as : {A B : Type 0} (x : Result A) (f : A → Result B) → RefusedAs Q x → ((a : A) → RefusedAs Q (f a))
      → RefusedAs Q (x >>= f)
  unfolding ◌>>=◌
  then_as (given a) f h g = g a
  then_as (refused n) f h g = h

  -- a test, and what follows where it is passed
  pub test_as : {B : Type 0} (b : Bool) (n : ℕ) (f : Unit {0} → Result B) → Q n → RefusedAs Q (f tt)
      → RefusedAs Q (require b n >>= f)
  unfolding require ◌>>=◌
  test_as true n f h g = g
  test_as false n f h g = h

pub as_imp : {A : Type 0} {P Q : ℕ → Type 0} → ((n : ℕ) → P n → Q n) → (x : Result A) → RefusedAs P x → RefusedAs Q x
as_imp f (given a) h = tt
as_imp f (refused n) h = f n h
