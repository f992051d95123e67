-- Every element of a list, some element of it, and two ways to equivalent statements.
-- Assumes nothing.
use mathlib.Core.Path.{◌≡◌, refl, sym, subst}
use mathlib.Core.Logic.Iff
use mathlib.Core.Logic.{◌↔◌, ◌⊎◌, inl, inr}
use mathlib.Core.List.{List, [], ◌∷◌, ◌++◌, map}

unfoldable pub All : {A : Type 0} → (A → Type 0) → List A → Type 0
All Q [] = Unit {0}
All Q (a ∷ l) = Q a × All Q l

unfoldable pub Any : {A : Type 0} → (A → Type 0) → List A → Type 0
Any Q [] = ⊥
Any Q (a ∷ l) = Q a ⊎ Any Q l

pub ⊎-iff : {A B C D : Type 0} → A ↔ C → B ↔ D → (A ⊎ B) ↔ (C ⊎ D)
⊎-iff h k = (
  λ s. elim s [ inl a ↦ inl (h.0 a) | inr b ↦ inr (k.0 b) ],
  λ s. elim s [ inl c ↦ inl (h.1 c) | inr d ↦ inr (k.1 d) ],
)

pub at_equal : {A : Type 0} (Q : A → Type 0) {a b : A} → a ≡ b → Q a ↔ Q b
at_equal Q e = (subst Q e, subst Q (sym e))

module _ {A : Type 0} where
  pub all_imp : {P Q : A → Type 0} → ((a : A) → P a → Q a) → (l : List A) → All P l → All Q l
  unfolding All
  all_imp f [] h = tt
  all_imp f (a ∷ l) h = (f a h.0, all_imp f l h.1)

  pub all_of : {Q : A → Type 0} → ((a : A) → Q a) → (l : List A) → All Q l
  unfolding All
  all_of f [] = tt
  all_of f (a ∷ l) = (f a, all_of f l)

  pub all_append : (Q : A → Type 0) (k l : List A) → All Q (k ++ l) ↔ (All Q k × All Q l)
  unfolding All
  all_append Q [] l = (λ h. (tt, h), λ h. h.1)
  all_append Q (a ∷ k) l = (
    λ h. ((h.0, ((all_append Q k l).0 h.1).0), ((all_append Q k l).0 h.1).1),
    λ h. (h.0.0, (all_append Q k l).1 (h.0.1, h.1)),
  )

  pub any_imp : {P Q : A → Type 0} → ((a : A) → P a → Q a) → (l : List A) → Any P l → Any Q l
  unfolding Any
  any_imp f [] h = h
  any_imp f (a ∷ l) (inl k) = inl (f a k)
  any_imp f (a ∷ l) (inr k) = inr (any_imp f l k)

  -- it is an element of the list
  pub any_found : (Q : A → Type 0) (l : List A) → Any Q l → (a : A) × Any (λ b. a ≡ b) l × Q a
  unfolding Any
  any_found Q [] h = absurd h
  any_found Q (a ∷ l) (inl k) = (a, inl refl, k)
  any_found Q (a ∷ l) (inr k) = let f = any_found Q l k in (f.0, inr f.1, f.2)

  pub any_append : (Q : A → Type 0) (k l : List A) → Any Q (k ++ l) ↔ (Any Q k ⊎ Any Q l)
  unfolding Any
  any_append Q [] l = (λ h. inr h, λ h. elim h [ inl k ↦ absurd k | inr k ↦ k ])
  any_append Q (a ∷ k) l = Iff.trans (⊎-iff Iff.rfl (any_append Q k l)) (regroup, back)
    where
      regroup : Q a ⊎ (Any Q k ⊎ Any Q l) → (Q a ⊎ Any Q k) ⊎ Any Q l
      regroup (inl h) = inl (inl h)
      regroup (inr (inl h)) = inl (inr h)
      regroup (inr (inr h)) = inr h

      back : (Q a ⊎ Any Q k) ⊎ Any Q l → Q a ⊎ (Any Q k ⊎ Any Q l)
      back (inl (inl h)) = inl h
      back (inl (inr h)) = inr (inl h)
      back (inr h) = inr (inr h)

pub all_map : {A B : Type 0} (Q : B → Type 0) (f : A → B) (l : List A) → All (λ a. Q (f a)) l → All Q (map f l)
unfolding All
all_map Q f [] h = tt
all_map Q f (a ∷ l) h = (h.0, all_map Q f l h.1)

pub any_map : {A B : Type 0} (Q : B → Type 0) (f : A → B) (l : List A) → Any Q (map f l) ↔ Any (λ a. Q (f a)) l
unfolding Any
any_map Q f [] = Iff.rfl
any_map Q f (a ∷ l) = ⊎-iff Iff.rfl (any_map Q f l)
