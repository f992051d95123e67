-- From every literal to the rule: conditions on literals, literals that agree, and what is gathered from literals.
-- Assumes nothing.
use mathlib.Core.Path.{◌≡◌, refl, ap, ap₂, subst}
use mathlib.Core.Logic.Iff
use mathlib.Core.Logic.{◌↔◌, ◌⊎◌, inl, inr}
use mathlib.Core.List.{List, ◌++◌}
use Prim.Native.Nat.{suc, ◌+◌}
use native.Mathlib.Omega.{arith}
use Rattle.whole.proofs.Lists.{All, Any, all_append, any_append}
use Rattle.rules.specs.Sum.{Sum, Choice, value}
use Rattle.rules.specs.Rule.{Junction, and, or, Test}
use Rattle.rules.specs.Rule.{Rule, Constant, Join, Not, Literal, Bind, Joined, Passes, Holds}
use Rattle.rules.specs.Chosen.{quantifiers}
use Rattle.rules.specs.Literals.{gather, map_literals}
use Rattle.rules.specs.Laws.{QuantifierFree, Each, Normal}
use Rattle.rules.proofs.Meaning.{joined_iff}

-- ---- conditions on literals

module _ (Q R : Test → Sum → Type 0) where
  pub normal_imp : ((t : Test) (s : Sum) → Q t s → R t s) → (a : Rule) → Normal Q a → Normal R a
  unfolding Normal
  normal_imp f (Constant b) h = tt
  normal_imp f (Join j a b) h = (normal_imp f a h.0, normal_imp f b h.1)
  normal_imp f (Not a) h = h
  normal_imp f (Literal t s) h = f t s h
  normal_imp f (Bind q v a) h = h

  pub normal_both : (a : Rule) → Normal Q a → Normal R a → Normal (λ t s. Q t s × R t s) a
  unfolding Normal
  normal_both (Constant b) h k = tt
  normal_both (Join j a b) h k = (normal_both a h.0 k.0, normal_both b h.1 k.1)
  normal_both (Not a) h k = h
  normal_both (Literal t s) h k = (h, k)
  normal_both (Bind q v a) h k = h

  pub each_imp : ((t : Test) (s : Sum) → Q t s → R t s) → (a : Rule) → Each Q a → Each R a
  unfolding Each
  each_imp f (Constant b) h = tt
  each_imp f (Join j a b) h = (each_imp f a h.0, each_imp f b h.1)
  each_imp f (Not a) h = each_imp f a h
  each_imp f (Literal t s) h = f t s h
  each_imp f (Bind q v a) h = (h.0, each_imp f a h.1)

  -- what every literal is, those of a normal rule are
  pub each_normal : (a : Rule) → Normal Q a → Each R a → Normal R a
  unfolding Normal Each
  each_normal (Constant b) h k = tt
  each_normal (Join j a b) h k = (each_normal a h.0 k.0, each_normal b h.1 k.1)
  each_normal (Not a) h k = h
  each_normal (Literal t s) h k = k
  each_normal (Bind q v a) h k = absurd h

pub normal_each : (Q : Test → Sum → Type 0) (a : Rule) → Normal Q a → Each Q a
unfolding Normal Each
normal_each Q (Constant b) h = tt
normal_each Q (Join j a b) h = (normal_each Q a h.0, normal_each Q b h.1)
normal_each Q (Not a) h = absurd h
normal_each Q (Literal t s) h = h
normal_each Q (Bind q v a) h = absurd h

pub normal_free : (Q : Test → Sum → Type 0) (a : Rule) → Normal Q a → QuantifierFree a
unfolding Normal quantifiers
normal_free Q (Constant b) h = omega arith
normal_free Q (Join j a b) h = omega (arith, normal_free Q a h.0, normal_free Q b h.1)
normal_free Q (Not a) h = absurd h
normal_free Q (Literal t s) h = omega arith
normal_free Q (Bind q v a) h = absurd h

-- ---- literals made anew

module _ (f : Test → Sum → Rule) (Q R : Test → Sum → Type 0) where
  pub map_each : ((t : Test) (s : Sum) → Q t s → Each R (f t s)) → (a : Rule) → Each Q a → Each R (map_literals f a)
  unfolding Each map_literals
  map_each each (Constant b) h = tt
  map_each each (Join j a b) h = (map_each each a h.0, map_each each b h.1)
  map_each each (Not a) h = map_each each a h
  map_each each (Literal t s) h = each t s h
  map_each each (Bind q v a) h = (h.0, map_each each a h.1)

  pub map_normal : ((t : Test) (s : Sum) → Q t s → Normal R (f t s))
      → (a : Rule) → Normal Q a → Normal R (map_literals f a)
  unfolding Normal map_literals
  map_normal each (Constant b) h = tt
  map_normal each (Join j a b) h = (map_normal each a h.0, map_normal each b h.1)
  map_normal each (Not a) h = h
  map_normal each (Literal t s) h = each t s h
  map_normal each (Bind q v a) h = h

pub map_free : (f : Test → Sum → Rule) → ((t : Test) (s : Sum) → QuantifierFree (f t s))
    → (a : Rule) → quantifiers (map_literals f a) ≡ quantifiers a
unfolding map_literals quantifiers
map_free f each (Constant b) = refl
map_free f each (Join j a b) = ap₂ ◌+◌ (map_free f each a) (map_free f each b)
map_free f each (Not a) = map_free f each a
map_free f each (Literal t s) = each t s
map_free f each (Bind q v a) = ap suc (map_free f each a)

-- twice, and as they were
pub made_twice : (f g : Test → Sum → Rule) (a : Rule)
    → map_literals g (map_literals f a) ≡ map_literals (λ t s. map_literals g (f t s)) a
unfolding map_literals
made_twice f g (Constant b) = refl
made_twice f g (Join j a b) = ap₂ (Join j) (made_twice f g a) (made_twice f g b)
made_twice f g (Not a) = ap Not (made_twice f g a)
made_twice f g (Literal t s) = refl
made_twice f g (Bind q v a) = ap (Bind q v) (made_twice f g a)

pub same_body : (a : Rule) → map_literals Literal a ≡ a
unfolding map_literals
same_body (Constant b) = refl
same_body (Join j a b) = ap₂ (Join j) (same_body a) (same_body b)
same_body (Not a) = ap Not (same_body a)
same_body (Literal t s) = refl
same_body (Bind q v a) = ap (Bind q v) (same_body a)

-- in two ways: they say at σ and at τ the same
pub map_agree : (f g : Test → Sum → Rule) (σ τ : Choice) (a : Rule)
    → Normal (λ t s. Holds (f t s) σ ↔ Holds (g t s) τ) a → Holds (map_literals f a) σ ↔ Holds (map_literals g a) τ
unfolding Normal map_literals Holds
map_agree f g σ τ (Constant b) h = Iff.rfl
map_agree f g σ τ (Join j a b) h = joined_iff j (map_agree f g σ τ a h.0) (map_agree f g σ τ b h.1)
map_agree f g σ τ (Not a) h = absurd h
map_agree f g σ τ (Literal t s) h = h
map_agree f g σ τ (Bind q v a) h = absurd h

pub map_keeps : (f : Test → Sum → Rule) (σ τ : Choice) (a : Rule)
    → Normal (λ t s. Holds (f t s) σ ↔ Holds (Literal t s) τ) a → Holds (map_literals f a) σ ↔ Holds a τ
map_keeps f σ τ a h =
    subst (λ (b : Rule). Holds (map_literals f a) σ ↔ Holds b τ) (same_body a) (map_agree f Literal σ τ a h)

-- a rule without nots goes from σ to τ where its literals do, or Else is met
joined_or : {Else : Type 0} (j : Junction) (A B C D : Type 0) → (A → Else ⊎ C) → (B → Else ⊎ D)
    → Joined j A B → Else ⊎ Joined j C D
joined_or and A B C D f g h = elim (f h.0) [
  | inl e ↦ inl e
  | inr c ↦ elim (g h.1) [ inl e ↦ inl e | inr d ↦ inr (c, d) ]
]
joined_or or A B C D f g (inl a) = elim (f a) [ inl e ↦ inl e | inr c ↦ inr (inl c) ]
joined_or or A B C D f g (inr b) = elim (g b) [ inl e ↦ inl e | inr d ↦ inr (inr d) ]

pub goes_over : (Else : Type 0) (σ τ : Choice) (a : Rule)
    → Normal (λ t s. Passes t (value s σ) → Else ⊎ Passes t (value s τ)) a
    → Holds a σ → Else ⊎ Holds a τ
unfolding Normal Holds
goes_over Else σ τ (Constant b) n h = inr h
goes_over Else σ τ (Join j a b) n h = joined_or j (Holds a σ) (Holds b σ) (Holds a τ) (Holds b τ)
    (goes_over Else σ τ a n.0) (goes_over Else σ τ b n.1) h
goes_over Else σ τ (Not a) n h = absurd n
goes_over Else σ τ (Literal t s) n h = n h
goes_over Else σ τ (Bind q v a) n h = absurd n

-- ---- what is gathered

module _ {A : Type 0} (f : Test → Sum → List A) (Q : A → Type 0) where
  pub gathered : ((t : Test) (s : Sum) → All Q (f t s)) → (a : Rule) → All Q (gather f a)
  unfolding gather All
  gathered g (Constant b) = tt
  gathered g (Join j a b) = (all_append Q (gather f a) (gather f b)).1 (gathered g a, gathered g b)
  gathered g (Not a) = gathered g a
  gathered g (Literal t s) = g t s
  gathered g (Bind q v a) = gathered g a

  module _ (R : Test → Sum → Type 0) where
    pub gathered_each : ((t : Test) (s : Sum) → R t s → All Q (f t s)) → (a : Rule) → Each R a → All Q (gather f a)
    unfolding Each gather All
    gathered_each g (Constant b) h = tt
    gathered_each g (Join j a b) h =
        (all_append Q (gather f a) (gather f b)).1 (gathered_each g a h.0, gathered_each g b h.1)
    gathered_each g (Not a) h = gathered_each g a h
    gathered_each g (Literal t s) h = g t s h
    gathered_each g (Bind q v a) h = gathered_each g a h.1

    -- what all that is gathered is, that of each literal is
    pub each_gathered : (a : Rule) → Each R a → All Q (gather f a) → Each (λ t s. All Q (f t s) × R t s) a
    unfolding Each gather
    each_gathered (Constant b) h k = tt
    each_gathered (Join j a b) h k =
        let (left, right) = (all_append Q (gather f a) (gather f b)).0 k in
        (each_gathered a h.0 left, each_gathered b h.1 right)
    each_gathered (Not a) h k = each_gathered a h k
    each_gathered (Literal t s) h k = (k, h)
    each_gathered (Bind q v a) h k = (h.0, each_gathered a h.1 k)

-- each literal's own is among them
abbrev pub Among : {A : Type 0} → (Test → Sum → List A) → List A → Test → Sum → Type 0
Among {A} f l t s = (y : A) → Any (λ z. z ≡ y) (f t s) → Any (λ z. z ≡ y) l

module _ {A : Type 0} (f : Test → Sum → List A) (R : Test → Sum → Type 0) where
  among_left : (k l : List A) (t : Test) (s : Sum) → Among f k t s → Among f (k ++ l) t s
  among_left k l t s among y h = (any_append (λ z. z ≡ y) k l).1 (inl (among y h))

  among_right : (k l : List A) (t : Test) (s : Sum) → Among f l t s → Among f (k ++ l) t s
  among_right k l t s among y h = (any_append (λ z. z ≡ y) k l).1 (inr (among y h))

  pub gathered_among : (a : Rule) → Normal R a → Normal (Among f (gather f a)) a
  unfolding Normal gather
  gathered_among (Constant b) n = tt
  gathered_among (Join j a b) n =
      let k : List A = gather f a in
      let l : List A = gather f b in (
        normal_imp (Among f k) (Among f (k ++ l)) (among_left k l) a (gathered_among a n.0),
        normal_imp (Among f l) (Among f (k ++ l)) (among_right k l) b (gathered_among b n.1),
      )
  gathered_among (Not a) n = n
  gathered_among (Literal t s) n = λ y h. h
  gathered_among (Bind q v a) n = n
