-- Terms over ℤ and their normal form as polynomials: terms of one normal form have one value.
-- Assumes nothing.
use mathlib.Core.Path.{◌≡◌, refl, sym, ◌∙◌, ap, ap₂}
use Prim.Native.Nat.{ℕ, zero, suc}
use native.Mathlib.Omega.{arith}
use mathlib.Core.Bool.{Bool, true, false, not}
use mathlib.Core.List.{List, [], ◌∷◌}
use lib.Dec.{T, leb, ltb, eqb, eqb→eq}
use lib.IntN.{ℤ, pos, negsuc, neg_ℤ, ◌+ℤ◌, ◌*ℤ◌}
use Rattle.whole.proofs.Difference.{zz, z1, z2, z3, z4}
use Rattle.whole.proofs.Integers.{*ℤ_assoc, *ℤ-+ℤ, +ℤ-*ℤ, 1-*ℤ}

-- ---- terms, and their values where ρ lists the values of the variables

pub data Term : Type 0 where
  var : ℕ → Term
  nat : ℕ → Term
  minus : ℕ → Term
  add : Term → Term → Term
  mul : Term → Term → Term
  neg : Term → Term

abbrev pub Env : Type 0
Env = List ℤ

abbrev pub nth : Env → ℕ → ℤ
nth [] i = pos 0
nth (x ∷ ρ) zero = x
nth (x ∷ ρ) (suc i) = nth ρ i

infix 90 ⟦◌⟧◌
unfoldable pub ⟦◌⟧◌ : Term → Env → ℤ
⟦ var i ⟧ ρ = nth ρ i
⟦ nat n ⟧ ρ = pos n
⟦ minus n ⟧ ρ = negsuc n
⟦ add e f ⟧ ρ = ⟦ e ⟧ ρ +ℤ ⟦ f ⟧ ρ
⟦ mul e f ⟧ ρ = ⟦ e ⟧ ρ *ℤ ⟦ f ⟧ ρ
⟦ neg e ⟧ ρ = neg_ℤ (⟦ e ⟧ ρ)

-- ---- the normal form: a sum of monomials, each a factor that is not 0 and a list of variables, in order

pub data Poly : Type 0 where
  nil : Poly
  more : ℤ → List ℕ → Poly → Poly

abbrev pub insert_var : ℕ → List ℕ → List ℕ
insert_var i [] = i ∷ []
insert_var i (j ∷ m) = elim (leb i j) [ true ↦ i ∷ j ∷ m | false ↦ j ∷ insert_var i m ]

-- the variables of a product
abbrev pub join : List ℕ → List ℕ → List ℕ
join [] m = m
join (i ∷ l) m = insert_var i (join l m)

abbrev pub same_vars : List ℕ → List ℕ → Bool
same_vars [] [] = true
same_vars [] (j ∷ n) = false
same_vars (i ∷ m) [] = false
same_vars (i ∷ m) (j ∷ n) = elim (eqb i j) [ true ↦ same_vars m n | false ↦ false ]

-- the first of two lists of variables goes before the second
abbrev pub earlier : List ℕ → List ℕ → Bool
earlier [] n = true
earlier (i ∷ m) [] = false
earlier (i ∷ m) (j ∷ n) = elim (eqb i j) [ true ↦ earlier m n | false ↦ ltb i j ]

abbrev pub is_zero : ℤ → Bool
is_zero (pos n) = eqb n 0
is_zero (negsuc n) = false

-- in front, unless the factor is 0
abbrev pub put : ℤ → List ℕ → Poly → Poly
put c m p = elim (is_zero c) [ true ↦ p | false ↦ more c m p ]

-- in its place, added to a monomial of the same variables
abbrev pub insert : ℤ → List ℕ → Poly → Poly
insert c m nil = put c m nil
insert c m (more d n p) =
    elim (same_vars m n) [
      | true ↦ put (c +ℤ d) m p
      | false ↦ elim (earlier m n) [ true ↦ more c m (more d n p) | false ↦ more d n (insert c m p) ]
    ]

abbrev pub plus : Poly → Poly → Poly
plus nil q = q
plus (more c m p) q = insert c m (plus p q)

abbrev pub scale : ℤ → List ℕ → Poly → Poly
scale c m nil = nil
scale c m (more d n p) = insert (c *ℤ d) (join m n) (scale c m p)

abbrev pub times : Poly → Poly → Poly
times nil q = nil
times (more c m p) q = plus (scale c m q) (times p q)

abbrev pub normal : Term → Poly
normal (var i) = more (pos 1) (i ∷ []) nil
normal (nat n) = put (pos n) [] nil
normal (minus n) = more (negsuc n) [] nil
normal (add e f) = plus (normal e) (normal f)
normal (mul e f) = times (normal e) (normal f)
normal (neg e) = scale (negsuc 0) [] (normal e)

-- ---- the normal form has the value of the term

product : List ℕ → Env → ℤ
product [] ρ = pos 1
product (i ∷ m) ρ = nth ρ i *ℤ product m ρ

value : Poly → Env → ℤ
value nil ρ = pos 0
value (more c m p) ρ = c *ℤ product m ρ +ℤ value p ρ

-- a choice by a test, with what the test said
choice :
    {A : Type 0} (P : A → Type 0) (c : Bool) (x y : A) →
    (T c → P x) → (T (not c) → P y) → P (elim c as (λ b. A) [ true ↦ x | false ↦ y ])
choice P true x y f g = f tt
choice P false x y f g = g tt

product_insert : (i : ℕ) (m : List ℕ) (ρ : Env) → product (insert_var i m) ρ ≡ nth ρ i *ℤ product m ρ
unfolding product
product_insert i [] ρ = refl
product_insert i (j ∷ m) ρ =
    choice (λ l. product l ρ ≡ nth ρ i *ℤ (nth ρ j *ℤ product m ρ)) (leb i j) (i ∷ j ∷ m) (j ∷ insert_var i m)
    (λ t. refl)
    (λ t. ap (λ x. nth ρ j *ℤ x) (product_insert i m ρ) ∙ swap (nth ρ j) (nth ρ i) (product m ρ))
  where
    swap : (a b c : ℤ) → a *ℤ (b *ℤ c) ≡ b *ℤ (a *ℤ c)
    swap = z3 _ (simp zz (omega arith))

product_join : (l m : List ℕ) (ρ : Env) → product (join l m) ρ ≡ product l ρ *ℤ product m ρ
unfolding product
product_join [] m ρ = sym (1-*ℤ (product m ρ))
product_join (i ∷ l) m ρ =
    product_insert i (join l m) ρ
    ∙ ap (λ x. nth ρ i *ℤ x) (product_join l m ρ)
    ∙ sym (*ℤ_assoc (nth ρ i) (product l ρ) (product m ρ))

same_vars_eq : (m n : List ℕ) → T (same_vars m n) → m ≡ n
same_vars_eq [] [] t = refl
same_vars_eq [] (j ∷ n) t = absurd t
same_vars_eq (i ∷ m) [] t = absurd t
same_vars_eq (i ∷ m) (j ∷ n) t = go (eqb i j) (λ u. u) (same_vars_eq m n) t
  where
    go :
        (b : Bool) → (T b → T (eqb i j)) → (T (same_vars m n) → m ≡ n) →
        T (elim b as (λ b. Bool) [ true ↦ same_vars m n | false ↦ false ]) → i ∷ m ≡ j ∷ n
    go true u r t = ap₂ ◌∷◌ (eqb→eq i j (u tt)) (r t)
    go false u r t = absurd t

is_zero_eq : (c : ℤ) → T (is_zero c) → c ≡ pos 0
is_zero_eq (pos n) t = ap pos (eqb→eq n 0 t)
is_zero_eq (negsuc n) t = absurd t

put_value : (c : ℤ) (m : List ℕ) (p : Poly) (ρ : Env) → value (put c m p) ρ ≡ c *ℤ product m ρ +ℤ value p ρ
unfolding value
put_value c m p ρ =
    choice (λ r. value r ρ ≡ c *ℤ product m ρ +ℤ value p ρ) (is_zero c) p (more c m p)
    (λ t. none (product m ρ) (value p ρ) ∙ ap (λ d. d *ℤ product m ρ +ℤ value p ρ) (sym (is_zero_eq c t)))
    (λ t. refl)
  where
    none : (x p : ℤ) → p ≡ pos 0 *ℤ x +ℤ p
    none = z2 _ (simp zz (omega arith))

insert_value : (c : ℤ) (m : List ℕ) (p : Poly) (ρ : Env) → value (insert c m p) ρ ≡ c *ℤ product m ρ +ℤ value p ρ
unfolding value
insert_value c m nil ρ = put_value c m nil ρ
insert_value c m (more d n p) ρ =
    choice Right (same_vars m n) (put (c +ℤ d) m p) other together (λ t.
    choice Right (earlier m n) (more c m (more d n p)) (more d n (insert c m p)) (λ u. refl) (λ u.
    apart (insert_value c m p ρ)))
  where
    Right : Poly → Type 0
    Right r = value r ρ ≡ c *ℤ product m ρ +ℤ (d *ℤ product n ρ +ℤ value p ρ)

    other : Poly
    other = elim (earlier m n) as (λ b. Poly) [ true ↦ more c m (more d n p) | false ↦ more d n (insert c m p) ]

    gather : (c d x p : ℤ) → (c +ℤ d) *ℤ x +ℤ p ≡ c *ℤ x +ℤ (d *ℤ x +ℤ p)
    gather = z4 _ (simp zz (omega arith))

    swap : (a b p : ℤ) → a +ℤ (b +ℤ p) ≡ b +ℤ (a +ℤ p)
    swap = z3 _ (simp zz (omega arith))

    together : T (same_vars m n) → Right (put (c +ℤ d) m p)
    together t =
        put_value (c +ℤ d) m p ρ
        ∙ gather c d (product m ρ) (value p ρ)
        ∙ ap (λ l. c *ℤ product m ρ +ℤ (d *ℤ product l ρ +ℤ value p ρ)) (same_vars_eq m n t)

    apart : value (insert c m p) ρ ≡ c *ℤ product m ρ +ℤ value p ρ → Right (more d n (insert c m p))
    apart h = ap (λ x. d *ℤ product n ρ +ℤ x) h ∙ swap (d *ℤ product n ρ) (c *ℤ product m ρ) (value p ρ)

plus_value : (p q : Poly) (ρ : Env) → value (plus p q) ρ ≡ value p ρ +ℤ value q ρ
unfolding value
plus_value nil q ρ = none (value q ρ)
  where
    none : (a : ℤ) → a ≡ pos 0 +ℤ a
    none = z1 _ (simp zz (omega arith))
plus_value (more c m p) q ρ =
    insert_value c m (plus p q) ρ
    ∙ ap (λ x. c *ℤ product m ρ +ℤ x) (plus_value p q ρ)
    ∙ regroup (c *ℤ product m ρ) (value p ρ) (value q ρ)
  where
    regroup : (a b c : ℤ) → a +ℤ (b +ℤ c) ≡ a +ℤ b +ℤ c
    regroup = z3 _ (simp zz (omega arith))

scale_value : (c : ℤ) (m : List ℕ) (p : Poly) (ρ : Env) → value (scale c m p) ρ ≡ c *ℤ product m ρ *ℤ value p ρ
unfolding value
scale_value c m nil ρ = none (c *ℤ product m ρ)
  where
    none : (a : ℤ) → pos 0 ≡ a *ℤ pos 0
    none = z1 _ (simp zz (omega arith))
scale_value c m (more d n p) ρ =
    insert_value (c *ℤ d) (join m n) (scale c m p) ρ
    ∙ ap₂ (λ x y. c *ℤ d *ℤ x +ℤ y) (product_join m n ρ) (scale_value c m p ρ)
    ∙ ap (λ x. x +ℤ c *ℤ product m ρ *ℤ value p ρ) (pair_up c d (product m ρ) (product n ρ))
    ∙ sym (*ℤ-+ℤ (c *ℤ product m ρ) (d *ℤ product n ρ) (value p ρ))
  where
    pair_up : (c d x y : ℤ) → c *ℤ d *ℤ (x *ℤ y) ≡ (c *ℤ x) *ℤ (d *ℤ y)
    pair_up = z4 _ (simp zz (omega arith))

times_value : (p q : Poly) (ρ : Env) → value (times p q) ρ ≡ value p ρ *ℤ value q ρ
unfolding value
times_value nil q ρ = none (value q ρ)
  where
    none : (a : ℤ) → pos 0 ≡ pos 0 *ℤ a
    none = z1 _ (simp zz (omega arith))
times_value (more c m p) q ρ =
    plus_value (scale c m q) (times p q) ρ
    ∙ ap₂ ◌+ℤ◌ (scale_value c m q ρ) (times_value p q ρ)
    ∙ sym (+ℤ-*ℤ (c *ℤ product m ρ) (value p ρ) (value q ρ))

constant : (a : ℤ) → a *ℤ pos 1 +ℤ pos 0 ≡ a
constant = z1 _ (simp zz (omega arith))

normal_value : (e : Term) (ρ : Env) → value (normal e) ρ ≡ ⟦ e ⟧ ρ
unfolding value product ⟦◌⟧◌
normal_value (var i) ρ = single (nth ρ i)
  where
    single : (a : ℤ) → pos 1 *ℤ (a *ℤ pos 1) +ℤ pos 0 ≡ a
    single = z1 _ (simp zz (omega arith))
normal_value (nat n) ρ = put_value (pos n) [] nil ρ ∙ constant (pos n)
normal_value (minus n) ρ = constant (negsuc n)
normal_value (add e f) ρ = plus_value (normal e) (normal f) ρ ∙ ap₂ ◌+ℤ◌ (normal_value e ρ) (normal_value f ρ)
normal_value (mul e f) ρ = times_value (normal e) (normal f) ρ ∙ ap₂ ◌*ℤ◌ (normal_value e ρ) (normal_value f ρ)
normal_value (neg e) ρ =
    scale_value (negsuc 0) [] (normal e) ρ ∙ opposite (value (normal e) ρ) ∙ ap neg_ℤ (normal_value e ρ)
  where
    opposite : (a : ℤ) → negsuc 0 *ℤ pos 1 *ℤ a ≡ neg_ℤ a
    opposite = z1 _ (simp zz (omega arith))

-- so terms of one normal form have one value
pub same_normal : (e f : Term) → normal e ≡ normal f → (ρ : Env) → ⟦ e ⟧ ρ ≡ ⟦ f ⟧ ρ
same_normal e f h ρ = sym (normal_value e ρ) ∙ ap (λ p. value p ρ) h ∙ normal_value f ρ
