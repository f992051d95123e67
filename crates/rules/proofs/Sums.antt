-- What the operations on sums do to a sum's value, and the value split into the part of one setting x and the rest.
-- Assumes nothing.
use mathlib.Core.Path.{◌≡◌, refl, sym, ◌∙◌, ap, ap₂, fun_ext}
use mathlib.Core.List.{[], ◌∷◌}
use Prim.Native.Nat.{ℕ, zero, suc, ◌≤◌}
use native.Mathlib.Nat.{suc_inj, suc-ne-zero, not-suc-le-zero, le_of_suc-le-suc}
use native.Mathlib.Omega.{arith}
use lib.Dec.{T, T_not, eqb, eqb→eq, eqb_refl}
use lib.ListN.{length}
use lib.IntN.{ℤ, pos, negsuc, neg_ℤ, ◌+ℤ◌, ◌*ℤ◌, +ℤ_idl, +ℤ_idr, *ℤ-zero}
use Rattle.whole.specs.Integers.{eq_ℤ}
use Rattle.whole.proofs.Tests.{T_and, cond_ind, eq_ℤ→eq}
use Rattle.whole.proofs.Difference.{zz, z1, z3, z4, z5}
use Rattle.whole.proofs.Ring.{rr, ring, r4}
use Rattle.rules.specs.Sum.{Sum, Choice, with, factor, add, scale, negate, put, number, setting}
use Rattle.rules.specs.Sum.{one_plus, one_minus, all_zero, no_factors, dot, places, value}

-- ---- the words, each times what stands beside it

dot_add : (s t : Sum) (f : ℕ → ℤ) → dot (add s t) f ≡ dot s f +ℤ dot t f
unfolding dot add
dot_add [] t f = sym (+ℤ_idl (dot t f))
dot_add (a ∷ s) [] f = sym (+ℤ_idr (dot (a ∷ s) f))
dot_add (a ∷ s) (b ∷ t) f =
    let rest : ℕ → ℤ = λ v. f (suc v) in
    ap (λ z. (a +ℤ b) *ℤ f 0 +ℤ z) (dot_add s t rest) ∙ law a b (f 0) (dot s rest) (dot t rest)
  where
    law : (a b x p q : ℤ) → (a +ℤ b) *ℤ x +ℤ (p +ℤ q) ≡ (a *ℤ x +ℤ p) +ℤ (b *ℤ x +ℤ q)
    law = z5 _ (simp zz (omega arith))

dot_scale : (k : ℤ) (s : Sum) (f : ℕ → ℤ) → dot (scale k s) f ≡ k *ℤ dot s f
unfolding dot scale
dot_scale k [] f = sym (*ℤ-zero k)
dot_scale k (a ∷ s) f =
    let rest : ℕ → ℤ = λ v. f (suc v) in
    ap (λ z. (k *ℤ a) *ℤ f 0 +ℤ z) (dot_scale k s rest) ∙ law k a (f 0) (dot s rest)
  where
    law : (k a x p : ℤ) → (k *ℤ a) *ℤ x +ℤ k *ℤ p ≡ k *ℤ (a *ℤ x +ℤ p)
    law = r4 _ (simp rr (ring refl))

dot_zero : (s : Sum) (f : ℕ → ℤ) → T (all_zero s) → dot s f ≡ pos 0
unfolding dot all_zero
dot_zero [] f t = refl
dot_zero (a ∷ s) f t =
    let rest : ℕ → ℤ = λ v. f (suc v) in
    let h = (T_and (eq_ℤ a (pos 0)) (all_zero s)).0 t in
    law a (f 0) (dot s rest) (eq_ℤ→eq a (pos 0) h.0) (dot_zero s rest h.1)
  where
    law : (a x p : ℤ) → a ≡ pos 0 → p ≡ pos 0 → a *ℤ x +ℤ p ≡ pos 0
    law a x p e g = ap (λ b. b *ℤ x +ℤ p) e ∙ ap (λ q. pos 0 *ℤ x +ℤ q) g ∙ none x
      where
        none : (x : ℤ) → pos 0 *ℤ x +ℤ pos 0 ≡ pos 0
        none = z1 _ (simp zz (omega arith))

-- place v apart
dot_split : (v : ℕ) (s : Sum) (f : ℕ → ℤ) → dot s f ≡ factor v s *ℤ f v +ℤ dot (put v (pos 0) s) f
unfolding dot put
dot_split zero [] f = law (f 0)
  where
    law : (x : ℤ) → pos 0 ≡ pos 0 *ℤ x +ℤ (pos 0 *ℤ x +ℤ pos 0)
    law = z1 _ (simp zz (omega arith))
dot_split zero (b ∷ s) f = law (b *ℤ f 0) (f 0) (dot s (λ v. f (suc v)))
  where
    law : (p x d : ℤ) → p +ℤ d ≡ p +ℤ (pos 0 *ℤ x +ℤ d)
    law = z3 _ (simp zz (omega arith))
dot_split (suc v) [] f =
    let rest : ℕ → ℤ = λ w. f (suc w) in
    law (f 0) (pos 0 *ℤ f (suc v)) (dot (put v (pos 0) []) rest) (dot_split v [] rest)
  where
    law : (x p d : ℤ) → pos 0 ≡ p +ℤ d → pos 0 ≡ p +ℤ (pos 0 *ℤ x +ℤ d)
    law = z3 _ (simp zz (omega arith))
dot_split (suc v) (b ∷ s) f =
    let rest : ℕ → ℤ = λ w. f (suc w) in
    law (b *ℤ f 0) (dot s rest) (factor v s *ℤ f (suc v)) (dot (put v (pos 0) s) rest) (dot_split v s rest)
  where
    law : (a d p r : ℤ) → d ≡ p +ℤ r → a +ℤ d ≡ p +ℤ (a +ℤ r)
    law = z4 _ (simp zz (omega arith))

no_part : (x y d : ℤ) → pos 0 *ℤ x +ℤ d ≡ pos 0 *ℤ y +ℤ d
no_part = z3 _ (simp zz (omega arith))

-- the rest does not look at place v
abbrev AlikeBut : ℕ → (ℕ → ℤ) → (ℕ → ℤ) → Type 0
AlikeBut v f g = (w : ℕ) → ¬ (w ≡ v) → f w ≡ g w

alike_behind : (v : ℕ) (f g : ℕ → ℤ) → AlikeBut (suc v) f g → AlikeBut v (λ w. f (suc w)) (λ w. g (suc w))
alike_behind v f g h w n = h (suc w) (λ e. n (suc_inj e))

dot_off : (v : ℕ) (s : Sum) (f g : ℕ → ℤ) → AlikeBut v f g → dot (put v (pos 0) s) f ≡ dot (put v (pos 0) s) g
unfolding dot put
dot_off zero [] f g h = no_part (f 0) (g 0) (pos 0)
dot_off zero (b ∷ s) f g h =
    ap (λ k. pos 0 *ℤ f 0 +ℤ dot s k) (fun_ext (λ w. h (suc w) (suc-ne-zero w)))
    ∙ no_part (f 0) (g 0) (dot s (λ w. g (suc w)))
dot_off (suc v) [] f g h =
    ap (λ z. pos 0 *ℤ z +ℤ dot (put v (pos 0) []) (λ w. f (suc w))) (h 0 (λ e. suc-ne-zero v (sym e)))
    ∙ ap (λ z. pos 0 *ℤ g 0 +ℤ z) (dot_off v [] (λ w. f (suc w)) (λ w. g (suc w)) (alike_behind v f g h))
dot_off (suc v) (b ∷ s) f g h =
    ap (λ z. b *ℤ z +ℤ dot (put v (pos 0) s) (λ w. f (suc w))) (h 0 (λ e. suc-ne-zero v (sym e)))
    ∙ ap (λ z. b *ℤ g 0 +ℤ z) (dot_off v s (λ w. f (suc w)) (λ w. g (suc w)) (alike_behind v f g h))

-- ---- values

pub value_add : (s t : Sum) (ρ : Choice) → value (add s t) ρ ≡ value s ρ +ℤ value t ρ
unfolding value
value_add s t ρ = dot_add s t (places ρ)

pub value_scale : (k : ℤ) (s : Sum) (ρ : Choice) → value (scale k s) ρ ≡ k *ℤ value s ρ
unfolding value
value_scale k s ρ = dot_scale k s (places ρ)

pub value_negate : (s : Sum) (ρ : Choice) → value (negate s) ρ ≡ neg_ℤ (value s ρ)
unfolding negate
value_negate s ρ = value_scale (negsuc 0) s ρ ∙ law (value s ρ)
  where
    law : (z : ℤ) → negsuc 0 *ℤ z ≡ neg_ℤ z
    law = z1 _ (simp zz (omega arith))

pub value_no_factors : (s : Sum) (ρ : Choice) → T (no_factors s) → value s ρ ≡ factor 0 s
unfolding value dot no_factors
value_no_factors [] ρ t = refl
value_no_factors (c ∷ s) ρ t = ap (λ z. c *ℤ pos 1 +ℤ z) (dot_zero s (λ v. ρ (suc v)) t) ∙ law c
  where
    law : (c : ℤ) → c *ℤ pos 1 +ℤ pos 0 ≡ c
    law = z1 _ (simp zz (omega arith))

pub value_number : (z : ℤ) (ρ : Choice) → value (number z) ρ ≡ z
unfolding no_factors
value_number z ρ = value_no_factors (number z) ρ tt

pub value_one_plus : (s : Sum) (ρ : Choice) → value (one_plus s) ρ ≡ pos 1 +ℤ value s ρ
unfolding one_plus
value_one_plus s ρ = value_add (number (pos 1)) s ρ ∙ ap (λ z. z +ℤ value s ρ) (value_number (pos 1) ρ)

pub value_one_minus : (s : Sum) (ρ : Choice) → value (one_minus s) ρ ≡ pos 1 +ℤ neg_ℤ (value s ρ)
unfolding one_minus
value_one_minus s ρ =
    value_add (number (pos 1)) (negate s) ρ
    ∙ ap (λ z. z +ℤ value (negate s) ρ) (value_number (pos 1) ρ)
    ∙ ap (λ z. pos 1 +ℤ z) (value_negate s ρ)

-- ---- the value where x is z

-- all but x's part
unfoldable pub rest : ℕ → Sum → Choice → ℤ
rest x s ρ = value (put x (pos 0) s) ρ

places_here : (x : ℕ) (z : ℤ) (ρ : Choice) → 1 ≤ x → places (with x z ρ) x ≡ z
places_here zero z ρ h = absurd (omega arith)
places_here (suc x) z ρ h = cond_ind (eqb (suc x) (suc x)) z (ρ (suc x)) (λ y. y ≡ z)
    (λ t. refl) (λ t. absurd (T_not (eqb (suc x) (suc x)) t (eqb_refl (suc x))))

places_there : (x : ℕ) (z : ℤ) (ρ : Choice) (w : ℕ) → ¬ (w ≡ x) → places (with x z ρ) w ≡ places ρ w
places_there x z ρ zero n = refl
places_there x z ρ (suc w) n = cond_ind (eqb (suc w) x) z (ρ (suc w)) (λ y. y ≡ ρ (suc w))
    (λ t. absurd (n (eqb→eq (suc w) x t))) (λ t. refl)

pub value_with : (x : ℕ) (s : Sum) (z : ℤ) (ρ : Choice) → 1 ≤ x → value s (with x z ρ) ≡ factor x s *ℤ z +ℤ rest x s ρ
unfolding rest value
value_with x s z ρ h =
    dot_split x s (places (with x z ρ))
    ∙ ap (λ y. factor x s *ℤ y +ℤ dot (put x (pos 0) s) (places (with x z ρ))) (places_here x z ρ h)
    ∙ ap (λ y. factor x s *ℤ z +ℤ y) (dot_off x s (places (with x z ρ)) (places ρ) (places_there x z ρ))

pub factor_put : (v : ℕ) (a : ℤ) (s : Sum) → factor v (put v a s) ≡ a
unfolding put
factor_put zero a [] = refl
factor_put zero a (b ∷ s) = refl
factor_put (suc v) a [] = factor_put v a []
factor_put (suc v) a (b ∷ s) = factor_put v a s

put_put : (v : ℕ) (a b : ℤ) (s : Sum) → put v b (put v a s) ≡ put v b s
unfolding put
put_put zero a b [] = refl
put_put zero a b (c ∷ s) = refl
put_put (suc v) a b [] = ap (λ (l : Sum). pos 0 ∷ l) (put_put v a b [])
put_put (suc v) a b (c ∷ s) = ap (λ (l : Sum). c ∷ l) (put_put v a b s)

put_scale : (v : ℕ) (k : ℤ) (s : Sum) → put v (pos 0) (scale k s) ≡ scale k (put v (pos 0) s)
unfolding put scale
put_scale zero k [] = ap (λ z. z ∷ []) (sym (*ℤ-zero k))
put_scale zero k (c ∷ s) = ap (λ z. z ∷ scale k s) (sym (*ℤ-zero k))
put_scale (suc v) k [] = ap₂ ◌∷◌ (sym (*ℤ-zero k)) (put_scale v k [])
put_scale (suc v) k (c ∷ s) = ap (λ (l : Sum). (k *ℤ c) ∷ l) (put_scale v k s)

pub rest_scale : (x : ℕ) (k : ℤ) (s : Sum) (ρ : Choice) → rest x (scale k s) ρ ≡ k *ℤ rest x s ρ
unfolding rest
rest_scale x k s ρ = ap (λ (l : Sum). value l ρ) (put_scale x k s) ∙ value_scale k (put x (pos 0) s) ρ

rest_number : (x : ℕ) (c : ℤ) (ρ : Choice) → 1 ≤ x → rest x (number c) ρ ≡ c
rest_number x c ρ h =
    let at_zero = sym (value_number c (with x (pos 0) ρ)) ∙ value_with x (number c) (pos 0) ρ h in
    law (factor x (number c)) c (rest x (number c) ρ) at_zero
  where
    law : (f c r : ℤ) → c ≡ f *ℤ pos 0 +ℤ r → r ≡ c
    law = z3 _ (simp zz (omega arith))

-- a put for x's factor
pub value_put : (x : ℕ) (a : ℤ) (s : Sum) (z : ℤ) (ρ : Choice) → 1 ≤ x
    → value (put x a s) (with x z ρ) ≡ a *ℤ z +ℤ rest x s ρ
unfolding rest
value_put x a s z ρ h =
    value_with x (put x a s) z ρ h
    ∙ ap₂ (λ f l. f *ℤ z +ℤ value l ρ) (factor_put x a s) (put_put x a (pos 0) s)

pub value_setting : (x : ℕ) (z : ℤ) (ρ : Choice) → 1 ≤ x → value (setting x) (with x z ρ) ≡ z
unfolding setting
value_setting x z ρ h =
    value_put x (pos 1) (number (pos 0)) z ρ h
    ∙ ap (λ r. pos 1 *ℤ z +ℤ r) (rest_number x (pos 0) ρ h) ∙ law z
  where
    law : (z : ℤ) → pos 1 *ℤ z +ℤ pos 0 ≡ z
    law = z1 _ (simp zz (omega arith))

-- ---- the word at a place

pub factor_put_other : (v x : ℕ) (a : ℤ) (s : Sum) → ¬ (v ≡ x) → factor v (put x a s) ≡ factor v s
unfolding put
factor_put_other zero zero a s n = absurd (n refl)
factor_put_other (suc v) zero a [] n = refl
factor_put_other (suc v) zero a (b ∷ s) n = refl
factor_put_other zero (suc x) a [] n = refl
factor_put_other zero (suc x) a (b ∷ s) n = refl
factor_put_other (suc v) (suc x) a [] n = factor_put_other v x a [] (λ e. n (ap suc e))
factor_put_other (suc v) (suc x) a (b ∷ s) n = factor_put_other v x a s (λ e. n (ap suc e))

pub factor_scale : (v : ℕ) (k : ℤ) (s : Sum) → factor v (scale k s) ≡ k *ℤ factor v s
unfolding scale
factor_scale v k [] = sym (*ℤ-zero k)
factor_scale zero k (a ∷ s) = refl
factor_scale (suc v) k (a ∷ s) = factor_scale v k s

pub factor_add : (v : ℕ) (s t : Sum) → factor v (add s t) ≡ factor v s +ℤ factor v t
unfolding add
factor_add v [] t = sym (+ℤ_idl (factor v t))
factor_add v (a ∷ s) [] = sym (+ℤ_idr (factor v (a ∷ s)))
factor_add zero (a ∷ s) (b ∷ t) = refl
factor_add (suc v) (a ∷ s) (b ∷ t) = factor_add v s t

-- a number has no factors
pub number_factor : (v : ℕ) (z : ℤ) → 1 ≤ v → factor v (number z) ≡ pos 0
number_factor zero z h = absurd (omega arith)
number_factor (suc v) z h = zeros v
  where
    zeros : (v : ℕ) → factor v (pos 0 ∷ pos 0 ∷ pos 0 ∷ pos 0 ∷ pos 0 ∷ pos 0 ∷ []) ≡ pos 0
    zeros zero = refl
    zeros (suc zero) = refl
    zeros (suc (suc zero)) = refl
    zeros (suc (suc (suc zero))) = refl
    zeros (suc (suc (suc (suc zero)))) = refl
    zeros (suc (suc (suc (suc (suc zero))))) = refl
    zeros (suc (suc (suc (suc (suc (suc v)))))) = refl

-- ---- lengths

pub length_scale : (k : ℤ) (s : Sum) → length (scale k s) ≡ length s
unfolding scale
length_scale k [] = refl
length_scale k (a ∷ s) = ap suc (length_scale k s)

pub length_add : (s t : Sum) → length s ≡ length t → length (add s t) ≡ length t
unfolding add
length_add [] t e = refl
length_add (a ∷ s) [] e = e
length_add (a ∷ s) (b ∷ t) e = ap suc (length_add s t (suc_inj e))

pub length_put : (v : ℕ) (a : ℤ) (s : Sum) → suc v ≤ length s → length (put v a s) ≡ length s
unfolding put
length_put zero a [] h = absurd (not-suc-le-zero h)
length_put zero a (b ∷ s) h = refl
length_put (suc v) a [] h = absurd (not-suc-le-zero h)
length_put (suc v) a (b ∷ s) h = ap suc (length_put v a s (le_of_suc-le-suc h))
