-- gcd and lcm are what their names say, at every two numbers, and the lcm of a list is a multiple of each.
-- Assumes nothing.
use mathlib.Core.Path.{◌≡◌, refl, sym, ◌∙◌, ap, ap₂, subst}
use Prim.Native.Nat.{ℕ, zero, suc, ◌+◌, ◌*◌, ◌/◌, ◌%◌, ◌≤◌, ◌<◌}
use native.Mathlib.Nat.{mod-lt, div-add-mod, mul-pos, zero-mul, mul-le-mul_left}
use native.Mathlib.Omega.{arith}
use mathlib.Core.List.{List, [], ◌∷◌}
use lib.Dec.{eqb→eq}
use lib.IntN.{ℤ, pos, ◌+ℤ◌, ◌-ℤ◌, ◌*ℤ◌}
use Rattle.whole.specs.Divides.{Divides}
use Rattle.whole.specs.Multiples.{GreatestCommonDivisor, LeastCommonMultiple, euclid, gcd, lcm, lcms}
use Rattle.whole.proofs.Difference.{zz, z1, z3, z4, z5}
use Rattle.whole.proofs.Integers.{*ℤ-≡}
use Rattle.whole.proofs.Ring.{rr, ring, r4, r6}
use Rattle.whole.proofs.Lists.{All, all_imp}
use Rattle.whole.proofs.Divisibility.{divides_zero, divides_self, divides_times, divides_add}
use Rattle.whole.proofs.Divisibility.{divides_mul, divides_trans, divides_test}

-- ---- the greatest common divisor

-- g divides a and b and is a sum of multiples of them
pub record Bezout (a b g : ℕ) : Type 0 where
  pub left : Divides g (pos a)
  pub right : Divides g (pos b)
  pub s : ℤ
  pub t : ℤ
  pub combined : pos g ≡ pos a *ℤ s +ℤ pos b *ℤ t

with_zero : (a : ℕ) → Bezout a 0 a
with_zero a = record {
  left = divides_self;
  right = divides_zero;
  s = pos 1;
  t = pos 0;
  combined = ap pos (omega arith);
}

-- one round: a = b·d + r
pub bezout_step : (a b d r g : ℕ) → b * d + r ≡ a → Bezout b r g → Bezout a b g
bezout_step a b d r g e i = record {
  left = subst (λ n. Divides g (pos n)) turned (divides_add (divides_mul (pos d) i.left) i.right);
  right = i.left;
  s = i.t;
  t = i.s -ℤ pos d *ℤ i.t;
  combined =
      i.combined
      ∙ law (pos b) (pos d) (pos r) i.s i.t
      ∙ ap (λ n. pos n *ℤ i.t +ℤ pos b *ℤ (i.s -ℤ pos d *ℤ i.t)) e;
}
  where
    turned : d * b + r ≡ a
    turned = omega arith

    law : (b d r s t : ℤ) → b *ℤ s +ℤ r *ℤ t ≡ (b *ℤ d +ℤ r) *ℤ t +ℤ b *ℤ (s -ℤ d *ℤ t)
    law = z5 _ (simp zz (omega arith))

euclid_bezout : (f a b : ℕ) → b ≤ f → Bezout a b (euclid f a b)
unfolding euclid
euclid_bezout zero a b h = subst (λ n. Bezout a n a) none (with_zero a)
  where
    none : 0 ≡ b
    none = omega arith
euclid_bezout (suc f) a zero h = with_zero a
euclid_bezout (suc f) a (suc b) h =
    let rest : ℕ = a % suc b in
    bezout_step a (suc b) (a / suc b) rest _ (div-add-mod a (suc b)) (euclid_bezout f (suc b) rest (below f a b h))
  where
    below : (f a b : ℕ) → suc b ≤ suc f → a % suc b ≤ f
    below f a b h = let k : a % suc b < suc b = mod-lt a (omega arith) in omega arith

gcd_bezout : (a b : ℕ) → Bezout a b (gcd a b)
unfolding gcd
gcd_bezout a b = euclid_bezout b a b (omega arith)

pub bezout_greatest : {a b g : ℕ} → Bezout a b g → GreatestCommonDivisor a b g
bezout_greatest {a} {b} {g} i = record {
  left = i.left;
  right = i.right;
  greatest = λ d h k. subst (Divides d) sums_to_g (divides_add (divides_mul i.s h) (divides_mul i.t k));
}
  where
    law : (a b s t : ℤ) → s *ℤ a +ℤ t *ℤ b ≡ a *ℤ s +ℤ b *ℤ t
    law = z4 _ (simp zz (omega arith))

    sums_to_g : i.s *ℤ pos a +ℤ i.t *ℤ pos b ≡ pos g
    sums_to_g = law (pos a) (pos b) i.s i.t ∙ sym i.combined

pub gcd_is : (a b : ℕ) → GreatestCommonDivisor a b (gcd a b)
gcd_is a b = bezout_greatest (gcd_bezout a b)

-- ---- divisors of naturals

-- zero divides zero alone
zero_divides : (b : ℕ) → Divides 0 (pos b) → b ≡ 0
zero_divides b h = law b h.quotient h.exact
  where
    law : (b : ℕ) (q : ℤ) → pos b ≡ pos 0 *ℤ q → b ≡ 0
    law b = z1 _ (simp zz (omega arith))

pub quotient_exact : (g b : ℕ) → Divides g (pos b) → b ≡ g * (b / g)
quotient_exact zero b h = let e : b ≡ 0 = zero_divides b h in omega arith
quotient_exact (suc g) b h =
    let e : b % suc g ≡ 0 = eqb→eq (b % suc g) 0 ((divides_test (suc g) (pos b)).1 h) in
    omega (arith, div-add-mod b (suc g))

-- a factor of a positive number is positive
pub factor_pos : (n g y : ℕ) → 0 < n → n ≡ g * y → 0 < y
factor_pos n g zero h e = omega arith
factor_pos n g (suc y) h e = omega arith

pub quotient_pos : {g n : ℕ} → 0 < n → Divides g (pos n) → 0 < n / g
quotient_pos {g} {n} h d = factor_pos n g (n / g) h (quotient_exact g n d)

-- two numbers that divide each other are equal
pub divides_antisym : (a b : ℕ) → Divides a (pos b) → Divides b (pos a) → a ≡ b
divides_antisym zero b h k = sym (zero_divides b h)
divides_antisym (suc a) zero h k = zero_divides (suc a) k
divides_antisym (suc a) (suc b) h k = omega (arith, at_most h, at_most k)
  where
    at_most : {g n : ℕ} → Divides g (pos (suc n)) → g ≤ suc n
    at_most {g} {n} d =
        let some : 0 < suc n / g = quotient_pos (omega arith) d in
        omega (arith, quotient_exact g (suc n) d, mul-le-mul_left g some)

pub gcd_unique : {a b g h : ℕ} → GreatestCommonDivisor a b g → GreatestCommonDivisor a b h → g ≡ h
gcd_unique {g} {h} first second = divides_antisym g h
    (second.greatest g first.left first.right)
    (first.greatest h second.left second.right)

-- ---- the least common multiple

-- with b = g·y the multiple is a·y
module _ {a b g : ℕ} (y : ℕ) (e : b ≡ g * y) (i : Bezout a b g) where
  multiple_right : Divides b (pos (a * y))
  multiple_right = record {
    quotient = i.left.quotient;
    exact =
        ap (λ w. w *ℤ pos y) i.left.exact
        ∙ law (pos g) i.left.quotient (pos y)
        ∙ ap (λ n. pos n *ℤ i.left.quotient) (sym e);
  }
    where
      law : (g x y : ℤ) → (g *ℤ x) *ℤ y ≡ (g *ℤ y) *ℤ x
      law = z3 _ (simp zz (omega arith))

least_multiple : {a b : ℕ} {z : ℤ} (g y : ℕ) → b ≡ g * y → Bezout a b g → Divides a z → Divides b z → Divides (a * y) z
least_multiple {a} {b} {z} zero y e i h k = record {
  quotient = h.quotient;
  exact = h.exact ∙ ap (λ n. pos n *ℤ h.quotient) (a_zero ∙ sym (zero-mul y) ∙ ap (λ n. n * y) (sym a_zero));
}
  where
    a_zero : a ≡ 0
    a_zero = zero_divides a i.left
least_multiple {a} {b} {z} (suc g) y e i h k = record {
  quotient = w;
  exact = (*ℤ-≡ {m = suc g} (omega arith) z (pos (a * y) *ℤ w)).0 chain;
}
  where
    w : ℤ
    w = i.s *ℤ k.quotient +ℤ i.t *ℤ h.quotient

    spread : (a b s t z : ℤ) → (a *ℤ s +ℤ b *ℤ t) *ℤ z ≡ a *ℤ s *ℤ z +ℤ b *ℤ t *ℤ z
    spread = z5 _ (simp zz (omega arith))

    gather : (a b s t u v : ℤ) → a *ℤ s *ℤ (b *ℤ v) +ℤ b *ℤ t *ℤ (a *ℤ u) ≡ (a *ℤ b) *ℤ (s *ℤ v +ℤ t *ℤ u)
    gather = r6 _ (simp rr (ring refl))

    front : (a g y w : ℤ) → (a *ℤ (g *ℤ y)) *ℤ w ≡ g *ℤ ((a *ℤ y) *ℤ w)
    front = r4 _ (simp rr (ring refl))

    chain : pos (suc g) *ℤ z ≡ pos (suc g) *ℤ (pos (a * y) *ℤ w)
    chain = ap (λ x. x *ℤ z) i.combined
        ∙ spread (pos a) (pos b) i.s i.t z
        ∙ ap₂ (λ p q. pos a *ℤ i.s *ℤ p +ℤ pos b *ℤ i.t *ℤ q) k.exact h.exact
        ∙ gather (pos a) (pos b) i.s i.t h.quotient k.quotient
        ∙ ap (λ n. (pos a *ℤ pos n) *ℤ w) e
        ∙ front (pos a) (pos (suc g)) (pos y) w

pub lcm_is : (a b : ℕ) → LeastCommonMultiple a b (lcm a b)
unfolding lcm
lcm_is a b =
    let i : Bezout a b (gcd a b) = gcd_bezout a b in
    let e : b ≡ gcd a b * (b / gcd a b) = quotient_exact (gcd a b) b i.right in
    record {
      left = divides_times a (pos (b / gcd a b));
      right = multiple_right (b / gcd a b) e i;
      least = λ n h k. least_multiple (gcd a b) (b / gcd a b) e i h k;
    }

pub lcm_unique : {a b m n : ℕ} → LeastCommonMultiple a b m → LeastCommonMultiple a b n → m ≡ n
lcm_unique {m} {n} first second = divides_antisym m n
    (first.least n second.left second.right)
    (second.least m first.left first.right)

pub lcm_pos : {a b : ℕ} → 0 < a → 0 < b → 0 < lcm a b
unfolding lcm
lcm_pos {a} {b} h k = mul-pos h (quotient_pos k (gcd_bezout a b).right)

-- ---- the least common multiple of a list

pub lcms_pos : (l : List ℕ) → All (λ a. 0 < a) l → 0 < lcms l
unfolding All lcms
lcms_pos [] h = omega arith
lcms_pos (a ∷ l) h = lcm_pos h.0 (lcms_pos l h.1)

pub lcms_divided : (l : List ℕ) → All (λ a. Divides a (pos (lcms l))) l
unfolding All lcms
lcms_divided [] = tt
lcms_divided (a ∷ l) =
    let m = lcm_is a (lcms l) in
    (m.left, all_imp (λ b d. divides_trans d m.right) l (lcms_divided l))
