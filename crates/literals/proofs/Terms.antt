-- The value of a sum, added up term by term at 64 bits.
-- Assumes nothing.
use mathlib.Core.Path.{◌≡◌, refl, sym, ap, ap₂, ◌∙◌, subst}
use mathlib.Core.List.{List, [], ◌∷◌}
use Prim.Native.Nat.{ℕ, zero, suc, ◌+◌, ◌-◌, ◌*◌, ◌^◌, ◌<◌, ◌≤◌}
use native.Mathlib.Nat.{mul-le-mul}
use native.Mathlib.Omega.{arith}
use borrow.Author.Rules.{sfits_of}
use lib.Dec.{T, lit<}
use lib.IntN.{ℤ, pos, nat_abs, ◌+ℤ◌, ◌*ℤ◌}
use lib.ListN.{length, get_or, take, drop, length-take, length-drop}
use lib.Seq.{get_or-drop, get_or-take}
use lib.Signed.{mag}
use mir.Syntax.{w32, w64}
use mir.Val.{SFits, to_z, of_z, hbits}
use mir.Facts.{to_z-of_z}
use Rattle.rules.specs.Sum.{Sum, all_within, places, dot, value}
use Rattle.rules.specs.Match.{most_value, choice}
use Rattle.literals.specs.Literal.{most_term}
use Rattle.literals.proofs.Sizes.{wide_is, size_mul, size_add, size_of, fits_size, again}
use Rattle.literals.proofs.Sevens.{listed, within_at}

-- ---- one term

-- a word as the machine multiplies it
abbrev wide : ℤ → ℤ
wide z = to_z w64 (of_z w64 (to_z w32 (of_z w32 z)))

module _ {a s : ℤ} (f : SFits w32 a) (g : SFits w32 s) (low : nat_abs s ≤ most_value) where
  product_size : nat_abs (a *ℤ s) ≤ most_term
  product_size = rw (size_mul a s) (mul-le-mul (size_of w32 f) low)

  product_fits : SFits w64 (a *ℤ s)
  product_fits = fits_size w64 (a *ℤ s) (omega (arith, product_size))

  pub product_asks : SFits w64 (wide a *ℤ wide s)
  product_asks = rw (wide_is f, wide_is g) product_fits

  module _ {x : ℤ} {v : ℕ} (h : SFits w64 x) (small : nat_abs x ≤ (6 - v) * most_term) (k : v < 7) where
    sum_size : nat_abs (a *ℤ s +ℤ x) ≤ (7 - v) * most_term
    sum_size = omega (arith, product_size, size_add (a *ℤ s) x)

    sum_fits : SFits w64 (a *ℤ s +ℤ x)
    sum_fits = fits_size w64 (a *ℤ s +ℤ x) (omega (arith, sum_size))

    pub sum_asks : SFits w64 (to_z w64 (of_z w64 (wide a *ℤ wide s)) +ℤ to_z w64 (of_z w64 x))
    sum_asks = rw (wide_is f, wide_is g, to_z-of_z product_fits, to_z-of_z h) sum_fits

    pub sum_is : {b : ℤ} → a ≡ b
        → (to_z w64 (of_z w64 (to_z w64 (of_z w64 (wide a *ℤ wide s)) +ℤ to_z w64 (of_z w64 x))) ≡ b *ℤ s +ℤ x)
        × (nat_abs (to_z w64 (of_z w64 (to_z w64 (of_z w64 (wide a *ℤ wide s)) +ℤ to_z w64 (of_z w64 x))))
        ≤ (7 - v) * most_term)
    sum_is e =
        rw (wide_is f, wide_is g, to_z-of_z product_fits, to_z-of_z h, to_z-of_z sum_fits)
        (ap (λ c. c *ℤ s +ℤ x) e, sum_size)

-- ---- the seven

-- what the terms behind that of setting v add up to
unfoldable pub behind : Sum → List ℤ → ℕ → ℤ
unfolding dot
behind s vs v = dot (drop (v + 1) s) (λ (k : ℕ). places (choice vs) (v + 1 + k))

module _ (a b c d e f g : ℤ) (vs : List ℤ) where
  abbrev seven : Sum
  seven = a ∷ b ∷ c ∷ d ∷ e ∷ f ∷ g ∷ []

  last_of : pos 0 ≡ behind seven vs 6
  unfolding behind dot
  last_of = refl

  more_of : (v : ℕ) → v < 6
      → get_or seven (v + 1) (pos 0) *ℤ get_or vs v (pos 0) +ℤ behind seven vs (v + 1) ≡ behind seven vs v
  unfolding behind dot
  more_of zero h = refl
  more_of (suc zero) h = refl
  more_of (suc (suc zero)) h = refl
  more_of (suc (suc (suc zero))) h = refl
  more_of (suc (suc (suc (suc zero)))) h = refl
  more_of (suc (suc (suc (suc (suc zero))))) h = refl
  more_of (suc (suc (suc (suc (suc (suc v)))))) h = absurd (omega arith)

  whole_of : a *ℤ pos 1 +ℤ behind seven vs 0 ≡ value seven (choice vs)
  unfolding behind value dot
  whole_of = refl

module _ (ws : List ℤ) (at : ℕ) (inside : at + 7 ≤ length ws) (vs : List ℤ) where
  abbrev word : ℕ → ℤ
  word v = get_or ws (at + v) (pos 0)

  abbrev sum : Sum
  sum = take 7 (drop at ws)

  seven_words : sum ≡ seven (word 0) (word 1) (word 2) (word 3) (word 4) (word 5) (word 6) vs
  seven_words =
      listed sum (simp (length-take, length-drop) (omega arith)) ∙ simp (get_or-take, get_or-drop, lit<, tt {0})

  pub last : pos 0 ≡ behind sum vs 6
  last = subst (λ (s : Sum). pos 0 ≡ behind s vs 6) (sym seven_words)
      (last_of (word 0) (word 1) (word 2) (word 3) (word 4) (word 5) (word 6) vs)

  -- a term is added to what the terms behind it add up to
  pub more : (v : ℕ) → v < 6 → word (v + 1) *ℤ get_or vs v (pos 0) +ℤ behind sum vs (v + 1) ≡ behind sum vs v
  more v h =
      let less : v + 1 < 7 = omega arith in
      let here : get_or sum (v + 1) (pos 0) ≡ word (v + 1) = rw (get_or-take, get_or-drop) refl in
      rw (← here) (subst
      (λ (s : Sum). get_or s (v + 1) (pos 0) *ℤ get_or vs v (pos 0) +ℤ behind s vs (v + 1) ≡ behind s vs v)
      (sym seven_words) (more_of (word 0) (word 1) (word 2) (word 3) (word 4) (word 5) (word 6) vs v h))

  pub whole : word 0 *ℤ pos 1 +ℤ behind sum vs 0 ≡ value sum (choice vs)
  whole = subst (λ (s : Sum). word 0 *ℤ pos 1 +ℤ behind s vs 0 ≡ value s (choice vs)) (sym seven_words)
      (whole_of (word 0) (word 1) (word 2) (word 3) (word 4) (word 5) (word 6) vs)

  -- one turn: the term of setting m + 1 is added
  pub turn : {v : ℕ} (m : ℕ) → m + 1 ≡ v → m < 6 → SFits w32 (get_or vs m (pos 0)) → {x r : ℤ} → mag r < 2 ^ hbits w64
      → r ≡ word (m + 1) *ℤ to_z w32 (of_z w32 (get_or vs m (pos 0))) +ℤ x → x ≡ behind sum vs v
      → to_z w64 (of_z w64 r) ≡ behind sum vs m
  turn m next less f {x} {r} g e p =
      to_z-of_z {w = w64} (sfits_of {z = r} g) ∙ e
      ∙ ap₂ (λ (a b : ℤ). word (m + 1) *ℤ a +ℤ b) (to_z-of_z f)
      (p ∙ ap (λ (v : ℕ). behind sum vs v) (sym next))
      ∙ more m less

  -- and the last one, of c
  pub closed : {x r : ℤ} → mag r < 2 ^ hbits w64 → r ≡ get_or ws (at + 0) (pos 0) *ℤ pos 1 +ℤ x → x ≡ behind sum vs 0
      → nat_abs r ≤ 7 * most_term
      → (to_z w64 (of_z w64 r) ≡ value sum (choice vs)) × (nat_abs (to_z w64 (of_z w64 r)) < 2 ^ 63)
  closed {x} {r} g e p small =
      let back = to_z-of_z {w = w64} (sfits_of {z = r} g) in (
        back ∙ e ∙ ap (λ (b : ℤ). word 0 *ℤ pos 1 +ℤ b) p ∙ whole,
        rw back (omega arith),
      )

-- a value, as a call passes it on
pub value_fits : (vs : List ℤ) (i : ℕ) → T (all_within most_value vs) → SFits w32 (get_or vs i (pos 0))
value_fits vs i t = fits_size w32 (get_or vs i (pos 0)) (omega (arith, within_at most_value vs i t))

pub value_small : (vs : List ℤ) (i : ℕ) → T (all_within most_value vs)
    → nat_abs (to_z w32 (of_z w32 (get_or vs i (pos 0)))) ≤ most_value
value_small vs i t = again w32 (value_fits vs i t) (within_at most_value vs i t)
