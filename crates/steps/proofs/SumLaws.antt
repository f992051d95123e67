-- The sums that step 3 puts in for x, word by word: which they are, and that they are small.
-- Assumes nothing.
use mathlib.Core.Path.{◌≡◌, refl, sym, ◌∙◌, ap, subst}
use mathlib.Core.List.{List, [], ◌∷◌}
use Prim.Native.Nat.{ℕ, zero, suc, ◌+◌, ◌^◌, ◌<◌, ◌≤◌}
use native.Mathlib.Decide.{ℕ_discrete}
use native.Mathlib.Omega.{arith}
use borrow.Author.Rules.{sfits_of}
use lib.Dec.{T, leb→le, le→leb}
use lib.IntN.{ℤ, pos, negsuc, nat_abs, ◌+ℤ◌, ◌-ℤ◌, ◌*ℤ◌, +ℤ_idr}
use lib.ListN.{length, get_or, length-append, length-drop}
use lib.Signed.{mag}
use mir.Syntax.{w32, w64}
use mir.Val.{SFits, to_z, of_z, hbits}
use mir.Facts.{to_z-of_z, to_z_pos, sfits_widen}
use Rattle.whole.specs.Integers.{within}
use Rattle.whole.proofs.Tests.{T_and}
use Rattle.whole.proofs.Difference.{zz, z1}
use Rattle.whole.proofs.Linear.{U, D, dif}
use Rattle.rules.specs.Sum.{Sum, factor, add, negate, put, number, limit, all_within}
use Rattle.rules.specs.Rule.{positive}
use Rattle.rules.specs.Table.{literal_node, body}
use Rattle.rules.specs.Eliminate.{most_period}
use Rattle.rules.proofs.Sizes.{words, before_sum, length_body}
use Rattle.rules.proofs.Sums.{factor_put, factor_put_other, factor_scale, factor_add, number_factor}
use Rattle.rules.proofs.Sums.{length_scale, length_add, length_put}
use Rattle.rules.proofs.DisjunctNumbers.{size_parts}
use Rattle.bodies.specs.Body.{BoundAt}
use Rattle.bodies.proofs.LiteralWords.{sum_word}
use Rattle.literals.specs.Rows.{most_put}
use Rattle.literals.proofs.Sizes.{size_add}
use Rattle.literals.specs.Changes.{InRange, Usable, Fair}
use Rattle.literals.specs.Changes.{Far, Full}

-- ---- sizes

-- a number that is p − q is no greater than p + q
difference_size : (z : ℤ) (p q : ℕ) → U z + q ≡ p + D z → nat_abs z ≤ p + q
difference_size (pos n) p q e = omega (arith, e)
difference_size (negsuc n) p q e = omega (arith, e)

negated_size : (z : ℤ) → nat_abs (pos 0 -ℤ z) ≤ nat_abs z
negated_size z = omega (arith, difference_size (pos 0 -ℤ z) (D z) (U z) (omega (arith, dif (pos 0) z)), size_parts z)

small_fits : (z : ℤ) → nat_abs z ≤ most_put → SFits w64 z
small_fits (pos n) small = record { sfits = omega (arith, small) }
small_fits (negsuc n) small = record { sfits = omega (arith, small) }

within_at : (n : ℕ) (s : Sum) (i : ℕ) → T (all_within n s) → nat_abs (factor i s) ≤ n
unfolding all_within
within_at n [] i t = omega arith
within_at n (z ∷ s) zero t = leb→le (nat_abs z) n ((T_and (within n z) (all_within n s)).0 t).0
within_at n (z ∷ s) (suc i) t = within_at n s i ((T_and (within n z) (all_within n s)).0 t).1

all_within_of : (n : ℕ) (s : Sum) → ((i : ℕ) → nat_abs (factor i s) ≤ n) → T (all_within n s)
unfolding all_within
all_within_of n [] each = tt
all_within_of n (z ∷ s) each =
    (T_and (within n z) (all_within n s)).1 (le→leb (nat_abs z) n (each 0), all_within_of n s (λ i. each (suc i)))

-- ---- the words of a bound

negated : (z : ℤ) → negsuc 0 *ℤ z ≡ pos 0 -ℤ z
negated = z1 _ (simp zz (omega arith))

module _ {bs : List ℤ} {x p : ℕ} {b : Sum} (l : BoundAt bs x p b) where
  bound_word : (i : ℕ) → factor i b ≡ negsuc 0 *ℤ factor i (put x (pos 0) l.sum)
  unfolding negate
  bound_word i = ap (factor i) l.bound_is ∙ factor_scale i (negsuc 0) (put x (pos 0) l.sum)

  -- at x stands 0
  pub bound_none : (i : ℕ) → i ≡ x → pos 0 ≡ factor i b
  bound_none i e =
      sym (bound_word i ∙ ap (λ (i : ℕ). negsuc 0 *ℤ factor i (put x (pos 0) l.sum)) e
      ∙ ap (λ (z : ℤ). negsuc 0 *ℤ z) (factor_put x (pos 0) l.sum))

  bound_other : (i : ℕ) → ¬ (i ≡ x) → factor i b ≡ pos 0 -ℤ factor i l.sum
  bound_other i other =
      bound_word i ∙ ap (λ (z : ℤ). negsuc 0 *ℤ z) (factor_put_other i x (pos 0) l.sum other)
      ∙ negated (factor i l.sum)

  -- the words of T stand behind the kind
  pub bound_inside : p + 8 ≤ length bs
  unfolding words before_sum
  bound_inside =
      let all = ap length l.stands.begins ∙ length-append (body l.node (literal_node positive l.sum)) _ in
      omega (arith, all, length_body l.node (literal_node positive l.sum), length-drop p bs, l.formed.0)

  read_word : (i : ℕ) → i ≤ 6 → get_or bs (p + 1 + i) (pos 0) ≡ factor i l.sum
  unfolding before_sum
  read_word i inside = sum_word bs p positive l.stands i (omega (arith, l.formed.0))

  module _ (i : ℕ) (inside : i ≤ 6) (z : ℤ) (read : z ≡ get_or bs (p + 1 + i) (pos 0)) where
    read_small : nat_abs z ≤ limit
    read_small = subst (λ (y : ℤ). nat_abs y ≤ limit) (sym (read ∙ read_word i inside))
        (within_at limit l.sum i l.formed.1)

    pub read_negated : ¬ (i ≡ x) → pos 0 -ℤ z ≡ factor i b
    read_negated other = ap (λ (y : ℤ). pos 0 -ℤ y) (read ∙ read_word i inside) ∙ sym (bound_other i other)

    pub negated_small : nat_abs (pos 0 -ℤ z) ≤ limit
    negated_small = omega (arith, negated_size z, read_small)

  bound_small : (i : ℕ) → nat_abs (factor i b) ≤ limit
  bound_small i = by (ℕ_discrete i x)
    where
      by : Dec (i ≡ x) → nat_abs (factor i b) ≤ limit
      by (yes e) = subst (λ (y : ℤ). nat_abs y ≤ limit) (bound_none i e) (omega arith)
      by (no f) = subst (λ (y : ℤ). nat_abs y ≤ limit) (sym (bound_other i f))
          (omega (arith, negated_size (factor i l.sum), within_at limit l.sum i l.formed.1))

  pub bound_within : T (all_within limit b)
  bound_within = all_within_of limit b bound_small

  pub bound_seven : InRange x → length b ≡ 7
  unfolding negate
  bound_seven range =
      ap length l.bound_is ∙ length_scale (negsuc 0) (put x (pos 0) l.sum)
      ∙ length_put x (pos 0) l.sum (omega (arith, l.formed.0)) ∙ l.formed.0

-- ---- a bound with j added

number_small : (j i : ℕ) → j ≤ most_period → nat_abs (factor i (number (pos j))) ≤ most_period
number_small j zero few = few
number_small j (suc i) few =
    subst (λ (y : ℤ). nat_abs y ≤ most_period) (sym (number_factor (suc i) (pos j) (omega arith))) (omega arith)

-- a sum of seven words is the list of its words
abbrev words_of : Sum → Sum
words_of s =
    factor 0 s ∷ factor 1 s ∷ factor 2 s ∷ factor 3 s ∷ factor 4 s ∷ factor 5 s ∷ factor 6 s ∷ []

seven_words : (s : Sum) → length s ≡ 7 → words_of s ≡ s
seven_words [] e = absurd (omega (arith, e))
seven_words (a ∷ []) e = absurd (omega (arith, e))
seven_words (a ∷ b ∷ []) e = absurd (omega (arith, e))
seven_words (a ∷ b ∷ c ∷ []) e = absurd (omega (arith, e))
seven_words (a ∷ b ∷ c ∷ d ∷ []) e = absurd (omega (arith, e))
seven_words (a ∷ b ∷ c ∷ d ∷ f ∷ []) e = absurd (omega (arith, e))
seven_words (a ∷ b ∷ c ∷ d ∷ f ∷ g ∷ []) e = absurd (omega (arith, e))
seven_words (a ∷ b ∷ c ∷ d ∷ f ∷ g ∷ h ∷ []) e = refl
seven_words (a ∷ b ∷ c ∷ d ∷ f ∷ g ∷ h ∷ i ∷ s) e = absurd (omega (arith, e))

abbrev pub above : Sum → ℕ → Sum
above b j = add b (number (pos j))

module _ {bs : List ℤ} {x p : ℕ} (b : Sum) (l : BoundAt bs x p b) (j : ℕ) where
  above_seven : InRange x → length (above b j) ≡ 7
  above_seven range = length_add b (number (pos j)) (bound_seven l range)

  above_word : (i : ℕ) → 1 ≤ i → factor i b ≡ factor i (above b j)
  above_word i some =
      sym (factor_add i b (number (pos j)) ∙ ap (λ (z : ℤ). factor i b +ℤ z) (number_factor i (pos j) some)
      ∙ +ℤ_idr (factor i b))

  pub above_is : InRange x → {c a₁ a₂ a₃ a₄ a₅ a₆ : ℤ} → c ≡ factor 0 b +ℤ pos j → a₁ ≡ factor 1 b → a₂ ≡ factor 2 b
      → a₃ ≡ factor 3 b → a₄ ≡ factor 4 b → a₅ ≡ factor 5 b → a₆ ≡ factor 6 b
      → ◌≡◌ {A = List ℤ} (c ∷ a₁ ∷ a₂ ∷ a₃ ∷ a₄ ∷ a₅ ∷ a₆ ∷ []) (above b j)
  above_is range {c} {a₁} {a₂} {a₃} {a₄} {a₅} {a₆} w₀ w₁ w₂ w₃ w₄ w₅ w₆ =
      all (w₀ ∙ sym (factor_add 0 b (number (pos j)))) (w₁ ∙ above_word 1 (omega arith))
      (w₂ ∙ above_word 2 (omega arith)) (w₃ ∙ above_word 3 (omega arith)) (w₄ ∙ above_word 4 (omega arith))
      (w₅ ∙ above_word 5 (omega arith)) (w₆ ∙ above_word 6 (omega arith))
      ∙ seven_words (above b j) (above_seven range)
    where
      all : {d b₁ b₂ b₃ b₄ b₅ b₆ : ℤ} → c ≡ d → a₁ ≡ b₁ → a₂ ≡ b₂ → a₃ ≡ b₃ → a₄ ≡ b₄ → a₅ ≡ b₅ → a₆ ≡ b₆
          → ◌≡◌ {A = List ℤ} (c ∷ a₁ ∷ a₂ ∷ a₃ ∷ a₄ ∷ a₅ ∷ a₆ ∷ []) (d ∷ b₁ ∷ b₂ ∷ b₃ ∷ b₄ ∷ b₅ ∷ b₆ ∷ [])
      all e₀ e₁ e₂ e₃ e₄ e₅ e₆ = cc

  above_small : j ≤ most_period → (i : ℕ) → nat_abs (factor i (above b j)) ≤ most_put
  above_small few i =
      subst (λ (z : ℤ). nat_abs z ≤ most_put) (sym (factor_add i b (number (pos j))))
      (omega (arith, size_add (factor i b) (factor i (number (pos j))), bound_small l i, number_small j i few))

  pub above_usable : InRange x → j ≤ most_period → Usable (Full x) (above b j)
  above_usable range few = record {
    seven = above_seven range;
    small = all_within_of most_put (above b j) (above_small few);
    fair = unfold Fair in range;
  }

pub number_usable : (x j : ℕ) → InRange x → j ≤ most_period → Usable (Far x) (number (pos j))
number_usable x j range few = record {
  seven = refl;
  small = all_within_of most_put (number (pos j)) (λ i. omega (arith, number_small j i few));
  fair = unfold Fair in range;
}

-- ---- as the machine has them

pub numeral_is : (j : ℕ) → j ≤ most_period → ◌≡◌ {A = List ℤ} (number (to_z w64 j)) (number (pos j))
numeral_is j few = ap number (to_z_pos w64 (omega (arith, few)))

-- a word read from a table, at 64 bits
abbrev wide : ℤ → ℤ
wide z = to_z w64 (of_z w64 (to_z w32 (of_z w32 z)))

module _ {z : ℤ} (f : SFits w32 z) where
  pub wide_fits : SFits w64 (to_z w32 (of_z w32 z))
  wide_fits = rw (to_z-of_z f) (sfits_widen tt f)

  wide_is : wide z ≡ z
  wide_is = rw (to_z-of_z f) (to_z-of_z {w = w64} (sfits_widen tt f))

  module _ (small : nat_abs (pos 0 -ℤ z) ≤ limit) where
    pub negated_fits : SFits w64 (pos 0 -ℤ wide z)
    negated_fits = rw wide_is (small_fits (pos 0 -ℤ z) (omega (arith, small)))

    pub negated_back : to_z w64 (of_z w64 (pos 0 -ℤ wide z)) ≡ pos 0 -ℤ z
    negated_back = to_z-of_z negated_fits ∙ ap (λ (y : ℤ). pos 0 -ℤ y) wide_is

-- a word that a call gives is read back from its bits
module _ (z : ℤ) (ok : mag z < 2 ^ hbits w64) where
  pub word_back : {a : ℤ} → z ≡ a → to_z w64 (of_z w64 z) ≡ a
  word_back e = to_z-of_z {w = w64} (sfits_of {z = z} ok) ∙ e

  module _ (small : nat_abs z ≤ limit) (j : ℕ) (few : j ≤ most_period) where
    added : to_z w64 (of_z w64 z) +ℤ to_z w64 j ≡ z +ℤ pos j
    added = rw (to_z-of_z (sfits_of {z = z} ok), to_z_pos w64 {n = j} (omega (arith, few)))

    pub added_fits : SFits w64 (to_z w64 (of_z w64 z) +ℤ to_z w64 j)
    added_fits =
        subst (SFits w64) (sym added) (small_fits (z +ℤ pos j) (omega (arith, size_add z (pos j), small, few)))

    pub added_back : {c : ℤ} → z ≡ c → to_z w64 (of_z w64 (to_z w64 (of_z w64 z) +ℤ to_z w64 j)) ≡ c +ℤ pos j
    added_back e = to_z-of_z added_fits ∙ added ∙ ap (λ (y : ℤ). y +ℤ pos j) e
