-- The seven words of a changed sum, read one by one.
-- Assumes nothing.
use mathlib.Core.Path.{◌≡◌, refl, sym, ap, ap₂, ◌∙◌, subst}
use mathlib.Core.Bool.{Bool, true, false, not, cond, ◌&&◌}
use mathlib.Core.List.{List}
use Prim.Native.Nat.{ℕ, ◌+◌, ◌<◌, ◌≤◌}
use native.Mathlib.Numerals.{add-one}
use native.Mathlib.Omega.{arith}
use lib.Dec.{T, eqb}
use lib.IntN.{ℤ, pos, nat_abs, ◌+ℤ◌, ◌*ℤ◌}
use lib.ListN.{length, get_or, drop}
use Rattle.std.specs.Borrow.{Bor}
use lib.Seq.{drop-cons}
use mir.Syntax.{w32, w64}
use mir.Val.{SFits, to_z, of_z}
use mir.Facts.{to_z-of_z}
use Rattle.whole.proofs.Tests.{never}
use Rattle.whole.specs.Integers.{within}
use Rattle.rules.specs.Sum.{Sum, limit, all_within}
use Rattle.rules.specs.Eliminate.{most_period}
use Rattle.literals.specs.Rows.{row_word, most_word, most_put, Tame, Makes, SomeWithin}
use Rattle.literals.specs.declared.row.Row.{Row}
use Rattle.literals.specs.declared.row.Row.TheVariants.{Times, Plus}
use Rattle.literals.proofs.Sizes.{read, again, fits_size}
use Rattle.literals.proofs.Sevens.{within_at, listed}

-- ---- one word

module _ {row : Row} {x m : ℕ} {g : ℤ} (is : row ≡ Times x g m) where
  pub times_tame : Tame row → m ≤ most_period
  times_tame h = subst Tame is h

  pub word_times : (i : ℕ) {a w r : ℤ} → SFits w64 g → SFits w64 a → SFits w64 r
      → r ≡ cond (eqb i x) (read g) (pos m *ℤ read a) → a ≡ w → read r ≡ row_word row i w
  unfolding row_word
  word_times i {a} {w} f h k e p =
      to_z-of_z k ∙ e ∙ ap₂ (λ g a. cond (eqb i x) g (pos m *ℤ a)) (to_z-of_z f) (to_z-of_z h ∙ p)
      ∙ sym (ap (λ (row : Row). row_word row i w) is)

-- a word of u, as it is handed on
pub put_fits : (u : Sum) (i : ℕ) → T (all_within most_put u) → SFits w64 (get_or u i (pos 0))
put_fits u i t = fits_size w64 (get_or u i (pos 0)) (omega (arith, within_at most_put u i t))

pub put_small : (u : Sum) (i : ℕ) → T (all_within most_put u) → nat_abs (read (get_or u i (pos 0))) ≤ most_put
put_small u i t = again w64 (put_fits u i t) (within_at most_put u i t)

module _ {row : Row} {x : ℕ} {f : ℤ} {u : Bor (List ℤ)} (is : row ≡ Plus x f u) where
  pub plus_tame : Tame row → (nat_abs f ≤ most_word) × T (all_within most_put u.now)
  plus_tame h = subst Tame is h

  pub word_plus : (i : ℕ) {a w r : ℤ} → Tame row → SFits w64 f → SFits w64 a → SFits w64 r
      → r ≡ cond (eqb i x) (pos 0) (read a) +ℤ read f *ℤ read (get_or u.now i (pos 0)) → a ≡ w
      → read r ≡ row_word row i w
  unfolding row_word
  word_plus i {a} {w} tame g h k e p =
      to_z-of_z k ∙ e
      ∙ ap (λ (a : ℤ). cond (eqb i x) (pos 0) a +ℤ read f *ℤ read (get_or u.now i (pos 0))) (to_z-of_z h ∙ p)
      ∙ ap₂ (λ f b. cond (eqb i x) (pos 0) w +ℤ f *ℤ b) (to_z-of_z g)
      (to_z-of_z (put_fits u.now i (plus_tame tame).1))
      ∙ sym (ap (λ (row : Row). row_word row i w) is)

-- ---- all seven

opened : (n : ℕ) (z : List ℤ) (i : ℕ) → i < length z
    → all_within n (drop i z) ≡ (within n (get_or z i (pos 0)) && all_within n (drop (i + 1) z))
unfolding all_within
opened n z i h = rw (add-one i) (ap (all_within n) (drop-cons z i (pos 0) h))

module _ {row : Row} {ws : List ℤ} {at : ℕ} {z : Sum} (made : Makes row ws at z) where
  module _ {i : ℕ} (less : i < 7) where
    pub made_word : {w : ℤ} → w ≡ row_word row i (get_or ws (at + i) (pos 0)) → w ≡ get_or z i (pos 0)
    made_word e = e ∙ sym (made.each i less)

    judged : {w : ℤ} {b : Bool} → SFits w64 w → w ≡ row_word row i (get_or ws (at + i) (pos 0))
        → b ≡ within limit (read w) → all_within limit (drop i z) ≡ (b && all_within limit (drop (i + 1) z))
    judged f e q =
        opened limit z i (subst (λ (n : ℕ). i < n) (sym made.seven) less)
        ∙ ap (λ (b : Bool). b && all_within limit (drop (i + 1) z))
        (sym (q ∙ ap (within limit) (to_z-of_z f ∙ made_word e)))

    module _ {w : ℤ} {b : Bool} (f : SFits w64 w) (e : w ≡ row_word row i (get_or ws (at + i) (pos 0)))
        (q : b ≡ within limit (read w)) (so_far : all_within limit z ≡ all_within limit (drop i z)) where
      pub one_over : not b ≡ true → false ≡ all_within limit z
      one_over n = sym (so_far ∙ judged f e q ∙ failed b n)
        where
          failed : (b : Bool) → not b ≡ true → (b && all_within limit (drop (i + 1) z)) ≡ false
          failed true n = never n
          failed false n = refl

      pub one_within : not b ≡ false → all_within limit z ≡ all_within limit (drop (i + 1) z)
      one_within n = so_far ∙ judged f e q ∙ passed b n
        where
          passed : (b : Bool) → not b ≡ false
              → (b && all_within limit (drop (i + 1) z)) ≡ all_within limit (drop (i + 1) z)
          passed true n = refl
          passed false n = absurd (subst T n tt)

  pub all_seen : {i : ℕ} → 7 ≤ i → i ≤ 7 → all_within limit z ≡ all_within limit (drop i z) → true ≡ all_within limit z
  all_seen {i} n h e =
      let last : i ≡ 7 = omega arith in
      sym (e ∙ ap (λ (k : ℕ). all_within limit (drop k z)) last ∙ nothing z made.seven)
    where
      nothing : (z : List ℤ) → length z ≡ 7 → all_within limit (drop 7 z) ≡ true
      nothing z s = unfold all_within in ap (λ (l : List ℤ). all_within limit (drop 7 l)) (listed z s)

-- ---- at 32 bits

module _ {row : Row} {ws : List ℤ} {at : ℕ} (h : SomeWithin row ws at) {i : ℕ} (less : i < 7) {w : ℤ}
    (f : SFits w64 w) (e : w ≡ row_word row i (get_or ws (at + i) (pos 0))) where
  narrow_fits : SFits w32 w
  narrow_fits = fits_size w32 w (omega (
    arith,
    subst (λ (z : ℤ). nat_abs z ≤ limit)
        (sym (made_word h.makes less e)) (within_at limit h.made i h.within),
  ))

  pub narrow_asks : SFits w32 (read w)
  narrow_asks = subst (SFits w32) (sym (to_z-of_z f)) narrow_fits

  pub narrow_is : to_z w32 (of_z w32 (read w)) ≡ row_word row i (get_or ws (at + i) (pos 0))
  narrow_is = ap (λ (z : ℤ). to_z w32 (of_z w32 z)) (to_z-of_z f) ∙ to_z-of_z narrow_fits ∙ e
