-- T at x = w + k, word by word, from w − x.
-- Assumes nothing.
use mathlib.Core.Path.{◌≡◌, refl, sym, ap, ap₂, ◌∙◌, subst}
use mathlib.Core.Bool.{Bool, true, false, cond}
use mathlib.Core.List.{[], ◌∷◌}
use Prim.Native.Nat.{ℕ, zero, suc, ◌+◌, ◌<◌, ◌≤◌}
use native.Mathlib.Omega.{arith}
use borrow.Author.Tests.{eq-eqb, ne_eqb, eqb-true, eqb-false}
use lib.Dec.{T, lit<, eqb, eqb→eq, le→leb}
use lib.IntN.{ℤ, pos, negsuc, nat_abs, ◌+ℤ◌, ◌-ℤ◌, ◌*ℤ◌, +ℤ_idr, +ℤ_assoc}
use Rattle.std.proofs.Common.{◌≢◌, length-set}
use lib.ListN.{length, get_or, set}
use lib.Seq.{ext_get_or, get_or-set_same, get_or-set_other}
use mir.Syntax.{w64}
use mir.Val.{SFits, to_z}
use mir.Facts.{to_z-of_z, to_z_pos}
use Rattle.whole.specs.Integers.{within}
use Rattle.whole.proofs.Tests.{T_and}
use Rattle.whole.proofs.Ring.{rr, r2, r4, ring}
use Rattle.rules.specs.Sum.{Sum, factor, add, scale, negate, put, number, setting, limit, all_within}
use Rattle.rules.specs.Steps.{sum_at}
use Rattle.rules.specs.Eliminate.{most_period}
use Rattle.rules.proofs.Sums.{factor_scale, factor_add, number_factor, length_scale, length_add, length_put}
use Rattle.literals.specs.Rows.{most_put}
use Rattle.literals.specs.Changes.{InRange}
use Rattle.literals.proofs.ChangeLaws.{put_word, put_in_word, sum_at_seven}
use Rattle.literals.proofs.Sizes.{read, size_add, size_less, fits_size}
use Rattle.literals.proofs.Sevens.{within_at}
use Rattle.judging.specs.Judging.{Sized}
use Rattle.judging.specs.Shifts.{less}

-- ---- the words of w − x

-- what is taken away at word i
abbrev one_at : ℕ → ℕ → ℤ
one_at x i = cond (eqb i x) (negsuc 0) (pos 0)

pub zero_number : (i : ℕ) → factor i (number (pos 0)) ≡ pos 0
zero_number zero = refl
zero_number (suc i) = number_factor (suc i) (pos 0) (omega arith)

less_word : (x i : ℕ) (w : Sum) → factor i (less x w) ≡ factor i w +ℤ one_at x i
unfolding less negate setting
less_word x i w =
    let one = put x (pos 1) (number (pos 0)) in
    let word_of_x = put_word i x (pos 1) (number (pos 0)) ∙ ap (cond (eqb i x) (pos 1)) (zero_number i) in
    factor_add i w (scale (negsuc 0) one)
    ∙ ap (λ (z : ℤ). factor i w +ℤ z)
    (factor_scale i (negsuc 0) one ∙ ap (λ (z : ℤ). negsuc 0 *ℤ z) word_of_x ∙ by (eqb i x))
  where
    by : (b : Bool) → negsuc 0 *ℤ cond b (pos 1) (pos 0) ≡ cond b (negsuc 0) (pos 0)
    by true = refl
    by false = refl

module _ (x : ℕ) (w : Sum) (seven : length w ≡ 7) (low : x ≤ 6) where
  pub less_seven : length (less x w) ≡ 7
  unfolding less negate setting
  less_seven =
      let one = length_put x (pos 1) (number (pos 0)) (omega arith) in
      let turned = length_scale (negsuc 0) (put x (pos 1) (number (pos 0))) ∙ one in
      length_add w (scale (negsuc 0) (put x (pos 1) (number (pos 0)))) (seven ∙ sym turned) ∙ turned

-- ---- T + f·(w − x)

module _ (x k : ℕ) (w s : Sum) where
  -- word i of w + k
  further : (i : ℕ) → 1 ≤ i → factor i (add w (number (pos k))) ≡ factor i w
  further i h =
      factor_add i w (number (pos k)) ∙ ap (λ (z : ℤ). factor i w +ℤ z) (number_factor i (pos k) h)
      ∙ +ℤ_idr (factor i w)

  at_word : (i : ℕ) → factor i (sum_at x (add w (number (pos k))) s)
      ≡ cond (eqb i x) (pos 0) (factor i s) +ℤ factor x s *ℤ factor i (add w (number (pos k)))
  at_word i = put_in_word s i x (add w (number (pos k)))

  pub factor_moved : (i : ℕ) → 1 ≤ i → factor i (sum_at x (add w (number (pos k))) s)
      ≡ factor i s +ℤ factor x s *ℤ factor i (less x w)
  factor_moved i h =
      at_word i ∙ ap (λ (z : ℤ). cond (eqb i x) (pos 0) (factor i s) +ℤ factor x s *ℤ z) (further i h)
      ∙ by (eqb i x) refl ∙ ap (λ (z : ℤ). factor i s +ℤ factor x s *ℤ z) (sym (less_word x i w))
    where
      taken : (f a : ℤ) → pos 0 +ℤ f *ℤ a ≡ f +ℤ f *ℤ (a +ℤ negsuc 0)
      taken = r2 _ (simp rr (ring refl))

      by : (b : Bool) → eqb i x ≡ b → cond b (pos 0) (factor i s) +ℤ factor x s *ℤ factor i w
          ≡ factor i s +ℤ factor x s *ℤ (factor i w +ℤ cond b (negsuc 0) (pos 0))
      by true e =
          let same = eqb→eq i x (subst T (sym e) tt) in
          taken (factor x s) (factor i w)
          ∙ ap (λ (v : ℕ). factor v s +ℤ factor x s *ℤ (factor i w +ℤ negsuc 0)) (sym same)
      by false e = ap (λ (z : ℤ). factor i s +ℤ factor x s *ℤ z) (sym (+ℤ_idr (factor i w)))

  -- c, which moves with k
  pub number_moved : 1 ≤ x → factor 0 (sum_at x (add w (number (pos k))) s)
      ≡ factor 0 s +ℤ factor x s *ℤ factor 0 (less x w) +ℤ factor x s *ℤ pos k
  number_moved h =
      at_word 0
      ∙ ap (λ (b : Bool). cond b (pos 0) (factor 0 s) +ℤ factor x s *ℤ factor 0 (add w (number (pos k)))) apart
      ∙ ap (λ (z : ℤ). factor 0 s +ℤ factor x s *ℤ z) (factor_add 0 w (number (pos k)))
      ∙ law (factor 0 s) (factor x s) (factor 0 w) (pos k)
      ∙ ap (λ (z : ℤ). factor 0 s +ℤ factor x s *ℤ z +ℤ factor x s *ℤ pos k) (sym zeroth)
    where
      apart : eqb 0 x ≡ false
      apart = ne_eqb 0 x (λ e. omega arith)

      zeroth : factor 0 (less x w) ≡ factor 0 w
      zeroth =
          less_word x 0 w ∙ ap (λ (b : Bool). factor 0 w +ℤ cond b (negsuc 0) (pos 0)) apart ∙ +ℤ_idr (factor 0 w)

      law : (a f w k : ℤ) → a +ℤ f *ℤ (w +ℤ k) ≡ a +ℤ f *ℤ w +ℤ f *ℤ k
      law = r4 _ (simp rr (ring refl))

  pub moved_seven : length w ≡ 7 → length s ≡ 7 → x ≤ 6 → length (sum_at x (add w (number (pos k))) s) ≡ 7
  moved_seven seven long low =
      sum_at_seven (add w (number (pos k))) s (length_add w (number (pos k)) seven) long x low

-- ---- u + j, and k more

module _ (u : Sum) (j k : ℕ) where
  numbers_add : (i : ℕ) → factor i (number (pos j)) +ℤ factor i (number (pos k)) ≡ factor i (number (pos (j + k)))
  numbers_add zero = refl
  numbers_add (suc i) =
      ap₂ ◌+ℤ◌ (number_factor (suc i) (pos j) (omega arith)) (number_factor (suc i) (pos k) (omega arith))
      ∙ sym (number_factor (suc i) (pos (j + k)) (omega arith))

  words_add : (i : ℕ) → factor i (add (add u (number (pos j))) (number (pos k)))
      ≡ factor i (add u (number (pos (j + k))))
  words_add i =
      factor_add i (add u (number (pos j))) (number (pos k))
      ∙ ap (λ (z : ℤ). z +ℤ factor i (number (pos k))) (factor_add i u (number (pos j)))
      ∙ +ℤ_assoc (factor i u) (factor i (number (pos j))) (factor i (number (pos k)))
      ∙ ap (λ (z : ℤ). factor i u +ℤ z) (numbers_add i) ∙ sym (factor_add i u (number (pos (j + k))))

  pub add_twice : length u ≡ 7 → add (add u (number (pos j))) (number (pos k)) ≡ add u (number (pos (j + k)))
  add_twice e =
      let once = length_add u (number (pos j)) e in
      let twice = length_add (add u (number (pos j))) (number (pos k)) once in
      ext_get_or (pos 0) (add (add u (number (pos j))) (number (pos k))) (add u (number (pos (j + k))))
      (twice ∙ sym (length_add u (number (pos (j + k))) e)) (λ i h. words_add i)

-- ---- the words of u + j − x, as they are computed

module _ {u : Sum} {j x i : ℕ} (pre : Sized limit u × (j ≤ most_period) × InRange x × (i < 7)) {a : ℤ}
    (fa : SFits w64 a) (e : a ≡ get_or u i (pos 0)) where
  size : nat_abs a ≤ limit
  size = rw e (within_at limit u i pre.0.within)

  word_is : factor i (less x (add u (number (pos j)))) ≡ a +ℤ factor i (number (pos j)) +ℤ one_at x i
  word_is =
      less_word x i (add u (number (pos j)))
      ∙ ap (λ (z : ℤ). z +ℤ one_at x i)
      (factor_add i u (number (pos j)) ∙ ap (λ (z : ℤ). z +ℤ factor i (number (pos j))) (sym e))

  first_fits : SFits w64 (a +ℤ pos j)
  first_fits = fits_size w64 (a +ℤ pos j) (omega (arith, size, size_add a (pos j)))

  first_read : read a +ℤ to_z w64 j ≡ a +ℤ pos j
  first_read = ap₂ ◌+ℤ◌ (to_z-of_z fa) (to_z_pos w64 (omega arith))

  pub first_asks : SFits w64 (read a +ℤ to_z w64 j)
  first_asks = subst (SFits w64) (sym first_read) first_fits

  pub first_is : i ≡ 0 → (read (read a +ℤ to_z w64 j) ≡ get_or (less x (add u (number (pos j)))) i (pos 0))
      × (nat_abs (read (read a +ℤ to_z w64 j)) ≤ most_put)
  first_is z =
      let is = ap read first_read ∙ to_z-of_z first_fits in (
        is ∙ sym (word_is ∙ law z),
        omega (arith, ap nat_abs is, size, size_add a (pos j)),
      )
    where
      law : i ≡ 0 → a +ℤ factor i (number (pos j)) +ℤ one_at x i ≡ a +ℤ pos j
      law z =
          ap₂ (λ (n : ℕ) (b : Bool). a +ℤ factor n (number (pos j)) +ℤ cond b (negsuc 0) (pos 0)) z
          (ne_eqb i x (λ p. omega arith))
          ∙ +ℤ_idr (a +ℤ pos j)

  minus_fits : SFits w64 (a -ℤ pos 1)
  minus_fits = fits_size w64 (a -ℤ pos 1) (omega (arith, size, size_less a (pos 1)))

  minus_read : read a -ℤ pos 1 ≡ a -ℤ pos 1
  minus_read = ap (λ (z : ℤ). z -ℤ pos 1) (to_z-of_z fa)

  pub minus_asks : SFits w64 (read a -ℤ pos 1)
  minus_asks = subst (SFits w64) (sym minus_read) minus_fits

  none_of_number : ¬ (i ≡ 0) → factor i (number (pos j)) ≡ pos 0
  none_of_number n = number_factor i (pos j) (some i n)
    where
      some : (i : ℕ) → ¬ (i ≡ 0) → 1 ≤ i
      some i n = omega arith

  pub setting_is : ¬ (i ≡ 0) → i ≡ x → (read (read a -ℤ pos 1) ≡ get_or (less x (add u (number (pos j)))) i (pos 0))
      × (nat_abs (read (read a -ℤ pos 1)) ≤ most_put)
  setting_is n p =
      let is = ap read minus_read ∙ to_z-of_z minus_fits in (
        is ∙ sym (word_is
            ∙ ap₂ (λ (z : ℤ) (b : Bool). a +ℤ z +ℤ cond b (negsuc 0) (pos 0)) (none_of_number n) (eq-eqb i x p)
            ∙ ap (λ (z : ℤ). z +ℤ negsuc 0) (+ℤ_idr a)),
        omega (arith, ap nat_abs is, size, size_less a (pos 1)),
      )

  pub other_is : ¬ (i ≡ 0) → ¬ (i ≡ x) → (read a ≡ get_or (less x (add u (number (pos j)))) i (pos 0))
      × (nat_abs (read a) ≤ most_put)
  other_is n p = (
    to_z-of_z fa ∙ sym (word_is ∙ ap₂ (λ (z : ℤ) (b : Bool). a +ℤ z +ℤ cond b (negsuc 0) (pos 0)) (none_of_number n)
        (ne_eqb i x p) ∙ +ℤ_idr (a +ℤ pos 0) ∙ +ℤ_idr a),
    omega (arith, ap nat_abs (to_z-of_z fa), size),
  )

-- ---- the seven, as they are written

within_each : (n : ℕ) (zs : Sum) → ((i : ℕ) → i < length zs → nat_abs (get_or zs i (pos 0)) ≤ n) → T (all_within n zs)
unfolding all_within
within_each n [] h = tt
within_each n (z ∷ zs) h =
    (T_and (within n z) (all_within n zs)).1
    (le→leb (nat_abs z) n (h 0 (omega arith)), within_each n zs (λ i k. h (suc i) (omega arith)))

module _ {u : Sum} {j x : ℕ} (pre : Sized limit u × (j ≤ most_period) × InRange x) where
  word_fits : (i : ℕ) → SFits w64 (get_or u i (pos 0))
  word_fits i = fits_size w64 (get_or u i (pos 0)) (omega (arith, within_at limit u i pre.0.within))

  abbrev first : Sum
  first = set u 0 (read (read (get_or u 0 (pos 0)) +ℤ to_z w64 j))

  same_there : get_or first x (pos 0) ≡ get_or u x (pos 0)
  same_there = let ne : x ≢ 0 = omega (arith, pre.2.0) in rw get_or-set_other refl

  there_fits : SFits w64 (get_or first x (pos 0))
  there_fits = subst (SFits w64) (sym same_there) (word_fits x)

  pub add_asks : SFits w64 (read (get_or u 0 (pos 0)) +ℤ to_z w64 j)
  add_asks = first_asks (pre.0, pre.1, pre.2, lit< tt) (word_fits 0) refl

  pub sub_asks : SFits w64 (read (get_or first x (pos 0)) -ℤ pos 1)
  sub_asks = minus_asks (pre.0, pre.1, pre.2, omega (arith, pre.2.1)) there_fits same_there

  abbrev written : Sum
  written = set first x (read (read (get_or first x (pos 0)) -ℤ pos 1))

  written_seven : length written ≡ 7
  written_seven = rw (length-set, length-set) pre.0.seven

  abbrev Word : ℕ → Type 0
  Word i = (get_or written i (pos 0) ≡ get_or (less x (add u (number (pos j)))) i (pos 0))
      × (nat_abs (get_or written i (pos 0)) ≤ most_put)

  word_of : (i : ℕ) {z : ℤ} → get_or written i (pos 0) ≡ z
      → (z ≡ get_or (less x (add u (number (pos j)))) i (pos 0)) × (nat_abs z ≤ most_put) → Word i
  word_of i e is = rw e is

  at_setting : Word x
  at_setting =
      let lt : x < length first = omega (arith, pre.2.1, pre.0.seven, length-set {A = ℤ}) in
      word_of x (get_or-set_same first x _ (pos 0) lt)
      (setting_is (pre.0, pre.1, pre.2, omega (arith, pre.2.1)) there_fits same_there (λ e. omega (arith, pre.2.0)) refl)

  at_first : Word 0
  at_first =
      let ne : 0 ≢ x = omega (arith, pre.2.0) in
      let lt : 0 < length u = omega (arith, pre.0.seven) in
      word_of 0 (get_or-set_other first x 0 _ (pos 0) ne ∙ get_or-set_same u 0 _ (pos 0) lt)
      (first_is (pre.0, pre.1, pre.2, lit< tt) (word_fits 0) refl refl)

  elsewhere : (i : ℕ) → i < 7 → ¬ (i ≡ x) → ¬ (i ≡ 0) → Word i
  elsewhere i h n m =
      word_of i
      (get_or-set_other first x i _ (pos 0) n ∙ get_or-set_other u 0 i _ (pos 0) m ∙ sym (to_z-of_z (word_fits i)))
      (other_is (pre.0, pre.1, pre.2, h) (word_fits i) refl m n)

  word_at : (i : ℕ) → i < 7 → Word i
  word_at i h = by (eqb i x) (eqb i 0) refl refl
    where
      by : (a b : Bool) → eqb i x ≡ a → eqb i 0 ≡ b → Word i
      by true b p q = subst Word (sym (eqb-true i x p)) at_setting
      by false true p q = subst Word (sym (eqb-true i 0 q)) at_first
      by false false p q = elsewhere i h (eqb-false i x p) (eqb-false i 0 q)

  pub written_is : (written ≡ less x (add u (number (pos j)))) × Sized most_put written
  written_is = (
    ext_get_or (pos 0) written (less x (add u (number (pos j))))
        (written_seven ∙ sym (less_seven x _ (length_add u (number (pos j)) pre.0.seven) pre.2.1))
        (λ i h. (word_at i (omega (arith, written_seven))).0),
    record {
      seven = written_seven;
      within = within_each most_put written (λ i h. (word_at i (omega (arith, written_seven))).1);
    },
  )
