-- A literal as a step changes it: its words, its divisor, and the truth values of the far-left body.
-- Assumes nothing.
use mathlib.Core.Path.{◌≡◌, refl, sym, ap, ap₂, ◌∙◌, subst}
use mathlib.Core.Bool.{Bool, true, false, not, cond, ◌||◌, or-true, or-false}
use mathlib.Core.List.{List}
use Rattle.std.specs.Prelude.{Option, Some, None, is_some}
use Prim.Native.Nat.{ℕ, ◌+◌, ◌*◌, ◌/◌, ◌<◌, ◌≤◌}
use native.Mathlib.Nat.{mul-le-mul}
use native.Mathlib.Omega.{arith}
use borrow.Author.Tests.{eq-eqb, ne_eqb, lt-ltb, le-ltb}
use lib.Dec.{T, eqb, eqb→eq, ltb, nltb→le}
use lib.IntN.{ℤ, pos, negsuc, nat_abs, ◌+ℤ◌, ◌*ℤ◌}
use lib.ListN.{length, get_or}
use Rattle.std.specs.Borrow.{Bor}
use Rattle.std.specs.Int.{int_signum}
use lib.Signed.{mag, nat_abs-le}
use mir.Syntax.{w64}
use mir.Val.{SFits, Fits}
use mir.Facts.{to_z-of_z}
use Rattle.whole.specs.Integers.{eq_ℤ}
use Rattle.whole.proofs.Tests.{not_or, not_not, eq_ℤ→eq}
use Rattle.whole.proofs.Difference.{zz, z1}
use Rattle.rules.specs.Sum.{Sum, factor, scale, put, limit, all_within}
use Rattle.rules.specs.Rule.{Test, positive, divisible, is_zero, Rule, Literal, True, False}
use Rattle.rules.specs.Literals.{some_literal, map_literals}
use Rattle.rules.specs.Steps.{multiplier, times, sign, scale_literal, far_literal, sum_at, body_at}
use Rattle.rules.specs.Eliminate.{most_period, divisor_over, over_limit}
use Rattle.rules.specs.Calls.{signed}
use Rattle.rules.proofs.Sums.{factor_put, factor_put_other, factor_scale, factor_add}
use Rattle.rules.proofs.Sums.{length_scale, length_add, length_put}
use Rattle.tables.proofs.Inversion.{test_kind}
use Rattle.tables.proofs.WordLaws.{number_of}
use Rattle.literals.specs.Literal.{start_of, LiteralAt}
use Rattle.literals.specs.Rows.{row_word, most_word, most_put, Tame, Makes, SomeWithin}
use Rattle.literals.specs.Changes.{Change, Same, Scaled, Far, Full, change_of, put_of, becomes, InRange, Fair, Usable, changed_sum, changed_test, divisor_or_none}
use Rattle.literals.specs.Changes.{Settles, row_of, SomeChanged}
use Rattle.literals.specs.declared.change.Change.{Change as Put}
use Rattle.literals.specs.declared.change.Change.TheVariants.{Same as PutSame, Scaled as PutScaled, Far as PutFar, Full as PutFull}
use Rattle.literals.specs.declared.row.Row.{Row}
use Rattle.literals.specs.declared.row.Row.TheVariants.{Times, Plus}
use Rattle.literals.proofs.RowLaws.{sign_read}
use Rattle.literals.proofs.Sizes.{read, again}
use Rattle.literals.proofs.Tests.{positive_test}
use Rattle.literals.proofs.Literals.{literal_divisor, literal_word}

-- ---- the setting of a change lies in a sum, its common factor is not refused

pub scaled_fair : {c : Put} {D x : ℕ} → c ≡ PutScaled D x → Fair (change_of c) → (x ≤ 6) × (D ≤ most_period)
unfolding Fair
scaled_fair e f = let (in_range, low, high) = subst (λ (c : Put). Fair (change_of c)) e f in (in_range.1, high)

module _ {c : Put} {x : ℕ} {u : Bor (List ℤ)} where
  pub far_fair : c ≡ PutFar x u → Fair (change_of c) → InRange x
  unfolding Fair
  far_fair e f = subst (λ (c : Put). Fair (change_of c)) e f

  pub full_fair : c ≡ PutFull x u → Fair (change_of c) → InRange x
  unfolding Fair
  full_fair e f = subst (λ (c : Put). Fair (change_of c)) e f

  -- the sum that is put in is small
  pub far_small : c ≡ PutFar x u → Usable (change_of c) (put_of c) → T (all_within most_put u.now)
  far_small e h = (subst (λ (c : Put). Usable (change_of c) (put_of c)) e h).small

  pub full_small : c ≡ PutFull x u → Usable (change_of c) (put_of c) → T (all_within most_put u.now)
  full_small e h = (subst (λ (c : Put). Usable (change_of c) (put_of c)) e h).small

-- ---- the factor of x

pub factor_is : {ws : List ℤ} {n at : ℕ} {t : Test} {s : Sum} {x : ℕ} {r : ℤ} → LiteralAt ws n t s → at ≡ start_of t
    → x ≤ 6 → SFits w64 r → r ≡ get_or ws (at + x) (pos 0) → read r ≡ factor x s
factor_is {ws} {n} {at} {t} {s} {x} l a h f e =
    to_z-of_z f ∙ e ∙ ap (λ (m : ℕ). get_or ws (m + x) (pos 0)) a ∙ literal_word t x l (omega arith)

pub factor_small : {r : ℤ} → SFits w64 r → mag r < 2147483648 → nat_abs (read r) ≤ most_word
factor_small {r} f h = again w64 f (nat_abs-le r h)

-- ---- the row

pub row_same : {c : Put} → c ≡ PutSame → ((s : Sum) → Times 7 (pos 0) 1 ≡ row_of c s) × Tame (Times 7 (pos 0) 1)
unfolding row_of
row_same e = (λ s. sym (ap (λ (c : Put). row_of c s) e), omega arith)

module _ {c : Put} {D x m : ℕ} {f : ℤ} (e : c ≡ PutScaled D x) (h : SFits w64 f) where
  multiplier_of : (s : Sum) → f ≡ factor x s → m ≡ cond (not (eq_ℤ (read f) (pos 0))) (D / nat_abs (read f)) 1
      → m ≡ multiplier D x s
  unfolding multiplier
  multiplier_of s p q = q ∙ ap (λ (z : ℤ). cond (not (eq_ℤ z (pos 0))) (D / nat_abs z) 1) (to_z-of_z h ∙ p)

  pub row_scaled : {g : ℤ} → SFits w64 g → g ≡ int_signum (read f)
      → m ≡ cond (not (eq_ℤ (read f) (pos 0))) (D / nat_abs (read f)) 1
      → (s : Sum) → f ≡ factor x s → Times x (read g) m ≡ row_of c s
  unfolding row_of
  row_scaled k q r s p =
      ap₂ (Times x) (to_z-of_z k ∙ sign_read h q ∙ ap sign p) (multiplier_of s p r)
      ∙ sym (ap (λ (c : Put). row_of c s) e)

  pub divisor_scaled : (t : Test) (s : Sum) (k : ℕ) → f ≡ factor x s
      → m ≡ cond (not (eq_ℤ (read f) (pos 0))) (D / nat_abs (read f)) 1
      → k ≡ divisor_or_none t → ¬ (start_of t ≡ 1) → m * k ≡ divisor_or_none (changed_test (change_of c) s t)
  unfolding changed_test
  divisor_scaled t s k p q d n =
      ap₂ ◌*◌ (multiplier_of s p q) d ∙ of_times t n ∙ sym (ap (λ (c : Put). divisor_or_none (changed_test (change_of c) s t)) e)
    where
      of_times : (t : Test) → ¬ (start_of t ≡ 1)
          → multiplier D x s * divisor_or_none t ≡ divisor_or_none (times (multiplier D x s) t)
      of_times positive n = absurd (n refl)
      of_times (divisible b k) n = refl
      of_times is_zero n = absurd (n refl)

pub row_far : {c : Put} {x : ℕ} {u : Bor (List ℤ)} {f : ℤ} → c ≡ PutFar x u → SFits w64 f → (s : Sum) → f ≡ factor x s
    → Plus x (read f) u ≡ row_of c s
unfolding row_of
row_far {x = x} {u = u} e h s p =
    ap (λ (f : ℤ). Plus x f u) (to_z-of_z h ∙ p) ∙ sym (ap (λ (c : Put). row_of c s) e)

pub row_full : {c : Put} {x : ℕ} {u : Bor (List ℤ)} {f : ℤ} → c ≡ PutFull x u → SFits w64 f → (s : Sum) → f ≡ factor x s
    → Plus x (read f) u ≡ row_of c s
unfolding row_of
row_full {x = x} {u = u} e h s p =
    ap (λ (f : ℤ). Plus x f u) (to_z-of_z h ∙ p) ∙ sym (ap (λ (c : Put). row_of c s) e)

-- ---- what the row makes of T is the changed sum

pub put_word : (i x : ℕ) (a : ℤ) (s : Sum) → factor i (put x a s) ≡ cond (eqb i x) a (factor i s)
put_word i x a s = by (eqb i x) refl
  where
    by : (b : Bool) → eqb i x ≡ b → factor i (put x a s) ≡ cond b a (factor i s)
    by true e = ap (λ (v : ℕ). factor i (put v a s)) (sym (eqb→eq i x (subst T (sym e) tt))) ∙ factor_put i a s
    by false e = factor_put_other i x a s (λ p. absurd (subst T (sym (eq-eqb i x p) ∙ e) tt))

module _ (s : Sum) (i : ℕ) where
  pub put_in_word : (x : ℕ) (u : Sum)
      → factor i (sum_at x u s) ≡ cond (eqb i x) (pos 0) (factor i s) +ℤ factor x s *ℤ factor i u
  unfolding sum_at
  put_in_word x u =
      factor_add i (put x (pos 0) s) (scale (factor x s) u)
      ∙ ap₂ ◌+ℤ◌ (put_word i x (pos 0) s) (factor_scale i (factor x s) u)

  changed_word : (c : Put) → i < 7
      → factor i (changed_sum (change_of c) (put_of c) s) ≡ row_word (row_of c s) i (factor i s)
  unfolding changed_sum row_of row_word
  changed_word PutSame h =
      sym (one_time (factor i s))
      ∙ sym (ap (λ (b : Bool). cond b (pos 0) (pos 1 *ℤ factor i s)) (ne_eqb i 7 (λ e. omega arith)))
    where
      one_time : (z : ℤ) → pos 1 *ℤ z ≡ z
      one_time = z1 _ (simp zz (omega arith))
  changed_word (PutScaled D x) h =
      let m = pos (multiplier D x s) in
      put_word i x (sign (factor x s)) (scale m s)
      ∙ ap (λ (z : ℤ). cond (eqb i x) (sign (factor x s)) z) (factor_scale i m s)
  changed_word (PutFar x u) h = put_in_word x u.now
  changed_word (PutFull x u) h = put_in_word x u.now

put_seven : (x : ℕ) (a : ℤ) (z : Sum) → x ≤ 6 → length z ≡ 7 → length (put x a z) ≡ 7
put_seven x a z h e = length_put x a z (omega arith) ∙ e

module _ (u s : Sum) (seven_u : length u ≡ 7) (seven_s : length s ≡ 7) where
  pub sum_at_seven : (x : ℕ) → x ≤ 6 → length (sum_at x u s) ≡ 7
  unfolding sum_at
  sum_at_seven x h =
      let scaled = length_scale (factor x s) u ∙ seven_u in
      length_add (put x (pos 0) s) (scale (factor x s) u) (put_seven x (pos 0) s h seven_s ∙ sym scaled) ∙ scaled

  pub changed_seven : (c : Change) → Fair c → length (changed_sum c u s) ≡ 7
  unfolding changed_sum Fair
  changed_seven Same f = seven_s
  changed_seven (Scaled D x) f =
      let m = pos (multiplier D x s) in
      put_seven x (sign (factor x s)) (scale m s) f.0.1 (length_scale m s ∙ seven_s)
  changed_seven (Far x) f = sum_at_seven x f.1
  changed_seven (Full x) f = sum_at_seven x f.1

module _ {ws : List ℤ} (c : Put) {row : Row} {at : ℕ} where
  pub makes : {n : ℕ} {t : Test} {s : Sum} → Usable (change_of c) (put_of c) → LiteralAt ws n t s → at ≡ start_of t
      → row ≡ row_of c s → Makes row ws at (changed_sum (change_of c) (put_of c) s)
  makes {t = t} {s = s} h l a e = record {
    seven = changed_seven (put_of c) s h.seven l.long (change_of c) h.fair;
    each = λ i less.
        let here = ap (λ (m : ℕ). get_or ws (m + i) (pos 0)) a ∙ literal_word t i l less in
        changed_word s i c less ∙ ap₂ (λ (row : Row) (a : ℤ). row_word row i a) (sym e) (sym here);
  }

  pub some_within : (h : SomeChanged ws (change_of c) (put_of c)) → at ≡ start_of h.literal.test
      → row ≡ row_of c h.literal.sum → SomeWithin row ws at
  some_within h a e = record {
    made = changed_sum (change_of c) (put_of c) h.literal.sum;
    makes = makes h.usable h.literal.at a e;
    within = h.within;
  }

-- ---- the divisor

pub divisor_none : (s : Sum) (c : Change) (t : Test) → start_of t ≡ 1 → 0 ≡ divisor_or_none (changed_test c s t)
unfolding changed_test
divisor_none s Same positive e = refl
divisor_none s (Scaled D x) positive e = refl
divisor_none s (Far x) positive e = refl
divisor_none s (Full x) positive e = refl
divisor_none s c (divisible b k) e = absurd (omega arith)
divisor_none s Same is_zero e = refl
divisor_none s (Scaled D x) is_zero e = refl
divisor_none s (Far x) is_zero e = refl
divisor_none s (Full x) is_zero e = refl

pub divisor_read : {ws : List ℤ} {n k : ℕ} {s : Sum} (t : Test) → LiteralAt ws n t s → ¬ (start_of t ≡ 1)
    → get_or ws 1 (pos 0) ≡ signed k → k ≡ divisor_or_none t
divisor_read positive l n p = absurd (n refl)
divisor_read {k = k} (divisible b d) l n p = number_of k d (sym p ∙ literal_divisor b d l)
divisor_read is_zero l n p = absurd (n refl)

pub divisor_kept : (s : Sum) (c : Put) (t : Test) → ((D x : ℕ) → ¬ (c ≡ PutScaled D x))
    → changed_test (change_of c) s t ≡ t
unfolding changed_test
divisor_kept s PutSame t n = refl
divisor_kept s (PutScaled D x) t n = absurd (n D x refl)
divisor_kept s (PutFar x u) t n = refl
divisor_kept s (PutFull x u) t n = refl

pub product_fits : {m k : ℕ} → m ≤ most_period → k < 4294967296 → Fits w64 (m * k)
product_fits h less = record { fits = omega (arith, mul-le-mul h less) }

-- ---- what the far-left body has

pub stays : (c : Put) (t : Test) (s : Sum) → ((x : ℕ) (u : Bor (List ℤ)) → ¬ (c ≡ PutFar x u))
    → Settles (change_of c) t s None
unfolding Settles becomes changed_test changed_sum scale_literal
stays PutSame t s n = λ u. refl
stays (PutScaled D x) t s n = λ u. refl
stays (PutFar x u) t s n = absurd (n x u refl)
stays (PutFull x u) t s n = λ u. refl

pub far_settles : {c : Put} {x : ℕ} {u : Bor (List ℤ)} (t : Test) (s : Sum) (r : Option Bool) → c ≡ PutFar x u
    → Settles (Far x) t s r → Settles (change_of c) t s r
far_settles t s r e h = subst (λ (c : Put). Settles (change_of c) t s r) (sym e) h

pub ne_eq_ℤ : (a b : ℤ) → ¬ (a ≡ b) → eq_ℤ a b ≡ false
ne_eq_ℤ a b n = by (eq_ℤ a b) refl
  where
    by : (r : Bool) → eq_ℤ a b ≡ r → r ≡ false
    by true e = absurd (n (eq_ℤ→eq a b (subst T (sym e) tt)))
    by false e = refl

-- by the factor of x
abbrev chosen : Sum → ℤ → Rule
chosen s f = cond (eq_ℤ f (pos 1)) False (cond (eq_ℤ f (negsuc 0)) True (Literal positive s))

module _ (s : Sum) (x : ℕ) where
  pub far_other : (t : Test) → ¬ (test_kind t ≡ 5) → Settles (Far x) t s None
  unfolding Settles becomes far_literal body_at map_literals changed_test changed_sum
  far_other positive n = absurd (n refl)
  far_other (divisible b k) n = λ u. refl
  far_other is_zero n = λ u. refl

  positive_settled : (r : Option Bool) → Settles (Far x) positive s r → (t : Test) → 5 ≡ test_kind t
      → Settles (Far x) t s r
  positive_settled r h t k = subst (λ (t : Test). Settles (Far x) t s r) (positive_test t k) h

  pub far_one : (t : Test) → 5 ≡ test_kind t → factor x s ≡ pos 1 → Settles (Far x) t s (Some false)
  unfolding Settles becomes far_literal body_at map_literals
  far_one t k p = positive_settled (Some false) (λ u. ap (λ f. body_at x u (chosen s f)) p) t k

  pub far_minus_one : (t : Test) → 5 ≡ test_kind t → factor x s ≡ negsuc 0 → Settles (Far x) t s (Some true)
  unfolding Settles becomes far_literal body_at map_literals
  far_minus_one t k p = positive_settled (Some true) (λ u. ap (λ f. body_at x u (chosen s f)) p) t k

  pub far_neither : (t : Test) → 5 ≡ test_kind t → ¬ (factor x s ≡ pos 1) → ¬ (factor x s ≡ negsuc 0)
      → Settles (Far x) t s None
  unfolding Settles becomes far_literal body_at map_literals changed_test changed_sum
  far_neither t k p q = positive_settled None (λ u. ap₂
      (λ a b. body_at x u (cond a False (cond b True (Literal positive s))))
      (ne_eq_ℤ (factor x s) (pos 1) p) (ne_eq_ℤ (factor x s) (negsuc 0) q)) t k

-- ---- the limits

over_divisor : (t : Test) → divisor_over t ≡ ltb limit (divisor_or_none t)
over_divisor positive = refl
over_divisor (divisible b k) = refl
over_divisor is_zero = refl

pub is_none_of : (r : Option Bool) → is_some r ≡ false → r ≡ None
is_none_of None e = refl
is_none_of (Some v) e = absurd (cc)

pub some_of : (r : Option Bool) → is_some r ≡ true → (v : Bool) × (r ≡ Some v)
some_of None e = absurd (cc)
some_of (Some v) e = (v, refl)

module _ (c : Change) (t : Test) (s : Sum) {r : Option Bool} (h : Settles c t s r) (u : Sum) where
  pub known_within : {v : Bool} → r ≡ Some v → false ≡ some_literal over_limit (becomes c u t s)
  unfolding Settles some_literal
  known_within e = sym (ap (some_literal over_limit) (subst (Settles c t s) e h u))

  pub kept : r ≡ None → becomes c u t s ≡ Literal (changed_test c s t) (changed_sum c u s)
  unfolding Settles
  kept e = subst (Settles c t s) e h u

  module _ (e : r ≡ None) where
    limits : some_literal over_limit (becomes c u t s)
        ≡ (not (all_within limit (changed_sum c u s)) || ltb limit (divisor_or_none (changed_test c s t)))
    unfolding some_literal over_limit
    limits =
        ap (some_literal over_limit) (kept e)
        ∙ ap (λ (b : Bool). not (all_within limit (changed_sum c u s)) || b) (over_divisor (changed_test c s t))

    module _ {d : ℕ} (p : d ≡ divisor_or_none (changed_test c s t)) where
      limits_by : {b : Bool} → ltb limit d ≡ b
          → some_literal over_limit (becomes c u t s) ≡ (not (all_within limit (changed_sum c u s)) || b)
      limits_by {b} q =
          limits
          ∙ ap (λ (b : Bool). not (all_within limit (changed_sum c u s)) || b)
          (ap (λ (d : ℕ). ltb limit d) (sym p) ∙ q)

      pub divisor_passes : limit < d → true ≡ some_literal over_limit (becomes c u t s)
      divisor_passes less = sym (limits_by (lt-ltb limit d less) ∙ or-true (not (all_within limit (changed_sum c u s))))

      pub words_decide : d ≤ limit → {b : Bool} → b ≡ all_within limit (changed_sum c u s)
          → not b ≡ some_literal over_limit (becomes c u t s)
      words_decide less q =
          ap not q ∙ sym (limits_by (le-ltb limit d less) ∙ or-false (not (all_within limit (changed_sum c u s))))

    -- what the change leaves a literal has its words and its divisor within the limit
    pub kept_within : T (not (some_literal over_limit (becomes c u t s)))
        → T (all_within limit (changed_sum c u s)) × (divisor_or_none (changed_test c s t) ≤ limit)
    kept_within n =
        let within = all_within limit (changed_sum c u s) in
        let d = divisor_or_none (changed_test c s t) in
        let both = not_or (not within) (ltb limit d) (subst (λ (b : Bool). T (not b)) limits n) in
        (not_not within both.0, nltb→le limit d both.1)
