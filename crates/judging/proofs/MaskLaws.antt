-- Tests of integers, and the masks of 0 < c + k and of 0 < c − k.
-- Assumes nothing.
use mathlib.Core.Path.{◌≡◌, refl, sym, ap, ◌∙◌, subst}
use mathlib.Core.Bool.{Bool, true, false, not}
use Prim.Native.Nat.{ℕ, ◌+◌, ◌-◌, ◌<◌, ◌≤◌}
use native.Mathlib.Omega.{arith}
use borrow.Author.Tests.{ltb-true, ltb-false}
use lib.Dec.{T, ltb}
use lib.IntN.{ℤ, pos, nat_abs, ◌+ℤ◌, ◌-ℤ◌}
use lib.Signed.{◌<ℤ◌, ◌≤ℤ◌, lt_z, lt_z_yes, lt_z_no, clash_ℤ, non_neg, yes_non_neg, pos-nat_abs}
use mir.Syntax.{w64}
use mir.Val.{SFits, Fits}
use mir.Facts.{to_z-of_z}
use Rattle.whole.proofs.Tests.{is_true}
use Rattle.whole.proofs.Linear.{zarith, sum, dif}
use Rattle.literals.proofs.Sizes.{read, size_less, fits_size}
use Rattle.judging.specs.Judging.{bit, flag}
use Rattle.judging.specs.Masks.{Mask, Placed}
use Rattle.judging.specs.Shifts.{most_moved}
use Rattle.judging.proofs.BitLaws.{bit_all, opposite_is}

-- ---- tests

pub is_yes : {b : Bool} → b ≡ true → T b
is_yes e = subst T (sym e) tt

pub is_no : {b : Bool} → b ≡ false → T (not b)
is_no e = subst (λ (b : Bool). T (not b)) (sym e) tt

less_is : (a b : ℤ) → a <ℤ b → lt_z a b ≡ true
less_is a b h = is_true (lt_z a b) h.lt

more_is : (a b : ℤ) → b ≤ℤ a → lt_z a b ≡ false
more_is a b h = by (lt_z a b) refl
  where
    by : (t : Bool) → lt_z a b ≡ t → t ≡ false
    by true e = clash_ℤ (lt_z_yes {a = a} {b = b} (is_yes e)) h
    by false e = refl

-- ---- 0 < c + k

pub rising_all : (c : ℤ) → lt_z (pos 0) c ≡ true → Mask 18446744073709551615 (λ k. lt_z (pos 0) (c +ℤ pos k))
rising_all c e k h =
    let low : pos 0 <ℤ c = lt_z_yes (is_yes e) in
    bit_all k h ∙ sym (ap flag (less_is (pos 0) (c +ℤ pos k) (omega (zarith, sum c (pos k)))))

module _ (c : ℤ) (small : nat_abs c ≤ most_moved + 1) where
  pub whole_fits : SFits w64 c
  whole_fits = fits_size w64 c (omega arith)

  -- 1 − c
  pub less_asks : SFits w64 (pos 1 -ℤ read c)
  less_asks = rw (to_z-of_z whole_fits) (fits_size w64 (pos 1 -ℤ c) (omega (arith, size_less (pos 1) c)))

  less_read : read (pos 1 -ℤ read c) ≡ pos 1 -ℤ c
  less_read = to_z-of_z less_asks ∙ ap (λ (z : ℤ). pos 1 -ℤ z) (to_z-of_z whole_fits)

  pub less_size : nat_abs (read (pos 1 -ℤ read c)) ≤ nat_abs c + 1
  less_size = omega (arith, ap nat_abs less_read, size_less (pos 1) c)

  module _ (e : lt_z (pos 0) (read c) ≡ false) where
    at_most : c ≤ℤ pos 0
    at_most = lt_z_no {a = pos 0} {b = c} (is_no (ap (lt_z (pos 0)) (sym (to_z-of_z whole_fits)) ∙ e))

    above : T (non_neg (read (pos 1 -ℤ read c)))
    above =
        let h = at_most in
        yes_non_neg {z = read (pos 1 -ℤ read c)}
        (subst (λ (z : ℤ). pos 0 ≤ℤ z) (sym less_read) (omega (zarith, dif (pos 1) c)))

    pub less_casts : T (non_neg (read (pos 1 -ℤ read c))) × Fits w64 (nat_abs (read (pos 1 -ℤ read c)))
    less_casts = (above, record { fits = omega (arith, less_size) })

    -- the ones start where c + k passes 0
    pub rising_some : (r : ℕ) → Placed 18446744073709551615 (nat_abs (read (pos 1 -ℤ read c))) r
        → Mask r (λ k. lt_z (pos 0) (c +ℤ pos k))
    rising_some r placed =
        from (nat_abs (read (pos 1 -ℤ read c))) (pos-nat_abs (read (pos 1 -ℤ read c)) above ∙ less_read) placed
      where
        from : (q : ℕ) → pos q ≡ pos 1 -ℤ c → Placed 18446744073709551615 q r
            → Mask r (λ k. lt_z (pos 0) (c +ℤ pos k))
        from q start placed k h = by (ltb k q) refl
          where
            by : (t : Bool) → ltb k q ≡ t → bit r k ≡ flag (lt_z (pos 0) (c +ℤ pos k))
            by true e =
                let l = ltb-true k q e in
                (placed k h).0 l
                ∙ sym (ap flag (more_is (pos 0) (c +ℤ pos k) (omega (zarith, start, sum c (pos k), dif (pos 1) c))))
            by false e =
                let l = ltb-false k q e in
                (placed k h).1 l ∙ bit_all (k - q) (omega arith)
                ∙ sym (ap flag (less_is (pos 0) (c +ℤ pos k) (omega (zarith, start, sum c (pos k), dif (pos 1) c))))

-- ---- 0 < c − k: "Not of 0 < T becomes 0 < 1−T"

not_positive : (c : ℤ) (k : ℕ) → not (lt_z (pos 0) (pos 1 -ℤ c +ℤ pos k)) ≡ lt_z (pos 0) (c -ℤ pos k)
not_positive c k = by (lt_z (pos 0) (c -ℤ pos k)) refl
  where
    by : (t : Bool) → lt_z (pos 0) (c -ℤ pos k) ≡ t → not (lt_z (pos 0) (pos 1 -ℤ c +ℤ pos k)) ≡ t
    by true e =
        let h : pos 0 <ℤ (c -ℤ pos k) = lt_z_yes (is_yes e) in
        ap not (more_is (pos 0) (pos 1 -ℤ c +ℤ pos k)
        (omega (zarith, sum (pos 1 -ℤ c) (pos k), dif (pos 1) c, dif c (pos k))))
    by false e =
        let h : (c -ℤ pos k) ≤ℤ pos 0 = lt_z_no (is_no e) in
        ap not (less_is (pos 0) (pos 1 -ℤ c +ℤ pos k)
        (omega (zarith, sum (pos 1 -ℤ c) (pos k), dif (pos 1) c, dif c (pos k))))

pub falling_is : (c : ℤ) (small : nat_abs c ≤ most_moved + 1) (r o : ℕ)
    → Mask r (λ k. lt_z (pos 0) (read (pos 1 -ℤ read c) +ℤ pos k))
    → ((k : ℕ) → k < 64 → bit o k ≡ 1 - bit r k) → Mask o (λ k. lt_z (pos 0) (c -ℤ pos k))
falling_is c small r o mask opposite k h =
    opposite_is r o (λ k. lt_z (pos 0) (read (pos 1 -ℤ read c) +ℤ pos k)) mask opposite k h
    ∙ ap (λ (z : ℤ). flag (not (lt_z (pos 0) (z +ℤ pos k)))) (less_read c small)
    ∙ ap flag (not_positive c k)
