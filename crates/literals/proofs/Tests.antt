-- The tests of literals as the machine makes them, at signed numbers of 64 bits.
-- Assumes nothing.
use mathlib.Core.Path.{◌≡◌, refl, sym, ap, ◌∙◌}
use mathlib.Core.Bool.{Bool, true, false, not}
use Prim.Native.Nat.{ℕ, zero, suc, ◌%◌, ◌^◌, ◌<◌, ◌≤◌}
use native.Mathlib.Nat.{mod-le}
use native.Mathlib.Omega.{arith}
use borrow.Author.Tests.{ne_eqb}
use lib.Dec.{T, eqb, leb, leb→le}
use lib.IntN.{ℤ, pos, negsuc, neg_ℤ, nat_abs}
use lib.Signed.{lt_z, quot_z, rem_z}
use mir.Syntax.{w64}
use mir.Val.{SFits, to_z, of_z}
use mir.Facts.{to_z-of_z, to_z_pos}
use Rattle.whole.specs.Integers.{eq_ℤ}
use Rattle.whole.specs.Divides.{divides}
use Rattle.whole.proofs.Tests.{T_and}
use Rattle.rules.specs.Sum.{limit}
use Rattle.rules.specs.Rule.{Test, positive, divisible, is_zero, passes}
use Rattle.rules.specs.Table.{is_divisor}
use Rattle.tables.proofs.Inversion.{test_kind}
use Rattle.literals.specs.Literal.{start_of, Fair, Marked, SomeTest}
use Rattle.literals.proofs.Sizes.{size_quot, fits_size}

-- ---- a number is 0 exactly when its bits are

zero_bits : (z : ℤ) → SFits w64 z → eqb (of_z w64 z) 0 ≡ eq_ℤ z (pos 0)
zero_bits (pos n) f = refl
zero_bits (negsuc n) f = ne_eqb (of_z w64 (negsuc n)) 0 (λ e. omega (arith, f.sfits))

-- ---- division

rest_bits : (r : ℕ) → r < 2 ^ 63 → eqb (of_z w64 (neg_ℤ (pos r))) 0 ≡ eqb r 0
rest_bits zero h = refl
rest_bits (suc r) h = ne_eqb (of_z w64 (negsuc r)) 0 (λ e. omega arith) ∙ sym (ne_eqb (suc r) 0 (λ e. omega arith))

-- the remainder has the dividend's sign, which a test for 0 does not see
rest_zero : (k : ℕ) (z : ℤ) → nat_abs z < 2 ^ 63 → eqb (of_z w64 (rem_z z (pos k))) 0 ≡ divides k z
rest_zero k (pos a) h = refl
rest_zero k (negsuc a) h = rest_bits (suc a % k) (omega (arith, mod-le (suc a) k))

module _ {k : ℕ} {z : ℤ} (f : SFits w64 z) (low : 1 ≤ k) (high : k ≤ limit) (small : nat_abs z < 2 ^ 63) where
  divisor_is : to_z w64 k ≡ pos k
  divisor_is = to_z_pos w64 (omega arith)

  pub divides_asks : (0 < k) × SFits w64 (quot_z (to_z w64 (of_z w64 z)) (to_z w64 k))
  divides_asks = rw (to_z-of_z f, divisor_is) (low, fits_size w64 (quot_z z (pos k)) (omega (arith, size_quot z (pos k))))

  pub divides_is : eqb (of_z w64 (rem_z (to_z w64 (of_z w64 z)) (to_z w64 k))) 0 ≡ divides k z
  divides_is = rw (to_z-of_z f, divisor_is) (rest_zero k z small)

-- ---- the test that a kind is

pub positive_test : (t : Test) → 5 ≡ test_kind t → positive ≡ t
positive_test positive e = refl
positive_test (divisible true d) e = absurd (omega arith)
positive_test (divisible false d) e = absurd (omega arith)
positive_test is_zero e = absurd (omega arith)

module _ {kind k : ℕ} (z : ℤ) where
  pub positive_is : kind ≡ 5 → (t : Test) → Marked kind k t → lt_z (pos 0) z ≡ passes t z
  positive_is e t m = ap (λ (t : Test). passes t z) (positive_test t (sym e ∙ m.same_kind))

  pub divided_is : kind ≡ 6 → (t : Test) → Marked kind k t → divides k z ≡ passes t z
  divided_is e positive m = absurd (omega (arith, m.same_kind))
  divided_is e (divisible true d) m = ap (λ (n : ℕ). divides n z) m.same_divisor
  divided_is e (divisible false d) m = absurd (omega (arith, m.same_kind))
  divided_is e is_zero m = absurd (omega (arith, m.same_kind))

  pub undivided_is : kind ≡ 7 → (t : Test) → Marked kind k t → not (divides k z) ≡ passes t z
  undivided_is e positive m = absurd (omega (arith, m.same_kind))
  undivided_is e (divisible true d) m = absurd (omega (arith, m.same_kind))
  undivided_is e (divisible false d) m = ap (λ (n : ℕ). not (divides n z)) m.same_divisor
  undivided_is e is_zero m = absurd (omega (arith, m.same_kind))

module _ {kind k : ℕ} {z : ℤ} (f : SFits w64 z) where
  pub passes_positive : kind ≡ 5 → (t : Test) → Marked kind k t → lt_z (pos 0) (to_z w64 (of_z w64 z)) ≡ passes t z
  passes_positive e t m = rw (to_z-of_z f) (positive_is z e t m)

  pub passes_zero : kind ≡ 10 → (t : Test) → Marked kind k t → eqb (of_z w64 z) 0 ≡ passes t z
  passes_zero e positive m = absurd (omega (arith, m.same_kind))
  passes_zero e (divisible true d) m = absurd (omega (arith, m.same_kind))
  passes_zero e (divisible false d) m = absurd (omega (arith, m.same_kind))
  passes_zero e is_zero m = zero_bits z f

  pub passes_divided : kind ≡ 6 → {r : Bool} → r ≡ divides k (to_z w64 (of_z w64 z))
      → (t : Test) → Marked kind k t → r ≡ passes t z
  passes_divided six e t m = e ∙ ap (divides k) (to_z-of_z f) ∙ divided_is z six t m

  pub passes_undivided : ¬ (kind ≡ 5) → ¬ (kind ≡ 10) → ¬ (kind ≡ 6) → {r : Bool} → r ≡ divides k (to_z w64 (of_z w64 z))
      → (t : Test) → Marked kind k t → not r ≡ passes t z
  passes_undivided n5 n10 n6 {r} e t m = ap not (e ∙ ap (divides k) (to_z-of_z f)) ∙ by t m
    where
      by : (t : Test) → Marked kind k t → not (divides k z) ≡ passes t z
      by positive m = absurd (n5 m.same_kind)
      by (divisible true d) m = absurd (n6 m.same_kind)
      by (divisible false d) m = undivided_is z m.same_kind (divisible false d) m
      by is_zero m = absurd (n10 m.same_kind)

-- a kind that is neither has a divisor, from 1 to the limit
pub divisor_fair : {kind k : ℕ} → ¬ (kind ≡ 5) → ¬ (kind ≡ 10) → SomeTest kind k → (1 ≤ k) × (k ≤ limit)
unfolding is_divisor
divisor_fair {kind} {k} n5 n10 h = by h.test h.marked h.fair
  where
    fair : (d : ℕ) → k ≡ d → T (is_divisor (pos d)) → (1 ≤ k) × (k ≤ limit)
    fair d e g =
        let both = (T_and (leb 1 d) (leb d limit)).0 g in
        let low = leb→le 1 d both.0 in
        let high = leb→le d limit both.1 in
        (omega arith, omega arith)

    by : (t : Test) → Marked kind k t → Fair t → (1 ≤ k) × (k ≤ limit)
    by positive m g = absurd (n5 m.same_kind)
    by (divisible true d) m g = fair d m.same_divisor g
    by (divisible false d) m g = fair d m.same_divisor g
    by is_zero m g = absurd (n10 m.same_kind)

-- ---- where T starts

pub start_two : {kind : ℕ} → 6 ≤ kind → kind ≤ 7 → (t : Test) → kind ≡ test_kind t → 2 ≡ start_of t
start_two low high positive e = absurd (omega arith)
start_two low high (divisible true k) e = refl
start_two low high (divisible false k) e = refl
start_two low high is_zero e = absurd (omega arith)

pub start_one : {kind : ℕ} → ¬ (kind ≡ 6) → ¬ (kind ≡ 7) → (t : Test) → kind ≡ test_kind t → 1 ≡ start_of t
start_one n6 n7 positive e = refl
start_one n6 n7 (divisible true k) e = absurd (n6 e)
start_one n6 n7 (divisible false k) e = absurd (n7 e)
start_one n6 n7 is_zero e = refl
