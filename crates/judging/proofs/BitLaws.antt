-- The bits of a number: of and, or, a run of ones, a single one, an opposite, and a number moved up.
-- Assumes nothing.
use mathlib.Core.Path.{◌≡◌, refl, sym, ap, ◌∙◌}
use mathlib.Core.Bool.{Bool, true, false, not}
use Prim.Native.Nat.{ℕ, zero, suc, ◌+◌, ◌-◌, ◌*◌, ◌/◌, ◌%◌, ◌^◌, ◌<◌, ◌≤◌, max, min}
use native.Mathlib.Nat.{mod-lt, one-mul, mul-one, mod-eq_of_lt, pow-succ', div-one, div-div-eq-div-mul}
use native.Mathlib.Omega.{arith}
use lib.Dec.{eqb, ltb, leb-suc-suc, eqb-suc-suc, eqb-zero-suc, eqb-suc-zero}
use lib.Bits.{bit_and, bit_or, or_shr, and_shr, and_step, shifted_half, shifted_even}
use lib.Pow.{pow-lt, pow_pos, field, mod-mod-pow}
use borrow.Author.Tests.{lt-ltb, le-ltb}
use Rattle.tables.proofs.SettingLaws.{low_or}
use Rattle.judging.specs.Judging.{bit, flag}
use Rattle.judging.specs.Masks.{Mask, Placed}

pub bit_first : (m : ℕ) → bit m 0 ≡ m % 2
bit_first m = ap (λ (x : ℕ). x % 2) (div-one m)

pub bit_next : (m k : ℕ) → bit m (suc k) ≡ bit (m / 2) k
bit_next m k =
    ap (λ (x : ℕ). m / x % 2) (pow-succ' 2 k) ∙ ap (λ (x : ℕ). x % 2) (sym (div-div-eq-div-mul m 2 (2 ^ k)))

pub bit_none : (k : ℕ) → bit 0 k ≡ 0
bit_none zero = refl
bit_none (suc k) = bit_next 0 k ∙ bit_none k

-- ---- and, or

lowest : (x y : ℕ) → y < 2 → (x * 2 + y) % 2 ≡ y
lowest x y h = omega arith

low_and : (a b : ℕ) → bit_and a b % 2 ≡ min (a % 2) (b % 2)
low_and a b =
    rw (and_step a b) (lowest (bit_and (a / 2) (b / 2)) (min (a % 2) (b % 2))
    (bound (a % 2) (b % 2) (mod-lt a (omega arith)) (mod-lt b (omega arith))))
  where
    bound : (x y : ℕ) → x < 2 → y < 2 → min x y < 2
    bound x y h k = omega arith

pub bit_of_or : (a b k : ℕ) → bit (bit_or a b) k ≡ max (bit a k) (bit b k)
bit_of_or a b k = rw (or_shr a b k) (low_or (a / 2 ^ k) (b / 2 ^ k))

pub bit_of_and : (a b k : ℕ) → bit (bit_and a b) k ≡ min (bit a k) (bit b k)
bit_of_and a b k = rw (and_shr a b k) (low_and (a / 2 ^ k) (b / 2 ^ k))

-- ---- n ones, all ones, one, and the opposite

bit_ones : (n k : ℕ) → bit (2 ^ n - 1) k ≡ flag (ltb k n)
bit_ones zero k = bit_none k ∙ ap flag (sym (le-ltb k 0 (omega arith)))
bit_ones (suc n) zero =
    bit_first (2 ^ suc n - 1)
    ∙ (let p = pow-succ' 2 n in
    let q = pow_pos n in
    let e = ap flag (lt-ltb 0 (suc n) (omega arith)) in
    omega arith)
bit_ones (suc n) (suc k) =
    let e : (2 ^ suc n - 1) / 2 ≡ 2 ^ n - 1 = (let p = pow-succ' 2 n in let q = pow_pos n in omega arith) in
    bit_next (2 ^ suc n - 1) k ∙ ap (λ (x : ℕ). bit x k) e ∙ bit_ones n k ∙ ap flag (sym (leb-suc-suc (suc k) n))

pub bit_all : (k : ℕ) → k < 64 → bit 18446744073709551615 k ≡ 1
bit_all k h = bit_ones 64 k ∙ ap flag (lt-ltb k 64 h)

bit_turned : (n m k : ℕ) → m < 2 ^ n → k < n → bit (2 ^ n - 1 - m) k ≡ 1 - bit m k
bit_turned zero m k h l = absurd (omega arith)
bit_turned (suc n) m zero h l =
    bit_first (2 ^ suc n - 1 - m) ∙ (let p = pow-succ' 2 n in let q = pow_pos n in omega (arith, bit_first m))
bit_turned (suc n) m (suc k) h l =
    let p = pow-succ' 2 n in
    let e : (2 ^ suc n - 1 - m) / 2 ≡ 2 ^ n - 1 - m / 2 = omega arith in
    bit_next (2 ^ suc n - 1 - m) k ∙ ap (λ (x : ℕ). bit x k) e ∙ bit_turned n (m / 2) k (omega arith) (omega arith)
    ∙ ap (λ (x : ℕ). 1 - x) (sym (bit_next m k))

pub bit_opposite : (m k : ℕ) → m < 2 ^ 64 → k < 64 → bit (18446744073709551615 - m) k ≡ 1 - bit m k
bit_opposite m k h l = bit_turned 64 m k h l

-- where t passes in m, it fails in the opposite of m
pub opposite_is : (m r : ℕ) (t : ℕ → Bool) → Mask m t → ((k : ℕ) → k < 64 → bit r k ≡ 1 - bit m k)
    → Mask r (λ k. not (t k))
opposite_is m r t mask opposite k h = opposite k h ∙ ap (λ (b : ℕ). 1 - b) (mask k h) ∙ turned (t k)
  where
    turned : (b : Bool) → 1 - flag b ≡ flag (not b)
    turned true = refl
    turned false = refl

pub bit_one : (p k : ℕ) → bit (2 ^ p) k ≡ flag (eqb k p)
bit_one zero zero = refl
bit_one zero (suc k) = bit_next 1 k ∙ bit_none k ∙ ap flag (sym (eqb-suc-zero k))
bit_one (suc p) zero =
    bit_first (2 ^ suc p) ∙ (let q = pow-succ' 2 p in let e = ap flag (eqb-zero-suc p) in omega arith)
bit_one (suc p) (suc k) =
    let e : 2 ^ suc p / 2 ≡ 2 ^ p = (let q = pow-succ' 2 p in omega arith) in
    bit_next (2 ^ suc p) k ∙ ap (λ (x : ℕ). bit x k) e ∙ bit_one p k ∙ ap flag (sym (eqb-suc-suc k p))

pub bit_one_there : (p k : ℕ) → p < 64 → bit (1 * 2 ^ p % 18446744073709551616) k ≡ flag (eqb k p)
bit_one_there p k h =
    ap (λ (x : ℕ). bit x k) (ap (λ (x : ℕ). x % 18446744073709551616) (one-mul (2 ^ p))
    ∙ mod-eq_of_lt (pow-lt {i = p} {j = 64} h))
    ∙ bit_one p k

-- ---- moved up

-- a number cut to j + 1 + k bits keeps bit k
cut : (x j k : ℕ) → bit (x % 2 ^ (j + 1 + k)) k ≡ bit x k
cut x j k = ap (λ (y : ℕ). y % 2) (field x (j + 1) k) ∙ mod-mod-pow (x / 2 ^ k) j 1

bit_cut : (x k : ℕ) → k < 64 → bit (x % 18446744073709551616) k ≡ bit x k
bit_cut x k h =
    let e : 63 - k + 1 + k ≡ 64 = omega arith in
    ap (λ (n : ℕ). bit (x % 2 ^ n) k) (sym e) ∙ cut x (63 - k) k

bit_under : (m p k : ℕ) → k < p → bit (m * 2 ^ p) k ≡ 0
bit_under m zero k h = absurd (omega arith)
bit_under m (suc p) zero h = bit_first (m * 2 ^ suc p) ∙ shifted_even m p
bit_under m (suc p) (suc k) h =
    bit_next (m * 2 ^ suc p) k ∙ ap (λ (x : ℕ). bit x k) (shifted_half m p) ∙ bit_under m p k (omega arith)

bit_over : (m p k : ℕ) → bit (m * 2 ^ p) (p + k) ≡ bit m k
bit_over m zero k =
    let e : 0 + k ≡ k = omega arith in ap (λ (x : ℕ). bit x (0 + k)) (mul-one m) ∙ ap (λ (n : ℕ). bit m n) e
bit_over m (suc p) k =
    let e : suc p + k ≡ suc (p + k) = omega arith in
    ap (λ (n : ℕ). bit (m * 2 ^ suc p) n) e ∙ bit_next (m * 2 ^ suc p) (p + k)
    ∙ ap (λ (x : ℕ). bit x (p + k)) (shifted_half m p) ∙ bit_over m p k

pub bit_moved : (m p : ℕ) → Placed m p (m * 2 ^ p % 18446744073709551616)
bit_moved m p k h = (
  λ l. bit_cut (m * 2 ^ p) k h ∙ bit_under m p k l,
  λ l. let e : p + (k - p) ≡ k = omega arith in
      bit_cut (m * 2 ^ p) k h ∙ ap (λ (n : ℕ). bit (m * 2 ^ p) n) (sym e) ∙ bit_over m p (k - p),
)

pub bit_gone : (m p : ℕ) → 64 ≤ p → Placed m p 0
bit_gone m p far k h = (λ l. bit_none k, λ l. absurd (omega arith))
