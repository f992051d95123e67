-- The digits of a number: those of its tenth and the last, and how many there are.
-- Assumes nothing.
use mathlib.Core.Path.{◌≡◌, refl, sym, ◌∙◌, ap}
use mathlib.Core.Bool.{Bool, true, false}
use mathlib.Core.List.{List, [], ◌∷◌, ◌++◌}
use Prim.Native.Nat.{ℕ, zero, suc, ◌+◌, ◌/◌, ◌%◌, ◌^◌, ◌<◌, ◌≤◌}
use native.Mathlib.Nat.{div-lt_iff_lt-mul}
use native.Mathlib.Omega.{arith}
use borrow.Author.Tests.{lt-ltb, le-ltb, ltb-true, ltb-false}
use lib.Dec.{ltb}
use lib.IntN.{ℤ, pos, negsuc, nat_abs}
use lib.Signed.{lt_z}
use mir.Syntax.{w32}
use mir.Val.{SFits}
use lib.ListN.{length, length-append}
use Rattle.text.specs.Decimal.{digit, spelled, decimal, number}

-- ---- the tenth and the last digit

spelled_one : (most n : ℕ) → n < 10 → spelled most n ≡ digit n ∷ []
unfolding spelled
spelled_one zero n h = refl
spelled_one (suc most) n h = rw (lt-ltb n 10 h, spelled)

spelled_more : (most n : ℕ) → 10 ≤ n → spelled (suc most) n ≡ spelled most (n / 10) ++ (digit (n % 10) ∷ [])
unfolding spelled
spelled_more most n h = rw (le-ltb n 10 h, spelled)

-- enough tenths are enough
enough : (most other n : ℕ) → n ≤ most → n ≤ other → spelled most n ≡ spelled other n
enough zero other n h k = spelled_one zero n (omega arith) ∙ sym (spelled_one other n (omega arith))
enough (suc most) zero n h k = spelled_one (suc most) n (omega arith) ∙ sym (spelled_one zero n (omega arith))
enough (suc most) (suc other) n h k = go (ltb n 10) refl (λ b. enough most other (n / 10) (omega arith) (omega arith))
  where
    go : (b : Bool) → ltb n 10 ≡ b → (10 ≤ n → spelled most (n / 10) ≡ spelled other (n / 10))
        → spelled (suc most) n ≡ spelled (suc other) n
    go true e f = spelled_one (suc most) n (ltb-true n 10 e) ∙ sym (spelled_one (suc other) n (ltb-true n 10 e))
    go false e f =
        let more = ltb-false n 10 e in
        spelled_more most n more ∙ ap (λ (s : List ℕ). s ++ (digit (n % 10) ∷ [])) (f more)
        ∙ sym (spelled_more other n more)

pub one_digit : (n : ℕ) → n < 10 → decimal n ≡ digit (n % 10) ∷ []
unfolding decimal
one_digit n h =
    let same : n ≡ n % 10 = omega arith in
    spelled_one n n h ∙ ap (λ (d : ℕ). digit d ∷ []) same

pub more_digits : (n : ℕ) → 10 ≤ n → decimal n ≡ decimal (n / 10) ++ (digit (n % 10) ∷ [])
unfolding decimal
more_digits zero h = absurd (omega arith)
more_digits (suc n) h =
    spelled_more n (suc n) h
    ∙ ap (λ (s : List ℕ). s ++ (digit (suc n % 10) ∷ []))
    (enough n (suc n / 10) (suc n / 10) (omega arith) (omega arith))

-- ---- how many

pub digits_one_more : (n : ℕ) → 10 ≤ n → length (decimal n) ≡ length (decimal (n / 10)) + 1
digits_one_more n h = ap length (more_digits n h) ∙ length-append (decimal (n / 10)) (digit (n % 10) ∷ [])

-- a number below 10 ^ (k + 1) has at most k + 1 digits
few_digits : (k n : ℕ) → n < 10 ^ suc k → length (decimal n) ≤ suc k
few_digits zero n h = omega (arith, ap length (one_digit n (omega arith)))
few_digits (suc k) n h =
    go (ltb n 10) refl (few_digits k (n / 10) ((div-lt_iff_lt-mul (omega arith)).1 (omega (arith, h))))
  where
    go : (b : Bool) → ltb n 10 ≡ b → length (decimal (n / 10)) ≤ suc k → length (decimal n) ≤ suc (suc k)
    go true e f = omega (arith, ap length (one_digit n (ltb-true n 10 e)))
    go false e f = omega (arith, digits_one_more n (ltb-false n 10 e))

pub few_of_word : (n : ℕ) → n < 4294967296 → length (decimal n) ≤ 10
few_of_word n h = few_digits 9 n (omega arith)

-- ---- a number by its sign; v is z as the code holds it

pub number_from : (v : ℤ) {z : ℤ} → v ≡ z → lt_z v (pos 0) ≡ false → number z ≡ decimal (nat_abs v)
unfolding number
number_from (pos n) e h = ap number (sym e)
number_from (negsuc n) e h = absurd (cc)

pub number_under : (v : ℤ) {z : ℤ} → v ≡ z → lt_z v (pos 0) ≡ true → number z ≡ (45 ∷ []) ++ decimal (nat_abs v)
unfolding number
number_under (pos n) e h = absurd (omega (arith, ltb-true n 0 h))
number_under (negsuc n) e h = ap number (sym e)

pub few_of_whole : (z : ℤ) → SFits w32 z → length (number z) ≤ 11
unfolding number
few_of_whole (pos n) f = omega (arith, few_of_word n (omega (arith, f.sfits)))
few_of_whole (negsuc n) f = omega (arith, few_of_word (suc n) (omega (arith, f.sfits)))
