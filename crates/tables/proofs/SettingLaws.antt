-- Sets of settings in bits: the set of none and of one, a union, and that the bits are determined by the set.
-- Assumes nothing.
use mathlib.Core.Path.{◌≡◌, refl, sym, ap, ap₂, ◌∙◌}
use mathlib.Core.Bool.{Bool, false, cond, ◌||◌}
use Prim.Native.Nat.{ℕ, zero, suc, ◌+◌, ◌-◌, ◌*◌, ◌/◌, ◌%◌, ◌^◌, ◌<◌, ◌≤◌, max}
use native.Mathlib.Nat.{mod-eq_of_lt, mod-add-div', div-div-eq-div-mul, one-mul, add-mul, mul_comm, mul_assoc}
use native.Mathlib.Omega.{arith}
use lib.Bits.{bit_and, bit_or, or_lt, or_shr, or_step, and_mask}
use lib.Dec.{eqb}
use lib.Pow.{pow-lt}
use Rattle.rules.specs.Rule.{Rule}
use Rattle.rules.specs.Answer.{occurs, bits_of, settings_of}
use Rattle.tables.specs.Settings.{in_set, IsSet}

-- ---- what is a set

-- what holds of 1 to 6 holds of each setting
six : (P : ℕ → Type 0) → P 1 → P 2 → P 3 → P 4 → P 5 → P 6 → (v : ℕ) → 1 ≤ v → v ≤ 6 → P v
six P p1 p2 p3 p4 p5 p6 zero h k = absurd (omega arith)
six P p1 p2 p3 p4 p5 p6 (suc zero) h k = p1
six P p1 p2 p3 p4 p5 p6 (suc (suc zero)) h k = p2
six P p1 p2 p3 p4 p5 p6 (suc (suc (suc zero))) h k = p3
six P p1 p2 p3 p4 p5 p6 (suc (suc (suc (suc zero)))) h k = p4
six P p1 p2 p3 p4 p5 p6 (suc (suc (suc (suc (suc zero))))) h k = p5
six P p1 p2 p3 p4 p5 p6 (suc (suc (suc (suc (suc (suc zero)))))) h k = p6
six P p1 p2 p3 p4 p5 p6 (suc (suc (suc (suc (suc (suc (suc v))))))) h k = absurd (omega arith)

-- a set by its six bits
set_of : (s : ℕ) (p : ℕ → Bool) → s < 64 → in_set 1 s ≡ p 1 → in_set 2 s ≡ p 2 → in_set 3 s ≡ p 3
    → in_set 4 s ≡ p 4 → in_set 5 s ≡ p 5 → in_set 6 s ≡ p 6 → IsSet s p
set_of s p h e1 e2 e3 e4 e5 e6 = record { small = h; each = six (λ v. in_set v s ≡ p v) e1 e2 e3 e4 e5 e6 }

pub no_settings : IsSet 0 (λ v. false)
no_settings = set_of 0 (λ v. false) (omega arith) refl refl refl refl refl refl

pub one_setting : (v : ℕ) → 1 ≤ v → v ≤ 6 → IsSet (2 ^ (v - 1)) (λ w. eqb w v)
one_setting =
    six (λ v. IsSet (2 ^ (v - 1)) (λ w. eqb w v))
    (set_of 1 (λ w. eqb w 1) (omega arith) refl refl refl refl refl refl)
    (set_of 2 (λ w. eqb w 2) (omega arith) refl refl refl refl refl refl)
    (set_of 4 (λ w. eqb w 3) (omega arith) refl refl refl refl refl refl)
    (set_of 8 (λ w. eqb w 4) (omega arith) refl refl refl refl refl refl)
    (set_of 16 (λ w. eqb w 5) (omega arith) refl refl refl refl refl refl)
    (set_of 32 (λ w. eqb w 6) (omega arith) refl refl refl refl refl refl)

pub same_settings : (s : ℕ) (p q : ℕ → Bool) → IsSet s p → ((v : ℕ) → 1 ≤ v → v ≤ 6 → p v ≡ q v) → IsSet s q
same_settings s p q i e = record { small = i.small; each = λ v h k. i.each v h k ∙ e v h k }

-- ---- a union

pub low_or : (a b : ℕ) → bit_or a b % 2 ≡ max (a % 2) (b % 2)
low_or a b = rw (or_step a b) (omega arith)

either : (x y : ℕ) → x < 2 → y < 2 → eqb (max x y) 1 ≡ (eqb x 1 || eqb y 1)
either zero zero h k = refl
either zero (suc zero) h k = refl
either (suc zero) zero h k = refl
either (suc zero) (suc zero) h k = refl
either zero (suc (suc y)) h k = absurd (omega arith)
either (suc zero) (suc (suc y)) h k = absurd (omega arith)
either (suc (suc x)) y h k = absurd (omega arith)

pub joined_settings : (a b : ℕ) (p q : ℕ → Bool) → IsSet a p → IsSet b q → IsSet (bit_or a b) (λ v. p v || q v)
joined_settings a b p q i j = record { small = or_lt 6 a b i.small j.small; each = each }
  where
    each : (v : ℕ) → 1 ≤ v → v ≤ 6 → in_set v (bit_or a b) ≡ (p v || q v)
    each v h k =
        let x = a / 2 ^ (v - 1) in
        let y = b / 2 ^ (v - 1) in
        ap (λ (z : ℕ). eqb (z % 2) 1) (or_shr a b (v - 1)) ∙ ap (λ (z : ℕ). eqb z 1) (low_or x y)
        ∙ either (x % 2) (y % 2) (omega arith) (omega arith) ∙ ap₂ ◌||◌ (i.each v h k) (j.each v h k)

-- ---- the machine's shifts and masks

pub one_shifted : (v : ℕ) → v ≤ 6 → 1 * 2 ^ (v - 1) % 4294967296 ≡ 2 ^ (v - 1)
one_shifted v h = rw (one-mul (2 ^ (v - 1))) (mod-eq_of_lt (pow-lt {i = v - 1} {j = 32} (omega arith)))

pub bit_tested : (s v : ℕ) → eqb (bit_and (s / 2 ^ (v - 1)) 1) 1 ≡ in_set v s
bit_tested s v = ap (λ (x : ℕ). eqb x 1) (and_mask (s / 2 ^ (v - 1)) 1)

-- ---- the bits are determined by the set

bit_part : (d n : ℕ) → d < 2 → d * n ≡ cond (eqb d 1) n 0
bit_part zero n h = omega arith
bit_part (suc zero) n h = omega arith
bit_part (suc (suc d)) n h = absurd (omega arith)

-- what stands from bit n on is that bit and the rest
lowest : (s n : ℕ) (b : Bool) → eqb (s / n % 2) 1 ≡ b → s / n * n ≡ cond b n 0 + s / (n * 2) * (n * 2)
lowest s n b e =
    let q = s / n in
    let rest = mul_assoc (q / 2) 2 n ∙ ap₂ ◌*◌ (div-div-eq-div-mul s n 2) (mul_comm 2 n) in
    ap (λ (x : ℕ). x * n) (sym (mod-add-div' q 2)) ∙ add-mul (q % 2) (q / 2 * 2) n
    ∙ ap₂ ◌+◌ (bit_part (q % 2) n (omega arith) ∙ ap (λ (c : Bool). cond c n 0) e) rest

sum_of : (ℕ → Bool) → ℕ
sum_of p =
    cond (p 1) 1 0
    + (cond (p 2) 2 0 + (cond (p 3) 4 0 + (cond (p 4) 8 0 + (cond (p 5) 16 0 + (cond (p 6) 32 0 + 0)))))

set_sum : (s : ℕ) (p : ℕ → Bool) → IsSet s p → s ≡ sum_of p
unfolding sum_of
set_sum s p i =
    let whole : s ≡ s / 1 * 1 = omega arith in
    let none : s / 64 * 64 ≡ 0 = omega (arith, i.small) in
    whole
    ∙ adds _ _ _ _ _ _ (lowest s 1 _ (i.each 1 (omega arith) (omega arith)))
    (lowest s 2 _ (i.each 2 (omega arith) (omega arith))) (lowest s 4 _ (i.each 3 (omega arith) (omega arith)))
    (lowest s 8 _ (i.each 4 (omega arith) (omega arith))) (lowest s 16 _ (i.each 5 (omega arith) (omega arith)))
    (lowest s 32 _ (i.each 6 (omega arith) (omega arith))) none
  where
    adds : (x1 x2 x3 x4 x5 x6 : ℕ) {a b c d e f g : ℕ} → a ≡ x1 + b → b ≡ x2 + c → c ≡ x3 + d → d ≡ x4 + e → e ≡ x5 + f
        → f ≡ x6 + g → g ≡ 0 → a ≡ x1 + (x2 + (x3 + (x4 + (x5 + (x6 + 0)))))
    adds x1 x2 x3 x4 x5 x6 h1 h2 h3 h4 h5 h6 h7 = omega arith

pub settings_determined : (s t : ℕ) (p : ℕ → Bool) → IsSet s p → IsSet t p → s ≡ t
settings_determined s t p i j = set_sum s p i ∙ sym (set_sum t p j)

-- and so they are the paper's, where the set is that of the settings that occur
pub settings_are : (s : ℕ) (a : Rule) → IsSet s (λ v. occurs v a) → s ≡ settings_of a
unfolding sum_of settings_of bits_of
settings_are s a i = set_sum s (λ v. occurs v a) i
