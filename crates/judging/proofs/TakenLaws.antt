-- The mask of any test, taken bit by bit.
-- Assumes nothing.
use mathlib.Core.Path.{◌≡◌, refl, sym, ap, ◌∙◌}
use mathlib.Core.Bool.{Bool, true, false}
use Prim.Native.Nat.{ℕ, ◌+◌, ◌*◌, ◌%◌, ◌^◌, ◌<◌, ◌≤◌, max}
use native.Mathlib.Omega.{arith}
use borrow.Author.Tests.{eqb-true, eqb-false, eq-eqb, ne_eqb}
use lib.Bits.{bit_or}
use lib.Dec.{eqb}
use Rattle.judging.specs.Judging.{bit, flag}
use Rattle.judging.specs.Masks.{Mask}
use Rattle.judging.proofs.BitLaws.{bit_none, bit_of_or, bit_one_there}

pub set_bit : (m i : ℕ) → i < 64 → (k : ℕ)
    → bit (bit_or m (1 * 2 ^ i % 18446744073709551616)) k ≡ max (bit m k) (flag (eqb k i))
set_bit m i h k =
    bit_of_or m (1 * 2 ^ i % 18446744073709551616) k ∙ ap (λ (b : ℕ). max (bit m k) b) (bit_one_there i k h)

pub set_there : (m i : ℕ) → i < 64 → {b : Bool} → b ≡ true → (k : ℕ)
    → (k ≡ i → bit (bit_or m (1 * 2 ^ i % 18446744073709551616)) k ≡ max (bit m k) (flag b))
    × (¬ (k ≡ i) → bit (bit_or m (1 * 2 ^ i % 18446744073709551616)) k ≡ bit m k)
set_there m i h e k = (
  λ p. set_bit m i h k ∙ ap (λ (t : Bool). max (bit m k) (flag t)) (eq-eqb k i p ∙ sym e),
  λ n. set_bit m i h k ∙ ap (λ (t : Bool). max (bit m k) (flag t)) (ne_eqb k i n) ∙ none (bit m k),
)
  where
    none : (n : ℕ) → max n 0 ≡ n
    none n = omega arith

pub unset_there : (m i : ℕ) {b : Bool} → b ≡ false → (k : ℕ)
    → (k ≡ i → bit m k ≡ max (bit m k) (flag b)) × (¬ (k ≡ i) → bit m k ≡ bit m k)
unset_there m i {b} e k = (λ p. let f : flag b ≡ 0 = ap flag e in omega arith, λ n. refl)

-- the bits below i are what t says, and the others are not set
pub record Taken (t : ℕ → Bool) (m i : ℕ) : Type 0 where
  pub done : (k : ℕ) → k < 64 → k < i → bit m k ≡ flag (t k)
  pub left : (k : ℕ) → k < 64 → i ≤ k → bit m k ≡ 0

pub none_taken : (t : ℕ → Bool) → Taken t 0 0
none_taken t = record { done = λ k h l. absurd (omega arith); left = λ k h l. bit_none k }

pub one_taken : (t : ℕ → Bool) (m i r : ℕ) (b : Bool) → Taken t m i → i < 64 → b ≡ t i
    → ((k : ℕ) → k < 64 → (k ≡ i → bit r k ≡ max (bit m k) (flag b)) × (¬ (k ≡ i) → bit r k ≡ bit m k))
    → Taken t r (i + 1)
one_taken t m i r b s less e set = record {
  done = λ k h l. by k h l (eqb k i) refl;
  left = λ k h l. (set k h).1 (λ p. omega arith) ∙ s.left k h (omega arith);
}
  where
    by : (k : ℕ) → k < 64 → k < i + 1 → (q : Bool) → eqb k i ≡ q → bit r k ≡ flag (t k)
    by k h l true p =
        let here = eqb-true k i p in
        (set k h).0 here ∙ first (s.left k h (omega arith)) ∙ ap flag e ∙ ap (λ (j : ℕ). flag (t j)) (sym here)
      where
        first : {n : ℕ} → n ≡ 0 → max n (flag b) ≡ flag b
        first z = omega arith
    by k h l false p =
        let apart = eqb-false k i p in
        (set k h).1 apart ∙ s.done k h (strict k i l apart)
      where
        strict : (a b : ℕ) → a < b + 1 → ¬ (a ≡ b) → a < b
        strict a b x y = omega arith

pub all_taken : (t : ℕ → Bool) (m i : ℕ) → Taken t m i → 64 ≤ i → Mask m t
all_taken t m i s e k h = s.done k h (omega arith)
