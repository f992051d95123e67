-- The multiples of d among c, c + 1, ..: those of the first 64 numbers by doubling, and how far the next one is from c.
-- Assumes nothing.
use mathlib.Core.Path.{◌≡◌, refl, sym, ap, ap₂, ◌∙◌, subst}
use mathlib.Core.Bool.{Bool, true, false}
use Prim.Native.Nat.{ℕ, zero, suc, ◌+◌, ◌-◌, ◌*◌, ◌/◌, ◌%◌, ◌^◌, ◌<◌, ◌≤◌}
use native.Mathlib.Nat.{mod-lt, mod-eq_of_lt, mul-add-mod_self_right, mul-mod_left, div-add-mod, div-add-mod'}
use native.Mathlib.Omega.{arith}
use borrow.Author.Tests.{ltb-true, ltb-false, ne_eqb}
use lib.Bits.{bit_or}
use lib.Dec.{T, eqb, ltb, eqb→eq}
use lib.IntN.{ℤ, pos, negsuc, neg_ℤ, nat_abs, ◌+ℤ◌, ◌-ℤ◌, +ℤ_idl}
use mir.Syntax.{w64}
use mir.Val.{SFits, to_z}
use mir.Facts.{to_z-of_z, to_z_pos}
use Rattle.std.specs.Int.{int_rem_euclid}
use Rattle.whole.proofs.Tests.{same_truth}
use Rattle.whole.specs.Divides.{Divides, divides}
use Rattle.whole.proofs.Linear.{zarith, sum, dif, neg}
use Rattle.whole.proofs.Divisibility.{divides_add, divides_neg, divides_shift, divides_test, size_neg}
use Rattle.rules.specs.Sum.{limit}
use Rattle.literals.proofs.Sizes.{read, fits_size}
use Rattle.judging.specs.Judging.{bit, flag}
use Rattle.judging.specs.Masks.{Mask, Placed}
use Rattle.judging.proofs.BitLaws.{bit_of_or, bit_one, bit_moved}

-- ---- the multiples among the first 64 numbers

-- a multiple before a number adds nothing
drop_multiple : (x d a : ℕ) → x % d ≡ 0 → (x + a) % d ≡ a % d
drop_multiple x d a e =
    let q : x ≡ x / d * d = omega (arith, div-add-mod' x d) in
    ap (λ (y : ℕ). (y + a) % d) q ∙ mul-add-mod_self_right (x / d) d a

-- the mask is right below w, a multiple of d, and empty from there on
pub record Doubled (d m w : ℕ) : Type 0 where
  pub multiple : w % d ≡ 0
  pub done : (k : ℕ) → k < 64 → k < w → bit m k ≡ flag (eqb (k % d) 0)
  pub left : (k : ℕ) → k < 64 → w ≤ k → bit m k ≡ 0

pub begun : (d : ℕ) → 1 ≤ d → Doubled d 1 d
begun d h = record {
  multiple = ap (λ (x : ℕ). x % d) (let one : d ≡ 1 * d = omega arith in one) ∙ mul-mod_left 1 d;
  done = λ k _ l. bit_one 0 k ∙ ap (λ (x : ℕ). flag (eqb x 0)) (sym (mod-eq_of_lt l));
  left = λ k _ l. bit_one 0 k ∙ ap flag (ne_eqb k 0 (λ e. absurd (omega arith)));
}

module _ (d m w : ℕ) (s : Doubled d m w) where
  abbrev twice : ℕ
  twice = bit_or m (m * 2 ^ w % 18446744073709551616)

  low : (k : ℕ) → k < 64 → k < w → bit twice k ≡ bit m k
  low k h l = bit_of_or m (m * 2 ^ w % 18446744073709551616) k ∙ (let e = (bit_moved m w k h).0 l in omega arith)

  high : (k : ℕ) → k < 64 → w ≤ k → bit twice k ≡ bit m (k - w)
  high k h l =
      bit_of_or m (m * 2 ^ w % 18446744073709551616) k
      ∙ (let e = (bit_moved m w k h).1 l in let z = s.left k h l in omega arith)

  pub doubled : Doubled d twice (w + w)
  doubled = record {
    multiple = drop_multiple w d w s.multiple ∙ s.multiple;
    done = λ k h l. turn k (ltb k w) refl h l;
    left = λ k h l. high k h (omega arith) ∙ s.left (k - w) (omega arith) (omega arith);
  }
    where
      turn : (k : ℕ) (t : Bool) → ltb k w ≡ t → k < 64 → k < w + w → bit twice k ≡ flag (eqb (k % d) 0)
      turn k true e h l = let u = ltb-true k w e in low k h u ∙ s.done k h u
      turn k false e h l =
          let u = ltb-false k w e in
          let q : w + (k - w) ≡ k = omega arith in
          high k h u ∙ s.done (k - w) (omega arith) (omega arith)
          ∙ ap (λ (x : ℕ). flag (eqb x 0))
          (sym (drop_multiple w d (k - w) s.multiple) ∙ ap (λ (x : ℕ). x % d) q)

-- ---- how far it is to the next multiple

module _ {d : ℕ} (low : 1 ≤ d) where
  rest_over : (n : ℕ) → Divides d (pos n -ℤ pos (n % d))
  rest_over n = record { quotient = pos (n / d); exact = law n (d * (n / d)) (n % d) (div-add-mod n d) }
    where
      law : (n q m : ℕ) → q + m ≡ n → pos n -ℤ pos m ≡ pos q
      law n q m e = omega (zarith, dif (pos n) (pos m))

  -- the rest of −c is how far it is up to the next multiple
  rest_up : (c : ℤ) → (m : ℕ) × (int_rem_euclid (neg_ℤ c) (pos d) ≡ pos m) × (m < d) × Divides d (c +ℤ pos m)
  rest_up (pos zero) =
      (0 % d, refl, mod-lt 0 low, record { quotient = pos 0; exact = ap pos (omega (arith, div-add-mod 0 d)) })
  rest_up (pos (suc n)) = (
    d - 1 - n % d,
    refl,
    omega arith,
    record { quotient = pos (n / d + 1); exact = ap pos (omega (arith, div-add-mod n d, mod-lt n low)) },
  )
  rest_up (negsuc n) =
      (suc n % d, refl, mod-lt (suc n) low, subst (Divides d) (law (suc n % d)) (divides_neg (rest_over (suc n))))
    where
      law : (m : ℕ) → neg_ℤ (pos (suc n) -ℤ pos m) ≡ negsuc n +ℤ pos m
      law m = omega (zarith, neg (pos (suc n) -ℤ pos m), dif (pos (suc n)) (pos m), sum (negsuc n) (pos m))

  pub distance_is : (c : ℤ) → SFits w64 c → nat_abs c < 2 ^ 63 → d ≤ limit → {r : ℤ}
      → r ≡ int_rem_euclid (read (pos 0 -ℤ read c)) (to_z w64 d)
      → (nat_abs (read r) < d) × Divides d (c +ℤ pos (nat_abs (read r)))
  distance_is c f small high {r} e =
      let (m, is, less, up) = rest_up c in
      let back : nat_abs (read r) ≡ m =
      ap (λ (z : ℤ). nat_abs (read z)) (e ∙ ap₂ int_rem_euclid turned (to_z_pos w64 (omega arith)) ∙ is)
      ∙ ap nat_abs (to_z-of_z (fits_size w64 (pos m) (omega arith))) in
      rw back (less, up)
    where
      turned : read (pos 0 -ℤ read c) ≡ neg_ℤ c
      turned = rw (to_z-of_z f, +ℤ_idl (neg_ℤ c)) (to_z-of_z (fits_size w64 (neg_ℤ c) (rw (size_neg c) small)))

-- ---- the multiples, moved to the first

module _ (d m p r : ℕ) {z c : ℤ} (same : z ≡ c) (comb : Mask m (λ k. eqb (k % d) 0)) (near : p < d)
    (found : Divides d (z +ℤ pos p)) (placed : Placed m p r) where
  first : Divides d (c +ℤ pos p)
  first = subst (λ (z : ℤ). Divides d (z +ℤ pos p)) same found

  pub multiples_are : Mask r (λ k. divides d (c +ℤ pos k))
  multiples_are k h = by (ltb k p) refl
    where
      none : k < p → ¬ Divides d (c +ℤ pos k)
      none l g =
          let whole = eqb→eq ((p - k) % d) 0
          ((divides_test d (pos (p - k))).1 (subst (Divides d) law (divides_add first (divides_neg g)))) in
          let same : (p - k) % d ≡ p - k = mod-eq_of_lt (omega arith) in
          omega arith
        where
          law : c +ℤ pos p +ℤ neg_ℤ (c +ℤ pos k) ≡ pos (p - k)
          law = omega (zarith, sum (c +ℤ pos p) (neg_ℤ (c +ℤ pos k)), neg (c +ℤ pos k), sum c (pos p), sum c (pos k))

      no_test : (b : Bool) → ¬ T b → flag b ≡ 0
      no_test true n = absurd (n tt)
      no_test false n = refl

      behind : p ≤ k → pos (k - p) +ℤ (c +ℤ pos p) ≡ c +ℤ pos k
      behind l = omega (zarith, sum (pos (k - p)) (c +ℤ pos p), sum c (pos p), sum c (pos k))

      by : (t : Bool) → ltb k p ≡ t → bit r k ≡ flag (divides d (c +ℤ pos k))
      by true e =
          let l = ltb-true k p e in
          (placed k h).0 l
          ∙ sym (no_test (divides d (c +ℤ pos k)) (λ t. none l ((divides_test d (c +ℤ pos k)).0 t)))
      by false e =
          let l = ltb-false k p e in
          let shift = divides_shift first (pos (k - p)) in
          let test = divides_test d (pos (k - p)) in
          let far = divides_test d (c +ℤ pos k) in
          (placed k h).1 l ∙ comb (k - p) (omega arith)
          ∙ ap flag (same_truth (divides d (pos (k - p))) (divides d (c +ℤ pos k)) (
            λ t. far.1 (subst (Divides d) (behind l) (shift.1 (test.0 t))),
            λ t. test.1 (shift.0 (subst (Divides d) (sym (behind l)) (far.0 t))),
          ))
