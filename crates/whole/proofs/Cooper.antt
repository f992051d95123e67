-- Cooper's theorem apart from rules: G is what a body says of x, Far what it comes to far to the left,
-- Bound its lower bounds, P a period.
-- Assumes nothing.
-- The right-hand theorem is this one at −x.
use mathlib.Core.Path.{◌≡◌, sym, subst}
use mathlib.Core.Logic.Iff
use mathlib.Core.Logic.{◌↔◌, ◌⊎◌, inl, inr}
use Prim.Native.Nat.{ℕ, zero, suc, ◌+◌, ◌*◌, ◌-◌, ◌≤◌, ◌<◌}
use native.Mathlib.Nat.{mul-le-mul_left}
use native.Mathlib.Omega.{arith}
use lib.IntN.{ℤ, pos, negsuc, ◌+ℤ◌, ◌-ℤ◌, ◌*ℤ◌}
use lib.Signed.{◌≤ℤ◌, ◌<ℤ◌}
use Rattle.whole.proofs.Lists.{at_equal}
use Rattle.whole.proofs.Difference.{zz, z1, z2}
use Rattle.whole.proofs.Linear.{zarith, U, dif}
use Rattle.whole.proofs.Divisibility.{quotient_of, remainder, remainder_less, quotient_remainder}

-- some j from 1 to P
abbrev pub UpTo : ℕ → (ℕ → Type 0) → Type 0
UpTo P Q = (j : ℕ) × (1 ≤ j) × (j ≤ P) × Q j

-- z is b + j for a bound b and a j from 1 to P
abbrev pub Reached : (Bound : ℤ → Type 0) → ℕ → ℤ → Type 0
Reached Bound P z = (b : ℤ) × Bound b × UpTo P (λ j. z ≡ b +ℤ pos j)

pub record Cooper (G Far Bound : ℤ → Type 0) (P : ℕ) : Type 0 where
  pub positive : 0 < P
  pub periodic : (z : ℤ) → Far z ↔ Far (z +ℤ pos P)
  pub low : ℤ
  pub far_below : (z : ℤ) → z <ℤ low → G z ↔ Far z
  pub one_period_down : (z : ℤ) → G (z +ℤ pos P) → Reached Bound P (z +ℤ pos P) ⊎ G z

-- enough steps of P lead below any number
pub far_enough : {P : ℕ} → 0 < P → (z b : ℤ) → (n : ℕ) × ((z -ℤ pos (n * P)) <ℤ b)
far_enough {P} p z b =
    let n : ℕ = U (z -ℤ b) in
    (suc n, omega (zarith, dif z b, dif z (pos (suc n * P)), mul-le-mul_left (suc n) p))

-- a step of P that passes b started within P above b
pub crossed : {P : ℕ} (b z : ℤ) → b <ℤ (z +ℤ pos P) → z ≤ℤ b → UpTo P (λ j. z +ℤ pos P ≡ b +ℤ pos j)
crossed {P} = z2 _ (λ p q r s. simp zz (λ h k. (r + P + q - (p + s), omega arith, omega arith, omega arith)))

no_steps : (P : ℕ) (z : ℤ) → z +ℤ pos (0 * P) ≡ z
no_steps P = z1 _ (simp zz (omega arith))

one_step_more : (n P : ℕ) (z : ℤ) → z +ℤ pos (suc n * P) ≡ (z +ℤ pos (n * P)) +ℤ pos P
one_step_more n P = z1 _ (simp zz (omega arith))

there_and_back : (n : ℕ) (z : ℤ) → (z -ℤ pos n) +ℤ pos n ≡ z
there_and_back n = z1 _ (simp zz (omega arith))

module _ {G Far Bound : ℤ → Type 0} {P : ℕ} (c : Cooper G Far Bound P) where
  -- n periods down G still holds, or a bound was reached on the way
  down : (n : ℕ) (z : ℤ) → G (z +ℤ pos (n * P)) → ((y : ℤ) × Reached Bound P y × G y) ⊎ G z
  down zero z h = inr (subst G (no_steps P z) h)
  down (suc n) z h =
      let above : G ((z +ℤ pos (n * P)) +ℤ pos P) = subst G (one_step_more n P z) h in
      elim (c.one_period_down (z +ℤ pos (n * P)) above) [ inl r ↦ inl (_, r, above) | inr g ↦ down n z g ]

  far_up : (n : ℕ) (z : ℤ) → Far z ↔ Far (z +ℤ pos (n * P))
  far_up zero z = at_equal Far (sym (no_steps P z))
  far_up (suc n) z =
      Iff.trans (far_up n z) (Iff.trans (c.periodic (z +ℤ pos (n * P))) (at_equal Far (sym (one_step_more n P z))))

  far_down : (n : ℕ) (z : ℤ) → Far z ↔ Far (z -ℤ pos (n * P))
  far_down n z = Iff.trans (at_equal Far (sym (there_and_back (n * P) z))) (Iff.symm (far_up n (z -ℤ pos (n * P))))

  -- every number is some periods away from one of 1 to P
  home : (z : ℤ) → Far z → UpTo P (λ j. Far (pos j))
  home z h =
      let before : ℤ = z -ℤ pos 1 in
      let r : ℕ = remainder before P in
      let split = quotient_remainder c.positive before in
      (suc r, omega arith, remainder_less c.positive before, by_periods (quotient_of before P) r split)
    where
      periods_down : (r n : ℕ) (z : ℤ) → z -ℤ pos 1 ≡ pos P *ℤ pos n +ℤ pos r → z -ℤ pos (n * P) ≡ pos (suc r)
      periods_down r n = z1 _ (simp zz (omega arith))

      periods_up : (r n : ℕ) (z : ℤ) → z -ℤ pos 1 ≡ pos P *ℤ negsuc n +ℤ pos r → z +ℤ pos (suc n * P) ≡ pos (suc r)
      periods_up r n = z1 _ (simp zz (omega arith))

      by_periods : (q : ℤ) (r : ℕ) → z -ℤ pos 1 ≡ pos P *ℤ q +ℤ pos r → Far (pos (suc r))
      by_periods (pos n) r e = subst Far (periods_down r n z e) ((far_down n z).0 h)
      by_periods (negsuc n) r e = subst Far (periods_up r n z e) ((far_up (suc n) z).0 h)

  pub cooper : ((z : ℤ) × G z) ↔ (UpTo P (λ j. Far (pos j)) ⊎ ((b : ℤ) × Bound b × UpTo P (λ j. G (b +ℤ pos j))))
  cooper = (λ w. search_down w.0 w.1, found)
    where
      search_down : (z : ℤ) → G z → UpTo P (λ j. Far (pos j)) ⊎ ((b : ℤ) × Bound b × UpTo P (λ j. G (b +ℤ pos j)))
      search_down z g =
          let (n, under) = far_enough c.positive z c.low in
          let y : ℤ = z -ℤ pos (n * P) in
          elim (down n y (subst G (sym (there_and_back (n * P) z)) g)) [
            | inl (x, (b, m, (j, l, k, e)), h) ↦ inr (b, m, (j, l, k, subst G e h))
            | inr h ↦ inl (home y ((c.far_below y under).0 h))
          ]

      found : UpTo P (λ j. Far (pos j)) ⊎ ((b : ℤ) × Bound b × UpTo P (λ j. G (b +ℤ pos j))) → (z : ℤ) × G z
      found (inl (j, l, k, h)) =
          let (n, under) = far_enough c.positive (pos j) c.low in
          (pos j -ℤ pos (n * P), (c.far_below _ under).1 ((far_down n (pos j)).0 h))
      found (inr (b, m, (j, l, k, h))) = (b +ℤ pos j, h)
