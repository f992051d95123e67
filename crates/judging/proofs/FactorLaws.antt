-- Whether a setting has a factor in T + f·v, read word by word.
-- Assumes nothing.
use mathlib.Core.Path.{◌≡◌, refl, sym, ap, ◌∙◌, subst}
use mathlib.Core.Bool.{Bool, true, false, not, ◌&&◌}
use mathlib.Core.List.{List, [], ◌∷◌}
use Prim.Native.Nat.{ℕ, ◌+◌, ◌<◌, ◌≤◌}
use native.Mathlib.Numerals.{add-one}
use native.Mathlib.Omega.{arith}
use lib.IntN.{ℤ, pos, ◌+ℤ◌, ◌*ℤ◌}
use lib.ListN.{length, get_or, drop}
use lib.Seq.{drop-cons}
use mir.Syntax.{w64}
use mir.Val.{SFits, of_z}
use Rattle.whole.specs.Integers.{eq_ℤ}
use Rattle.rules.specs.Sum.{Sum, all_zero, no_factors}
use Rattle.literals.proofs.Sizes.{by_bits}
use Rattle.literals.proofs.Sevens.{listed}
use Rattle.literals.proofs.ChangeLaws.{ne_eq_ℤ}
use Rattle.judging.specs.Shifts.{Moves}

-- so far as they were seen, up to word i, there is none
pub Bare : List ℤ → ℕ → ℤ → Sum → ℕ → Type 0
Bare ws start f v i = (z : Sum) → Moves ws start f v z → no_factors z ≡ all_zero (drop i z)

pub none_seen : (ws : List ℤ) (start : ℕ) (f : ℤ) (v : Sum) → Bare ws start f v 1
unfolding Bare no_factors all_zero
none_seen ws start f v [] m = refl
none_seen ws start f v (c ∷ z) m = refl

module _ (ws : List ℤ) (start : ℕ) (f : ℤ) (v : Sum) {i : ℕ} (low : 1 ≤ i) (bare : Bare ws start f v i) where
  module _ (less : i < 7) {a : ℤ} (fits : SFits w64 a)
      (is : a ≡ get_or ws (start + i) (pos 0) +ℤ f *ℤ get_or v i (pos 0)) where
    opened : {b : Bool} → eq_ℤ a (pos 0) ≡ b → (z : Sum) → Moves ws start f v z
        → no_factors z ≡ (b && all_zero (drop (i + 1) z))
    unfolding Bare
    opened {b} h z m =
        bare z m ∙ next
        ∙ ap (λ (b : Bool). b && all_zero (drop (i + 1) z))
        (ap (λ (y : ℤ). eq_ℤ y (pos 0)) (m.each i low less ∙ sym is) ∙ h)
      where
        next : all_zero (drop i z) ≡ (eq_ℤ (get_or z i (pos 0)) (pos 0) && all_zero (drop (i + 1) z))
        next = unfold all_zero in
            rw (add-one i) (ap all_zero (drop-cons z i (pos 0) (subst (λ (n : ℕ). i < n) (sym m.seven) less)))

    pub one_seen : ¬ (of_z w64 a ≡ 0) → {g : ℤ} → f ≡ g → (z : Sum) → Moves ws start g v z → true ≡ not (no_factors z)
    one_seen n e z m =
        ap not (sym (opened (ne_eq_ℤ a (pos 0) (λ p. n (ap (of_z w64) p))) z
        (subst (λ (g : ℤ). Moves ws start g v z) (sym e) m)))

    pub none_more : of_z w64 a ≡ 0 → Bare ws start f v (i + 1)
    unfolding Bare
    none_more e z m = opened (ap (λ (y : ℤ). eq_ℤ y (pos 0)) (by_bits fits e)) z m

  pub none_left : 7 ≤ i → i ≤ 7 → {g : ℤ} → f ≡ g → (z : Sum) → Moves ws start g v z → false ≡ not (no_factors z)
  unfolding Bare
  none_left high end e z m =
      let last : i ≡ 7 = omega arith in
      let same = subst (λ (g : ℤ). Moves ws start g v z) (sym e) m in
      ap not (sym (bare z same ∙ ap (λ (k : ℕ). all_zero (drop k z)) last ∙ nothing z m.seven))
    where
      nothing : (z : Sum) → length z ≡ 7 → all_zero (drop 7 z) ≡ true
      nothing z seven = unfold all_zero in ap (λ (l : List ℤ). all_zero (drop 7 l)) (listed z seven)
