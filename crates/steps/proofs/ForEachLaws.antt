-- A list for each of some numbers, one behind the other: in two parts, the same written otherwise, all empty.
-- Assumes nothing.
use mathlib.Core.Path.{◌≡◌, refl, sym, ◌∙◌, ap, ap₂}
use mathlib.Core.List.{List, [], ◌++◌, append-nil, append_assoc}
use Prim.Native.Nat.{ℕ, zero, suc, ◌+◌, ◌-◌, ◌<◌, ◌≤◌}
use native.Mathlib.Nat.{add-zero, zero-add, suc-add}
use native.Mathlib.Omega.{arith}
use Rattle.rules.specs.Steps.{for_each}

pub same_for_each : {A : Type 0} (from n : ℕ) (F G : ℕ → List A) → ((j : ℕ) → F j ≡ G j)
    → for_each from n F ≡ for_each from n G
unfolding for_each
same_for_each from zero F G same = refl
same_for_each from (suc n) F G same = ap₂ (λ k l. k ++ l) (same from) (same_for_each (suc from) n F G same)

pub for_each_nothing : {A : Type 0} (from n : ℕ) → for_each {A = A} from n (λ j. []) ≡ []
unfolding for_each
for_each_nothing from zero = refl
for_each_nothing from (suc n) = for_each_nothing (suc from) n

pub for_each_parts : {A : Type 0} (from m n : ℕ) (f : ℕ → List A)
    → for_each from (m + n) f ≡ for_each from m f ++ for_each (from + m) n f
unfolding for_each
for_each_parts from zero n f =
    ap (λ (k : ℕ). for_each from k f) (zero-add n) ∙ ap (λ (k : ℕ). for_each k n f) (sym (add-zero from))
for_each_parts from (suc m) n f =
    let next : suc from + m ≡ from + suc m = omega arith in
    ap (λ (k : ℕ). for_each from k f) (suc-add m n)
    ∙ ap (λ (l : List _). f from ++ l) (for_each_parts (suc from) m n f)
    ∙ sym (append_assoc (f from) (for_each (suc from) m f) (for_each (suc from + m) n f))
    ∙ ap (λ (k : ℕ). (f from ++ for_each (suc from) m f) ++ for_each k n f) next

-- the lists of 1 to P, parted at j
module _ {A : Type 0} (F : ℕ → List A) (P j : ℕ) (upto : j ≤ P) where
  pub each_from : for_each 1 P F ≡ for_each 1 j F ++ for_each (suc j) (P - j) F
  each_from =
      let parts : P ≡ j + (P - j) = omega arith in
      let next : 1 + j ≡ suc j = omega arith in
      ap (λ (k : ℕ). for_each 1 k F) parts ∙ for_each_parts 1 j (P - j) F
      ∙ ap (λ (k : ℕ). for_each 1 j F ++ for_each k (P - j) F) next

  pub each_last : 0 < j → for_each 1 j F ≡ for_each 1 (j - 1) F ++ F j
  unfolding for_each
  each_last some =
      let one : j ≡ j - 1 + 1 = omega arith in
      let here : 1 + (j - 1) ≡ j = omega arith in
      ap (λ (k : ℕ). for_each 1 k F) one ∙ for_each_parts 1 (j - 1) 1 F
      ∙ ap (λ (l : List A). for_each 1 (j - 1) F ++ l) (append-nil (F (1 + (j - 1))) ∙ ap F here)

  pub each_first : 0 < j → for_each (suc (j - 1)) (P - (j - 1)) F ≡ F j ++ for_each (suc j) (P - j) F
  unfolding for_each
  each_first some =
      let one : P - (j - 1) ≡ suc (P - j) = omega arith in
      let here : suc (j - 1) ≡ j = omega arith in
      ap (λ (k : ℕ). for_each (suc (j - 1)) k F) one ∙ ap (λ (k : ℕ). for_each k (suc (P - j)) F) here
