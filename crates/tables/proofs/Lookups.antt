-- A list that a number spells in digits of 4 bits.
-- Assumes nothing.
use mathlib.Core.Path.{◌≡◌, refl, sym, ◌∙◌, subst}
use mathlib.Core.Bool.{Bool, true, ◌&&◌}
use mathlib.Core.List.{List, [], ◌∷◌}
use Prim.Native.Nat.{ℕ, zero, suc, ◌*◌, ◌/◌, ◌%◌, ◌^◌, ◌<◌, ◌≤◌}
use native.Mathlib.Decide.{ℕ_discrete}
use native.Mathlib.Omega.{arith}
use lib.Dec.{T, leb, leb→le, eqb, eqb→eq}
use lib.ListN.{length, get_or}
use Rattle.whole.proofs.Tests.{T_and}

-- the digit of 4 bits of kind k in a number
abbrev pub digit : ℕ → ℕ → ℕ
digit n k = n / 2 ^ (k * 4) % 16

-- the first k digits of n are those of the list, and at most m: a test that the checker computes
abbrev pub spells : (n m : ℕ) → List ℕ → ℕ → Bool
spells n m l zero = true
spells n m l (suc k) = eqb (digit n k) (get_or l k 0) && (leb (digit n k) m && spells n m l k)

spelled : (n m : ℕ) (l : List ℕ) (i : ℕ) → T (spells n m l i) → (k : ℕ) → k < i
    → (digit n k ≡ get_or l k 0) × (digit n k ≤ m)
spelled n m l zero t k h = absurd (omega arith)
spelled n m l (suc i) t k h =
    let (same, more) = (T_and (eqb (digit n i) (get_or l i 0)) (leb (digit n i) m && spells n m l i)).0 t in
    let (most, rest) = (T_and (leb (digit n i) m) (spells n m l i)).0 more in
    go (eqb→eq (digit n i) (get_or l i 0) same, leb→le (digit n i) m most) (spelled n m l i rest k) (ℕ_discrete k i)
  where
    go : (digit n i ≡ get_or l i 0) × (digit n i ≤ m) → (k < i → (digit n k ≡ get_or l k 0) × (digit n k ≤ m)) → Dec (k ≡ i)
        → (digit n k ≡ get_or l k 0) × (digit n k ≤ m)
    go here below (yes e) = subst (λ (j : ℕ). (digit n j ≡ get_or l j 0) × (digit n j ≤ m)) (sym e) here
    go here below (no f) = below (omega (arith, f))

-- an element of the list that a number spells, with any number for what is missing
pub found : (n m d : ℕ) (l : List ℕ) → T (spells n m l (length l)) → (k : ℕ) → k < length l
    → (digit n k ≡ get_or l k d) × (digit n k ≤ m)
found n m d l t k h =
    let (e, most) = spelled n m l (length l) t k h in
    (e ∙ any l k h, most)
  where
    any : (l : List ℕ) (k : ℕ) → k < length l → get_or l k 0 ≡ get_or l k d
    any [] k h = absurd (omega arith)
    any (a ∷ l) zero h = refl
    any (a ∷ l) (suc k) h = any l k (omega arith)
