-- The seven words of a sum: each lies within what all lie within, and they make up the sum.
-- Assumes nothing.
use mathlib.Core.Path.{◌≡◌, refl}
use mathlib.Core.List.{List, [], ◌∷◌}
use Prim.Native.Nat.{ℕ, zero, suc, ◌≤◌}
use native.Mathlib.Omega.{arith}
use lib.Dec.{T, leb→le}
use lib.IntN.{ℤ, pos, nat_abs}
use lib.ListN.{length, get_or}
use Rattle.whole.specs.Integers.{within}
use Rattle.whole.proofs.Tests.{T_and}
use Rattle.rules.specs.Sum.{all_within}

pub within_at : (n : ℕ) (zs : List ℤ) (i : ℕ) → T (all_within n zs) → nat_abs (get_or zs i (pos 0)) ≤ n
unfolding all_within
within_at n [] i t = omega arith
within_at n (z ∷ zs) zero t = leb→le (nat_abs z) n ((T_and (within n z) (all_within n zs)).0 t).0
within_at n (z ∷ zs) (suc i) t = within_at n zs i ((T_and (within n z) (all_within n zs)).0 t).1

-- a list of seven, word by word
pub listed : (l : List ℤ) → length l ≡ 7
    → l ≡ get_or l 0 (pos 0) ∷ get_or l 1 (pos 0) ∷ get_or l 2 (pos 0) ∷ get_or l 3 (pos 0)
    ∷ get_or l 4 (pos 0) ∷ get_or l 5 (pos 0) ∷ get_or l 6 (pos 0) ∷ []
listed [] h = absurd (omega arith)
listed (a ∷ []) h = absurd (omega arith)
listed (a ∷ b ∷ []) h = absurd (omega arith)
listed (a ∷ b ∷ c ∷ []) h = absurd (omega arith)
listed (a ∷ b ∷ c ∷ d ∷ []) h = absurd (omega arith)
listed (a ∷ b ∷ c ∷ d ∷ e ∷ []) h = absurd (omega arith)
listed (a ∷ b ∷ c ∷ d ∷ e ∷ f ∷ []) h = absurd (omega arith)
listed (a ∷ b ∷ c ∷ d ∷ e ∷ f ∷ g ∷ []) h = refl
listed (a ∷ b ∷ c ∷ d ∷ e ∷ f ∷ g ∷ k ∷ l) h = absurd (omega arith)
