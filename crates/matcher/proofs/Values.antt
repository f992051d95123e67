-- Six values, each looked at for itself.
-- Assumes nothing.
use Rattle.std.proofs.Common.{◌≡◌, ℕ, zero, suc, ◌≤◌, Bool, true, false, List, [], ◌∷◌, pos, get_or, refl, sym, subst, arith}
use Rattle.std.specs.Prelude.{IsTrue, EachIndex, ◌↔◌}
use lib.Dec.{T, leb, leb→le, le→leb}
use lib.IntN.{ℤ, nat_abs}
use Rattle.whole.proofs.Tests.{T_and}
use Rattle.rules.specs.Sum.{all_within}

-- each lies within ±n
abbrev pub EachWithin : ℕ → List ℤ → Type 0
EachWithin n vs = EachIndex vs (λ k. nat_abs (get_or vs k (pos 0)) ≤ n)

to_each : (n : ℕ) (vs : List ℤ) → T (all_within n vs) → EachWithin n vs
unfolding all_within
to_each n [] t k h = absurd (omega arith)
to_each n (v ∷ vs) t zero h = leb→le (nat_abs v) n ((T_and (leb (nat_abs v) n) (all_within n vs)).0 t).0
to_each n (v ∷ vs) t (suc k) h =
    to_each n vs ((T_and (leb (nat_abs v) n) (all_within n vs)).0 t).1 k (omega arith)

from_each : (n : ℕ) (vs : List ℤ) → EachWithin n vs → T (all_within n vs)
unfolding all_within
from_each n [] f = tt
from_each n (v ∷ vs) f =
    (T_and (leb (nat_abs v) n) (all_within n vs)).1
    (le→leb (nat_abs v) n (f 0 (omega arith)), from_each n vs (λ k h. f (suc k) (omega arith)))

pub by_each : {x : Bool} (n : ℕ) (vs : List ℤ) → IsTrue x ↔ EachWithin n vs → x ≡ all_within n vs
by_each {x} n vs e = go x (all_within n vs) refl e
  where
    go : (x y : Bool) → all_within n vs ≡ y → IsTrue x ↔ EachWithin n vs → x ≡ y
    go true true a e = refl
    go false false a e = refl
    go true false a e = absurd (subst T a (from_each n vs (e.0 refl)))
    go false true a e = e.1 (to_each n vs (subst T (sym a) tt))
