-- Words copied one by one from a place of one buffer to a place of another.
-- Assumes nothing.
use mathlib.Core.Path.{◌≡◌, sym, ap, ◌∙◌, subst}
use mathlib.Core.List.{List, [], ◌∷◌, ◌++◌, append_assoc, append-nil}
use Prim.Native.Nat.{ℕ, suc, ◌+◌, ◌<◌, ◌≤◌}
use native.Mathlib.Nat.{add-zero}
use native.Mathlib.Omega.{arith}
use lib.IntN.{ℤ, pos}
use lib.ListN.{length, get_or, set, take, drop, length-drop}
use lib.Seq.{take-suc, take-suc-set, get_or-drop}

-- as many bytes, as many words
-- of the words of ws from place `from` on, j stand at place `to` of vs; what stood before it in ts still does
pub record Copied (ws : List ℤ) (from : ℕ) (ts : List ℤ) (to : ℕ) (vs : List ℤ) (j : ℕ) : Type 0 where
  pub begins : take (to + j) vs ≡ take to ts ++ take j (drop from ws)

module _ (ws : List ℤ) (from : ℕ) (ts : List ℤ) (to : ℕ) where
  pub copied_none : Copied ws from ts to ts 0
  copied_none = record { begins = ap (λ (n : ℕ). take n ts) (add-zero to) ∙ sym (append-nil (take to ts)) }

  pub copied_more : (vs us : List ℤ) (j : ℕ) (v : ℤ) → Copied ws from ts to vs j → from + j < length ws
      → to + j < length vs → v ≡ get_or ws (from + j) (pos 0) → us ≡ set vs (to + j) v → Copied ws from ts to us (j + 1)
  copied_more vs us j v h here there e s =
      let next_there : to + (j + 1) ≡ suc (to + j) = omega arith in
      let next_here : suc j ≡ j + 1 = omega arith in
      let word : v ≡ get_or (drop from ws) j (pos 0) = e ∙ sym (get_or-drop from ws j (pos 0)) in
      let inside : j < length (drop from ws) = omega (arith, length-drop from ws) in
      record {
        begins = ap (λ (n : ℕ). take n us) next_there ∙ ap (take (suc (to + j))) s
            ∙ take-suc-set vs (to + j) v there
            ∙ ap (λ (l : List ℤ). l ++ (v ∷ [])) h.begins
            ∙ append_assoc (take to ts) (take j (drop from ws)) (v ∷ [])
            ∙ ap (λ (x : ℤ). take to ts ++ (take j (drop from ws) ++ (x ∷ []))) word
            ∙ ap (λ (l : List ℤ). take to ts ++ l) (sym (take-suc (drop from ws) j (pos 0) inside))
            ∙ ap (λ (n : ℕ). take to ts ++ take n (drop from ws)) next_here;
      }

  pub copied_all : (vs : List ℤ) (j n : ℕ) → Copied ws from ts to vs j → j ≤ n → n ≤ j
      → take (to + n) vs ≡ take to ts ++ take n (drop from ws)
  copied_all vs j n h l g =
      let e : j ≡ n = omega arith in
      (subst (λ (k : ℕ). Copied ws from ts to vs k) e h).begins
