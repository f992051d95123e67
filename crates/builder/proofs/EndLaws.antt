-- Words put in front of those that the end of a buffer holds.
-- Assumes nothing.
use mathlib.Core.Path.{◌≡◌, refl, sym, ap, ◌∙◌, subst}
use mathlib.Core.List.{List, [], ◌∷◌, ◌++◌}
use Prim.Native.Nat.{ℕ, suc, ◌+◌, ◌-◌, ◌<◌, ◌≤◌}
use native.Mathlib.Omega.{arith}
use lib.IntN.{ℤ, pos}
use lib.ListN.{length, set, drop, length-set, length-append}
use lib.Seq.{drop-length, drop-cons, get_or-set_same, drop-set-lt, lt-length-set, drop-drop, drop-append-add}
use mir.Syntax.{w32}
use mir.Val.{SFits}
use Rattle.rules.specs.Sum.{limit}
use Rattle.builder.specs.Built.{Ends}

-- nothing is built in any buffer
pub ends_none : (ws : List ℤ) → Ends ws 0 []
ends_none ws =
    let all : length ws - 0 ≡ length ws = omega arith in
    let none : 0 - length ws ≡ 0 = omega arith in
    record { long = refl; last = rw (all, none) (drop-length ws) }

-- ---- one word

module _ (ws : List ℤ) (u : ℕ) (v : ℤ) (l : List ℤ) (b : Ends ws u l) where
  -- where there is room it is written
  pub ends_in : u < length ws → Ends (set ws (length ws - u - 1) v) (u + 1) (v ∷ l)
  ends_in h =
      let n = length ws in
      let p = n - u - 1 in
      let inside : p < n = omega arith in
      let from : n - (u + 1) ≡ p = omega arith in
      let all : u + 1 - n ≡ 0 = omega arith in
      let from_before : n - u ≡ suc p = omega arith in
      let all_before : u - n ≡ 0 = omega arith in
      let before : drop (suc p) ws ≡ l = rw (from_before, all_before) at b.last in
      record {
        long = omega (arith, b.long);
        last = rw (
          length-set ws p v,
          from,
          all,
          drop-cons (set ws p v) p (pos 0) (lt-length-set ws p v inside),
          get_or-set_same ws p v (pos 0) inside,
          drop-set-lt (suc p) ws p v (omega arith),
          before,
        );
      }

  -- past the room it is counted
  pub ends_past : length ws ≤ u → Ends ws (u + 1) (v ∷ l)
  ends_past h =
      let n = length ws in
      let whole : n - (u + 1) ≡ 0 = omega arith in
      let one_more : u + 1 - n ≡ suc (u - n) = omega arith in
      let whole_before : n - u ≡ 0 = omega arith in
      record { long = omega (arith, b.long); last = rw (whole, one_more) (rw whole_before at b.last) }

-- the same of a buffer vs in which w was stored, where n is the room
pub word_in : (ws vs : List ℤ) (u n : ℕ) (v w : ℤ) (l : List ℤ) → Ends ws u l → n ≡ length ws → u < n → w ≡ v
    → vs ≡ set ws (n - u - 1) w → Ends vs (u + 1) (v ∷ l)
word_in ws vs u n v w l b room h e p =
    let place = ap (λ (m : ℕ). set ws (m - u - 1) w) room in
    let stored = p ∙ place ∙ ap (set ws (length ws - u - 1)) e in
    subst (λ (m : List ℤ). Ends m (u + 1) (v ∷ l)) (sym stored) (ends_in ws u v l b (omega arith))

-- the same word in front, known by another name
pub word_is : (ws : List ℤ) (u : ℕ) (v w : ℤ) (l : List ℤ) → v ≡ w → Ends ws u (v ∷ l) → Ends ws u (w ∷ l)
word_is ws u v w l e b = subst (λ (m : ℤ). Ends ws u (m ∷ l)) e b

pub number_fits : (n : ℕ) → n ≤ limit → SFits w32 (pos n)
number_fits n h = record { sfits = omega arith }

-- ---- going back

-- what was there before x was put in front is still there
pub ends_back : (ws : List ℤ) (u w : ℕ) (x l : List ℤ) → u ≡ length l → Ends ws w (x ++ l) → Ends ws u l
ends_back ws u w x l e b =
    let n = length ws in
    let k = (n - u) - (n - w) in
    let more : w ≡ length x + u = omega (arith, b.long, length-append x l) in
    let here : (n - w) + k ≡ n - u = omega arith in
    let there : (w - n) + k ≡ length x + (u - n) = omega arith in
    record {
      long = e;
      last = ap (λ (m : ℕ). drop m ws) (sym here) ∙ sym (drop-drop k (n - w) ws) ∙ ap (drop k) b.last
          ∙ drop-drop k (w - n) (x ++ l) ∙ ap (λ (m : ℕ). drop m (x ++ l)) there ∙ drop-append-add x l (u - n);
    }
