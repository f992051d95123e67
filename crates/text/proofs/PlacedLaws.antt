-- Text put behind text.
-- Assumes nothing.
use mathlib.Core.Path.{◌≡◌, refl, sym, ◌∙◌, ap, subst}
use mathlib.Core.List.{List, [], ◌∷◌, ◌++◌}
use Prim.Native.Nat.{ℕ, suc, ◌+◌}
use native.Mathlib.Nat.{add-zero}
use native.Mathlib.Omega.{arith}
use lib.ListN.{length, set, length-append}
use lib.Seq.{sets, length-sets}
use Rattle.text.specs.Placed.{Placed, Puts}
use Rattle.text.specs.declared.lent.Text.{Text}

sets_append : (s t l : List ℕ) (i : ℕ) → sets (sets l i s) (i + length s) t ≡ sets l i (s ++ t)
sets_append [] t l i = ap (λ (k : ℕ). sets l k t) (add-zero i)
sets_append (a ∷ s) t l i =
    ap (λ (k : ℕ). sets (sets (set l i a) (suc i) s) k t) (omega arith) ∙ sets_append s t (set l i a) (suc i)

module _ {l : List ℕ} {at : ℕ} where
  pub placed_none : Placed l at [] l at
  placed_none = record { puts = refl; ends = omega arith }

  pub placed_then : {s m : List ℕ} {p : ℕ} {t k : List ℕ} {q : ℕ} → Placed l at s m p → Placed m p t k q
      → Placed l at (s ++ t) k q
  placed_then {s} {m} {p} {t} {k} f g = record {
    puts = g.puts ∙ ap (λ (n : ℕ). sets m n t) f.ends
        ∙ ap (λ (b : List ℕ). sets b (at + length s) t) f.puts ∙ sets_append s t l at;
    ends = omega (arith, f.ends, g.ends, length-append s t);
  }

  pub placed_length : {s m : List ℕ} {p : ℕ} → Placed l at s m p → length m ≡ length l
  placed_length {s} f = ap length f.puts ∙ length-sets l at s

  -- the same text
  pub placed_as : {s t m : List ℕ} {p : ℕ} → s ≡ t → Placed l at s m p → Placed l at t m p
  placed_as {m = m} {p} e f = subst (λ (s : List ℕ). Placed l at s m p) e f

  -- any two outcomes that a promise admits are equal
  pub placed_once : {s m k : List ℕ} {p q : ℕ} → Placed l at s m p → Placed l at s k q → (m ≡ k) × (p ≡ q)
  placed_once f g = (f.puts ∙ sym g.puts, f.ends ∙ sym g.ends)

-- nothing is put
pub puts_none : {a : Text} → Puts a [] a
puts_none = record { placed = placed_none; same_reference = refl }

module _ {a b : Text} {s : List ℕ} (f : Puts a s b) where
  pub puts_then : {c : Text} {t : List ℕ} → Puts b t c → Puts a (s ++ t) c
  puts_then g = record {
    placed = placed_then f.placed g.placed;
    same_reference = g.same_reference ∙ f.same_reference;
  }

  pub puts_as : {t : List ℕ} → s ≡ t → Puts a t b
  puts_as e = record { placed = placed_as e f.placed; same_reference = f.same_reference }

  -- what is left of the lent bytes
  pub puts_left : (length b.bytes.now ≡ length a.bytes.now) × (b.at ≡ a.at + length s)
  puts_left = (placed_length f.placed, f.placed.ends)
