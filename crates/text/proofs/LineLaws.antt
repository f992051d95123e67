-- A line put number by number.
-- Assumes nothing.
use mathlib.Core.Path.{◌≡◌, refl, sym, ◌∙◌, ap}
use mathlib.Core.List.{List, [], ◌∷◌, ◌++◌, append_assoc, append-nil}
use Prim.Native.Nat.{ℕ, ◌+◌, ◌*◌, ◌<◌, ◌≤◌, ◌^◌}
use native.Mathlib.Numerals.{add-one}
use native.Mathlib.Omega.{arith}
use lib.IntN.{ℤ, pos}
use lib.ListN.{length, get_or, take}
use lib.Seq.{take-suc, take_all}
use mir.Syntax.{w32, w64}
use mir.Val.{SFits, to_z, of_z}
use mir.Facts.{to_z-of_z, sfits_widen}
use Rattle.text.specs.Decimal.{decimal, number}
use Rattle.text.specs.Lines.{spaced, line}
use Rattle.text.specs.Placed.{Puts}
use Rattle.text.specs.declared.lent.Text.{Text}
use Rattle.text.proofs.PlacedLaws.{puts_none, puts_then, puts_as, puts_left}
use Rattle.text.proofs.DecimalLaws.{few_of_word, few_of_whole}

-- ---- one number behind a space

pub spaced_one : (z : ℤ) → (32 ∷ []) ++ number z ≡ spaced (z ∷ [])
unfolding spaced
spaced_one z = ap (λ (s : List ℕ). 32 ∷ s) (sym (append-nil (number z)))

pub length_spaced : (z : ℤ) → length (spaced (z ∷ [])) ≡ 1 + length (number z)
length_spaced z = omega (arith, ap length (sym (spaced_one z)))

pub few_behind_word : (n : ℕ) → n < 2 ^ 32 → length (spaced (pos n ∷ [])) ≤ 11
unfolding number
few_behind_word n h = omega (arith, length_spaced (pos n), few_of_word n h)

pub few_behind_whole : (z : ℤ) → SFits w32 z → length (spaced (z ∷ [])) ≤ 12
few_behind_whole z f = omega (arith, length_spaced z, few_of_whole z f)

-- a word, as it is handed on in 64 bits
pub word_again : {y z : ℤ} → SFits w32 z → y ≡ to_z w32 (of_z w32 z) → to_z w64 (of_z w64 y) ≡ z
word_again f e =
    ap (λ (x : ℤ). to_z w64 (of_z w64 x)) (e ∙ to_z-of_z f) ∙ to_z-of_z {w = w64} (sfits_widen tt f)

spaced_append : (ws vs : List ℤ) → spaced (ws ++ vs) ≡ spaced ws ++ spaced vs
unfolding spaced
spaced_append [] vs = refl
spaced_append (w ∷ ws) vs =
    ap (λ (s : List ℕ). (32 ∷ number w) ++ s) (spaced_append ws vs)
    ∙ sym (append_assoc (32 ∷ number w) (spaced ws) (spaced vs))

-- ---- of a line's numbers, behind its first, i are put: each with at most k characters
pub record NumbersPut (k : ℕ) (ws : List ℤ) (i : ℕ) (a b : Text) : Type 0 where
  pub puts : Puts a (spaced (take i ws)) b
  pub short : b.at ≤ a.at + k * i
  pub long : length b.bytes.now ≡ length a.bytes.now

pub none_put : {k : ℕ} {ws : List ℤ} {a : Text} → NumbersPut k ws 0 a a
unfolding spaced
none_put = record { puts = puts_none; short = omega arith; long = refl }

module _ {k : ℕ} {ws : List ℤ} {i : ℕ} {a b : Text} (f : NumbersPut k ws i a b) where
  pub one_more : {c : Text} (z : ℤ) → i < length ws → get_or ws i (pos 0) ≡ z → Puts b (spaced (z ∷ [])) c
      → length (spaced (z ∷ [])) ≤ k → NumbersPut k ws (i + 1) a c
  one_more z h e g few =
      let here = ap (λ (y : ℤ). take i ws ++ (y ∷ [])) e in
      let all = ap (λ (n : ℕ). take n ws) (add-one i) ∙ take-suc ws i (pos 0) h ∙ here in
      record {
        puts = puts_as (puts_then f.puts g) (sym (ap spaced all ∙ spaced_append (take i ws) (z ∷ [])));
        short = omega (arith, f.short, g.placed.ends, few);
        long = omega (arith, f.long, puts_left g);
      }

  -- the first number, the others and the end
  pub all_put : {o d : Text} (n : ℕ) → length ws ≤ i → Puts o (decimal n) a → Puts b (10 ∷ []) d
      → Puts o (line (pos n) ws) d
  unfolding line number
  all_put n h g e = puts_then (puts_then g (puts_as f.puts (ap spaced (take_all i ws h)))) e
