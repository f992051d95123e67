-- What stands in the words of a literal's body: its kind, its divisor and its sum.
-- Assumes nothing.
use mathlib.Core.Path.{◌≡◌, sym, ◌∙◌, ap}
use mathlib.Core.Bool.{Bool, true, false}
use mathlib.Core.List.{List, ◌++◌}
use Prim.Native.Nat.{ℕ, ◌+◌, ◌<◌}
use native.Mathlib.Nat.{add-zero}
use lib.IntN.{ℤ, pos}
use lib.ListN.{length, get_or, drop, get_or-append}
use lib.Seq.{drop-drop, get_or-drop}
use Rattle.rules.specs.Sum.{Sum}
use Rattle.rules.specs.Rule.{Test, positive, divisible, is_zero}
use Rattle.rules.specs.Table.{body}
use Rattle.rules.proofs.Sizes.{before_sum}
use Rattle.tables.proofs.Inversion.{test_kind, BodyAt}

module _ (bs : List ℤ) (p : ℕ) where
  word_at : (i : ℕ) (l : List ℤ) → drop p bs ≡ l → get_or bs (p + i) (pos 0) ≡ get_or l i (pos 0)
  word_at i l e = sym (get_or-drop p bs i (pos 0)) ∙ ap (λ (ws : List ℤ). get_or ws i (pos 0)) e

  pub first_at : (l : List ℤ) → drop p bs ≡ l → get_or bs p (pos 0) ≡ get_or l 0 (pos 0)
  first_at l e = sym (ap (λ (m : ℕ). get_or bs m (pos 0)) (add-zero p)) ∙ word_at 0 l e

module _ (bs : List ℤ) (p : ℕ) {n : ℕ} {s : Sum} where
  pub kind_word : (t : Test) → BodyAt (drop p bs) n t s → get_or bs p (pos 0) ≡ pos (test_kind t)
  unfolding body
  kind_word positive b = first_at bs p _ b.begins
  kind_word (divisible true k) b = first_at bs p _ b.begins
  kind_word (divisible false k) b = first_at bs p _ b.begins
  kind_word is_zero b = first_at bs p _ b.begins

  pub divisor_word : (c : Bool) (k : ℕ) → BodyAt (drop p bs) n (divisible c k) s → get_or bs (p + 1) (pos 0) ≡ pos k
  unfolding body
  divisor_word true k b = word_at bs p 1 _ b.begins
  divisor_word false k b = word_at bs p 1 _ b.begins

  -- the sum stands behind the kind, or behind the divisor
  sum_starts : (t : Test) (b : BodyAt (drop p bs) n t s) → drop (p + before_sum t) bs ≡ s ++ b.after
  unfolding body before_sum
  sum_starts positive b = sym (drop-drop 1 p bs) ∙ ap (drop 1) b.begins
  sum_starts (divisible true k) b = sym (drop-drop 2 p bs) ∙ ap (drop 2) b.begins
  sum_starts (divisible false k) b = sym (drop-drop 2 p bs) ∙ ap (drop 2) b.begins
  sum_starts is_zero b = sym (drop-drop 1 p bs) ∙ ap (drop 1) b.begins

  pub sum_word : (t : Test) → BodyAt (drop p bs) n t s → (i : ℕ) → i < length s
      → get_or bs (p + before_sum t + i) (pos 0) ≡ get_or s i (pos 0)
  sum_word t b i h =
      sym (get_or-drop (p + before_sum t) bs i (pos 0))
      ∙ ap (λ (ws : List ℤ). get_or ws i (pos 0)) (sum_starts t b) ∙ get_or-append s b.after (pos 0) i h
