-- The kind of a literal, with whose number its body begins.
-- Assumes nothing.
use Rattle.std.proofs.Common.{◌≡◌, true, false, List, ℕ, ℤ, ◌+◌, pos, get_or, refl, sym, ap, ◌∙◌, arith}
use Rattle.rules.specs.Sum.{Sum}
use Rattle.rules.specs.Rule.{Test, positive, divisible, is_zero}
use Rattle.rules.proofs.Sizes.{before_sum}
use Rattle.tables.specs.Reads.{widths}
use Rattle.tables.specs.Reads as reads
use Rattle.tables.specs.Kinds.{number_of, Kinded, test_kind}
use Rattle.tables.specs.declared.kind.Kind.{Kind}
use Rattle.tables.proofs.RootKinds.{same_kind}
use Rattle.bodies.specs.Cursor.{LiteralAt}
use Rattle.bodies.proofs.LiteralWords.{kind_word}
use Rattle.bodies.proofs.CursorLaws.{literal_inside}

same_number : (t : Test) → reads.test_kind t ≡ number_of (test_kind t)
unfolding number_of test_kind
same_number positive = refl
same_number (divisible true k) = refl
same_number (divisible false k) = refl
same_number is_zero = refl

as_wide : (t : Test) → get_or widths (number_of (test_kind t)) 0 ≡ before_sum t + 7
unfolding number_of test_kind before_sum
as_wide positive = refl
as_wide (divisible true k) = refl
as_wide (divisible false k) = refl
as_wide is_zero = refl

module _ {bs : List ℤ} {p end : ℕ} {t : Test} {s : Sum} {ls : List (Test × Sum)} (l : LiteralAt bs p end t s ls) where
  kind_first : get_or bs p (pos 0) ≡ pos (number_of (test_kind t))
  kind_first = kind_word bs p t l.stands ∙ ap pos (same_number t)

  pub kinded : Kinded bs p
  kinded = record { there = omega (arith, literal_inside l); kind = test_kind t; numbered = kind_first }

  module _ (k : Kind) (read : get_or bs p (pos 0) ≡ pos (number_of k)) where
    pub kind_is : k ≡ test_kind t
    kind_is = same_kind k (test_kind t)
        (let same : pos (number_of k) ≡ pos (number_of (test_kind t)) = sym read ∙ kind_first in cc)

    pub wide_is : (w : ℕ) → w ≡ get_or widths (number_of k) 0 → w ≡ before_sum t + 7
    wide_is w wide = wide ∙ ap (λ (k : Kind). get_or widths (number_of k) 0) kind_is ∙ as_wide t
