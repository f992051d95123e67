-- The literals that give a bound: which they are, by the words of their bodies.
-- Assumes nothing.
use mathlib.Core.Path.{◌≡◌, refl, sym, ◌∙◌, ap, subst}
use mathlib.Core.Bool.{Bool, true, false}
use mathlib.Core.List.{List, [], ◌∷◌}
use Prim.Native.Nat.{ℕ, ◌+◌, ◌≤◌}
use native.Mathlib.Omega.{arith}
use lib.Dec.{T, eqb, eqb→eq, eqb_refl}
use lib.IntN.{ℤ, pos}
use lib.ListN.{get_or, drop}
use Rattle.whole.specs.Integers.{eq_ℤ}
use Rattle.whole.proofs.Tests.{cond_ind, eq_ℤ→eq}
use Rattle.rules.specs.Sum.{Sum, factor, negate, put}
use Rattle.rules.specs.Rule.{Test, positive, divisible, is_zero}
use Rattle.rules.specs.Steps.{bound_of}
use Rattle.rules.specs.Calls.{signed}
use Rattle.rules.proofs.Sizes.{before_sum}
use Rattle.tables.specs.Kinds.{test_kind}
use Rattle.tables.specs.declared.kind.Kind.TheVariants as kind
use Rattle.tables.proofs.WordLaws.{number_of}
use Rattle.tables.proofs.Inversion.{BodyAt}
use Rattle.bodies.specs.Cursor.{LiteralAt}
use Rattle.bodies.specs.Bounds.{GivesBound}
use Rattle.bodies.proofs.LiteralWords.{sum_word}

pub gives_none : (x : ℕ) (t : Test) (s : Sum) → ¬ (test_kind t ≡ kind.Positive) → GivesBound x t s false
unfolding GivesBound bound_of test_kind
gives_none x positive s f = absurd (f refl)
gives_none x (divisible b d) s f = refl
gives_none x is_zero s f = refl

is_positive : (t : Test) → test_kind t ≡ kind.Positive → t ≡ positive
unfolding test_kind
is_positive positive e = refl
is_positive (divisible true d) e = cc
is_positive (divisible false d) e = cc
is_positive is_zero e = cc

factor_not_one : (x : ℕ) (t : Test) (s : Sum) → ¬ (factor x s ≡ pos 1) → bound_of x t s ≡ []
unfolding bound_of
factor_not_one x positive s f =
    cond_ind (eq_ℤ (factor x s) (pos 1)) (negate (put x (pos 0) s) ∷ []) [] (λ (m : List Sum). m ≡ [])
    (λ t. absurd (f (eq_ℤ→eq (factor x s) (pos 1) t))) (λ t. refl)
factor_not_one x (divisible b k) s f = refl
factor_not_one x is_zero s f = refl

module _ {bs : List ℤ} {p end : ℕ} {t : Test} {s : Sum} {ls : List (Test × Sum)} (l : LiteralAt bs p end t s ls)
    (five : test_kind t ≡ kind.Positive) (x : ℕ) (within : x ≤ 6)
    (u : ℕ) (word : get_or bs (p + 1 + x) (pos 0) ≡ signed u) where
  factor_word : factor x s ≡ signed u
  unfolding before_sum
  factor_word =
      let at = subst (λ (t : Test). BodyAt (drop p bs) l.node t s) (is_positive t five) l.stands in
      sym (sum_word bs p positive at x (omega (arith, within, l.formed.0))) ∙ word

  gives_one : u ≡ 1 → GivesBound x t s true
  unfolding GivesBound
  gives_one e = (is_positive t five, factor_word ∙ ap signed e)

  gives_other : ¬ (u ≡ 1) → GivesBound x t s false
  unfolding GivesBound
  gives_other f = factor_not_one x t s (λ e. f (number_of u 1 (sym factor_word ∙ e)))

  pub gives_factor : GivesBound x t s (eqb u 1)
  gives_factor = by (eqb u 1) refl
    where
      by : (b : Bool) → eqb u 1 ≡ b → GivesBound x t s b
      by true e = gives_one (eqb→eq u 1 (subst T (sym e) tt))
      by false e = gives_other (λ i. subst T e (subst (λ (m : ℕ). T (eqb u m)) i (eqb_refl u)))
