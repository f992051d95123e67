-- What becomes of a literal in a step that keeps the shape of the body: nothing, or it is scaled, or a sum u is put in
-- for the setting x, in the far-left body or in the full one.
-- Assumes nothing.
use Rattle.std.specs.Prelude.{◌≡◌, Bool, Option, Some, None, List, ℕ, ◌≤◌, T, ℤ, pos, length}
use Rattle.rules.specs.Sum.{Sum, number, factor, scale, put, limit, all_within}
use Rattle.rules.specs.Rule.{Test, positive, divisible, is_zero, Rule, Constant, Literal}
use Rattle.rules.specs.Steps.{multiplier, times, sign, scale_literal, far_literal, sum_at, body_at}
use Rattle.rules.specs.Eliminate.{most_period}
use Rattle.literals.specs.Literal.{SomeLiteral}
use Rattle.literals.specs.Rows.{most_put}
use Rattle.literals.specs.declared.change.Change.{Change as Put}
use Rattle.literals.specs.declared.change.Change.TheVariants.{Same as PutSame, Scaled as PutScaled, Far as PutFar, Full as PutFull}
use Rattle.literals.specs.declared.row.Row.{Row}
use Rattle.literals.specs.declared.row.Row.TheVariants.{Times, Plus}

-- nothing; scaled to the common factor D for the setting x; u put in for x, in the far-left body or in the full one
pub data Change : Type 0 where
  Same : Change
  Scaled : (D x : ℕ) → Change
  Far : (x : ℕ) → Change
  Full : (x : ℕ) → Change

-- the change that the code names, and the sum that it puts in; 0 where it puts in none
abbrev pub change_of : Put → Change
change_of PutSame = Same
change_of (PutScaled D x) = Scaled D x
change_of (PutFar x u) = Far x
change_of (PutFull x u) = Full x

abbrev pub put_of : Put → Sum
put_of PutSame = number (pos 0)
put_of (PutScaled D x) = number (pos 0)
put_of (PutFar x u) = u.now
put_of (PutFull x u) = u.now

-- what becomes of the literal that makes the test t of the sum s
unfoldable pub becomes : Change → Sum → Test → Sum → Rule
unfolding scale_literal body_at far_literal sum_at
becomes Same u t s = Literal t s
becomes (Scaled D x) u t s = scale_literal D x t s
becomes (Far x) u t s = body_at x u (far_literal x t s)
becomes (Full x) u t s = Literal t (sum_at x u s)

abbrev pub InRange : ℕ → Type 0
InRange x = (1 ≤ x) × (x ≤ 6)

-- a common factor that is not refused, a setting of the table
unfoldable pub Fair : Change → Type 0
Fair Same = Unit {0}
Fair (Scaled D x) = InRange x × (1 ≤ D) × (D ≤ most_period)
Fair (Far x) = InRange x
Fair (Full x) = InRange x

pub record Usable (c : Change) (u : Sum) : Type 0 where
  pub seven : length u ≡ 7
  pub small : T (all_within most_put u)
  pub fair : Fair c

-- ---- the literal that comes of it, where none of the far-left body's truth values does

unfoldable pub changed_sum : Change → Sum → Sum → Sum
unfolding multiplier scale put sum_at
changed_sum Same u s = s
changed_sum (Scaled D x) u s = put x (sign (factor x s)) (scale (pos (multiplier D x s)) s)
changed_sum (Far x) u s = sum_at x u s
changed_sum (Full x) u s = sum_at x u s

unfoldable pub changed_test : Change → Sum → Test → Test
unfolding multiplier
changed_test Same s t = t
changed_test (Scaled D x) s t = times (multiplier D x s) t
changed_test (Far x) s t = t
changed_test (Full x) s t = t

-- the divisor of a test, 0 where it has none
abbrev pub divisor_or_none : Test → ℕ
divisor_or_none positive = 0
divisor_or_none (divisible b k) = k
divisor_or_none is_zero = 0

-- whatever sum is put in, the change makes this truth value of the literal, or leaves it one
unfoldable pub Settles : Change → Test → Sum → Option Bool → Type 0
unfolding becomes changed_sum changed_test
Settles c t s (Some v) = (u : Sum) → becomes c u t s ≡ Constant v
Settles c t s None = (u : Sum) → becomes c u t s ≡ Literal (changed_test c s t) (changed_sum c u s)

-- what it does to each word
unfoldable pub row_of : Put → Sum → Row
unfolding multiplier
row_of PutSame s = Times 7 (pos 0) 1
row_of (PutScaled D x) s = Times x (sign (factor x s)) (multiplier D x s)
row_of (PutFar x u) s = Plus x (factor x s) u
row_of (PutFull x u) s = Plus x (factor x s) u

-- some literal stands there, and what becomes of it is a literal whose numbers lie within the limit
pub record SomeChanged (ws : List ℤ) (c : Change) (u : Sum) : Type 0 where
  pub literal : SomeLiteral ws
  pub usable : Usable c u
  pub within : T (all_within limit (changed_sum c u literal.sum))
