-- A sum T of a table as step 1 puts it into a literal: T or −T, and with `one` one more.
-- Assumes nothing.
use Rattle.std.specs.Prelude.{◌≡◌, Bool, true, false, ◌&&◌, Option, Some, None, List, ℕ, ◌+◌, ◌≤◌, T, ℤ, pos, ◌+ℤ◌}
use Rattle.std.specs.Prelude.{length, take, drop}
use Rattle.whole.specs.Integers.{eq_ℤ}
use Rattle.rules.specs.Sum.{Sum, limit, all_within, negate, one_plus}
use Rattle.rules.specs.Rule.{Test}
use Rattle.literals.specs.Literal.{Fair, Marked, start_of}

unfoldable pub turned : Bool → Sum → Sum
unfolding negate
turned false s = s
turned true s = negate s

unfoldable pub raised : Bool → Sum → Sum
unfolding one_plus
raised false s = s
raised true s = one_plus s

-- c of such a sum, and whether it passes the limit
unfoldable pub raise : Bool → ℤ → ℤ
raise false c = c
raise true c = pos 1 +ℤ c

abbrev pub passes_limit : Bool → ℤ → Bool
passes_limit one c = one && eq_ℤ c (pos limit)

-- it is c of such a sum; none: that passes the limit
abbrev pub RaiseOf : Bool → ℤ → Option ℤ → Type 0
RaiseOf one c None = passes_limit one c ≡ true
RaiseOf one c (Some z) = (passes_limit one c ≡ false) × (z ≡ raise one c)

-- the seven words of s, as a table can hold them, stand from word `at` on
pub record SumAt (ws : List ℤ) (at : ℕ) (s : Sum) : Type 0 where
  pub inside : at + 7 ≤ length ws
  pub begins : take 7 (drop at ws) ≡ s
  pub long : length s ≡ 7
  pub small : T (all_within limit s)

pub record SomeSum (ws : List ℤ) (at : ℕ) : Type 0 where
  pub sum : Sum
  pub there : SumAt ws at sum

-- a test of this kind and this divisor, whose T stands where that of such a literal does
pub record TestAt (ws : List ℤ) (kind k : ℕ) (t : Test) (s : Sum) : Type 0 where
  pub marked : Marked kind k t
  pub fair : Fair t
  pub sum : SumAt ws (start_of t) s

pub record SomeTestAt (ws : List ℤ) (kind k : ℕ) : Type 0 where
  pub test : Test
  pub sum : Sum
  pub there : TestAt ws kind k test sum
