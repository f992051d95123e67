-- A rule is the tree that a table stands for, with a constructor for each line of the paper's kinds, the literals
-- under one with the test that they make of their T. Its meaning at a choice is a type.
-- Assumes nothing.
use Rattle.std.specs.Prelude.{◌≡◌, ◌⊎◌, Bool, true, false, not, ℕ, T, ℤ, pos, ◌<ℤ◌}
use Rattle.std.specs.Int.Signed.{lt_z}
use Rattle.whole.specs.Integers.{eq_ℤ}
use Rattle.whole.specs.Divides.{Divides, divides}
use Rattle.rules.specs.Sum.{Sum, Choice, with, value}

pub data Junction : Type 0 where
  and or : Junction

pub data Quantifier : Type 0 where
  for_some for_all : Quantifier

-- 0 < T (kind 5); k divides T, k does not (kinds 6 and 7, true and false here); T = 0 (kind 10)
pub data Test : Type 0 where
  positive : Test
  divisible : Bool → ℕ → Test
  is_zero : Test

pub data Rule : Type 0 where
  Constant : Bool → Rule
  Join : Junction → Rule → Rule → Rule
  Not : Rule → Rule
  Literal : Test → Sum → Rule
  Bind : Quantifier → ℕ → Rule → Rule

abbrev pub True : Rule
True = Constant true

abbrev pub False : Rule
False = Constant false

abbrev pub And : Rule → Rule → Rule
And a b = Join and a b

abbrev pub Or : Rule → Rule → Rule
Or a b = Join or a b

abbrev pub Some : ℕ → Rule → Rule
Some v a = Bind for_some v a

abbrev pub All : ℕ → Rule → Rule
All v a = Bind for_all v a

-- ---- the meaning

abbrev pub Joined : Junction → Type 0 → Type 0 → Type 0
Joined and A B = A × B
Joined or A B = A ⊎ B

-- A, or its opposite
abbrev pub Whether : Bool → Type 0 → Type 0
Whether true A = A
Whether false A = ¬ A

-- "Quantifiers range over all integers."
abbrev pub Ranges : Quantifier → (ℤ → Type 0) → Type 0
Ranges for_some A = (z : ℤ) × A z
Ranges for_all A = (z : ℤ) → A z

-- what a test asks of the value of its T
abbrev pub Passes : Test → ℤ → Type 0
Passes positive z = pos 0 <ℤ z
Passes (divisible b k) z = Whether b (Divides k z)
Passes is_zero z = z ≡ pos 0

-- "A setting bound twice belongs to the inner quantifier": the inner one chooses last
unfoldable pub Holds : Rule → Choice → Type 0
Holds (Constant b) ρ = T b
Holds (Join j a b) ρ = Joined j (Holds a ρ) (Holds b ρ)
Holds (Not a) ρ = ¬ Holds a ρ
Holds (Literal t s) ρ = Passes t (value s ρ)
Holds (Bind q v a) ρ = Ranges q (λ z. Holds a (with v z ρ))

-- ---- the tests, computed

abbrev pub whether : Bool → Bool → Bool
whether true b = b
whether false b = not b

abbrev pub passes : Test → ℤ → Bool
passes positive z = lt_z (pos 0) z
passes (divisible b k) z = whether b (divides k z)
passes is_zero z = eq_ℤ z (pos 0)
