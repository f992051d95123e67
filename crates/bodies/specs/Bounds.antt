-- What keeping a bound asks for, and what the tests on the way answer.
-- Assumes nothing.
use Rattle.std.specs.Prelude.{◌≡◌, Bool, true, false, List, [], ◌++◌, ℕ, ◌+◌, ◌<◌, ◌≤◌, ℤ, pos, length, get_or}
use Rattle.rules.specs.Sum.{Sum, factor}
use Rattle.rules.specs.Rule.{Test, positive}
use Rattle.rules.specs.Steps.{bound_of, once}
use Rattle.rules.specs.Calls.{signed}
use Rattle.bodies.specs.Body.{BoundsAt}
use Rattle.bodies.specs.Cursor.{LiteralAt, SomeLiteral}
use Rattle.bodies.specs.declared.bound.Bound.{Bound}

-- ---- the literals that give a bound

-- a literal is 0 < x+r; or it gives no bound
unfoldable pub GivesBound : ℕ → Test → Sum → Bool → Type 0
GivesBound x t s true = (t ≡ positive) × (factor x s ≡ pos 1)
GivesBound x t s false = bound_of x t s ≡ []

-- ---- a bound

-- the same seven words stand behind the words at two places
abbrev pub Alike : List ℤ → ℕ → ℕ → Type 0
Alike bs p q = (i : ℕ) → 1 ≤ i → i < 8 → get_or bs (p + i) (pos 0) ≡ get_or bs (q + i) (pos 0)

-- at its place is room for a literal, whose constant it has
pub record OfLiteral (bs : List ℤ) (b : Bound) : Type 0 where
  pub inside : b.place + 8 ≤ length bs
  pub fits : b.constant < 4294967296
  pub constant_is : get_or bs (b.place + 1) (pos 0) ≡ signed b.constant

-- what stands past a list's end
abbrev pub none : Bound
none = record { place = 0; constant = 0 }

-- r is the first place of b in a list
abbrev pub First : List ℤ → List Bound → Bound → ℕ → Type 0
First bs bounds b r =
    (r < length bounds) × Alike bs (get_or bounds r none).place b.place
    × ((j : ℕ) → j < r → ¬ Alike bs (get_or bounds j none).place b.place)

-- some bound of a list is the same as b
abbrev pub Known : List ℤ → List Bound → Bound → Type 0
Known bs bounds b = (i : ℕ) × (i < length bounds) × Alike bs (get_or bounds i none).place b.place

-- ---- the bounds that are kept

-- the first k give the bounds us, and so do their places
pub record Kept (bs : List ℤ) (x : ℕ) (bounds : List Bound) (places : List ℕ) (k : ℕ) (us : List Sum) : Type 0 where
  pub at : BoundsAt bs x places k us
  pub held : k ≤ length bounds
  pub place_is : (i : ℕ) → i < k → (get_or bounds i none).place ≡ get_or places i 0
  pub each : (i : ℕ) → i < k → OfLiteral bs (get_or bounds i none)

-- a literal that gives a bound stands at place p, the first k give the bounds found before, and there is room for its
-- own
pub record SomeKept (bs : List ℤ) (p : ℕ) (bounds : List Bound) (places : List ℕ) (k : ℕ) : Type 0 where
  pub setting : ℕ
  pub end : ℕ
  pub literal : SomeLiteral bs p end
  pub gives : GivesBound setting literal.test literal.sum true
  pub found : List Sum
  pub kept : Kept bs setting bounds places k (once found)
  pub room : k < length bounds
  pub room_for_place : k < length places

-- whatever the first k gave, with the bound of the literal at place p it is what the first r of the new lists give
abbrev pub KeptWith : List ℤ → ℕ → List Bound → List ℕ → ℕ → List Bound → List ℕ → ℕ → Type 0
KeptWith bs p bounds places k new_bounds new_places r =
    (x end : ℕ) (t : Test) (s : Sum) (ls : List (Test × Sum)) (found : List Sum)
    → LiteralAt bs p end t s ls → GivesBound x t s true
    → Kept bs x bounds places k (once found) → Kept bs x new_bounds new_places r (once (found ++ bound_of x t s))
