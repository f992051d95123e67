-- A rule's bodies at the start of some words, as the loops over its nodes ask for them, and what they answer.
-- Assumes nothing.
use Rattle.std.specs.Prelude.{◌≡◌, List, [], ℕ, ◌<◌, ◌≤◌, ℤ, pos, length, get_or, drop, Option, Some, None}
use Rattle.rules.specs.Sum.{Sum, factor, negate, put}
use Rattle.rules.specs.Rule.{positive, Rule}
use Rattle.rules.specs.Table.{most_words}
use Rattle.rules.specs.Literals.{gather}
use Rattle.rules.specs.Steps.{bound_of}
use Rattle.rules.specs.Eliminate.{most_period}
use Rattle.rules.specs.Laws.{WellFormed, InTable}
use Rattle.rules.proofs.Sizes.{weight}
use Rattle.tables.specs.Standing.{BodyAt, Bodied}

-- the words bs begin with the bodies of the rule a, the first of them that of node n, and end is the place behind them
pub record BodyOf (bs : List ℤ) (end n : ℕ) (a : Rule) : Type 0 where
  pub bodied : Bodied bs n a
  pub formed : WellFormed a
  pub ends : end ≡ weight a

pub record SomeBody (bs : List ℤ) (end : ℕ) : Type 0 where
  pub number : ℕ
  pub rule : Rule
  pub body : BodyOf bs end number rule
  pub few : length bs ≤ most_words

-- what is said of every rule that has these bodies
abbrev pub WhicheverRule : List ℤ → ℕ → (Rule → Type 0) → Type 0
WhicheverRule bs end Q = (n : ℕ) (a : Rule) → BodyOf bs end n a → Q a

-- ---- D and P, held to "4,096"

unfoldable pub Bounded : ℕ → Option ℕ → Type 0
Bounded n (Some m) = (m ≡ n) × (n ≤ most_period)
Bounded n None = most_period < n

-- ---- "A literal 0 < x+r gives the bound −r"

-- at place p of the words bs stands a literal 0 < x+r, whose bound is u
pub record BoundAt (bs : List ℤ) (x p : ℕ) (u : Sum) : Type 0 where
  pub node : ℕ
  pub sum : Sum
  pub stands : BodyAt (drop p bs) node positive sum
  pub formed : InTable positive sum
  pub lower : factor x sum ≡ pos 1
  pub bound_is : u ≡ negate (put x (pos 0) sum)

-- the first k numbers of a list are the places of literals that give the bounds us
pub record BoundsAt (bs : List ℤ) (x : ℕ) (places : List ℕ) (k : ℕ) (us : List Sum) : Type 0 where
  pub as_many : k ≡ length us
  pub held : k ≤ length places
  pub each : (i : ℕ) → i < k → BoundAt bs x (get_or places i 0) (get_or us i [])

-- a place for each literal that gives a bound
abbrev pub RoomForBounds : List ℤ → ℕ → ℕ → ℕ → Type 0
RoomForBounds bs end x room = WhicheverRule bs end (λ a. length (gather (bound_of x) a) ≤ room)
