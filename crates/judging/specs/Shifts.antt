-- T at x = w is T + f·(w − x), word by word, where f is the factor of x in T.
-- Assumes nothing.
use Rattle.std.specs.Prelude.{◌≡◌, List, ℕ, ◌+◌, ◌<◌, ◌≤◌, ℤ, pos, nat_abs, ◌+ℤ◌, ◌*ℤ◌, length, get_or}
use Rattle.rules.specs.Sum.{Sum, add, negate, setting}
use Rattle.literals.specs.Literal.{SomeLiteral}
use Rattle.literals.specs.Rows.{most_word, most_put}
use Rattle.literals.specs.Changes.{InRange}
use Rattle.judging.specs.Judging.{Sized}

-- w − x
unfoldable pub less : ℕ → Sum → Sum
unfolding add negate setting
less x w = add w (negate (setting x))

-- v is w − x, of seven words
pub record Shifted (x : ℕ) (w v : Sum) : Type 0 where
  pub seven : length w ≡ 7
  pub is : v ≡ less x w

-- the most that a word of T + f·(u + j − x) comes to
abbrev pub most_moved : ℕ
most_moved = 4611694816667893760

-- what reading a word of T + f·v asks, where T starts at word `at`
pub record Reach (ws : List ℤ) (at : ℕ) (f : ℤ) (v : Sum) : Type 0 where
  pub long : at + 7 ≤ length ws
  pub small : nat_abs f ≤ most_word
  pub shift : Sized most_put v

-- the sum z has the factors of T + f·v
pub record Moves (ws : List ℤ) (at : ℕ) (f : ℤ) (v z : Sum) : Type 0 where
  pub seven : length z ≡ 7
  pub each : (i : ℕ) → 1 ≤ i → i < 7 → get_or z i (pos 0) ≡ get_or ws (at + i) (pos 0) +ℤ f *ℤ get_or v i (pos 0)

-- some literal stands there, and v is small enough
pub record SomeMoved (ws : List ℤ) (x : ℕ) (v : Sum) : Type 0 where
  pub literal : SomeLiteral ws
  pub setting : InRange x
  pub shift : Sized most_put v
