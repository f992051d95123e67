-- What stands in a buffer in which a step table is built from the back.
-- Assumes nothing.
use Rattle.std.specs.Prelude.{◌≡◌, Bool, true, false, List, [], ◌∷◌, ◌++◌, ℕ, ◌+◌, ◌-◌, ◌<◌, ◌≤◌, ℤ, length, drop}
use Rattle.rules.specs.Rule.{Junction, and, or, Quantifier, for_some, for_all, Test, positive, is_zero}
use Rattle.rules.specs.Table.{Node, most_words, body}
use Rattle.rules.proofs.Sizes.{total}
use Rattle.builder.specs.declared.push.State.{State}

-- the words l, u of them: the last ones, as many as there is room for, are the last words of the buffer ws
pub record Ends (ws : List ℤ) (u : ℕ) (l : List ℤ) : Type 0 where
  pub long : u ≡ length l
  pub last : drop (length ws - u) ws ≡ drop (u - length ws) l

-- the words of nodes that have no numbers yet: a right child is given by its distance
unfoldable pub unplaced : List Node → List ℤ
unfolding body
unplaced [] = []
unplaced (d ∷ ds) = body 0 d ++ unplaced ds

-- the nodes ds are built: the buffer ends with their words, and the state counts both
pub record Built (ws : List ℤ) (b : State) (ds : List Node) : Type 0 where
  pub counted : b.nodes ≡ length ds
  pub ends : Ends ws b.used (unplaced ds)

-- ---- what a push asks

-- both counts stay below this, so that they and their sums are numbers of the machine
abbrev pub most_counted : ℕ
most_counted = 1152921504606846976

-- n more words, and a node, can be counted
pub record Countable (b : State) (n : ℕ) : Type 0 where
  pub words : b.used + n < most_counted
  pub nodes : b.nodes < most_counted

-- the nodes ds are built, and so many words more can be counted
pub record Building (ws : List ℤ) (b : State) (ds : List Node) (more : ℕ) : Type 0 where
  pub built : Built ws b ds
  pub small : total ds + more < most_counted
  pub room : length ws ≤ most_words

-- ---- which node a truth value stands for

unfoldable pub junction : Bool → Junction
junction true = and
junction false = or

unfoldable pub quantifier : Bool → Quantifier
quantifier true = for_some
quantifier false = for_all

-- true: T = 0; false: 0 < T
unfoldable pub compared : Bool → Test
compared true = is_zero
compared false = positive
