-- What finishing asks for: a rule is all that is built, and its table has room in both buffers.
-- Assumes nothing.
use Rattle.std.specs.Prelude.{◌≡◌, List, ◌++◌, ℕ, ◌+◌, ◌≤◌, ℤ, pos, length, drop}
use Rattle.rules.specs.Rule.{Rule}
use Rattle.rules.specs.Table.{Node, constant_node, join_node, not_node, literal_node, bind_node}
use Rattle.rules.specs.Table.{most_words, body, width, nodes, size}
use Rattle.rules.specs.Laws.{WellFormed}
use Rattle.rules.proofs.Encoding.{Good}
use Rattle.builder.specs.Built.{Built}
use Rattle.builder.specs.declared.push.State.{State}
use Rattle.finishing.specs.Placing.{Free}

-- the rule r is all that is built at the end of ws, and its table has room there and in ts
pub record Finishable (ws : List ℤ) (b : State) (ts : List ℤ) (r : Rule) : Type 0 where
  pub built : Built ws b (nodes r)
  pub formed : WellFormed r
  pub most : size r ≤ most_words
  pub room_here : size r ≤ length ws
  pub room_there : size r ≤ length ts

pub record SomeFinishable (ws : List ℤ) (b : State) (ts : List ℤ) : Type 0 where
  pub rule : Rule
  pub finishable : Finishable ws b ts rule

-- ---- one node

-- a right child stands no further behind its node than a table is long
unfoldable pub Near : Node → Type 0
Near (constant_node b) = Unit {0}
Near (join_node j right) = (m : ℕ) × (right ≡ pos m) × (m ≤ most_words)
Near not_node = Unit {0}
Near (literal_node t s) = Unit {0}
Near (bind_node q v) = Unit {0}

-- the words of d stand from place `from` of ws on, with a number that is `shift` less than i, and as node i it has room
-- at place `to` of ts
pub record Placeable (ws : List ℤ) (from shift : ℕ) (ts : List ℤ) (i to : ℕ) (d : Node) : Type 0 where
  pub number : ℕ
  pub shifted : number + shift ≡ i
  pub after : List ℤ
  pub begins : drop from ws ≡ body number d ++ after
  pub good : Good d
  pub near : Near d
  pub free : Free ts i to 1 (width d)

pub record SomePlaceable (ws : List ℤ) (from shift : ℕ) (ts : List ℤ) (i to : ℕ) : Type 0 where
  pub node : Node
  pub placeable : Placeable ws from shift ts i to node
