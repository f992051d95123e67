-- Nodes one after the other in a table that is written from the front.
-- Assumes nothing.
use Rattle.std.specs.Prelude.{◌≡◌, List, ◌++◌, ℕ, ◌+◌, ◌<◌, ◌≤◌, ℤ, length, take}
use Rattle.std.proofs.lemmas.List.Edits.{sets}
use Rattle.rules.specs.Table.{Node, most_words, starts, bodies}
use Rattle.rules.proofs.Sizes.{total}

-- m nodes of w words have room in ts: their entries from that of node i on, their bodies from place `to` on
pub record Free (ts : List ℤ) (i to m w : ℕ) : Type 0 where
  pub entries : i + m < to
  pub bodies : to + w ≤ length ts
  pub most : to + w ≤ most_words

-- the nodes ds were put into ts, as nodes from i on, with bodies from place `to` on, which makes vs
pub record Run (ts vs : List ℤ) (i to : ℕ) (ds : List Node) : Type 0 where
  pub begins : take (to + total ds) vs ≡ sets (take to ts) (i + 1) (starts to ds) ++ bodies i ds
