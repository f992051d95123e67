-- A rule ends where its last child does.
-- Assumes nothing.
use Rattle.std.specs.Prelude.{◌≡◌, ◌+◌, ◌<◌, length, get_or}
use Rattle.rules.specs.Rule.{Rule}
use Rattle.rules.specs.Table.{count}
use Rattle.rules.specs.Calls.{words as words_of}
use Rattle.rules.proofs.Sizes.{weight}
use Rattle.tables.specs.Reads.{widths}
use Rattle.tables.specs.Kinds.{number_of, kind_of}
use Rattle.tables.specs.Parts.{RuleIn}
use Rattle.tables.specs.declared.part.Part.{Part}

-- the rule is its root alone
pub record Leaf (a : Rule) : Type 0 where
  pub one_node : count a ≡ 1
  pub root_alone : weight a ≡ get_or widths (number_of (kind_of a)) 0

-- the rule a of the part p ends with the rule of the part q, which has fewer entries
pub record EndsWith (p : Part) (a : Rule) (q : Part) : Type 0 where
  pub last : Rule
  pub at : RuleIn q last
  pub nodes_are : q.node + count last ≡ p.node + count a
  pub words_are : q.place + weight last ≡ p.place + weight a
  pub shorter : length (words_of q.entries.now) < length (words_of p.entries.now)
