-- A part of a table, from one of its nodes on, and the rule that stands there.
-- Assumes nothing.
use Rattle.std.specs.Prelude.{◌≡◌, List, ℕ, ◌+◌, ◌<◌, ℤ, length, drop}
use Rattle.rules.specs.Rule.{Junction, Rule, Join}
use Rattle.rules.specs.Calls.{words as words_of}
use Rattle.tables.specs.declared.part.Part.{Part}
use Rattle.tables.specs.Standing.{Stands, StandingJoin, Few, RuleAt}

-- the rule a of a table stands there
abbrev pub RuleIn : Part → Rule → Type 0
RuleIn p a = RuleAt (words_of p.entries.now) (words_of p.bodies.now) p.node p.place a

-- the nodes of the rule a stand there, and those of some and or or
abbrev pub StandsIn : Part → Rule → Type 0
StandsIn p a = Stands (words_of p.entries.now) (words_of p.bodies.now) p.node p.place a

abbrev pub StandingJoinIn : Part → Type 0
StandingJoinIn p = StandingJoin (words_of p.entries.now) (words_of p.bodies.now) p.node p.place
    × Few (words_of p.entries.now) (words_of p.bodies.now) p.node p.place

-- the part q of the table with these words starts with this node, whose body has this place
pub record PartOf (ws : List ℤ) (node place : ℕ) (q : Part) : Type 0 where
  pub entries_are : words_of q.entries.now ≡ drop (node + 1) ws
  pub bodies_are : words_of q.bodies.now ≡ drop place ws
  pub node_is : q.node ≡ node
  pub place_is : q.place ≡ place

-- the part q is what stands behind so many nodes of p, which have so many words
pub record Behind (p : Part) (nodes words : ℕ) (q : Part) : Type 0 where
  pub entries_are : words_of q.entries.now ≡ drop nodes (words_of p.entries.now)
  pub bodies_are : words_of q.bodies.now ≡ drop words (words_of p.bodies.now)
  pub node_is : q.node ≡ p.node + nodes
  pub place_is : q.place ≡ p.place + words

-- some rule does
pub record SomeRuleIn (p : Part) : Type 0 where
  pub rule : Rule
  pub at : RuleIn p rule

-- and that rule is an and or an or
pub record JoinIn (p : Part) : Type 0 where
  pub joint : Junction
  pub left_side : Rule
  pub right_side : Rule
  pub at : RuleIn p (Join joint left_side right_side)

-- the rule a of the table stands in the part q, behind so many nodes and words of p; it has fewer entries
pub record SideIn (p : Part) (nodes words : ℕ) (a : Rule) (q : Part) : Type 0 where
  pub at : RuleIn q a
  pub entries_are : words_of q.entries.now ≡ drop nodes (words_of p.entries.now)
  pub bodies_are : words_of q.bodies.now ≡ drop words (words_of p.bodies.now)
  pub node_is : q.node ≡ p.node + nodes
  pub place_is : q.place ≡ p.place + words
  pub shorter : length (words_of q.entries.now) < length (words_of p.entries.now)
