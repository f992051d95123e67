-- What every step is given: a rule that stands in a table, and the nodes that are built already.
-- Assumes nothing.
use Rattle.std.specs.Prelude.{List, ℕ, ℤ}
use Rattle.rules.specs.Rule.{Rule}
use Rattle.rules.specs.Table.{Node}
use Rattle.rules.specs.Calls.{words}
use Rattle.tables.specs.declared.part.Part.{Part}
use Rattle.tables.specs.Standing.{RuleAt}
use Rattle.builder.specs.Built.{Building}
use Rattle.builder.specs.declared.push.State.{State}

-- what is said of entries and bodies, whose first node has a number and a place, of a part of a table
abbrev pub In : {X : Type 1} → (List ℤ → List ℤ → ℕ → ℕ → X) → Part → X
In Is t = Is (words t.entries.now) (words t.bodies.now) t.node t.place

-- a rule stands there, as node n at place p
pub record SomeRuleThere (es bs : List ℤ) (n p : ℕ) : Type 0 where
  pub rule : Rule
  pub there : RuleAt es bs n p rule

-- the words of a step's new rule are no more than these: at most 4,096 disjuncts for each of 1,365 bounds and for none,
-- each of at most 16,384 words with its or
abbrev pub most_made : ℕ
most_made = 1099511627776

-- the words ws end with the nodes ds, and a step's new rule can be put in front of them
abbrev pub BuildsOn : List ℤ → State → List Node → Type 0
BuildsOn ws b ds = Building ws b ds most_made
