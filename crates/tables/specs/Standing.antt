-- What it means that nodes, and so a rule, stand in a table: at the start of two of its parts, entries and bodies.
-- Assumes nothing.
use Rattle.std.specs.Prelude.{◌≡◌, List, ◌++◌, ℕ, ◌+◌, ◌≤◌, ℤ, length}
use Rattle.rules.specs.Sum.{Sum}
use Rattle.rules.specs.Rule.{Junction, Test, Rule, Join}
use Rattle.rules.specs.Table.{Node, literal_node, most_words, body, nodes, starts, bodies, encode}
use Rattle.rules.specs.Laws.{WellFormed}

-- the entries es begin with those of the nodes ds, and the bodies bs with theirs, where the first node has number n and
-- its body the place p
pub record Nodes (es bs : List ℤ) (n p : ℕ) (ds : List Node) : Type 0 where
  pub entries_after : List ℤ
  pub bodies_after : List ℤ
  pub entries : es ≡ starts p ds ++ entries_after
  pub bodies : bs ≡ bodies n ds ++ bodies_after

abbrev pub Stands : List ℤ → List ℤ → ℕ → ℕ → Rule → Type 0
Stands es bs n p r = Nodes es bs n p (nodes r)

-- some rule stands there: what a walk over a table asks for
pub record Standing (es bs : List ℤ) (n p : ℕ) : Type 0 where
  pub rule : Rule
  pub stands : Stands es bs n p rule
  pub formed : WellFormed rule

-- no number and no place of these parts is over what a table has
pub record Few (es bs : List ℤ) (n p : ℕ) : Type 0 where
  pub few_nodes : n + length es ≤ most_words
  pub few_words : p + length bs ≤ most_words

-- the rule a of a table stands there
pub record RuleAt (es bs : List ℤ) (n p : ℕ) (a : Rule) : Type 0 where
  pub stands : Stands es bs n p a
  pub few : Few es bs n p
  pub formed : WellFormed a

-- ---- the right side of an and or or

pub record StandingJoin (es bs : List ℤ) (n p : ℕ) : Type 0 where
  pub joint : Junction
  pub left_side : Rule
  pub right_side : Rule
  pub stands : Stands es bs n p (Join joint left_side right_side)

-- ---- at the start of some words: a literal's body, a rule's bodies, its table

pub record BodyAt (bs : List ℤ) (n : ℕ) (t : Test) (s : Sum) : Type 0 where
  pub after : List ℤ
  pub begins : bs ≡ body n (literal_node t s) ++ after

pub record Bodied (bs : List ℤ) (n : ℕ) (r : Rule) : Type 0 where
  pub after : List ℤ
  pub begins : bs ≡ bodies n (nodes r) ++ after

pub record TableAt (ws : List ℤ) (r : Rule) : Type 0 where
  pub after : List ℤ
  pub begins : ws ≡ encode r ++ after
