-- The literals of a body, one after the other: which of them remain from a place on, and what the iterator over them
-- gives.
-- Assumes nothing.
use Rattle.std.specs.Prelude.{◌≡◌, List, [], ◌∷◌, ◌++◌, ℕ, ◌+◌, ◌≤◌, ℤ, length, drop, Option, MatchOption}
use Rattle.rules.specs.Sum.{Sum}
use Rattle.rules.specs.Rule.{Test, Rule}
use Rattle.rules.specs.Table.{Node, constant_node, join_node, not_node, literal_node, bind_node, most_words, bodies}
use Rattle.rules.specs.Literals.{gather}
use Rattle.rules.specs.Laws.{InTable}
use Rattle.rules.specs.Calls.{words}
use Rattle.rules.proofs.Sizes.{before_sum, total}
use Rattle.rules.proofs.Encoding.{AllGood}
use Rattle.tables.specs.Standing.{BodyAt}
use Rattle.bodies.specs.declared.cursor.Literals.{Literals}

-- ---- literals

-- those of a rule, and those of some nodes
unfoldable pub literals_of : Rule → List (Test × Sum)
unfolding gather
literals_of a = gather (λ t s. (t, s) ∷ []) a

unfoldable pub literals_in : List Node → List (Test × Sum)
literals_in [] = []
literals_in (constant_node b ∷ ds) = literals_in ds
literals_in (join_node j right ∷ ds) = literals_in ds
literals_in (not_node ∷ ds) = literals_in ds
literals_in (literal_node t s ∷ ds) = (t, s) ∷ literals_in ds
literals_in (bind_node q v ∷ ds) = literals_in ds

-- what f gives for each, one after the other
unfoldable pub across : {A : Type 0} → (Test → Sum → List A) → List (Test × Sum) → List A
across f [] = []
across f (l ∷ ls) = f l.0 l.1 ++ across f ls

-- ---- the cursor

-- the words bs from place p up to place end are bodies of nodes whose literals are ls; which numbers they have makes no
-- difference
pub record Remaining (bs : List ℤ) (p end : ℕ) (ls : List (Test × Sum)) : Type 0 where
  pub number : ℕ
  pub nodes : List Node
  pub after : List ℤ
  pub begins : drop p bs ≡ bodies number nodes ++ after
  pub ends : end ≡ p + total nodes
  pub good : AllGood nodes
  pub literals : ls ≡ literals_in nodes

-- at place p stands a literal, and behind its body the literals ls remain
pub record LiteralAt (bs : List ℤ) (p end : ℕ) (t : Test) (s : Sum) (ls : List (Test × Sum)) : Type 0 where
  pub node : ℕ
  pub stands : BodyAt (drop p bs) node t s
  pub formed : InTable t s
  pub behind : Remaining bs (p + (before_sum t + length s)) end ls

-- what is said of every literal at place p
abbrev pub WhicheverLiteral : List ℤ → ℕ → ℕ → (Test → Sum → List (Test × Sum) → Type 0) → Type 0
WhicheverLiteral bs p end Q = (t : Test) (s : Sum) (ls : List (Test × Sum)) → LiteralAt bs p end t s ls → Q t s ls

-- of the body of these words, the iterator has the literals ls left
pub record Left (bs : List ℤ) (end : ℕ) (it : Literals) (ls : List (Test × Sum)) : Type 0 where
  pub here : words it.bodies.now ≡ bs
  pub ends : it.end ≡ end
  pub remaining : Remaining bs it.place end ls

pub record SomeLeft (it : Literals) : Type 0 where
  pub literals : List (Test × Sum)
  pub left : Left (words it.bodies.now) it.end it literals
  pub few : length (words it.bodies.now) ≤ most_words

-- at place p stands the first of the literals ls, and the others are left
pub record Came (bs : List ℤ) (end : ℕ) (p : ℕ) (it : Literals) (ls : List (Test × Sum)) : Type 0 where
  pub test : Test
  pub sum : Sum
  pub others : List (Test × Sum)
  pub first : ls ≡ (test, sum) ∷ others
  pub at : LiteralAt bs p end test sum others
  pub left : Left bs end it others

-- a call gave the place of the first literal that was left, or `None` where none was
abbrev pub GivesFirst : Literals → Option ℕ → Literals → Type 0
GivesFirst before r after =
    (bs : List ℤ) (end : ℕ) (ls : List (Test × Sum)) → Left bs end before ls
    → MatchOption r (ls ≡ []) (λ p. Came bs end p after ls)

-- of the literals ls those before the ones left are `passed`, of which Q holds
pub record Partway (bs : List ℤ) (end : ℕ) (it : Literals) (Q : List (Test × Sum) → Type 0)
    (ls : List (Test × Sum)) : Type 0 where
  pub passed : List (Test × Sum)
  pub others : List (Test × Sum)
  pub whole : ls ≡ passed ++ others
  pub left : Left bs end it others
  pub so_far : Q passed

-- ---- what a function over the literals asks for

pub record SomeLiteral (bs : List ℤ) (p end : ℕ) : Type 0 where
  pub test : Test
  pub sum : Sum
  pub others : List (Test × Sum)
  pub at : LiteralAt bs p end test sum others
  pub few : length bs ≤ most_words
