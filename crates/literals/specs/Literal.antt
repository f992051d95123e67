-- A literal in a table: its kind, its divisor, where its T starts, and what it means that one stands there.
-- Assumes nothing.
use Rattle.std.specs.Prelude.{◌≡◌, List, ◌++◌, ℕ, T, ℤ, pos, length}
use Rattle.rules.specs.Sum.{Sum}
use Rattle.rules.specs.Rule.{Test, positive, divisible, is_zero}
use Rattle.rules.specs.Table.{literal_node, body, is_divisor}
use Rattle.rules.specs.Laws.{DivisorOf}
use Rattle.tables.specs.Reads.{test_kind}

-- the most that a term a·s comes to: a word has a size of 2^31 at most, a value one of 500,000,000
abbrev pub most_term : ℕ
most_term = 1073741824000000000

-- T starts behind the kind, or behind the divisor
abbrev pub start_of : Test → ℕ
start_of positive = 1
start_of (divisible b k) = 2
start_of is_zero = 1

-- the divisor, where there is one, is from 1 to the limit
abbrev pub Fair : Test → Type 0
Fair t = DivisorOf (λ k. T (is_divisor (pos k))) t

-- the test has this kind, and this divisor where it has one
pub record Marked (kind k : ℕ) (t : Test) : Type 0 where
  pub same_kind : kind ≡ test_kind t
  pub same_divisor : DivisorOf (λ d. k ≡ d) t

-- some test has them: what `passes` asks for
pub record SomeTest (kind k : ℕ) : Type 0 where
  pub test : Test
  pub marked : Marked kind k test
  pub fair : Fair test

-- the words ws begin with the body of the literal that makes the test t of the sum s, as node n
pub record LiteralAt (ws : List ℤ) (n : ℕ) (t : Test) (s : Sum) : Type 0 where
  pub after : List ℤ
  pub begins : ws ≡ body n (literal_node t s) ++ after
  pub long : length s ≡ 7
  pub fair : Fair t

-- some literal stands there: what `holds` asks for
pub record SomeLiteral (ws : List ℤ) : Type 0 where
  pub node : ℕ
  pub test : Test
  pub sum : Sum
  pub at : LiteralAt ws node test sum
