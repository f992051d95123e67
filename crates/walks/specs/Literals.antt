-- What the leaf of a walk that folds asks for: a literal, and a change that leaves its numbers within the limit.
-- Assumes nothing.
use Rattle.std.specs.Prelude.{◌≡◌, not, List, ℕ, ◌≤◌, T, ℤ, length}
use Rattle.rules.specs.Sum.{Sum, limit, all_within}
use Rattle.rules.specs.Rule.{Test}
use Rattle.rules.specs.Literals.{some_literal}
use Rattle.rules.specs.Eliminate.{over_limit}
use Rattle.rules.specs.Laws.{DivisorOf}
use Rattle.builder.specs.Built.{Countable}
use Rattle.builder.specs.declared.push.State.{State}
use Rattle.literals.specs.Literal.{Marked, SomeLiteral}
use Rattle.literals.specs.Changes.{Change, becomes, Usable, changed_sum, changed_test, divisor_or_none}

-- some test has this kind and, where it has a divisor, this one, which is not over the limit
pub record SomeMarked (kind k : ℕ) : Type 0 where
  pub test : Test
  pub marked : Marked kind k test
  pub small : DivisorOf (λ d. d ≤ limit) test

-- what putting a literal asks: seven words, and that they, a divisor and a kind can be counted
pub record Puttable (kind k : ℕ) (s : Sum) (b : State) : Type 0 where
  pub some : SomeMarked kind k
  pub seven : length s ≡ 7
  pub countable : Countable b 9

-- some literal stands there, and what becomes of it has no number over the limit
pub record SomeChangeable (ws : List ℤ) (c : Change) (u : Sum) (b : State) : Type 0 where
  pub some : SomeLiteral ws
  pub usable : Usable c u
  pub numbers : T (not (some_literal over_limit (becomes c u some.test some.sum)))
  pub countable : Countable b 9

-- the same of one that the change keeps a literal
pub record SomeKept (ws : List ℤ) (c : Change) (u : Sum) (b : State) : Type 0 where
  pub some : SomeLiteral ws
  pub usable : Usable c u
  pub within : T (all_within limit (changed_sum c u some.sum))
  pub small : divisor_or_none (changed_test c some.sum some.test) ≤ limit
  pub countable : Countable b 9
