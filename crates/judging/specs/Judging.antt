-- A body at 64 values of x at once: two masks, and what bit k of them says of the body at the k-th value.
-- Assumes nothing.
use Rattle.std.specs.Prelude.{◌≡◌, Bool, true, false, List, ℕ, ◌/◌, ◌%◌, ◌^◌, ◌≤◌, T, ℤ, pos, length}
use Rattle.std.specs.Bool.{beq}
use Rattle.rules.specs.Sum.{Sum, add, number, limit, all_within}
use Rattle.rules.specs.Rule.{Rule, Constant, Join, Not, Literal, Bind}
use Rattle.rules.specs.Fold.{fold}
use Rattle.rules.specs.Literals.{map_literals}
use Rattle.rules.specs.Eliminate.{most_period}
use Rattle.tables.specs.Standing.{RuleAt}
use Rattle.literals.specs.Changes.{Change, Far, Full, becomes, InRange}

-- 1 where the mask m has bit k, else 0
abbrev pub bit : ℕ → ℕ → ℕ
bit m k = m / 2 ^ k % 2

abbrev pub flag : Bool → ℕ
flag true = 1
flag false = 0

-- 1 where the rule is the truth value v, else 0
unfoldable pub settled_as : Bool → Rule → ℕ
settled_as v (Constant b) = flag (beq v b)
settled_as v (Join j a b) = 0
settled_as v (Not a) = 0
settled_as v (Literal t s) = 0
settled_as v (Bind q w a) = 0

-- bit k of the two masks says whether the rule r folds to true, and whether it folds to false
pub record Says (yes no k : ℕ) (r : Rule) : Type 0 where
  pub is_yes : bit yes k ≡ settled_as true (fold r)
  pub is_no : bit no k ≡ settled_as false (fold r)

-- a sum is put in for x in the far-left body (true), or in the full one
unfoldable pub put_into : Bool → ℕ → Change
put_into true x = Far x
put_into false x = Full x

-- the body a at x = u + j
unfoldable pub at_sum : Bool → ℕ → Sum → ℕ → Rule → Rule
unfolding map_literals becomes put_into add
at_sum far x u j a = map_literals (becomes (put_into far x) (add u (number (pos j)))) a

-- u has seven words, none with a size over m
pub record Sized (m : ℕ) (u : Sum) : Type 0 where
  pub seven : length u ≡ 7
  pub within : T (all_within m u)

-- the body a, in which the sums u + j, u + j + 1, .. are put in for x
pub record Judging (es bs : List ℤ) (n p x : ℕ) (u : Sum) (j : ℕ) (a : Rule) : Type 0 where
  pub at : RuleAt es bs n p a
  pub setting : InRange x
  pub sum : Sized limit u
  pub upto : j ≤ most_period

pub record SomeJudging (es bs : List ℤ) (n p x : ℕ) (u : Sum) (j : ℕ) : Type 0 where
  pub rule : Rule
  pub judging : Judging es bs n p x u j rule
