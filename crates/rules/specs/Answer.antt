-- "An answer holds its number, a verdict (1 true, 2 false, 3 open), the words of the result,
-- and a set of settings that occur in it".
-- Assumes nothing.
use Rattle.std.specs.Prelude.{Bool, true, false, cond, List, [], ◌∷◌, ℕ, ◌+◌, ◌-◌, ◌^◌}
use Rattle.rules.specs.Sum.{has}
use Rattle.rules.specs.Rule.{Rule, Constant, Join, Not, Literal, Bind}
use Rattle.rules.specs.Result.{Result, refused, given}
use Rattle.rules.specs.Table.{size, all_settings}
use Rattle.rules.specs.Literals.{some_literal}

pub record Answer : Type 0 where
  pub number : ℕ
  pub verdict : ℕ
  pub words : ℕ
  pub settings : ℕ

-- "Open means only that the folded result is not a bare true or false."
unfoldable pub verdict_of : Rule → ℕ
verdict_of (Constant true) = 1
verdict_of (Constant false) = 2
verdict_of (Join j a b) = 3
verdict_of (Not a) = 3
verdict_of (Literal t s) = 3
verdict_of (Bind q v a) = 3

unfoldable pub occurs : ℕ → Rule → Bool
unfolding some_literal
occurs v a = some_literal (λ t s. has v s) a

-- "bit v−1 standing for setting v"
unfoldable pub bits_of : List ℕ → Rule → ℕ
unfolding occurs
bits_of [] a = 0
bits_of (v ∷ vs) a = cond (occurs v a) (2 ^ (v - 1)) 0 + bits_of vs a

unfoldable pub settings_of : Rule → ℕ
unfolding bits_of
settings_of a = bits_of all_settings a

-- "A refusal has zeros in all three."
abbrev pub refusal : ℕ → Answer
refusal n = record { number = n; verdict = 0; words = 0; settings = 0 }

unfoldable pub table_answer : Result Rule → Answer
unfolding verdict_of size settings_of
table_answer (refused n) = refusal n
table_answer (given r) = record { number = 0; verdict = verdict_of r; words = size r; settings = settings_of r }

-- "Matching .. answers its number with verdict 1 or 2 (0 when refused)."
unfoldable pub match_answer : Result Bool → Answer
match_answer (refused n) = refusal n
match_answer (given b) = record { number = 0; verdict = cond b 1 2; words = 0; settings = 0 }
