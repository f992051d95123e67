-- Elimination: the step tables in order, each held to its limits.
-- Assumes nothing.
use Rattle.std.specs.Prelude.{Bool, true, false, not, ◌||◌, ℕ, zero, suc, leb, ltb}
use Rattle.rules.specs.Sum.{Sum, limit, all_within}
use Rattle.rules.specs.Rule.{Quantifier, for_some, for_all, Test, positive, divisible, is_zero, Rule, Some}
use Rattle.rules.specs.Result.{Result, given, ◌>>=◌, require}
use Rattle.rules.specs.Table.{size}
use Rattle.rules.specs.Fold.{fold}
use Rattle.rules.specs.Chosen.{Chosen, nothing, the, chosen, quantifiers, quantified, replace}
use Rattle.rules.specs.Literals.{some_literal}
use Rattle.rules.specs.Steps.{by_some, normal, common_factor, scaled, period, disjunction}

-- "a literal number passes ±2,147,483,647, or a divisor passes 2,147,483,647"
abbrev pub divisor_over : Test → Bool
divisor_over positive = false
divisor_over (divisible b k) = ltb limit k
divisor_over is_zero = false

unfoldable pub over_limit : Test → Sum → Bool
unfolding all_within
over_limit t s = not (all_within limit s) || divisor_over t

-- "Per step table, numbers come first (5), then size after folding (6)." "each step table is folded throughout."
unfoldable pub step_table : ℕ → Rule → Result Rule
unfolding ◌>>=◌ require some_literal over_limit fold size
step_table room r = do
  _ ← require (not (some_literal over_limit r)) 5
  let f = fold r
  _ ← require (leb (size f) room) 6
  given f

-- what a step makes of the chosen quantifier; a rule without one stays
unfoldable pub on_chosen : Rule → Chosen → (Quantifier → ℕ → Rule → Result Rule) → Result Rule
on_chosen r nothing step = given r
on_chosen r (the q x a) step = step q x a

-- "A for-all is first replaced by not, for some, not: a step table of its own."
unfoldable pub for_all_step : ℕ → Rule → Result Rule
unfolding on_chosen chosen replace step_table
for_all_step room r = on_chosen r (chosen r) λ q x a. elim q [
  | for_some ↦ given r
  | for_all ↦ step_table room (replace (by_some x a) r)
]

-- "In that body push every not down to the literals"
unfoldable pub normal_step : ℕ → Rule → Result Rule
unfolding on_chosen chosen replace step_table normal
normal_step room r = on_chosen r (chosen r) λ q x a. step_table room (replace (Some x (normal true x a)) r)

-- "D or P passes 4,096" (7)
abbrev pub most_period : ℕ
most_period = 4096

-- "D over 4,096 is refused (7) after step 1"
unfoldable pub common_step : ℕ → Rule → Result Rule
unfolding on_chosen chosen replace step_table common_factor scaled ◌>>=◌ require
common_step room r = on_chosen r (chosen r) λ q x a. do
  let D = common_factor x a
  _ ← require (leb D most_period) 7
  step_table room (replace (Some x (scaled D x a)) r)

-- "P over 4,096 (7) after step 2." "This replaces the quantifier and its body."
unfoldable pub disjunction_step : ℕ → Rule → Result Rule
unfolding on_chosen chosen replace step_table period disjunction ◌>>=◌ require
disjunction_step room r = on_chosen r (chosen r) λ q x a. do
  let P = period a
  _ ← require (leb P most_period) 7
  step_table room (replace (disjunction P x a) r)

-- the chosen quantifier goes
unfoldable pub round : ℕ → Rule → Result Rule
unfolding for_all_step normal_step common_step disjunction_step ◌>>=◌
round room r = for_all_step room r >>= normal_step room >>= common_step room >>= disjunction_step room

-- n rounds, while a quantifier remains
unfoldable pub rounds : ℕ → ℕ → Rule → Result Rule
unfolding round quantified ◌>>=◌
rounds zero room r = given r
rounds (suc n) room r = elim (quantified r) [ false ↦ given r | true ↦ round room r >>= rounds n room ]

-- "The input, folded, is the first step table". Each round takes one quantifier away (Sound's none-remains),
-- so their number is rounds enough
unfoldable pub eliminate : ℕ → Rule → Result Rule
unfolding step_table rounds quantifiers ◌>>=◌
eliminate room r = step_table room r >>= λ f. rounds (quantifiers f) room f
