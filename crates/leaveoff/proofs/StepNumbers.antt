-- The numbers of refusals: elimination's are 1 to 7, the leave-off test's 1 to 8.
-- Assumes nothing.
use mathlib.Core.Bool.{Bool, true, false, not}
use mathlib.Core.List.{List}
use Prim.Native.Nat.{ℕ, zero, suc}
use native.Mathlib.Omega.{arith}
use lib.Dec.{leb}
use lib.IntN.{ℤ, nat_abs}
use Rattle.rules.specs.Rule.{Quantifier, for_some, for_all, Rule, Some}
use Rattle.rules.specs.Result.{Result, given, ◌>>=◌}
use Rattle.rules.specs.Table.{size, is_setting}
use Rattle.rules.specs.Fold.{fold}
use Rattle.rules.specs.Literals.{some_literal}
use Rattle.rules.specs.Chosen.{Chosen, nothing, the, chosen, quantifiers, quantified, replace}
use Rattle.rules.specs.Steps.{by_some, normal, common_factor, scaled, period, disjunction}
use Rattle.rules.specs.Eliminate.{over_limit, most_period, step_table, on_chosen, for_all_step, normal_step}
use Rattle.rules.specs.Eliminate.{common_step, disjunction_step, round, rounds, eliminate}
use Rattle.rules.specs.LeaveOff.{question, leave_off}
use Rattle.rules.specs.Calls.{rule_of}
use Rattle.rules.proofs.Numbers.{By, by_then, by_test, by_more, rule_of_by}
use Rattle.leaveoff.specs.Outcome.{steps_of, test_of}

-- ---- the step tables

step_table_by : (room : ℕ) (r : Rule) → By 7 (step_table room r)
unfolding By step_table
step_table_by room r =
    by_test 7 (not (some_literal over_limit r)) 5 (omega arith) (omega arith) _
    (by_test 7 (leb (size (fold r)) room) 6 (omega arith) (omega arith) _ tt)

chosen_by : (r : Rule) (c : Chosen) (step : Quantifier → ℕ → Rule → Result Rule)
    → ((q : Quantifier) (x : ℕ) (a : Rule) → By 7 (step q x a)) → By 7 (on_chosen r c step)
unfolding By on_chosen
chosen_by r nothing step h = tt
chosen_by r (the q x a) step h = h q x a

module _ (room : ℕ) (r : Rule) where
  for_all_by : By 7 (for_all_step room r)
  unfolding By for_all_step
  for_all_by = chosen_by r (chosen r) _ step
    where
      step : (q : Quantifier) (x : ℕ) (a : Rule) → By {A = Rule} 7 (elim q [
        | for_some ↦ given r
        | for_all ↦ step_table room (replace (by_some x a) r)
      ])
      step for_some x a = tt
      step for_all x a = step_table_by room (replace (by_some x a) r)

  normal_by : By 7 (normal_step room r)
  unfolding normal_step
  normal_by = chosen_by r (chosen r) _ (λ q x a. step_table_by room (replace (Some x (normal true x a)) r))

  common_by : By 7 (common_step room r)
  unfolding common_step
  common_by = chosen_by r (chosen r) _ (λ q x a.
      by_test 7 (leb (common_factor x a) most_period) 7 (omega arith) (omega arith) _
      (step_table_by room (replace (Some x (scaled (common_factor x a) x a)) r)))

  disjunction_by : By 7 (disjunction_step room r)
  unfolding disjunction_step
  disjunction_by = chosen_by r (chosen r) _ (λ q x a.
      by_test 7 (leb (period a) most_period) 7 (omega arith) (omega arith) _
      (step_table_by room (replace (disjunction (period a) x a) r)))

round_by : (room : ℕ) (r : Rule) → By 7 (round room r)
unfolding round
round_by room r =
    by_then 7 (for_all_step room r >>= normal_step room >>= common_step room) (disjunction_step room)
    (by_then 7 (for_all_step room r >>= normal_step room) (common_step room)
    (by_then 7 (for_all_step room r) (normal_step room) (for_all_by room r) (normal_by room)) (common_by room))
    (disjunction_by room)

rounds_by : (n room : ℕ) (r : Rule) → By 7 (rounds n room r)
unfolding By rounds
rounds_by zero room r = tt
rounds_by (suc n) room r =
    while (quantified r) (by_then 7 (round room r) (rounds n room) (round_by room r) (rounds_by n room))
  where
    while : (b : Bool) → By 7 (round room r >>= rounds n room)
        → By {A = Rule} 7 (elim b [ false ↦ given r | true ↦ round room r >>= rounds n room ])
    while false h = tt
    while true h = h

-- ---- elimination

eliminate_by : (room : ℕ) (r : Rule) → By 7 (eliminate room r)
unfolding eliminate
eliminate_by room r =
    by_then 7 (step_table room r) _ (step_table_by room r) (λ f. rounds_by (quantifiers f) room f)

pub steps_by : (l : List ℕ) (room : ℕ) → By 7 (steps_of l room)
unfolding steps_of
steps_by l room =
    by_then 7 (rule_of l) (eliminate room) (by_more 4 7 (rule_of l) (omega arith) (rule_of_by l)) (eliminate_by room)

-- ---- the leave-off test

leave_off_by : (room : ℕ) (v : ℤ) (r : Rule) → By 8 (leave_off room v r)
unfolding leave_off
leave_off_by room v r =
    let q = question (nat_abs v) r in
    by_test 8 (is_setting v) 8 (omega arith) (omega arith) _
    (by_test 8 (leb (size q) room) 6 (omega arith) (omega arith) _
    (by_more 7 8 (eliminate room q) (omega arith) (eliminate_by room q)))

pub tests_by : (l : List ℕ) (v : ℤ) (room : ℕ) → By 8 (test_of l v room)
unfolding test_of
tests_by l v room =
    by_then 8 (rule_of l) (leave_off room v) (by_more 4 8 (rule_of l) (omega arith) (rule_of_by l))
    (leave_off_by room v)
