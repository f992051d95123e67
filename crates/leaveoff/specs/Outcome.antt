-- The answers of the calls as the code gives them, and packed into 64 bits.
-- Assumes nothing.
use Rattle.std.specs.Prelude.{◌≡◌, List, ℕ, ◌+◌, ◌*◌, ◌/◌, ◌%◌, ◌<◌, ◌≤◌, T, ℤ, nat_abs, take, ◌↔◌, ◌⊎◌}
use Rattle.rules.specs.Sum.{Choice}
use Rattle.rules.specs.Rule.{Rule, Holds}
use Rattle.rules.specs.Result.{Result, given, ◌>>=◌}
use Rattle.rules.specs.Eliminate.{eliminate}
use Rattle.rules.specs.LeaveOff.{leave_off}
use Rattle.rules.specs.Match.{choice}
use Rattle.rules.specs.Answer.{Answer, occurs}
use Rattle.rules.specs.Laws.{Same, QuantifierFree, free, Closed, Matters, MayGo}
use Rattle.rules.specs.Calls.{Outcome, rule_of}
use Rattle.leaveoff.specs.declared.answer.Answer as declared
use Rattle.leaveoff.specs.declared.verdict.Verdict.{Verdict}
use Rattle.leaveoff.specs.declared.verdict.Verdict.TheVariants.{True, False, Open}

-- the paper's number and values of an answer
abbrev pub answer_of : declared.Answer → Answer
answer_of a = record { number = a.number; verdict = a.verdict; words = a.words; settings = a.settings }

-- 1 true, 2 false, 3 open
unfoldable pub verdict_number : Verdict → ℕ
verdict_number True = 1
verdict_number False = 2
verdict_number Open = 3

-- what matching answers: a verdict, and no table
abbrev pub verdict_alone : ℕ → Answer
verdict_alone v = record { number = 0; verdict = v; words = 0; settings = 0 }

-- "when answered, verdict 1 exactly when it holds at the six values", of the rule that the bytes decode to
unfoldable pub SaysWhether : List ℕ → List ℤ → Answer → Type 0
SaysWhether table vs a =
    a.number ≡ 0 → (r : Rule) × (rule_of table ≡ given r) × ((a.verdict ≡ 1) ↔ Holds r (choice vs))

-- ---- elimination

-- the answer and every lent byte afterwards
abbrev pub outcome_of : declared.Answer → List ℕ → List ℕ → Outcome
outcome_of a output work = record { answer = answer_of a; output = output; work = work }

-- what the steps make of the rule that the bytes decode to, in so much room
unfoldable pub steps_of : List ℕ → ℕ → Result Rule
unfolding rule_of eliminate ◌>>=◌
steps_of table room = rule_of table >>= eliminate room

-- demand 3: whenever elimination answers, the table that it leaves has no quantifier, names only settings free in the
-- rule, and holds exactly when the rule does, at every choice; where nothing is free the verdict is 1 or 2, and right
pub record Means (table output : List ℕ) (a : Answer) : Type 0 where
  pub rule : Rule
  pub result : Rule
  pub decodes : rule_of table ≡ given rule
  pub left_there : rule_of (take (a.words * 4) output) ≡ given result
  pub none_remains : QuantifierFree result
  pub only_free : (v : ℕ) → 1 ≤ v → T (occurs v result) → T (free v rule)
  pub means : Same result rule
  pub closed_right : Closed rule
      → ((a.verdict ≡ 1) × ((ρ : Choice) → Holds rule ρ)) ⊎ ((a.verdict ≡ 2) × ((ρ : Choice) → ¬ Holds rule ρ))

unfoldable pub Eliminates : List ℕ → List ℕ → Answer → Type 0
Eliminates table output a = a.number ≡ 0 → Means table output a

-- ---- the leave-off test

-- what the test of setting v makes of the rule that the bytes decode to, in so much room
unfoldable pub test_of : List ℕ → ℤ → ℕ → Result Rule
unfolding rule_of leave_off ◌>>=◌
test_of table v room = rule_of table >>= leave_off room v

-- demand 3: whenever the test answers, verdict 1 says that two choices that differ in setting v alone are treated
-- differently, and verdict 2 that no two such choices are; each is given exactly then
pub record Tells (table : List ℕ) (v : ℤ) (a : Answer) : Type 0 where
  pub rule : Rule
  pub decodes : rule_of table ≡ given rule
  pub matters : (a.verdict ≡ 1) ↔ Matters (nat_abs v) rule
  pub may_go : (a.verdict ≡ 2) ↔ MayGo (nat_abs v) rule

unfoldable pub TestsLine : List ℕ → ℤ → Answer → Type 0
TestsLine table v a = a.number ≡ 0 → Tells table v a

-- ---- packed

-- bits 0-7 number, 8-9 verdict, 10-15 settings, 16-31 place (0 for now), 32-63 words
abbrev pub packed : Answer → ℕ
packed a = a.number + a.verdict * 256 + a.settings * 1024 + a.words * 4294967296

abbrev pub unpacked : ℕ → Answer
unpacked n = record {
  number = n % 256;
  verdict = n / 256 % 4;
  words = n / 4294967296;
  settings = n / 1024 % 64;
}

-- every field lies within its bits
pub record Fits (a : Answer) : Type 0 where
  pub number_fits : a.number < 256
  pub verdict_fits : a.verdict < 4
  pub words_fits : a.words < 4294967296
  pub settings_fits : a.settings < 64

-- the 64 bits that a call answers and every lent byte afterwards are those of an outcome
abbrev pub Leaves : Outcome → ℕ → List ℕ → List ℕ → Type 0
Leaves o n output work = (n ≡ packed o.answer) × (output ≡ o.output) × (work ≡ o.work)
