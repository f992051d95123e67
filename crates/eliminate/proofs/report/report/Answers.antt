-- `report` meets its contract: what elimination leaves in 16,384 words is what is printed.
use Rattle.std.proofs.Common.{ℕ, ◌∙◌, rules}
use Rattle.std.proofs.Math.ListN.{length-replicate}
use Rattle.rules.specs.Table.{most_words}
use Rattle.rules.specs.Calls.{words}
use Rattle.leaveoff.specs.Outcome.{answer_of, steps_of}
use Rattle.eliminate.specs.Printed.{printed_of, LeftBy}
use Rattle.eliminate.proofs.LeftLaws.{left_so}
use Rattle.eliminate.proofs.report.report.Goals as goal
use Rattle.eliminate.proofs.report.report.Goals.{After-eliminate-answer}

-- what elimination left
left : (c : After-eliminate-answer)
    → LeftBy (steps_of c.args.table.now most_words) (answer_of c.eliminate-answer.result)
    (words c.eliminate-answer.new.out)
left c =
    let long = length-replicate {A = ℕ} 65536 0 in
    left_so c.args.table.now _ _ long long _ _ _ c.eliminate-answer.ensures.work_after

pub all_lines-requires-clause-left : goal.all_lines-requires-clause-left
all_lines-requires-clause-left c =
    record { result = _; left = left (goal.at.all_lines-requires-clause-left c).After-eliminate-answer }

pub returns-clause-placed : goal.returns-clause-placed
unfolding printed_of
returns-clause-placed c =
    let lines = c.all_lines.ensures.lines _ (left (goal.at.returns-clause-placed c).After-eliminate-answer) in
    record { puts = (search rules) ∙ lines.placed.puts; ends = lines.placed.ends }
