-- `matches` meets its contract: each answer says what matching gave.
use Rattle.std.proofs.Common.{true, false, sym, ap, ◌∙◌}
use Rattle.rules.specs.Result.{refused, given}
use Rattle.rules.specs.Answer.{match_answer}
use Rattle.leaveoff.specs.Outcome.{verdict_number, verdict_alone}
use Rattle.leaveoff.proofs.OutcomeLaws.{matched_answer}
use Rattle.leaveoff.proofs.matching.matches.Goals as goal

pub returns-in-Ok-true : goal.returns-in-Ok-true
unfolding match_answer verdict_number
returns-in-Ok-true c =
    let f = c.ranges in
    let gave = ap given (sym c.in-Ok-true.field-0-test) ∙ c.in-Ok-true.ensures in
    let (is, says) = matched_answer _ (given true) f.s1 f.s2 f.s3 f.s4 f.s5 f.s6
    (c.matched.ensures ∙ ap verdict_alone c.number.ensures) gave in
    record { result_value = is; says_whether = says }

pub returns-in-Ok-false : goal.returns-in-Ok-false
unfolding match_answer verdict_number
returns-in-Ok-false c =
    let f = c.ranges in
    let gave = ap given (sym c.in-Ok-false.field-0-test) ∙ c.in-Ok-false.ensures in
    let (is, says) = matched_answer _ (given false) f.s1 f.s2 f.s3 f.s4 f.s5 f.s6
    (c.matched-in-Ok-false.ensures ∙ ap verdict_alone c.number-in-Ok-false.ensures) gave in
    record { result_value = is; says_whether = says }

pub returns-in-Err : goal.returns-in-Err
unfolding match_answer
returns-in-Err c =
    let f = c.ranges in
    let gave = ap refused c.number-in-Err.ensures ∙ c.in-Err.ensures in
    let (is, says) =
    matched_answer _ (refused c.number-in-Err.result) f.s1 f.s2 f.s3 f.s4 f.s5 f.s6 c.refused.ensures gave in
    record { result_value = is; says_whether = says }
