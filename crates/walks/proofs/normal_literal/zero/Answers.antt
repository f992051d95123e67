-- `normal_literal::zero` meets its contract: its right side is put, then its left one, then they are joined.
-- Assumes nothing.
use Rattle.rules.specs.Calls.{words}
use Rattle.tables.specs.Kinds.{number_of}
use Rattle.tables.proofs.WordLaws.{same_words}
use Rattle.walks.proofs.ZeroLaws.{RightPut, zero_asks, zero_right_over, zero_asks_again}
use Rattle.walks.proofs.ZeroLaws.{zero_left_over, zero_both_asks, zero_made}
use Rattle.walks.proofs.normal_literal.zero.Goals as goal
use Rattle.walks.proofs.normal_literal.zero.Goals.{After-after}

pub test-requires : goal.test-requires
unfolding number_of
test-requires c = zero_asks c.requires

pub returns-in_err-right : goal.returns-in_err-right
unfolding number_of
returns-in_err-right c = rw c.from_residual.ensures
    (zero_right_over (record { answer = c.test.ensures; kept = same_words _ _ c.test.auto.out }) c.in_err-right.was)

-- the right side is put
right_put : (c : After-after)
    → RightPut (words c.args.bodies.now) (words c.args.out.now) (words c.test.new.out) c.args.b c.args.plainly
    c.test.result c.in_ok-right.right c.after.result
unfolding number_of
right_put c = record {
  right = record { answer = c.test.ensures; kept = same_words _ _ c.test.auto.out };
  made = c.in_ok-right.was;
  state = c.after.ensures;
}

pub test-requires-2 : goal.test-requires-2
unfolding number_of
test-requires-2 c = zero_asks_again (right_put c) c.requires

pub returns-in_err-left : goal.returns-in_err-left
unfolding number_of
returns-in_err-left c = rw c.from_residual-in_err-left.ensures (zero_left_over
    (record {
      right = right_put (goal.at.returns-in_err-left c).After-after;
      answer = c.test-2.ensures;
      kept = same_words _ _ c.test-2.auto.out;
    }) c.in_err-left.was)

pub both-requires : goal.both-requires
unfolding number_of
both-requires c = zero_both_asks
    (record {
      right = right_put (goal.at.both-requires c).After-after;
      answer = c.test-2.ensures;
      kept = same_words _ _ c.test-2.auto.out;
    }) c.in_ok-left.was c.requires

pub returns : goal.returns
unfolding number_of
returns c = zero_made
    (record {
      right = right_put (goal.at.returns c).After-after;
      answer = c.test-2.ensures;
      kept = same_words _ _ c.test-2.auto.out;
    }) c.in_ok-left.was _ _ c.both.ensures
