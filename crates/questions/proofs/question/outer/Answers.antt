-- `question::outer` meets its contract: one quantifier after the other, i of them so far.
-- Assumes nothing.
use Rattle.std.proofs.Common.{arith}
use Rattle.tables.proofs.WordLaws.{same_words}
use Rattle.finishing.proofs.RunLaws.{free_part}
use Rattle.questions.proofs.PlaceLaws.{one_low}
use Rattle.questions.proofs.OtherLaws.{outer_none, outer_more, outer_all}
use Rattle.questions.proofs.QuestionLaws.{some_body}
use Rattle.questions.proofs.question.outer.Goals as goal

pub loop-i-init : goal.loop-i-init
loop-i-init c = outer_none _ _ c.args.v

pub overflow_add-to : goal.overflow_add-to
overflow_add-to c = omega (arith, c.requires.0.bodies, c.requires.0.most)

pub node-requires : goal.node-requires
node-requires c =
    let free = c.requires.0 in
    let same = same_words c.loop-i.table c.args.table.now c.loop-i.auto.table in
    (free_part _ _ _ _ free same (omega arith) (omega arith) (omega arith), one_low (omega (arith, c.other.ensures.1)))

pub loop-i-preserved : goal.loop-i-preserved
loop-i-preserved c =
    outer_more _ c.requires.1 c.requires.0 c.loop-i-test.true c.other.ensures.0 c.loop-i.invariant
    (c.node.ensures _ (some_body _ _))

pub returns : goal.returns
returns c = outer_all _ c.requires.1 c.loop-i.i (omega arith) (omega arith) c.loop-i.invariant
