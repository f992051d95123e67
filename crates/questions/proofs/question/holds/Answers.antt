-- `question::holds` meets its contract: the quantifier, then the rule.
-- Assumes nothing.
use Rattle.std.proofs.Common.{refl, arith}
use Rattle.rules.specs.Table.{count}
use Rattle.rules.proofs.Sizes.{weight}
use Rattle.rules.proofs.Encoding.{setting_range}
use Rattle.tables.proofs.WordLaws.{same_words}
use Rattle.tables.proofs.Passed.{passed}
use Rattle.finishing.proofs.RunLaws.{free_part}
use Rattle.questions.proofs.PlaceLaws.{one_low}
use Rattle.questions.proofs.QuestionLaws.{some_body, holds_run}
use Rattle.questions.proofs.question.holds.Goals as goal

pub node-requires : goal.node-requires
unfolding count weight
node-requires c =
    let (a, t) = passed _ _ refl c.requires.0 in
    let free = c.requires.2 a t.decodes in (
      free_part _ _ _ _ free refl (omega arith) (omega arith) (omega arith),
      one_low (omega (arith, (setting_range _ c.requires.1).1)),
    )

pub overflow_add-i : goal.overflow_add-i
overflow_add-i c =
    let (a, t) = passed _ _ refl c.requires.0 in
    let free = c.requires.2 a t.decodes in
    omega (arith, free.entries, free.most)

pub overflow_add-to : goal.overflow_add-to
unfolding weight
overflow_add-to c =
    let (a, t) = passed _ _ refl c.requires.0 in
    omega (arith, (c.requires.2 a t.decodes).most)

pub rule-requires : goal.rule-requires
unfolding count weight
rule-requires c =
    let same = same_words c.node.new.table c.args.table.now c.node.auto.table in
    (c.requires.0, λ a e. free_part _ _ _ _ (c.requires.2 a e) same (omega arith) (omega arith) (omega arith))

pub returns : goal.returns
returns c = λ a decodes.
    let free = c.requires.2 a decodes in
    let (run, end) = c.rule.ensures a decodes in
    holds_run _ a (omega (arith, free.bodies)) (c.node.ensures _ (some_body _ _)) _ free.entries run end
