-- `question::fails` meets its contract: the quantifier, the not, then the rule.
-- Assumes nothing.
use Rattle.std.proofs.Common.{refl, ◌∙◌, arith}
use Rattle.rules.specs.Table.{count}
use Rattle.rules.proofs.Sizes.{weight}
use Rattle.rules.proofs.Encoding.{setting_range}
use Rattle.tables.proofs.WordLaws.{same_words}
use Rattle.tables.proofs.Passed.{passed}
use Rattle.finishing.proofs.RunLaws.{free_part}
use Rattle.questions.proofs.PlaceLaws.{none_low, one_low}
use Rattle.questions.proofs.QuestionLaws.{some_body, not_body, fails_run}
use Rattle.questions.proofs.question.fails.Goals as goal

pub node-requires : goal.node-requires
unfolding count weight
node-requires c =
    let (a, t) = passed _ _ refl c.requires.0 in
    let free = c.requires.2 a t.decodes in (
      free_part _ _ _ _ free refl (omega arith) (omega arith) (omega arith),
      one_low (omega (arith, (setting_range _ c.requires.1).1)),
    )

pub overflow_add-i : goal.overflow_add-i
overflow_add-i c =
    let (a, t) = passed _ _ refl c.requires.0 in
    let free = c.requires.2 a t.decodes in
    omega (arith, free.entries, free.most)

pub overflow_add-to : goal.overflow_add-to
overflow_add-to c =
    let (a, t) = passed _ _ refl c.requires.0 in
    omega (arith, (c.requires.2 a t.decodes).most)

pub node-requires-2 : goal.node-requires-2
unfolding count weight
node-requires-2 c =
    let (a, t) = passed _ _ refl c.requires.0 in
    let same = same_words c.node.new.table c.args.table.now c.node.auto.table in
    (free_part _ _ _ _ (c.requires.2 a t.decodes) same (omega arith) (omega arith) (omega arith), none_low)

pub overflow_add-i-2 : goal.overflow_add-i-2
overflow_add-i-2 c =
    let (a, t) = passed _ _ refl c.requires.0 in
    let free = c.requires.2 a t.decodes in
    omega (arith, free.entries, free.most)

pub overflow_add-to-2 : goal.overflow_add-to-2
overflow_add-to-2 c =
    let (a, t) = passed _ _ refl c.requires.0 in
    omega (arith, (c.requires.2 a t.decodes).most)

pub rule-requires : goal.rule-requires
unfolding count weight
rule-requires c =
    let same = same_words c.node-2.new.table c.args.table.now (c.node-2.auto.table ∙ c.node.auto.table) in
    (c.requires.0, λ a e. free_part _ _ _ _ (c.requires.2 a e) same (omega arith) (omega arith) (omega arith))

pub returns : goal.returns
returns c = λ a decodes.
    let free = c.requires.2 a decodes in
    let (run, end) = c.rule.ensures a decodes in
    fails_run _ a (omega (arith, free.bodies)) (c.node.ensures _ (some_body _ _)) free.entries
    (c.node-2.ensures _ (not_body _)) run
