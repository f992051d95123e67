-- `result::answered` meets its contract: the verdict is by the root's kind, the words and settings are the rule's.
-- Assumes nothing.
use mathlib.Core.Path.{◌∙◌}
use native.Mathlib.Omega.{arith}
use Rattle.elimination.proofs.TableLaws.{whole_body}
use Rattle.leaveoff.proofs.ResultLaws.{table_body, words_few, answer_is}
use Rattle.leaveoff.proofs.result.answered.Goals as goal

pub rule-rule-requires : goal.rule-rule-requires
rule-rule-requires c = c.requires

pub overflow_add-result-2 : goal.overflow_add-result-2
overflow_add-result-2 c =
    let has = c.requires.has in
    let at = (c.rule-rule.ensures _ has).at in
    let (nodes, long) = c.extent-nodes.ensures _ at in
    omega (arith, words_few has _ _ nodes long)

pub overflow_cast-result : goal.overflow_cast-result
overflow_cast-result c =
    let has = c.requires.has in
    let at = (c.rule-rule.ensures _ has).at in
    let (nodes, long) = c.extent-nodes.ensures _ at in
    omega (arith, words_few has _ _ nodes long)

pub occurring-requires : goal.occurring-requires
occurring-requires c =
    let w = c.rule-rule.ensures _ c.requires.has in
    table_body w _ (c.extent-nodes.ensures _ w.at).1

pub returns : goal.returns
returns c = λ r has.
    let w = c.rule-rule.ensures r has in
    let (nodes, long) = c.extent-nodes.ensures r w.at in
    answer_is r _ _ _ _ (c.number.ensures ∙ c.verdict.ensures r (c.kind.ensures r w.at)) nodes long
    (c.occurring.ensures _ r (whole_body w _ long))
