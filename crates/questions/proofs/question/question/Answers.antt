-- `question::question` meets its contract: the count, the outer quantifiers, the and, its two sides.
-- Assumes nothing.
use Rattle.std.proofs.Common.{◌+◌, ◌*◌, ◌≤◌, refl, ◌∙◌, arith}
use Rattle.rules.specs.Sum.{limit}
use Rattle.rules.specs.Rule.{Rule}
use Rattle.rules.specs.Table.{count}
use Rattle.rules.specs.Calls.{words}
use Rattle.rules.proofs.Sizes.{weight}
use Rattle.tables.proofs.WordLaws.{same_words}
use Rattle.tables.proofs.Passed.{TableOf, passed, verdict_table}
use Rattle.builder.proofs.EndLaws.{number_fits}
use Rattle.finishing.specs.Placing.{Free}
use Rattle.finishing.proofs.NodeLaws.{put_is}
use Rattle.finishing.proofs.RunLaws.{free_part, run_table}
use Rattle.questions.proofs.PlaceLaws.{one_low}
use Rattle.questions.proofs.QuestionLaws.{and_body, question_count, question_free, question_run}
use Rattle.questions.proofs.question.question.Goals as goal
use Rattle.questions.proofs.question.question.Goals.{Start}

-- the rule whose table t is
the_table : (c : Start) → (a : Rule) × TableOf c.args.t.now c.args.n a
the_table c = passed _ _ refl c.requires.0

-- the room for all that follows the count
room : (c : Start) (a : Rule) → TableOf c.args.t.now c.args.n a
    → Free (words c.args.out.now) 0 (c.args.n * 2 + 9 + 1) (c.args.n * 2 + 9) (weight a * 2 + 17)
room c a t = question_free _ c.requires.1 a t.counted (c.requires.2 a t.decodes) c.requires.3

-- the nodes of the question are few
few : (c : Start) → c.args.n * 2 + 27 ≤ 16384
few c = let (a, t) = the_table c in omega (arith, (room c a t).most)

pub overflow_mul-nodes : goal.overflow_mul-nodes
overflow_mul-nodes c = omega (arith, few (goal.at.overflow_mul-nodes c).Start)

pub overflow_add-nodes : goal.overflow_add-nodes
overflow_add-nodes c = omega (arith, few (goal.at.overflow_add-nodes c).Start)

pub overflow_cast-nodes : goal.overflow_cast-nodes
overflow_cast-nodes c = number_fits _ (omega (arith, few (goal.at.overflow_cast-nodes c).Start))

pub put-requires : goal.put-requires
put-requires c =
    let s = (goal.at.put-requires c).Start in
    let (a, t) = the_table s in
    omega (arith, (room s a t).bodies)

pub overflow_add-nodes-2 : goal.overflow_add-nodes-2
overflow_add-nodes-2 c = omega (arith, few (goal.at.overflow_add-nodes-2 c).Start)

pub outer-requires : goal.outer-requires
outer-requires c =
    let s = (goal.at.outer-requires c).Start in
    let (a, t) = the_table s in
    let same = same_words c.put.new.b c.args.out.now c.put.auto.b in
    (free_part _ _ _ _ (room s a t) same (omega arith) (omega arith) (omega arith), c.requires.1)

pub overflow_add-nodes-3 : goal.overflow_add-nodes-3
overflow_add-nodes-3 c = omega (arith, few (goal.at.overflow_add-nodes-3 c).Start)

pub overflow_add-n : goal.overflow_add-n
overflow_add-n c = omega (arith, few (goal.at.overflow_add-n c).Start)

pub node-requires : goal.node-requires
node-requires c =
    let s = (goal.at.node-requires c).Start in
    let (a, t) = the_table s in
    let same = same_words c.outer.new.table c.args.out.now (c.outer.auto.table ∙ c.put.auto.b) in (
      free_part _ _ _ _ (room s a t) same (omega arith) (omega arith) (omega arith),
      one_low (omega (arith, few s)),
    )

pub overflow_add-nodes-4 : goal.overflow_add-nodes-4
overflow_add-nodes-4 c = omega (arith, few (goal.at.overflow_add-nodes-4 c).Start)

pub holds-behind-requires : goal.holds-behind-requires
unfolding count weight
holds-behind-requires c =
    let s = (goal.at.holds-behind-requires c).Start in
    let same = same_words c.node.new.table c.args.out.now (c.node.auto.table ∙ c.outer.auto.table ∙ c.put.auto.b) in (
      c.requires.0,
      c.requires.1,
      λ a decodes. let t = verdict_table c.requires.0 decodes in
          free_part _ _ _ _ (room s a t) same (omega (arith, t.counted)) (omega arith) (omega arith),
    )

pub overflow_add-n-2 : goal.overflow_add-n-2
overflow_add-n-2 c = omega (arith, few (goal.at.overflow_add-n-2 c).Start)

pub fails-requires : goal.fails-requires
unfolding count weight
fails-requires c =
    let s = (goal.at.fails-requires c).Start in
    let kept = c.holds-behind.auto.table ∙ c.node.auto.table ∙ c.outer.auto.table ∙ c.put.auto.b in
    let same = same_words c.holds-behind.new.table c.args.out.now kept in (
      c.requires.0,
      c.requires.1,
      λ a decodes. let t = verdict_table c.requires.0 decodes in
          let end = (c.holds-behind.ensures a decodes).1 in
          free_part _ _ _ _ (room s a t) same (omega (arith, t.counted)) (omega (arith, end)) (omega (arith, end)),
    )

pub returns : goal.returns
returns c = λ a decodes.
    let s = (goal.at.returns c).Start in
    let n = c.args.n in
    let t = verdict_table c.requires.0 decodes in
    let (run, end) = c.holds-behind.ensures a decodes in
    let low : n * 2 + 9 ≤ limit = omega (arith, few s) in
    let stored = put_is (words c.args.out.now) _ 0 (n * 2 + 9) low c.put.ensures.0 in
    let same = same_words c.put.new.b c.args.out.now c.put.auto.b in
    let behind_count = (room s a t).bodies in
    let all = question_run _ c.requires.1 a n _ _ t.counted refl (omega (arith, behind_count, same))
    c.outer.ensures (c.node.ensures _ (and_body n _ a t.counted)) run end
    (c.fails.ensures a decodes) in
    run_table (words c.args.out.now) (n * 2 + 9) _ (omega (arith, question_count _ c.requires.1 a, t.counted))
    (omega (arith, behind_count)) stored all
