-- `place::rule` meets its contract: node after node is placed, each with its number moved by i.
-- Assumes nothing.
use Rattle.std.proofs.Common.{ℕ, ◌+◌, ◌<◌, refl, ap, ◌∙◌, arith}
use Rattle.rules.specs.Rule.{Rule}
use Rattle.rules.specs.Calls.{words}
use Rattle.rules.proofs.Sizes.{weight_is}
use Rattle.tables.proofs.WordLaws.{words_length, same_words}
use Rattle.tables.proofs.Passed.{TableOf, passed, verdict_table, table_formed, table_inside, table_most, table_bodies}
use Rattle.finishing.specs.Finishing.{Placeable}
use Rattle.finishing.proofs.NodeLaws.{body_inside}
use Rattle.finishing.proofs.PartwayLaws.{none_placed, next, next_placeable, one_placed, all_placed}
use Rattle.questions.proofs.place.rule.Goals as goal
use Rattle.questions.proofs.place.rule.Goals.{At-loop-k}

pub overflow_add-from : goal.overflow_add-from
overflow_add-from c =
    let (a, t) = passed _ _ refl c.requires.0 in
    omega (arith, table_inside t, table_most t)

pub loop-k-init : goal.loop-k-init
loop-k-init c = λ a t. none_placed a (table_formed t) t.counted (c.requires.1 a t.decodes) (table_bodies t)

pub overflow_add-i : goal.overflow_add-i
overflow_add-i c =
    let (a, t) = passed _ _ refl c.requires.0 in
    let free = c.requires.1 a t.decodes in
    omega (arith, free.entries, free.most, t.counted)

-- the next of them
placeable : (c : At-loop-k) (more : c.loop-k.k < c.args.n) (a : Rule) (t : TableOf c.args.t.now c.args.n a)
    → let loop = c.loop-k in
    Placeable (words c.args.t.now) loop.from c.args.i (words loop.table) (c.args.i + loop.k) loop.place
    (next (loop.invariant a t) more)
placeable c more a t =
    next_placeable (c.loop-k.invariant a t) more (c.args.i + c.loop-k.k) c.args.i refl (omega arith)
    (same_words c.loop-k.table c.args.table.now c.loop-k.auto.table)

pub node-width-requires : goal.node-width-requires
node-width-requires c =
    let (a, t) = passed _ _ refl c.requires.0 in
    record { node = _; placeable = placeable (goal.at.node-width-requires c).At-loop-k c.loop-k-test.true a t }

pub overflow_add-from-in-loop-k : goal.overflow_add-from-in-loop-k
overflow_add-from-in-loop-k c =
    let (a, t) = passed _ _ refl c.requires.0 in
    let h = placeable (goal.at.overflow_add-from-in-loop-k c).At-loop-k c.loop-k-test.true a t in
    omega (arith, (c.node-width.ensures _ h).1, body_inside h, words_length c.args.t.now)

pub overflow_add-place : goal.overflow_add-place
overflow_add-place c =
    let (a, t) = passed _ _ refl c.requires.0 in
    let h = placeable (goal.at.overflow_add-place c).At-loop-k c.loop-k-test.true a t in
    omega (arith, (c.node-width.ensures _ h).1, h.free.most)

pub loop-k-preserved : goal.loop-k-preserved
loop-k-preserved c = λ a t.
    let more = c.loop-k-test.true in
    let p = c.loop-k.invariant a t in
    let h = placeable (goal.at.loop-k-preserved c).At-loop-k more a t in
    let (run, wide) = c.node-width.ensures (next p more) h in
    one_placed p more _ (c.args.i + c.loop-k.k) c.node-width.result refl run wide

pub returns : goal.returns
returns c = λ a decodes.
    let t = verdict_table c.requires.0 decodes in
    let (run, end) = all_placed (c.loop-k.invariant a t) (omega arith) in
    (run, end ∙ ap (λ (w : ℕ). c.args.to + w) (weight_is a))
