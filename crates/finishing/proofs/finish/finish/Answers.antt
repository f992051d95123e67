-- `finish::finish` meets its contract: the count is put, then node after node is placed.
-- Assumes nothing.
use Rattle.std.proofs.Common.{◌+◌, ◌<◌, arith}
use Rattle.rules.specs.Rule.{Rule}
use Rattle.rules.specs.Table.{nodes}
use Rattle.rules.specs.Calls.{words}
use Rattle.tables.proofs.WordLaws.{words_length, same_words}
use Rattle.builder.proofs.EndLaws.{number_fits}
use Rattle.finishing.specs.Finishing.{Placeable, Finishable}
use Rattle.finishing.proofs.NodeLaws.{put_is, body_inside}
use Rattle.finishing.proofs.PartwayLaws.{built, Partway, next, next_placeable, one_placed}
use Rattle.finishing.proofs.FinishLaws.{used_inside, first_inside, nodes_few, at_first, at_last}
use Rattle.finishing.proofs.finish.finish.Goals as goal
use Rattle.finishing.proofs.finish.finish.Goals.{At-loop-i}

pub overflow_cast-n : goal.overflow_cast-n
overflow_cast-n c = number_fits _ (omega (arith, nodes_few c.requires.finishable))

pub put-requires : goal.put-requires
put-requires c = first_inside c.requires.finishable

pub overflow_sub-from : goal.overflow_sub-from
overflow_sub-from c = omega (arith, used_inside c.requires.finishable)

pub overflow_add-to : goal.overflow_add-to
overflow_add-to c = omega (arith, nodes_few c.requires.finishable)

pub loop-i-init : goal.loop-i-init
loop-i-init c = λ ds p. p

-- of a rule r that is built some nodes are placed
so_far : (c : At-loop-i) (r : Rule) → Finishable (words c.args.work.now) c.args.b (words c.args.table.now) r
    → let at = c.loop-i in
    let n = c.args.b.nodes in
    Partway built (words c.args.work.now) (words c.put.new.b) (words at.table) 0 (n + 1) n at.i at.from at.to (nodes r)
so_far c r h =
    let stored = put_is (words c.args.table.now) _ 0 _ (omega (arith, nodes_few h)) c.put.ensures.0 in
    c.loop-i.invariant _ (at_first h stored _ c.count.ensures)

-- the next of them
placeable : (c : At-loop-i) (more : c.loop-i.i < c.args.b.nodes)
    → let loop = c.loop-i in
    Placeable (words c.args.work.now) loop.from loop.i (words loop.table) loop.i loop.to
    (next (so_far c c.requires.rule c.requires.finishable) more)
placeable c more =
    next_placeable (so_far c c.requires.rule c.requires.finishable) more c.loop-i.i c.loop-i.i (omega arith)
    (omega arith)
    (same_words c.loop-i.table c.put.new.b c.loop-i.auto.table)

pub node-width-requires : goal.node-width-requires
node-width-requires c =
    record { node = _; placeable = placeable (goal.at.node-width-requires c).At-loop-i c.loop-i-test.true }

pub overflow_add-from : goal.overflow_add-from
overflow_add-from c =
    let h = placeable (goal.at.overflow_add-from c).At-loop-i c.loop-i-test.true in
    omega (arith, (c.node-width.ensures _ h).1, body_inside h, words_length c.args.work.now)

pub overflow_add-to-in-loop-i : goal.overflow_add-to-in-loop-i
overflow_add-to-in-loop-i c =
    let h = placeable (goal.at.overflow_add-to-in-loop-i c).At-loop-i c.loop-i-test.true in
    omega (arith, (c.node-width.ensures _ h).1, h.free.most)

pub loop-i-preserved : goal.loop-i-preserved
loop-i-preserved c = λ ds first.
    let p = c.loop-i.invariant ds first in
    let more = c.loop-i-test.true in
    let same = same_words c.loop-i.table c.put.new.b c.loop-i.auto.table in
    let h = next_placeable p more c.loop-i.i c.loop-i.i (omega arith) (omega arith) same in
    let (run, wide) = c.node-width.ensures (next p more) h in
    one_placed p more _ c.loop-i.i c.node-width.result (omega arith) run wide

pub returns : goal.returns
returns c = λ r h.
    at_last h (put_is (words c.args.table.now) _ 0 _ (omega (arith, nodes_few h)) c.put.ensures.0)
    (so_far (goal.at.returns c).At-loop-i r h) (omega arith)
