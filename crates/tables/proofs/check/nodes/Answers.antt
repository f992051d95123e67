-- `check::nodes` meets its contract: the verdict on what is left is the verdict on the whole.
-- Assumes nothing.
use Rattle.std.proofs.Common.{arith, sym, ◌∙◌}
use Rattle.std.proofs.lemmas.Result.{err_from_is_err_and}
use Rattle.rules.specs.Calls.{words}
use Rattle.tables.proofs.WordLaws.{words_length, part, words_from}
use Rattle.tables.proofs.NodeSteps.{EntryRead, BodyRead, carries_itself, still_inside, entry_refused, body_refused}
use Rattle.tables.proofs.NodeSteps.{node_passed, all_passed, end_refused}
use Rattle.tables.proofs.ReadingLaws.{node_whole, node_refused}
use Rattle.tables.proofs.check.nodes.Goals as goal
use Rattle.tables.proofs.check.nodes.Goals.{After-natural, Else-natural-place}

-- the entry is read
entry_read : (c : After-natural)
    → EntryRead (words c.args.t.now) c.args.n c.loop-i.i c.loop-i.place c.natural.result
entry_read c = record { node = c.loop-i.invariant.due; some = c.loop-i-test.true; entry = c.natural.ensures.1 }

-- and it is the place, where the node's body starts
body_read : (c : Else-natural-place)
    → BodyRead (words c.args.t.now) c.args.n c.loop-i.i c.loop-i.place c.natural.result (part c.args.t.now c.loop-i.place)
body_read c = record {
  read = record { node = c.loop-i.invariant.due; some = c.loop-i-test.true; entry = c.natural.ensures.1 };
  same = c.if-natural-place.false;
  low = omega (arith, c.loop-i.invariant.inside);
  at = words_from c.args.t.now c.loop-i.place;
}

pub loop-i-init : goal.loop-i-init
loop-i-init c = record { inside = omega arith; due = record { inside = omega arith; carries = carries_itself _ } }

pub returns-then-natural-place : goal.returns-then-natural-place
returns-then-natural-place c =
    entry_refused (entry_read (goal.at.returns-then-natural-place c).After-natural) c.if-natural-place.true

pub slice_bounds-read_node-count : goal.slice_bounds-read_node-count
slice_bounds-read_node-count c = omega (arith, words_length c.args.t.now, c.loop-i.invariant.inside)

pub slice_bounds-read_node-start : goal.slice_bounds-read_node-start
slice_bounds-read_node-start c = omega (arith, words_length c.args.t.now, c.loop-i.invariant.inside)

pub read_node-requires : goal.read_node-requires
read_node-requires c = omega (arith, c.loop-i.invariant.inside)

pub returns-in_err-next : goal.returns-in_err-next
returns-in_err-next c =
    let body = body_read (goal.at.returns-in_err-next c).Else-natural-place in
    let p = err_from_is_err_and c.from_residual.result c.from_residual.ensures.1 in
    rw (p.1, p.2) (body_refused body _ (node_refused _ _ c.in_err-next.was c.read_node.ensures c.loop-i.i))

pub loop-i-preserved : goal.loop-i-preserved
loop-i-preserved c =
    let body = body_read (goal.at.loop-i-preserved c).Else-natural-place in
    let it = node_whole _ _ c.in_ok-next.was c.read_node.ensures c.loop-i.i in
    record { inside = still_inside body c.loop-i.invariant.inside it; due = node_passed body it }

pub returns-then-place-count : goal.returns-then-place-count
returns-then-place-count c =
    all_passed c.loop-i.invariant.due (omega arith) (c.if-place-count.true ∙ c.count.ensures)

pub returns-else-place-count : goal.returns-else-place-count
returns-else-place-count c =
    end_refused c.loop-i.invariant.due (omega arith) c.loop-i.invariant.inside
    (λ e. c.if-place-count.false (e ∙ sym c.count.ensures))
