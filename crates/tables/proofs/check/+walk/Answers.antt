-- `check::walk` meets its contract: behind m nodes and w words exactly one more tree is due.
-- Assumes nothing.
use Rattle.std.proofs.Common.{◌≡◌, ◌+◌, ℕ, None, arith}
use Rattle.tables.proofs.DueTrees.{due_whole}
use Rattle.tables.proofs.TreeSteps.{tree_none}
use Rattle.tables.proofs.WalkLaws.{Turn, Pair, LeftTree, first_kind, walk_leaf, walk_only, behind_byte}
use Rattle.tables.proofs.WalkLaws.{left_asks, second_word, walk_broken, left_found, left_fits, walk_wrong, walk_right}
use Rattle.tables.proofs.check.+walk.Goals as goal
use Rattle.tables.proofs.check.+walk.Goals.{After-width, Else-children-eq1, In_ok-first}

-- the node is read
turn : (t : ℕ) (c : After-width t)
    → Turn c.args.bodies.now c.args.node c.args.left c.loop-m.m c.loop-m.w c.natural-kind.result
    c.width.result c.children-children.result
turn t c = record {
  due = c.loop-m.invariant;
  low = c.requires.1;
  most = c.requires.2;
  some = c.loop-m-test.true;
  first = c.natural-kind.ensures.1;
  wide = c.width.ensures.0;
  children = c.children-children.ensures;
}

-- it has two children
pair : (t : ℕ) (c : Else-children-eq1 t)
    → Turn c.args.bodies.now c.args.node c.args.left c.loop-m.m c.loop-m.w c.natural-kind.result
    c.width.result c.children-children.result
    → Pair c.args.bodies.now c.args.node c.args.left c.loop-m.m c.loop-m.w c.natural-kind.result
    c.width.result c.children-children.result
pair t c turn = record { turn = turn; not_leaf = omega arith; not_one = omega arith }

-- the left child's tree is found
left_tree : (t : ℕ) (c : In_ok-first t)
    → Pair c.args.bodies.now c.args.node c.args.left c.loop-m.m c.loop-m.w c.natural-kind.result
    c.width.result c.children-children.result
    → LeftTree c.args.bodies.now c.args.node c.args.left c.loop-m.m c.loop-m.w c.natural-kind.result c.width.result
    c.children-children.result c.in_ok-first.first.nodes c.in_ok-first.first.words c.natural-right.result
left_tree t c pair = left_found pair c.in_ok-first.was c.walk.ensures c.natural-right.ensures.1

pub loop-m-init : goal.loop-m-init
loop-m-init t c = due_whole _ _ _ c.requires.0

pub natural-kind-requires : goal.natural-kind-requires
natural-kind-requires t c = (first_kind _ c.loop-m.invariant c.loop-m-test.true).there

pub returns-then-children-eq0 : goal.returns-then-children-eq0
returns-then-children-eq0 t c =
    let at = goal.at.returns-then-children-eq0 t c in
    walk_leaf (turn t at.After-width) c.if-children-eq0.true

pub loop-m-preserved-then-children-eq1 : goal.loop-m-preserved-then-children-eq1
loop-m-preserved-then-children-eq1 t c =
    let at = goal.at.loop-m-preserved-then-children-eq1 t c in
    walk_only (turn t at.After-width) c.if-children-eq1.true

pub natural-right-requires : goal.natural-right-requires
natural-right-requires t c =
    let at = goal.at.natural-right-requires t c in
    second_word (pair t at.Else-children-eq1 (turn t at.After-width))

pub slice_bounds-walk-count : goal.slice_bounds-walk-count
slice_bounds-walk-count t c =
    let at = goal.at.slice_bounds-walk-count t c in
    behind_byte (pair t at.Else-children-eq1 (turn t at.After-width)).turn

pub slice_bounds-walk-start : goal.slice_bounds-walk-start
slice_bounds-walk-start t c =
    let at = goal.at.slice_bounds-walk-start t c in
    behind_byte (pair t at.Else-children-eq1 (turn t at.After-width)).turn

pub walk-requires : goal.walk-requires
walk-requires t c =
    let at = goal.at.walk-requires t c in
    let u = (pair t at.Else-children-eq1 (turn t at.After-width)).turn in (omega (arith, c.decreases), left_asks u)

pub returns-in_err-first : goal.returns-in_err-first
returns-in_err-first t c =
    let at = goal.at.returns-in_err-first t c in
    walk_broken (pair t at.Else-children-eq1 (turn t at.After-width)) c.in_err-first.was c.from_residual.ensures c.walk.ensures

pub overflow_add-node-in-loop-m-4 : goal.overflow_add-node-in-loop-m-4
overflow_add-node-in-loop-m-4 t c =
    let at = goal.at.overflow_add-node-in-loop-m-4 t c in
    let f = left_tree t at.In_ok-first (pair t at.Else-children-eq1 (turn t at.After-width)) in
    omega (arith, (left_fits f).0, f.pair.turn.low)

pub returns-then-right-node : goal.returns-then-right-node
returns-then-right-node t c =
    let at = goal.at.returns-then-right-node t c in
    walk_wrong (left_tree t at.In_ok-first (pair t at.Else-children-eq1 (turn t at.After-width))) c.if-right-node.true

pub overflow_add-w-in-loop-m : goal.overflow_add-w-in-loop-m
overflow_add-w-in-loop-m t c =
    let at = goal.at.overflow_add-w-in-loop-m t c in
    let f = left_tree t at.In_ok-first (pair t at.Else-children-eq1 (turn t at.After-width)) in
    omega (arith, (left_fits f).1, f.pair.turn.most)

pub loop-m-preserved : goal.loop-m-preserved
loop-m-preserved t c =
    let at = goal.at.loop-m-preserved t c in
    let w : c.loop-m.w + c.width.result + c.in_ok-first.first.words
    ≡ c.loop-m.w + (c.width.result + c.in_ok-first.first.words) = omega arith in
    rw w
    (walk_right (left_tree t at.In_ok-first (pair t at.Else-children-eq1 (turn t at.After-width))) c.if-right-node.false)

pub returns : goal.returns
returns t c = c.loop-m.invariant.verdict None (tree_none _ _ _ (omega arith))
