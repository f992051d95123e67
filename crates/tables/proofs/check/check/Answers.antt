-- `check::check` meets its contract: each way out is a verdict of the definitions.
-- Assumes nothing.
use Rattle.std.proofs.Common.{◌+◌, sym, ◌∙◌, arith}
use Rattle.std.proofs.Common.{inl, inr}
use Rattle.std.proofs.lemmas.Result.{err_from_is_err_and}
use Rattle.tables.proofs.WordLaws.{words_length}
use Rattle.tables.proofs.WalkLaws.{part_long}
use Rattle.tables.proofs.VerdictLaws.{Sized, NodesRead, nodes_read, nodes_listed, verdict_odd, verdict_size}
use Rattle.tables.proofs.VerdictLaws.{verdict_count, verdict_nodes, verdict_broken, verdict_left, verdict_rule}
use Rattle.tables.proofs.check.check.Goals as goal
use Rattle.tables.proofs.check.check.Goals.{After-nodes, In_ok-nodes}

-- the tests of the first word are passed
sized : (c : After-nodes) → Sized c.args.t.now c.natural-n.result
sized c = record {
  whole = omega arith;
  first = c.natural-n.ensures.1;
  some = omega arith;
  inside = omega (arith, c.count-size.ensures);
  most = omega (arith, c.count-size.ensures);
}

-- the nodes are read
read : (c : In_ok-nodes) → Sized c.args.t.now c.natural-n.result → NodesRead c.args.t.now c.natural-n.result
read c sized = nodes_read _ _ _ sized c.in_ok-nodes.was c.nodes.ensures

pub returns-then-t-ne0 : goal.returns-then-t-ne0
returns-then-t-ne0 c = verdict_odd _ c.if-t-ne0.true

pub returns-then-size-eq0 : goal.returns-then-size-eq0
returns-then-size-eq0 c =
    verdict_size _ c.if-t-ne0.false
    (elim c.then-size-eq0.either [
      | inl none ↦ inl (sym c.count-size.ensures ∙ none)
      | inr more ↦ inr (omega (arith, c.count-size.ensures, more.1))
    ])

pub returns-then-n-lt1 : goal.returns-then-n-lt1
returns-then-n-lt1 c =
    verdict_count _ c.natural-n.result c.if-t-ne0.false c.natural-n.ensures.1 (omega (arith, c.count-size.ensures))
    (elim c.then-n-lt1.either [ inl none ↦ inl none | inr more ↦ inr (omega (arith, c.count-size.ensures, more.1)) ])

pub returns-in_err-nodes : goal.returns-in_err-nodes
returns-in_err-nodes c =
    let p = err_from_is_err_and c.from_residual.result c.from_residual.ensures.1 in
    rw (p.1, p.2) (verdict_nodes _ _ (sized (goal.at.returns-in_err-nodes c).After-nodes) c.in_err-nodes.was c.nodes.ensures)

pub slice_bounds-walk-count : goal.slice_bounds-walk-count
slice_bounds-walk-count c = omega (arith, c.count-size.ensures, words_length c.args.t.now)

pub slice_bounds-walk-start : goal.slice_bounds-walk-start
slice_bounds-walk-start c = omega (arith, c.count-size.ensures, words_length c.args.t.now)

pub walk-requires : goal.walk-requires
walk-requires c =
    let at = goal.at.walk-requires c in (
      nodes_listed (read at.In_ok-nodes (sized at.After-nodes)),
      omega (arith, c.count-size.ensures),
      omega (arith, c.count-size.ensures, part_long c.args.t.now (c.natural-n.result + 1)),
    )

pub returns-in-Some : goal.returns-in-Some
returns-in-Some c =
    let at = goal.at.returns-in-Some c in
    verdict_rule (read at.In_ok-nodes (sized at.After-nodes)) _ _ c.in-Some.is c.walk.ensures c.if-tree-n.true

pub returns-in_default : goal.returns-in_default
returns-in_default c =
    let at = goal.at.returns-in_default c in
    verdict_left (read at.In_ok-nodes (sized at.After-nodes)) _ _ c.in-Some.is c.walk.ensures c.if-tree-n.false

pub returns-in_default-2 : goal.returns-in_default-2
returns-in_default-2 c =
    let at = goal.at.returns-in_default-2 c in
    verdict_broken (read at.In_ok-nodes (sized at.After-nodes)) c.in_default.is c.walk.ensures
