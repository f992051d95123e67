-- `reading::any_node` meets its contract: the fields behind the kind decide, and they end where the body does.
-- Assumes nothing.
use Rattle.std.proofs.Common.{arith}
use Rattle.std.proofs.lemmas.Result.{err_from_is_err_and}
use Rattle.tables.specs.Kinds.{KindFrom}
use Rattle.tables.proofs.ReadingLaws.{no_node, unknown_node, refused_node, whole_node}
use Rattle.tables.proofs.reading.any_node.Goals as goal

pub returns-then-count-eq0 : goal.returns-then-count-eq0
returns-then-count-eq0 c = no_node _ _ _ c.count.ensures c.if-count-eq0.true

pub returns-in_err-kind : goal.returns-in_err-kind
unfolding KindFrom
returns-in_err-kind c =
    let p = err_from_is_err_and c.from_residual.result c.from_residual.ensures.1 in
    rw (p.1, p.2, c.in_err-kind.ensures.1)
    (unknown_node _ _ _ (omega (arith, c.count.ensures)) c.natural.ensures.1 c.in_err-kind.ensures.0)

pub returns-in_default : goal.returns-in_default
unfolding KindFrom
returns-in_default c =
    refused_node _ _ _ (omega (arith, c.count.ensures)) c.natural.ensures.1 _ c.in_ok-kind.ensures
    c.in_default.ensures.reads

pub returns : goal.returns
unfolding KindFrom
returns c =
    whole_node _ _ _ (omega (arith, c.count.ensures)) c.natural.ensures.1 _ c.in_ok-kind.ensures c.in-Some.ensures.reads
    _ c.in-Some.ensures.ends
