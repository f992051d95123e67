-- `reading::read_node` meets its contract: of the commonest kinds the fields behind the kind decide, and they end where
-- the body does.
-- Assumes nothing.
use Rattle.std.proofs.Common.{arith}
use Rattle.tables.proofs.ReadingLaws.{no_node, refused_node, whole_node}
use Rattle.tables.proofs.reading.read_node.Goals as goal

pub returns-then-count-eq0 : goal.returns-then-count-eq0
returns-then-count-eq0 c = no_node _ _ _ c.count.ensures c.if-count-eq0.true

pub returns-in-Some-fields : goal.returns-in-Some-fields
returns-in-Some-fields c =
    whole_node _ _ _ (omega (arith, c.count.ensures)) c.natural.ensures.1 _ c.in-Some.ensures c.in-Some-fields.ensures.reads
    _ c.in-Some-fields.ensures.ends

pub returns-in-None : goal.returns-in-None
returns-in-None c =
    refused_node _ _ _ (omega (arith, c.count.ensures)) c.natural.ensures.1 _ c.in-Some.ensures
    c.in-None.ensures.reads
