-- `fill` meets its contract: a turn puts what it reads behind what is there, and takes as much from the reader.
-- Assumes nothing.
use Rattle.std.proofs.Common.{rules}
use Rattle.eliminate.proofs.InputLaws.{consumed_on}
use Rattle.eliminate.proofs.input.fill.Goals as goal

pub loop-count-preserved : goal.loop-count-preserved
loop-count-preserved g c =
    let loop = c.loop-count in
    let before = loop.invariant in
    let read = c.in_ok-more.ensures in
    let more =
    consumed_on _ _ _ loop.buffer c.read.new.buf loop.count c.in_ok-more.more before.1 read.bound.0 before.2
    read.bytes.0 in
    (search rules, search rules, more)
