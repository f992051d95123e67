-- `reading::width` meets its contract: past the commonest kinds, by the kind's digit in the number.
-- Assumes nothing.
use Rattle.std.proofs.Common.{arith}
use Rattle.tables.specs.Reads.{widths}
use Rattle.tables.proofs.Lookups.{found}
use Rattle.tables.proofs.reading.width.Goals as goal

pub returns-then-kind-4 : goal.returns-then-kind-4
returns-then-kind-4 c = found 8944697287185 9 0 widths tt _ (omega arith)
