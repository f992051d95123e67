-- `all_within` meets its contract.
use Rattle.std.proofs.Common.{rules}
use Rattle.std.specs.Prelude.{IsTrue, ◌↔◌}
use Rattle.matcher.proofs.Values.{EachWithin, by_each}
use Rattle.matcher.proofs.range.all_within.Goals as goal

pub returns : goal.returns
returns c =
    let each : IsTrue c.all.result ↔ EachWithin 500000000 c.args.values.now = search rules in
    by_each 500000000 c.args.values.now each
