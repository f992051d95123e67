use mathlib.Core.Path.{◌≡◌}
use lib.ListN.{drop}
use Rattle.rules.specs.Sum.{Sum, limit, all_within}
use Rattle.rules.specs.Calls.{words}
use Rattle.literals.specs.Rows.{Makes}
use Rattle.literals.proofs.row.all_within.Given as goal

abbrev pub invariant-loop-i : goal.invariant-loop-i
invariant-loop-i l =
    (z : Sum) → Makes l.row (words l.b) l.at z → all_within limit z ≡ all_within limit (drop l.i z)
