use Rattle.std.proofs.Common.{◌≡◌}
use Rattle.rules.specs.Rule.{Rule}
use Rattle.rules.specs.Table.{count}
use Rattle.rules.specs.Calls.{words}
use Rattle.tables.specs.Standing.{TableAt}
use Rattle.tables.proofs.LastLaws.{Sought}
use Rattle.tables.proofs.quantifiers.last.Given as goal

abbrev pub invariant-loop-i : goal.invariant-loop-i
invariant-loop-i l = (r : Rule) → TableAt (words l.t) r → l.n ≡ count r → Sought l.i r
