use mathlib.Core.Path.{◌≡◌}
use Prim.Native.Nat.{◌-◌, ◌*◌, ◌≤◌}
use lib.IntN.{nat_abs}
use lib.ListN.{take, drop}
use Rattle.rules.specs.Calls.{words}
use Rattle.literals.specs.Literal.{most_term}
use Rattle.literals.proofs.Terms.{behind}
use Rattle.literals.proofs.literal.value.Given as goal

abbrev pub invariant-loop-v : goal.invariant-loop-v
invariant-loop-v l =
    (l.x ≡ behind (take 7 (drop l.at (words l.b))) l.values l.v) × (nat_abs l.x ≤ (6 - l.v) * most_term)
