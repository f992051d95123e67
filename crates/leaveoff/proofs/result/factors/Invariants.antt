-- Whatever literal stands at this place, the set has its settings below v.
use mathlib.Core.List.{List}
use Prim.Native.Nat.{ℕ}
use Rattle.rules.specs.Sum.{Sum}
use Rattle.rules.specs.Rule.{Test}
use Rattle.rules.specs.Calls.{words}
use Rattle.tables.specs.Settings.{IsSet}
use Rattle.bodies.specs.Cursor.{LiteralAt}
use Rattle.leaveoff.proofs.OccurringLaws.{factors_below}
use Rattle.leaveoff.proofs.result.factors.Given as goal

abbrev pub invariant-loop-v : goal.invariant-loop-v
invariant-loop-v l = (end : ℕ) (t : Test) (s : Sum) (ls : List (Test × Sum))
    → LiteralAt (words l.bodies) l.place end t s ls
    → IsSet l.set (factors_below l.v s)
