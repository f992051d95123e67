-- What was left still is, though some nodes are passed.
use Rattle.std.proofs.Common.{◌-◌, ◌≤◌, ℕ, List, ℤ}
use Rattle.rules.specs.Sum.{Sum}
use Rattle.rules.specs.Rule.{Test}
use Rattle.bodies.specs.Cursor.{Left}
use Rattle.bodies.proofs.cursor.LiteralsIterator.next.Given as goal

abbrev pub invariant-loop-self : goal.invariant-loop-self
invariant-loop-self l =
    (l.initial.self.place ≤ l.self.place)
    × ((bs : List ℤ) (end : ℕ) (ls : List (Test × Sum)) → Left bs end l.initial.self ls → Left bs end l.self ls)

abbrev pub decreases-loop-self : goal.decreases-loop-self
decreases-loop-self l = l.self.end - l.self.place
