use lib.IntN.{pos, ◌+ℤ◌, ◌*ℤ◌}
use Rattle.rules.specs.Rule.{Test, passes}
use Rattle.tables.specs.Kinds.{number_of}
use Rattle.literals.specs.Literal.{Marked}
use Rattle.judging.proofs.TakenLaws.{Taken}
use Rattle.judging.proofs.literal.one_by_one.Given as goal

abbrev pub invariant-loop-i : goal.invariant-loop-i
invariant-loop-i l =
    (t : Test) → Marked (number_of l.kind) l.k t → Taken (λ n. passes t (l.c +ℤ l.f *ℤ pos n)) l.m l.i
