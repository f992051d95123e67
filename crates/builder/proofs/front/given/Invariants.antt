use mathlib.Core.Path.{◌≡◌}
use mathlib.Core.List.{List, ◌++◌}
use Prim.Native.Nat.{◌+◌}
use lib.IntN.{ℤ}
use lib.ListN.{length}
use Rattle.rules.specs.Calls.{words}
use Rattle.builder.specs.Built.{Ends}
use Rattle.builder.proofs.front.given.Given as goal

-- of the sum, what is put are the words behind those that are left
abbrev pub invariant-loop-v : goal.invariant-loop-v
invariant-loop-v now =
    (done : List ℤ) × (now.sum ≡ now.v-iterator.iter.rest.now ++ done) × (now.u ≡ now.used + length done)
    × ((l : List ℤ) → Ends (words now.initial.out) now.used l → Ends (words now.out) now.u (done ++ l))
