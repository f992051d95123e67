use Prim.Native.Nat.{◌-◌, ◌≤◌, ◌^◌}
use Rattle.judging.proofs.MultipleLaws.{Doubled}
use Rattle.judging.proofs.masks.comb.Given as goal

abbrev pub invariant-loop-w : goal.invariant-loop-w
invariant-loop-w l = (1 ≤ l.w) × (l.w ≤ 2 ^ 32) × Doubled l.d l.m l.w

abbrev pub decreases-loop-w : goal.decreases-loop-w
decreases-loop-w l = 64 - l.w
