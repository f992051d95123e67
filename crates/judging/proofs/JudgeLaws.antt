-- The body at x = u + j + k, from the body at x = w + k where w is u + j.
-- Assumes nothing.
use mathlib.Core.Path.{◌≡◌, subst}
use mathlib.Core.Bool.{Bool}
use Prim.Native.Nat.{ℕ, ◌+◌, ◌<◌}
use lib.IntN.{pos}
use Rattle.rules.specs.Sum.{Sum, add, number}
use Rattle.rules.specs.Rule.{Rule}
use Rattle.rules.specs.Literals.{map_literals}
use Rattle.rules.specs.Calls.{words}
use Rattle.tables.specs.declared.part.Part.{Part}
use Rattle.rules.proofs.Sums.{length_add}
use Rattle.literals.specs.Rows.{most_put}
use Rattle.literals.specs.Changes.{becomes}
use Rattle.judging.specs.Judging.{Says, put_into, at_sum, Sized, Judging, SomeJudging}
use Rattle.judging.specs.Shifts.{less, Shifted}
use Rattle.judging.specs.Walks.{Walking, SomeWalking, Judges}
use Rattle.judging.proofs.ShiftLaws.{add_twice}

abbrev JudgingIn : Part → ℕ → Sum → ℕ → Rule → Type 0
JudgingIn p = Judging (words p.entries.now) (words p.bodies.now) p.node p.place

module _ (p : Part) {x j : ℕ} {u v : Sum} (is : v ≡ less x (add u (number (pos j))))
    (small : Sized most_put v) where
  shifted : {a : Rule} → JudgingIn p x u j a → Shifted x (add u (number (pos j))) v
  shifted h = record { seven = length_add u (number (pos j)) h.sum.seven; is = is }

  walking : {a : Rule} → JudgingIn p x u j a → Walking p x v a
  walking h = record { at = h.at; setting = h.setting; shift = small }

  pub walk_asks : SomeJudging (words p.entries.now) (words p.bodies.now) p.node p.place x u j → SomeWalking p x v
  walk_asks some = record { rule = some.rule; walking = walking some.judging }

  pub judged : (far : Bool) {trues falses : ℕ} → Judges p far x v trues falses
      → (a : Rule) (k : ℕ) → JudgingIn p x u j a → k < 64 → Says trues falses k (at_sum far x u (j + k) a)
  judged far {trues = ys} {falses = ns} judges a k h less =
      further (judges a (add u (number (pos j))) k (walking h) (shifted h) less)
    where
      further : Says ys ns k (at_sum far x (add u (number (pos j))) k a) → Says ys ns k (at_sum far x u (j + k) a)
      further s = unfold at_sum in
          subst (λ (w : Sum). Says ys ns k (map_literals (becomes (put_into far x) w) a))
          (add_twice u j k h.sum.seven) s
