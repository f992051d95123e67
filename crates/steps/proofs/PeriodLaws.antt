-- The disjuncts are answered j by j, from P to 1, and the j's block by block.
-- Assumes nothing.
use mathlib.Core.Path.{◌≡◌, refl, sym, ap, ◌∙◌}
use mathlib.Core.List.{List, ◌++◌, append-nil, append_assoc}
use Prim.Native.Nat.{ℕ, zero, suc, ◌+◌, ◌-◌, ◌<◌, ◌≤◌}
use native.Mathlib.Omega.{arith}
use lib.IntN.{ℤ}
use Rattle.rules.specs.Rule.{Rule}
use Rattle.rules.specs.Table.{Node}
use Rattle.rules.specs.Steps.{for_each}
use Rattle.builder.specs.declared.push.State.{State}
use Rattle.folding.specs.declared.answers.Folded.{Folded}
use Rattle.steps.specs.Disjoining.{Disjoined, FromJ, Block}
use Rattle.steps.proofs.ForEachLaws.{each_last, each_first}
use Rattle.steps.proofs.DisjunctionLaws.{regrouped}

-- ---- the j's, from P to 1

module _ {es bs : List ℤ} {n p x P : ℕ} {b : State} {a : Rule} (first : List Rule) (F : ℕ → List Rule) (l : List Rule)
    {ds : List Node} where
  pub no_j_yet : {ws : List ℤ} {f : Folded} → Disjoined es bs n p x P ws b a (first ++ for_each 1 P F) l ds f
      → FromJ es bs n p x P b a first F l ds ws P f
  unfolding for_each
  no_j_yet known =
      let none : 0 ≡ P - P = omega arith in
      regrouped refl (ap (λ (k : ℕ). for_each (suc P) k F ++ l) none) known

  pub every_j : {ws : List ℤ} (j : ℕ) {f : Folded} → j ≤ 0 → FromJ es bs n p x P b a first F l ds ws j f
      → Disjoined es bs n p x P ws b a first (for_each 1 P F ++ l) ds f
  unfolding for_each
  every_j zero over known =
      let all : P - 0 ≡ P = omega arith in
      regrouped (append-nil first) (ap (λ (k : ℕ). for_each 1 k F ++ l) all) known
  every_j (suc j) over known = absurd (omega (arith, over))

  module _ {ws : List ℤ} {j : ℕ} {f : Folded} (some : 0 < j) (upto : j ≤ P) where
    -- the disjuncts of j come next
    pub next_j : FromJ es bs n p x P b a first F l ds ws j f
        → Disjoined es bs n p x P ws b a ((first ++ for_each 1 (j - 1) F) ++ F j) (for_each (suc j) (P - j) F ++ l) ds f
    next_j known = regrouped
        (ap (λ (m : List Rule). first ++ m) (each_last F P j upto some)
        ∙ sym (append_assoc first (for_each 1 (j - 1) F) (F j)))
        refl known

    -- and are answered
    pub more_j : Disjoined es bs n p x P ws b a (first ++ for_each 1 (j - 1) F)
        (F j ++ (for_each (suc j) (P - j) F ++ l)) ds f
        → FromJ es bs n p x P b a first F l ds ws (j - 1) f
    more_j known = regrouped refl
        (sym (ap (λ (m : List Rule). m ++ l) (each_first F P j upto some)
        ∙ append_assoc (F j) (for_each (suc j) (P - j) F) l))
        known

-- ---- a block

-- the next block: 64 j's up to high, or what is left
pub next_block : {low : ℕ} (high P : ℕ) → low ≡ high - 64 → high ≤ P → Block low high P
next_block high P is upto = record { some = omega arith; short = omega arith; upto = upto }

-- bit j - low - 1 of a block is for j
pub bit_of_j : (low j : ℕ) → low < j → low + 1 + (j - low - 1) ≡ j
bit_of_j low j some = omega arith
