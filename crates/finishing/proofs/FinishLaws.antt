-- What a rule that is all that is built says of the counts, and of the table that its nodes are placed in.
-- Assumes nothing.
use mathlib.Core.Path.{◌≡◌, ap, ◌∙◌}
use mathlib.Core.List.{List}
use Prim.Native.Nat.{ℕ, ◌+◌, ◌-◌, ◌<◌, ◌≤◌}
use native.Mathlib.Omega.{arith}
use lib.IntN.{ℤ, pos}
use lib.ListN.{length, set, drop, length-set}
use Rattle.rules.specs.Rule.{Rule}
use Rattle.rules.specs.Table.{most_words, count, nodes, size}
use Rattle.rules.proofs.Sizes.{length_nodes}
use Rattle.tables.specs.Standing.{TableAt}
use Rattle.builder.specs.Built.{unplaced}
use Rattle.builder.specs.declared.push.State.{State}
use Rattle.builder.proofs.BuiltLaws.{built_size}
use Rattle.finishing.specs.Finishing.{Finishable}
use Rattle.finishing.proofs.RunLaws.{table_free, run_table}
use Rattle.finishing.proofs.PartwayLaws.{built, Partway, none_placed, all_placed}

module _ {ws : List ℤ} {b : State} {ts : List ℤ} {r : Rule} (h : Finishable ws b ts r) where
  sizes : (b.nodes ≡ count r) × (b.nodes + 1 + b.used ≡ size r)
  sizes = (h.built.counted ∙ length_nodes r, built_size ws b r h.built)

  pub used_inside : b.used ≤ length ws
  used_inside = omega (arith, sizes.1, h.room_here)

  pub first_inside : 0 < length ts
  first_inside = omega (arith, sizes.1, h.room_there)

  pub nodes_few : b.nodes + 1 ≤ most_words
  nodes_few = omega (arith, sizes.1, h.most)

  -- the count is put, which makes us of ts
  module _ {us : List ℤ} (put : us ≡ set ts 0 (pos b.nodes)) where
    -- no node is placed then, and when all are, which makes vs of us, the table is there
    pub at_first : (n : ℕ) → n ≡ length ws
        → Partway built ws us us 0 (b.nodes + 1) b.nodes 0 (n - b.used) (b.nodes + 1) (nodes r)
    at_first n e =
        let whole : b.used - length ws ≡ 0 = omega (arith, used_inside) in
        let room : size r ≤ length us = omega (arith, h.room_there, ap length put, length-set ts 0 (pos b.nodes)) in
        none_placed r h.formed sizes.0 (table_free r sizes.0 room h.most)
        (ap (λ (k : ℕ). drop (k - b.used) ws) e ∙ h.built.ends.last
        ∙ ap (λ (k : ℕ). drop k (unplaced (nodes r))) whole)

    pub at_last : {vs : List ℤ} {i from to : ℕ}
        → Partway built ws us vs 0 (b.nodes + 1) b.nodes i from to (nodes r) → b.nodes ≤ i → TableAt vs r
    at_last p over =
        run_table ts b.nodes r sizes.0 (omega (arith, sizes.1, h.room_there)) put (all_placed p over).0
