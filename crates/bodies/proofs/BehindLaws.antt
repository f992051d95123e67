-- Nodes that stand behind some nodes and words of a table's parts: behind none, and behind more.
-- Assumes nothing.
use mathlib.Core.Path.{sym, ◌∙◌, ap}
use mathlib.Core.List.{List, ◌++◌}
use Prim.Native.Nat.{ℕ, ◌+◌}
use native.Mathlib.Nat.{add-zero}
use native.Mathlib.Omega.{arith}
use lib.IntN.{ℤ}
use lib.ListN.{drop}
use lib.Seq.{drop-drop}
use Rattle.rules.specs.Table.{Node, starts, bodies}
use Rattle.tables.specs.Standing.{Nodes}

module _ (es bs : List ℤ) (n p : ℕ) where
  pub behind_none : (ds : List Node) → Nodes es bs n p ds → Nodes (drop 0 es) (drop 0 bs) (n + 0) (p + 0) ds
  behind_none ds s = record {
    entries_after = s.entries_after;
    bodies_after = s.bodies_after;
    entries = s.entries ∙ ap (λ (k : ℕ). starts k ds ++ s.entries_after) (sym (add-zero p));
    bodies = s.bodies ∙ ap (λ (k : ℕ). bodies k ds ++ s.bodies_after) (sym (add-zero n));
  }

  -- behind i nodes and w words, and then behind j and v
  pub behind_more : (i w j v : ℕ) (ds : List Node)
      → Nodes (drop j (drop i es)) (drop v (drop w bs)) (n + i + j) (p + w + v) ds
      → Nodes (drop (i + j) es) (drop (w + v) bs) (n + (i + j)) (p + (w + v)) ds
  behind_more i w j v ds s = record {
    entries_after = s.entries_after;
    bodies_after = s.bodies_after;
    entries = sym (drop-drop j i es) ∙ s.entries ∙ ap (λ (k : ℕ). starts k ds ++ s.entries_after) (omega arith);
    bodies = sym (drop-drop v w bs) ∙ s.bodies ∙ ap (λ (k : ℕ). bodies k ds ++ s.bodies_after) (omega arith);
  }
