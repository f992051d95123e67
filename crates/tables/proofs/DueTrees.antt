-- What is left of a tree behind some of its nodes: exactly one more tree is due.
-- Assumes nothing.
use mathlib.Core.Path.{◌≡◌, refl, sym, ap₂, subst}
use mathlib.Core.List.{List}
use Prim.Native.Nat.{ℕ, ◌+◌, ◌-◌, ◌≤◌}
use native.Mathlib.Omega.{arith}
use lib.IntN.{ℤ}
use lib.ListN.{length, drop, length-drop}
use lib.Seq.{drop-drop}
use Rattle.tables.specs.Checks.{Listed, TreeAt}
use Rattle.std.proofs.Common.{Option, Some, None}
use Rattle.tables.specs.declared.extent.Extent.{Extent}
use Rattle.tables.proofs.Extents.{ends}

-- the verdict on a whole, by that on what stands behind its first m nodes and w words
abbrev pub beyond : ℕ → ℕ → Option Extent → Option Extent
beyond m w (Some e) = ends (m + e.nodes) (w + e.words)
beyond m w None = None

-- behind m nodes and w words, the tree that starts these bodies is due exactly one more: it ends with that one, and is
-- broken where that one is
pub record Due (bs : List ℤ) (n left m w : ℕ) : Type 0 where
  pub listed : Listed (drop w bs) (n + m) (left - m)
  pub few : m ≤ left
  pub inside : w ≤ length bs
  pub verdict : (v : Option Extent) → TreeAt (drop w bs) (n + m) (left - m) v → TreeAt bs n left (beyond m w v)

-- what holds of some bodies, however they and their numbers are written
pub written : (P : List ℤ → ℕ → ℕ → Type 0) {bs cs : List ℤ} {n m i j : ℕ} → bs ≡ cs → n ≡ m → i ≡ j
    → P bs n i → P cs m j
written P {bs = bs} {n = n} {m = m} {j = j} a b c p =
    subst (λ (x : List ℤ). P x m j) a (subst (λ (x : ℕ). P bs x j) b (subst (P bs n) c p))

-- at first the whole is due
pub due_whole : (bs : List ℤ) (n left : ℕ) → Listed bs n left → Due bs n left 0 0
due_whole bs n left L = record {
  listed = written Listed refl (omega arith) (omega arith) L;
  few = omega arith;
  inside = omega arith;
  verdict = λ v t.
      subst (TreeAt bs n left) (same v)
      (written (λ (cs : List ℤ) (i j : ℕ). TreeAt cs i j v) refl (omega arith) (omega arith) t);
}
  where
    same : (v : Option Extent) → v ≡ beyond 0 0 v
    same (Some e) = ap₂ ends (omega arith) (omega arith)
    same None = refl

-- what is due behind what is due
pub due_further : {bs : List ℤ} {n left m w i x : ℕ} → Due bs n left m w → Due (drop w bs) (n + m) (left - m) i x
    → Due bs n left (m + i) (w + x)
due_further {bs = bs} {n = n} {left = left} {m = m} {w = w} {i = i} {x = x} a b = record {
  listed = written Listed (drop-drop x w bs) (omega arith) (omega arith) b.listed;
  few = omega (arith, a.few, b.few);
  inside = omega (arith, a.inside, b.inside, length-drop w bs);
  verdict = λ v t.
      subst (TreeAt bs n left) (same v)
      (a.verdict (beyond i x v)
      (b.verdict v
      (written (λ (cs : List ℤ) (j k : ℕ). TreeAt cs j k v) (sym (drop-drop x w bs)) (omega arith) (omega arith) t)));
}
  where
    same : (v : Option Extent) → beyond m w (beyond i x v) ≡ beyond (m + i) (w + x) v
    same (Some e) = ap₂ ends (omega arith) (omega arith)
    same None = refl
