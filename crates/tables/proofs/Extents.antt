-- A tree's extent by its two numbers.
-- Assumes nothing.
use Prim.Native.Nat.{ℕ}
use Rattle.std.proofs.Common.{Option, Some}
use Rattle.tables.specs.declared.extent.Extent.{Extent}

-- there is a tree, of so many nodes and words
abbrev pub ends : ℕ → ℕ → Option Extent
ends m q = Some (record { nodes = m; words = q })
