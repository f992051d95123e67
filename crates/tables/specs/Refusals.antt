-- The paper's number of each refusal.
-- Assumes nothing.
use Rattle.std.specs.Prelude.{ℕ}
use Rattle.tables.specs.declared.refusal.Refusal.{Refusal}
use Rattle.tables.specs.declared.refusal.Refusal.TheVariants.{Length, Contents, Node, Tree, Number, Room, Multiple}
use Rattle.tables.specs.declared.refusal.Refusal.TheVariants.{Setting, Value, Quantifier}

unfoldable pub number_of : Refusal → ℕ
number_of Length = 1
number_of Contents = 2
number_of Node = 3
number_of Tree = 4
number_of Number = 5
number_of Room = 6
number_of Multiple = 7
number_of Setting = 8
number_of Value = 9
number_of Quantifier = 10
