-- The quantifier that is chosen, the last in preorder: where it stands among a rule's nodes, and in the rule's table.
-- Assumes nothing.
use Rattle.std.specs.Prelude.{◌≡◌, Bool, true, false, ◌||◌, ℕ, ◌+◌, ◌<◌, eqb, Option, Some, None}
use Rattle.rules.specs.Rule.{Rule, Constant, Join, Not, Literal, Bind}
use Rattle.rules.specs.Table.{count}
use Rattle.rules.specs.Chosen.{quantifiers, quantified}
use Rattle.rules.proofs.Sizes.{weight}
use Rattle.tables.specs.declared.quantifiers.Spot.{Spot}

-- kinds 8 and 9: for some, for all
abbrev pub binds : ℕ → Bool
binds k = eqb k 8 || eqb k 9

-- how many nodes, and how many words, of a rule stand before it
unfoldable pub chosen_number : Rule → ℕ
unfolding quantified count
chosen_number (Constant b) = 0
chosen_number (Join j a b) =
    elim (quantified b) [ true ↦ 1 + count a + chosen_number b | false ↦ 1 + chosen_number a ]
chosen_number (Not a) = 1 + chosen_number a
chosen_number (Literal t s) = 0
chosen_number (Bind q v a) = elim (quantified a) [ true ↦ 1 + chosen_number a | false ↦ 0 ]

unfoldable pub chosen_place : Rule → ℕ
unfolding quantified weight
chosen_place (Constant b) = 0
chosen_place (Join j a b) =
    elim (quantified b) [ true ↦ 2 + weight a + chosen_place b | false ↦ 2 + chosen_place a ]
chosen_place (Not a) = 1 + chosen_place a
chosen_place (Literal t s) = 0
chosen_place (Bind q v a) = elim (quantified a) [ true ↦ 2 + chosen_place a | false ↦ 0 ]

-- what is found of it in the rule's table: the bodies start behind the count and the entries
unfoldable pub LastAt : Rule → Option Spot → Type 0
unfolding count
LastAt r None = quantifiers r ≡ 0
LastAt r (Some s) = (0 < quantifiers r) × (s.node ≡ chosen_number r) × (s.place ≡ count r + 1 + chosen_place r)
