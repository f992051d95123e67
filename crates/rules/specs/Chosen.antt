-- "While a quantifier remains, take the one with the greatest node number; its body has none."
-- It is the last in preorder.
-- Assumes nothing.
use Rattle.std.specs.Prelude.{Bool, true, false, ℕ, suc, ◌+◌, ltb}
use Rattle.rules.specs.Rule.{Quantifier, Rule, Constant, Join, Not, Literal, Bind}

unfoldable pub quantifiers : Rule → ℕ
quantifiers (Constant b) = 0
quantifiers (Join j a b) = quantifiers a + quantifiers b
quantifiers (Not a) = quantifiers a
quantifiers (Literal t s) = 0
quantifiers (Bind q v a) = suc (quantifiers a)

unfoldable pub quantified : Rule → Bool
unfolding quantifiers
quantified a = ltb 0 (quantifiers a)

pub data Chosen : Type 0 where
  nothing : Chosen
  the : Quantifier → ℕ → Rule → Chosen

unfoldable pub chosen : Rule → Chosen
unfolding quantified
chosen (Constant b) = nothing
chosen (Join j a b) = elim (quantified b) [ true ↦ chosen b | false ↦ chosen a ]
chosen (Not a) = chosen a
chosen (Literal t s) = nothing
chosen (Bind q x a) = elim (quantified a) [ true ↦ chosen a | false ↦ the q x a ]

-- the rule with new in the place of the chosen quantifier and its body
unfoldable pub replace : Rule → Rule → Rule
unfolding quantified
replace new (Constant b) = Constant b
replace new (Join j a b) = elim (quantified b) [ true ↦ Join j a (replace new b) | false ↦ Join j (replace new a) b ]
replace new (Not a) = Not (replace new a)
replace new (Literal t s) = Literal t s
replace new (Bind q x a) = elim (quantified a) [ true ↦ Bind q x (replace new a) | false ↦ new ]
