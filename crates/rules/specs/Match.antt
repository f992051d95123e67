-- "Matching takes a quantifier-free table and six signed 32-bit values, s1 first, and says whether it holds."
-- Assumes nothing.
use Rattle.std.specs.Prelude.{Bool, false, not, ◌&&◌, ◌||◌, List, ℕ, zero, suc, ℤ, pos, get_or}
use Rattle.rules.specs.Sum.{Choice, value, all_within}
use Rattle.rules.specs.Rule.{Junction, and, or, Rule, Constant, Join, Not, Literal, Bind, passes}
use Rattle.rules.specs.Result.{Result, given, ◌>>=◌, require}
use Rattle.rules.specs.Chosen.{quantified}

abbrev pub joined : Junction → Bool → Bool → Bool
joined and a b = a && b
joined or a b = a || b

-- whether a quantifier-free rule holds at a choice; of a quantifier it says nothing
unfoldable pub holds : Rule → Choice → Bool
unfolding value
holds (Constant b) ρ = b
holds (Join j a b) ρ = joined j (holds a ρ) (holds b ρ)
holds (Not a) ρ = not (holds a ρ)
holds (Literal t s) ρ = passes t (value s ρ)
holds (Bind q v a) ρ = false

-- the values as a choice, s1 first
abbrev pub choice : List ℤ → Choice
choice vs zero = pos 0
choice vs (suc v) = get_or vs v (pos 0)

-- "a matched value is outside ±500,000,000" (9)
abbrev pub most_value : ℕ
most_value = 500000000

-- "for matching 10, then 9"
unfoldable pub matching : List ℤ → Rule → Result Bool
unfolding holds all_within quantified require ◌>>=◌
matching vs a = do
  _ ← require (not (quantified a)) 10
  _ ← require (all_within most_value vs) 9
  given (holds a (choice vs))
