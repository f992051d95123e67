-- "T is c + a1·s1 + .. + a6·s6": a sum T, written s here, is the list of its seven words as they stand
-- in a table, c first.
-- The operations take lists of any length, a missing word being 0, so that their laws ask nothing.
-- Assumes nothing.
use Rattle.std.specs.Prelude.{Bool, true, false, not, ◌&&◌, cond, List, [], ◌∷◌, map, ℕ, zero, suc, eqb, ℤ, pos, negsuc, ◌+ℤ◌, ◌*ℤ◌, get_or}
use Rattle.whole.specs.Integers.{eq_ℤ, within}

abbrev pub Sum : Type 0
Sum = List ℤ

-- a choice gives each setting a whole number of any size
abbrev pub Choice : Type 0
Choice = ℕ → ℤ

-- the same choice, but z for setting v
abbrev pub with : ℕ → ℤ → Choice → Choice
with v z ρ w = cond (eqb w v) z (ρ w)

-- the factor of setting v is the word at place v; at place 0 stands c
abbrev pub factor : ℕ → Sum → ℤ
factor v s = get_or s v (pos 0)

-- "A setting occurs where some literal has a nonzero factor for it"
abbrev pub has : ℕ → Sum → Bool
has v s = not (eq_ℤ (factor v s) (pos 0))

-- ---- operations

unfoldable pub add : Sum → Sum → Sum
add [] t = t
add (a ∷ s) [] = a ∷ s
add (a ∷ s) (b ∷ t) = (a +ℤ b) ∷ add s t

unfoldable pub scale : ℤ → Sum → Sum
scale k s = map (λ a. k *ℤ a) s

unfoldable pub negate : Sum → Sum
unfolding scale
negate s = scale (negsuc 0) s

-- the word at place v becomes a
unfoldable pub put : ℕ → ℤ → Sum → Sum
put zero a [] = a ∷ []
put zero a (b ∷ s) = a ∷ s
put (suc v) a [] = pos 0 ∷ put v a []
put (suc v) a (b ∷ s) = b ∷ put v a s

-- the sum that is the number z, and the sum that is the setting v
abbrev pub number : ℤ → Sum
number z = z ∷ pos 0 ∷ pos 0 ∷ pos 0 ∷ pos 0 ∷ pos 0 ∷ pos 0 ∷ []

unfoldable pub setting : ℕ → Sum
unfolding put
setting v = put v (pos 1) (number (pos 0))

-- 1 + T and 1 − T
unfoldable pub one_plus : Sum → Sum
unfolding add
one_plus s = add (number (pos 1)) s

unfoldable pub one_minus : Sum → Sum
unfolding add negate
one_minus s = add (number (pos 1)) (negate s)

-- ---- tests

-- "c and the a's lie within ±2,147,483,647"
abbrev pub limit : ℕ
limit = 2147483647

-- every number of a list lies within ±n
unfoldable pub all_within : ℕ → List ℤ → Bool
all_within n [] = true
all_within n (z ∷ zs) = within n z && all_within n zs

unfoldable pub all_zero : List ℤ → Bool
all_zero [] = true
all_zero (a ∷ s) = eq_ℤ a (pos 0) && all_zero s

-- the a's are all zero
unfoldable pub no_factors : Sum → Bool
unfolding all_zero
no_factors [] = true
no_factors (c ∷ s) = all_zero s

-- equal in all words
unfoldable pub same : Sum → Sum → Bool
same [] [] = true
same [] (b ∷ t) = false
same (a ∷ s) [] = false
same (a ∷ s) (b ∷ t) = eq_ℤ a b && same s t

-- ---- the value

-- what stands at each place beside the words: 1 beside c, then the settings
abbrev pub places : Choice → ℕ → ℤ
places ρ zero = pos 1
places ρ (suc v) = ρ (suc v)

-- the words, each times what stands beside it, added up
unfoldable pub dot : Sum → (ℕ → ℤ) → ℤ
dot [] f = pos 0
dot (a ∷ s) f = a *ℤ f 0 +ℤ dot s (λ v. f (suc v))

-- the value of T at a choice
unfoldable pub value : Sum → Choice → ℤ
unfolding dot
value s ρ = dot s (places ρ)
