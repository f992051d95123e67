-- "Folding goes from the leaves to the root": what becomes a truth value, and what a truth value does
-- to what stands around it.
-- Assumes nothing.
use Rattle.std.specs.Prelude.{Bool, true, false, not, cond, ◌||◌, eqb}
use Rattle.rules.specs.Sum.{Sum, factor, no_factors}
use Rattle.rules.specs.Rule.{Junction, and, or, Test, positive, divisible, is_zero}
use Rattle.rules.specs.Rule.{Rule, Constant, Join, Not, Literal, Bind, passes}

-- "A literal whose a's are all zero becomes its truth value. Divisor 1 makes kind 6 true and kind 7 false":
-- 1 divides every number, so that is the truth value too
abbrev pub divisor_one : Test → Bool
divisor_one positive = false
divisor_one (divisible b k) = eqb k 1
divisor_one is_zero = false

unfoldable pub fold_literal : Test → Sum → Rule
unfolding no_factors
fold_literal t s = cond (no_factors s || divisor_one t) (Constant (passes t (factor 0 s))) (Literal t s)

-- "Not of true is false and the reverse."
unfoldable pub fold_not : Rule → Rule
fold_not (Constant b) = Constant (not b)
fold_not (Join j a b) = Not (Join j a b)
fold_not (Not a) = Not (Not a)
fold_not (Literal t s) = Not (Literal t s)
fold_not (Bind q v a) = Not (Bind q v a)

-- what a side does to its and or or: a constant decides it or drops out, anything else stays
pub data Side : Type 0 where
  decides drops stays : Side

-- "An and with a false side is false, one with a true side is its other side; or is the dual."
abbrev pub constant_side : Junction → Bool → Side
constant_side and false = decides
constant_side and true = drops
constant_side or true = decides
constant_side or false = drops

unfoldable pub side : Junction → Rule → Side
side j (Constant b) = constant_side j b
side j (Join k a b) = stays
side j (Not a) = stays
side j (Literal t s) = stays
side j (Bind q v a) = stays

unfoldable pub fold_sides : Side → Side → Junction → Rule → Rule → Rule
fold_sides decides w j a b = a
fold_sides drops w j a b = b
fold_sides stays decides j a b = b
fold_sides stays drops j a b = a
fold_sides stays stays j a b = Join j a b

unfoldable pub fold_join : Junction → Rule → Rule → Rule
unfolding side fold_sides
fold_join j a b = fold_sides (side j a) (side j b) j a b

-- "Nothing else changes."
unfoldable pub fold : Rule → Rule
unfolding fold_literal fold_not fold_join
fold (Constant b) = Constant b
fold (Join j a b) = let f = fold a in let g = fold b in fold_join j f g
fold (Not a) = fold_not (fold a)
fold (Literal t s) = fold_literal t s
fold (Bind q v a) = Bind q v (fold a)
