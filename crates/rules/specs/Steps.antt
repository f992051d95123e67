-- The steps on the chosen quantifier, with setting x, and its body: for-all, normal form, common factor, disjunction.
-- They make unbounded whole numbers of the body; the limits are looked at in Eliminate.
-- Assumes nothing.
use Rattle.std.specs.Prelude.{Bool, true, false, not, cond, List, [], ◌∷◌, ◌++◌, map, ℕ, zero, suc, ◌*◌, ◌/◌, ℤ, pos, negsuc, nat_abs}
use Rattle.whole.specs.Integers.{eq_ℤ}
use Rattle.whole.specs.Multiples.{lcms}
use Rattle.rules.specs.Sum.{Sum, factor, has, add, scale, negate, put, number, setting}
use Rattle.rules.specs.Sum.{one_plus, one_minus, same}
use Rattle.rules.specs.Rule.{Junction, and, or, Test, positive, divisible, is_zero}
use Rattle.rules.specs.Rule.{Rule, Constant, Join, Not, Literal, Bind, True, False, And, Or, Some, whether}
use Rattle.rules.specs.Literals.{gather, map_literals}

-- ---- "A for-all is first replaced by not, for some, not"

abbrev pub by_some : ℕ → Rule → Rule
by_some x a = Not (Some x (Not a))

-- ---- 1. Normal form. "push every not down to the literals, by De Morgan. Two nots cancel."

-- in a walk that goes plainly (true) or under a not (false)
abbrev pub by_de_morgan : Bool → Junction → Junction
by_de_morgan true j = j
by_de_morgan false and = or
by_de_morgan false or = and

-- "A kind 6 or 7 whose x factor is negative has T negated."
unfoldable pub x_not_negative : ℕ → Sum → Sum
unfolding negate
x_not_negative x s = elim (factor x s) [ pos a ↦ s | negsuc a ↦ negate s ]

-- "Not of 0 < T becomes 0 < 1−T. T = 0 becomes 0 < 1−T and 0 < 1+T. Not of T = 0 becomes 0 < −T or 0 < T.
-- Kinds 6 and 7 trade places."
unfoldable pub normal_literal : Bool → ℕ → Test → Sum → Rule
unfolding x_not_negative one_plus one_minus negate
normal_literal true x positive s = Literal positive s
normal_literal false x positive s = Literal positive (one_minus s)
normal_literal true x is_zero s = And (Literal positive (one_minus s)) (Literal positive (one_plus s))
normal_literal false x is_zero s = Or (Literal positive (negate s)) (Literal positive s)
normal_literal plainly x (divisible b k) s = Literal (divisible (whether plainly b) k) (x_not_negative x s)

unfoldable pub normal : Bool → ℕ → Rule → Rule
unfolding normal_literal
normal plainly x (Constant b) = Constant (whether plainly b)
normal plainly x (Join j a b) = Join (by_de_morgan plainly j) (normal plainly x a) (normal plainly x b)
normal plainly x (Not a) = normal (not plainly) x a
normal plainly x (Literal t s) = normal_literal plainly x t s
normal plainly x (Bind q v a) = Bind q v a

-- ---- 2. Common factor.

-- "D is the least common multiple of the sizes of all nonzero x factors, 1 if none."
unfoldable pub size_of : ℕ → Test → Sum → List ℕ
size_of x t s = cond (has x s) (nat_abs (factor x s) ∷ []) []

unfoldable pub common_factor : ℕ → Rule → ℕ
unfolding lcms gather size_of
common_factor x a = lcms (gather (size_of x) a)

-- "Multiply each literal that has x (its divisor too) by D over the size of its factor."
unfoldable pub multiplier : ℕ → ℕ → Sum → ℕ
multiplier D x s = cond (has x s) (D / nat_abs (factor x s)) 1

abbrev pub times : ℕ → Test → Test
times m positive = positive
times m (divisible b k) = divisible b (m * k)
times m is_zero = is_zero

-- "Then put 1 or −1 for the x factor"
abbrev pub sign : ℤ → ℤ
sign (pos zero) = pos 0
sign (pos (suc n)) = pos 1
sign (negsuc n) = negsuc 0

unfoldable pub scale_literal : ℕ → ℕ → Test → Sum → Rule
unfolding multiplier scale put
scale_literal D x t s =
    let m = multiplier D x s in
    Literal (times m t) (put x (sign (factor x s)) (scale (pos m) s))

-- "and join D divides x to the body by an and, on the right."
unfoldable pub scaled : ℕ → ℕ → Rule → Rule
unfolding map_literals scale_literal setting
scaled D x a = And (map_literals (scale_literal D x) a) (Literal (divisible true D) (setting x))

-- ---- 3. Disjunction.

-- "P is the least common multiple of the divisors of all divisibility literals in the body, 1 if none."
abbrev pub divisor_of : Test → Sum → List ℕ
divisor_of positive s = []
divisor_of (divisible b k) s = k ∷ []
divisor_of is_zero s = []

unfoldable pub period : Rule → ℕ
unfolding lcms gather
period a = lcms (gather divisor_of a)

-- "A literal 0 < x+r gives the bound −r"
unfoldable pub bound_of : ℕ → Test → Sum → List Sum
unfolding negate put
bound_of x positive s = cond (eq_ℤ (factor x s) (pos 1)) (negate (put x (pos 0) s) ∷ []) []
bound_of x (divisible b k) s = []
bound_of x is_zero s = []

-- "collect the list of lower bounds, each once, in order of first place."
unfoldable pub without : Sum → List Sum → List Sum
unfolding same
without b [] = []
without b (c ∷ l) = let r = without b l in cond (same b c) r (c ∷ r)

unfoldable pub once : List Sum → List Sum
unfolding without
once [] = []
once (b ∷ l) = b ∷ without b (once l)

unfoldable pub bounds : ℕ → Rule → List Sum
unfolding once gather bound_of
bounds x a = once (gather (bound_of x) a)

-- "The far-left body has true for 0 < −x+r, false for 0 < x+r."
unfoldable pub far_literal : ℕ → Test → Sum → Rule
far_literal x positive s =
    let f = factor x s in
    cond (eq_ℤ f (pos 1)) False (cond (eq_ℤ f (negsuc 0)) True (Literal positive s))
far_literal x (divisible b k) s = Literal (divisible b k) s
far_literal x is_zero s = Literal is_zero s

unfoldable pub far_left : ℕ → Rule → Rule
unfolding map_literals far_literal
far_left x a = map_literals (far_literal x) a

-- T at x = u, and the body at x = u
unfoldable pub sum_at : ℕ → Sum → Sum → Sum
unfolding add scale put
sum_at x u s = add (put x (pos 0) s) (scale (factor x s) u)

unfoldable pub body_at : ℕ → Sum → Rule → Rule
unfolding map_literals sum_at
body_at x u a = map_literals (λ t s. Literal t (sum_at x u s)) a

-- what f gives for n numbers from `from` on, one after the other
unfoldable pub for_each : {A : Type 0} → ℕ → ℕ → (ℕ → List A) → List A
for_each from zero f = []
for_each from (suc n) f = f from ++ for_each (suc from) n f

-- "the far-left body at x = j for j = 1 to P; then for each j = 1 to P, for each bound b in list order,
-- the full body at x = b+j."
unfoldable pub disjuncts : ℕ → ℕ → Rule → List Rule
unfolding for_each far_left body_at bounds add
disjuncts P x a =
    let far = far_left x a in
    let bs = bounds x a in
    for_each 1 P (λ j. body_at x (number (pos j)) far ∷ []) ++
    for_each 1 P (λ j. map (λ b. body_at x (add b (number (pos j))) a) bs)

-- "Join them by or, nested to the right."
unfoldable pub any_of : List Rule → Rule
any_of [] = False
any_of (a ∷ []) = a
any_of (a ∷ b ∷ l) = Or a (any_of (b ∷ l))

unfoldable pub disjunction : ℕ → ℕ → Rule → Rule
unfolding disjuncts any_of
disjunction P x a = any_of (disjuncts P x a)
