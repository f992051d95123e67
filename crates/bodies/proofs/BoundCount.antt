-- How many literals, and so how many bounds, a rule can have whose table has at most 16,384 words.
-- Assumes nothing.
use mathlib.Core.Path.{◌∙◌, ap}
use mathlib.Core.List.{List, [], ◌∷◌}
use Prim.Native.Nat.{ℕ, ◌+◌, ◌*◌, ◌≤◌}
use native.Mathlib.Omega.{arith}
use lib.IntN.{ℤ, pos}
use lib.ListN.{length, length-append}
use Rattle.whole.specs.Integers.{eq_ℤ}
use Rattle.whole.proofs.Tests.{cond_ind}
use Rattle.rules.specs.Sum.{Sum, factor, negate, put}
use Rattle.rules.specs.Rule.{Test, positive, divisible, is_zero, Rule, Constant, Join, Not, Literal, Bind}
use Rattle.rules.specs.Table.{most_words, count, nodes, bodies}
use Rattle.rules.specs.Steps.{bound_of}
use Rattle.rules.specs.Literals.{gather}
use Rattle.rules.specs.Laws.{Each, WellFormed}
use Rattle.rules.proofs.Sizes.{before_sum, weight, length_bodies, weight_is}
use Rattle.bodies.specs.Body.{SomeBody, RoomForBounds}
use Rattle.bodies.specs.Cursor.{literals_of, across}
use Rattle.bodies.proofs.CursorLaws.{gather_across}

-- ---- literals

-- between two literals stands a join
count_literals : (a : Rule) → 2 * length (literals_of a) ≤ count a + 1
unfolding literals_of count
count_literals (Constant b) = omega arith
count_literals (Join j a b) =
    omega (arith, length-append (literals_of a) (literals_of b), count_literals a, count_literals b)
count_literals (Not a) = omega (arith, count_literals a)
count_literals (Literal t s) = omega arith
count_literals (Bind q v a) = omega (arith, count_literals a)

-- a literal has eight words or more, a join two
weight_literals : (a : Rule) → WellFormed a → 10 * length (literals_of a) ≤ weight a + 2
unfolding literals_of weight Each before_sum
weight_literals (Constant b) w = omega arith
weight_literals (Join j a b) w =
    let left = weight_literals a w.0 in
    let right = weight_literals b w.1 in
    omega (arith, length-append (literals_of a) (literals_of b), left, right)
weight_literals (Not a) w = omega (arith, weight_literals a w)
weight_literals (Literal positive s) w = omega (arith, w.0)
weight_literals (Literal (divisible b k) s) w = omega (arith, w.0)
weight_literals (Literal is_zero s) w = omega (arith, w.0)
weight_literals (Bind q v a) w = omega (arith, weight_literals a w.1)

-- ---- bounds

-- a literal gives one at most
one_bound : (x : ℕ) (t : Test) (s : Sum) → length (bound_of x t s) ≤ 1
unfolding bound_of
one_bound x positive s =
    cond_ind (eq_ℤ (factor x s) (pos 1)) (negate (put x (pos 0) s) ∷ []) [] (λ (l : List Sum). length l ≤ 1)
    (λ h. omega arith) (λ h. omega arith)
one_bound x (divisible b k) s = omega arith
one_bound x is_zero s = omega arith

bounds_across : (x : ℕ) (ls : List (Test × Sum)) → length (across (bound_of x) ls) ≤ length ls
unfolding across
bounds_across x [] = omega arith
bounds_across x (l ∷ ls) =
    let all = length-append (bound_of x l.0 l.1) (across (bound_of x) ls) in
    omega (arith, all, one_bound x l.0 l.1, bounds_across x ls)

-- twelve words a bound: ten of bodies and two of contents
pub few_bounds : (x : ℕ) (a : Rule) → WellFormed a → count a + weight a + 4 ≤ most_words
    → length (gather (bound_of x) a) ≤ 1365
few_bounds x a w h =
    let all = ap length (gather_across (bound_of x) a) in
    omega (arith, all, bounds_across x (literals_of a), count_literals a, weight_literals a w, h)

-- ten words a bound, where only the bodies are known
pub room_for_all : (bs : List ℤ) (end x : ℕ) → SomeBody bs end → RoomForBounds bs end x 1638
room_for_all bs end x some n a b =
    let bounds = ap length (gather_across (bound_of x) a) in
    let words = ap length b.bodied.begins ∙ length-append (bodies n (nodes a)) b.bodied.after
    ∙ ap (λ (m : ℕ). m + length b.bodied.after) (length_bodies n (nodes a) ∙ weight_is a) in
    omega (arith, bounds, bounds_across x (literals_of a), weight_literals a b.formed, words, some.few)
