-- How many words a table has, counted on the rule: one for the count, one for each node's place, and the bodies.
-- Assumes nothing.
use mathlib.Core.Path.{◌≡◌, refl, ap}
use mathlib.Core.Bool.{true, false}
use mathlib.Core.List.{List, [], ◌∷◌, ◌++◌, append-nil, append_assoc}
use Prim.Native.Nat.{ℕ, suc, ◌+◌, ◌≤◌}
use native.Mathlib.Omega.{arith}
use lib.ListN.{length, length-append}
use Rattle.rules.specs.Rule.{and, or, for_some, for_all, Test, positive, divisible, is_zero}
use Rattle.rules.specs.Rule.{Rule, Constant, Join, Not, Literal, Bind}
use Rattle.rules.specs.Table.{Node, constant_node, join_node, not_node, literal_node, bind_node}
use Rattle.rules.specs.Table.{body, width, count, nodes, bodies, starts, size}

-- ---- nodes

pub count_pos : (r : Rule) → 1 ≤ count r
unfolding count
count_pos (Constant b) = omega arith
count_pos (Join j a b) = omega arith
count_pos (Not a) = omega arith
count_pos (Literal t s) = omega arith
count_pos (Bind q v a) = omega arith

pub length_nodes : (r : Rule) → length (nodes r) ≡ count r
unfolding nodes
length_nodes (Constant b) = refl
length_nodes (Join j a b) = omega (arith, length-append (nodes a) (nodes b), length_nodes a, length_nodes b)
length_nodes (Not a) = omega (arith, length_nodes a)
length_nodes (Literal t s) = refl
length_nodes (Bind q v a) = omega (arith, length_nodes a)

pub length_starts : (p : ℕ) (ds : List Node) → length (starts p ds) ≡ length ds
unfolding starts
length_starts p [] = refl
length_starts p (d ∷ ds) = ap suc (length_starts (p + width d) ds)

-- ---- bodies

-- the words of a literal before its T: its kind, and its divisor
unfoldable pub before_sum : Test → ℕ
before_sum positive = 1
before_sum (divisible b k) = 2
before_sum is_zero = 1

-- the words of all bodies
unfoldable pub weight : Rule → ℕ
unfolding before_sum
weight (Constant b) = 1
weight (Join j a b) = 2 + weight a + weight b
weight (Not a) = 1 + weight a
weight (Literal t s) = before_sum t + length s
weight (Bind q v a) = 2 + weight a

unfoldable pub words : Node → ℕ
unfolding before_sum
words (constant_node b) = 1
words (join_node j right) = 2
words not_node = 1
words (literal_node t s) = before_sum t + length s
words (bind_node q v) = 2

pub length_body : (i : ℕ) (d : Node) → length (body i d) ≡ words d
unfolding body words
length_body i (constant_node false) = refl
length_body i (constant_node true) = refl
length_body i (join_node and right) = refl
length_body i (join_node or right) = refl
length_body i not_node = refl
length_body i (literal_node positive s) = omega arith
length_body i (literal_node (divisible true k) s) = omega arith
length_body i (literal_node (divisible false k) s) = omega arith
length_body i (literal_node is_zero s) = omega arith
length_body i (bind_node for_some v) = refl
length_body i (bind_node for_all v) = refl

-- a node has a word, and so has a rule
pub words_pos : (d : Node) → 1 ≤ words d
unfolding words before_sum
words_pos (constant_node b) = omega arith
words_pos (join_node j right) = omega arith
words_pos not_node = omega arith
words_pos (literal_node positive s) = omega arith
words_pos (literal_node (divisible b k) s) = omega arith
words_pos (literal_node is_zero s) = omega arith
words_pos (bind_node q v) = omega arith

pub weight_pos : (r : Rule) → 1 ≤ weight r
unfolding weight words
weight_pos (Constant b) = omega arith
weight_pos (Join j a b) = omega arith
weight_pos (Not a) = omega arith
weight_pos (Literal t s) = words_pos (literal_node t s)
weight_pos (Bind q v a) = omega arith

-- the words of the bodies of nodes
unfoldable pub total : List Node → ℕ
unfolding words
total [] = 0
total (d ∷ ds) = words d + total ds

pub length_bodies : (i : ℕ) (ds : List Node) → length (bodies i ds) ≡ total ds
unfolding bodies total
length_bodies i [] = refl
length_bodies i (d ∷ ds) = simp (length-append, length_body, length_bodies (i + 1) ds)

pub total_nodes : (r : Rule) (ds : List Node) → total (nodes r ++ ds) ≡ weight r + total ds
unfolding total nodes weight
total_nodes (Constant b) ds = refl
total_nodes (Join j a b) ds =
    rw (append_assoc (nodes a) (nodes b) ds) (omega (arith, total_nodes a (nodes b ++ ds), total_nodes b ds))
total_nodes (Not a) ds = omega (arith, total_nodes a ds)
total_nodes (Literal t s) ds = refl
total_nodes (Bind q v a) ds = omega (arith, total_nodes a ds)

pub weight_is : (r : Rule) → total (nodes r) ≡ weight r
unfolding total
weight_is r =
    let h : total (nodes r) ≡ weight r + 0 = rw (append-nil (nodes r)) at (total_nodes r []) in
    omega arith

-- ---- the table

pub size_is : (r : Rule) → size r ≡ 1 + count r + weight r
unfolding size
size_is r =
    let ds : List Node = nodes r in
    let p : ℕ = length ds + 1 in
    let all = length-append (starts p ds) (bodies 0 ds) in
    omega (arith, all, length_starts p ds, length_nodes r, length_bodies 0 ds, weight_is r)
