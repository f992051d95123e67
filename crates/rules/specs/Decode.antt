-- Reading a table: the rule that its words stand for, or the number that refuses them.
-- "Order: 1; then per node its entry (2) and its body (3); then the table's end (2); then 4".
-- Assumes nothing.
use Rattle.std.specs.Prelude.{Bool, true, false, ◌&&◌, List, [], ◌∷◌, ℕ, zero, suc, ◌+◌, leb, ℤ, pos, negsuc, nat_abs, ◌-ℤ◌, length, get_or}
use Rattle.whole.specs.Integers.{eq_ℤ}
use Rattle.rules.specs.Sum.{Sum, limit, all_within}
use Rattle.rules.specs.Rule.{Junction, and, or, Quantifier, for_some, for_all, Test, positive, divisible, is_zero}
use Rattle.rules.specs.Rule.{Rule, Constant, Join, Not, Literal, Bind}
use Rattle.rules.specs.Result.{Result, refused, given, ◌>>=◌, require}
use Rattle.rules.specs.Table.{Node, constant_node, join_node, not_node, literal_node, bind_node}
use Rattle.rules.specs.Table.{most_words, width, count, is_setting, is_divisor}

-- ---- fields: each is read from the start of the words, and leaves the words after it

abbrev pub Field : Type 0 → Type 0
Field A = List ℤ → Result (A × List ℤ)

-- m words; refused by n if there are fewer
unfoldable pub cut : ℕ → ℕ → Field (List ℤ)
unfolding ◌>>=◌
cut n zero ws = given ([], ws)
cut n (suc m) [] = refused n
cut n (suc m) (w ∷ ws) = cut n m ws >>= λ (vs, rest). given (w ∷ vs, rest)

unfoldable pub word : Field ℤ
word [] = refused 3
word (w ∷ ws) = given (w, ws)

-- a number that passes a test
unfoldable pub checked : (ℤ → Bool) → Field ℕ
unfolding word ◌>>=◌ require
checked test ws = do
  (w, rest) ← word ws
  _ ← require (test w) 3
  given (nat_abs w, rest)

-- c, a1..a6
unfoldable pub sum_field : Field Sum
unfolding cut all_within ◌>>=◌ require
sum_field ws = do
  (s, rest) ← cut 3 7 ws
  _ ← require (all_within limit s) 3
  given (s, rest)

-- ---- bodies: what follows the kind

unfoldable pub nothing_more : Node → Field Node
nothing_more d ws = given (d, ws)

unfoldable pub right_child : ℕ → Junction → Field Node
unfolding word ◌>>=◌
right_child i j ws = word ws >>= λ (w, rest). given (join_node j (w -ℤ pos i), rest)

unfoldable pub sum_of : Test → Field Node
unfolding sum_field ◌>>=◌
sum_of t ws = sum_field ws >>= λ (s, rest). given (literal_node t s, rest)

unfoldable pub divisor_and_sum : Bool → Field Node
unfolding checked is_divisor sum_of ◌>>=◌
divisor_and_sum b ws = checked is_divisor ws >>= λ (k, rest). sum_of (divisible b k) rest

unfoldable pub setting_of : Quantifier → Field Node
unfolding checked is_setting ◌>>=◌
setting_of q ws = checked is_setting ws >>= λ (v, rest). given (bind_node q v, rest)

-- the body of node i by its kind, 0 first
unfoldable pub kinds : ℕ → List (Field Node)
unfolding nothing_more right_child sum_of divisor_and_sum setting_of
kinds i =
    nothing_more (constant_node false) ∷
    nothing_more (constant_node true) ∷
    right_child i and ∷
    right_child i or ∷
    nothing_more not_node ∷
    sum_of positive ∷
    divisor_and_sum true ∷
    divisor_and_sum false ∷
    setting_of for_some ∷
    setting_of for_all ∷
    sum_of is_zero ∷
    []

-- "unknown kind, a body past the end, or a field outside its range" (3)
unfoldable pub node : ℕ → Field Node
unfolding kinds
node i [] = refused 3
node i (pos k ∷ ws) = get_or (kinds i) k (λ vs. refused 3) ws
node i (negsuc k ∷ ws) = refused 3

-- ---- nodes

-- the nodes from node i on, whose places are the entries, where the next body starts at place p and the words are ws:
-- "a contents entry is not the right place, or the table does not end with the last body" (2)
unfoldable pub read : ℕ → List ℤ → ℕ → List ℤ → Result (List Node)
unfolding ◌>>=◌ require node width
read i [] p [] = given []
read i [] p (w ∷ ws) = refused 2
read i (e ∷ es) p ws = do
  _ ← require (eq_ℤ e (pos p)) 2
  (d, rest) ← node i ws
  ds ← read (i + 1) es (p + width d) rest
  given (d ∷ ds)

-- ---- the tree: "nodes do not form the preorder tree" (4)

-- a node takes its children from the trees that follow it: "the only or left child of node i is i+1,
-- the right child is the first node after the left subtree"
unfoldable pub before : Node → List Rule → Result (List Rule)
unfolding ◌>>=◌ require count
before (constant_node b) f = given (Constant b ∷ f)
before (join_node j right) [] = refused 4
before (join_node j right) (a ∷ []) = refused 4
before (join_node j right) (a ∷ b ∷ f) = do
  _ ← require (eq_ℤ right (pos (1 + count a))) 4
  given (Join j a b ∷ f)
before not_node [] = refused 4
before not_node (a ∷ f) = given (Not a ∷ f)
before (literal_node t s) f = given (Literal t s ∷ f)
before (bind_node q v) [] = refused 4
before (bind_node q v) (a ∷ f) = given (Bind q v a ∷ f)

-- the trees that nodes form, one after the other
unfoldable pub trees : List Node → Result (List Rule)
unfolding ◌>>=◌ before
trees [] = given []
trees (d ∷ ds) = trees ds >>= before d

-- "the root's subtree is the whole table"
unfoldable pub only_tree : List Rule → Result Rule
only_tree [] = refused 4
only_tree (r ∷ []) = given r
only_tree (r ∷ a ∷ f) = refused 4

-- ---- the table: "no words, over 16,384 words, n below 1, or n+1 over the length" (1)

unfoldable pub decode : List ℤ → Result Rule
unfolding ◌>>=◌ require cut read trees only_tree
decode [] = refused 1
decode (negsuc n ∷ ws) = refused 1
decode (pos n ∷ ws) = do
  _ ← require (leb (suc (length ws)) most_words && leb 1 n) 1
  (entries, bodies) ← cut 1 n ws
  ds ← read 0 entries (n + 1) bodies
  f ← trees ds
  only_tree f
