-- Rule tables: the words of a rule. "A table is a run of signed 32-bit words: first the contents, then the bodies."
-- Assumes nothing.
use Rattle.std.specs.Prelude.{Bool, true, false, ◌&&◌, List, [], ◌∷◌, ◌++◌, ℕ, ◌+◌, leb, ℤ, pos, negsuc, ◌+ℤ◌, length}
use Rattle.rules.specs.Sum.{Sum, limit}
use Rattle.rules.specs.Rule.{Junction, and, or, Quantifier, for_some, for_all, Test, positive, divisible, is_zero}
use Rattle.rules.specs.Rule.{Rule, Constant, Join, Not, Literal, Bind}

-- "At most 16,384 words."
abbrev pub most_words : ℕ
most_words = 16384

-- ---- nodes

-- a node is a body; the right child of an and or or is given by how far behind its node it stands
pub data Node : Type 0 where
  constant_node : Bool → Node
  join_node : Junction → ℤ → Node
  not_node : Node
  literal_node : Test → Sum → Node
  bind_node : Quantifier → ℕ → Node

-- the words of the body of node i: its kind and its fields
unfoldable pub body : ℕ → Node → List ℤ
body i (constant_node false) = pos 0 ∷ []
body i (constant_node true) = pos 1 ∷ []
body i (join_node and right) = pos 2 ∷ (pos i +ℤ right) ∷ []
body i (join_node or right) = pos 3 ∷ (pos i +ℤ right) ∷ []
body i not_node = pos 4 ∷ []
body i (literal_node positive s) = pos 5 ∷ s
body i (literal_node (divisible true k) s) = pos 6 ∷ pos k ∷ s
body i (literal_node (divisible false k) s) = pos 7 ∷ pos k ∷ s
body i (literal_node is_zero s) = pos 10 ∷ s
body i (bind_node for_some v) = pos 8 ∷ pos v ∷ []
body i (bind_node for_all v) = pos 9 ∷ pos v ∷ []

-- how many words a body has
unfoldable pub width : Node → ℕ
unfolding body
width d = length (body 0 d)

-- how many nodes a rule has
unfoldable pub count : Rule → ℕ
count (Constant b) = 1
count (Join j a b) = 1 + count a + count b
count (Not a) = 1 + count a
count (Literal t s) = 1
count (Bind q v a) = 1 + count a

-- "Nodes stand in preorder": a node, its only or left child's, its right child's
unfoldable pub nodes : Rule → List Node
unfolding count
nodes (Constant b) = constant_node b ∷ []
nodes (Join j a b) = join_node j (pos (1 + count a)) ∷ nodes a ++ nodes b
nodes (Not a) = not_node ∷ nodes a
nodes (Literal t s) = literal_node t s ∷ []
nodes (Bind q v a) = bind_node q v ∷ nodes a

-- ---- the table

-- the bodies, the first of them that of node i
unfoldable pub bodies : ℕ → List Node → List ℤ
unfolding body
bodies i [] = []
bodies i (d ∷ ds) = body i d ++ bodies (i + 1) ds

-- "the places where bodies .. start": the first at p, "each next one where the last ends"
unfoldable pub starts : ℕ → List Node → List ℤ
unfolding width
starts p [] = []
starts p (d ∷ ds) = pos p ∷ starts (p + width d) ds

-- "Word 0 is the node count n. Words 1 to n are the places .. Body 0 starts at n+1"
unfoldable pub table : List Node → List ℤ
unfolding starts bodies
table ds = pos (length ds) ∷ starts (length ds + 1) ds ++ bodies 0 ds

unfoldable pub encode : Rule → List ℤ
unfolding table nodes
encode r = table (nodes r)

-- how many words the table of a rule has
unfoldable pub size : Rule → ℕ
unfolding encode
size r = length (encode r)

-- ---- what a table can hold

-- a number from 1 to m
unfoldable pub up_to : ℕ → ℤ → Bool
up_to m (pos n) = leb 1 n && leb n m
up_to m (negsuc n) = false

-- "Settings are 1 to 6"
unfoldable pub is_setting : ℤ → Bool
unfolding up_to
is_setting v = up_to 6 v

abbrev pub all_settings : List ℕ
all_settings = 1 ∷ 2 ∷ 3 ∷ 4 ∷ 5 ∷ 6 ∷ []

-- "k is at least 1" (and a word is never over the limit)
unfoldable pub is_divisor : ℤ → Bool
unfolding up_to
is_divisor k = up_to limit k
