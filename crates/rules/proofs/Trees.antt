-- Whether nodes form one preorder tree: exactly when they are the nodes of a rule; and if not, the refusal is 4.
-- Assumes nothing.
use mathlib.Core.Path.{◌≡◌, refl, sym, ◌∙◌, ap, subst}
use mathlib.Core.List.{List, [], ◌∷◌, ◌++◌, append_assoc, append-nil}
use Prim.Native.Nat.{ℕ, zero, suc, ◌+◌}
use native.Mathlib.Omega.{arith}
use lib.IntN.{pos}
use lib.ListN.{length, drop}
use lib.Seq.{drop-append_seam}
use Rattle.whole.specs.Integers.{eq_ℤ}
use Rattle.rules.specs.Rule.{Rule, Constant, Join, Not, Literal, Bind}
use Rattle.rules.specs.Result.{Result, refused, given, ◌>>=◌}
use Rattle.rules.specs.Table.{Node, constant_node, join_node, not_node, literal_node, bind_node, count, nodes}
use Rattle.rules.specs.Decode.{before, trees, only_tree}
use Rattle.rules.proofs.Refusals.{then, parts, RefusedAs, then_as, test_as}
use Rattle.rules.proofs.Sizes.{length_nodes}
use Rattle.rules.proofs.Encoding.{trees_nodes}
use Rattle.rules.proofs.Decoding.{trees_forth, only_forth}

-- ---- the verdict

pub tree_given : (r : Rule) → (trees (nodes r) >>= only_tree) ≡ given r
unfolding trees only_tree
tree_given r =
    then only_tree
    (subst (λ (ds : List Node). trees ds ≡ given (r ∷ [])) (append-nil (nodes r)) (trees_nodes r [] [] refl))

pub tree_forth : (ds : List Node) (r : Rule) → (trees ds >>= only_tree) ≡ given r → ds ≡ nodes r
tree_forth ds r e =
    let (f, first, second) = parts (trees ds) only_tree e in
    trees_forth ds f first ∙ only_forth f r second

-- every refusal of the tree is 4
abbrev Four : ℕ → Type 0
Four n = n ≡ 4

before_four : (d : Node) (f : List Rule) → RefusedAs Four (before d f)
unfolding before
before_four (constant_node b) f = tt
before_four (join_node j right) [] = refl
before_four (join_node j right) (a ∷ []) = refl
before_four (join_node j right) (a ∷ b ∷ f) = test_as Four (eq_ℤ right (pos (1 + count a))) 4 _ refl tt
before_four not_node [] = refl
before_four not_node (a ∷ f) = tt
before_four (literal_node t s) f = tt
before_four (bind_node q v) [] = refl
before_four (bind_node q v) (a ∷ f) = tt

trees_four : (ds : List Node) → RefusedAs Four (trees ds)
unfolding trees
trees_four [] = tt
trees_four (d ∷ ds) = then_as Four (trees ds) (before d) (trees_four ds) (before_four d)

only_four : (f : List Rule) → RefusedAs Four (only_tree f)
unfolding only_tree
only_four [] = refl
only_four (r ∷ []) = tt
only_four (r ∷ a ∷ f) = refl

pub tree_four : (ds : List Node) → RefusedAs Four (trees ds >>= only_tree)
tree_four ds = then_as Four (trees ds) only_tree (trees_four ds) only_four

pub tree_refused : (ds : List Node) → ((r : Rule) → ¬ (ds ≡ nodes r)) → (trees ds >>= only_tree) ≡ refused 4
tree_refused ds n = go (trees ds >>= only_tree) refl (tree_four ds)
  where
    go : (x : Result Rule) → (trees ds >>= only_tree) ≡ x → RefusedAs Four x → x ≡ refused 4
    go (refused k) e h = ap refused h
    go (given r) e h = absurd (n r (tree_forth ds r e))

-- ---- nodes begin with the nodes of one rule at most

-- how many children a node has
unfoldable pub arity : Node → ℕ
arity (constant_node b) = 0
arity (join_node j right) = 2
arity not_node = 1
arity (literal_node t s) = 0
arity (bind_node q v) = 1

-- how many trees are to come behind a node that was to be followed by k
due : Node → ℕ → ℕ
due (constant_node b) k = k
due (join_node j right) k = suc (suc k)
due not_node k = suc k
due (literal_node t s) k = k
due (bind_node q v) k = suc k

-- how many nodes the next k trees have
spanned : List Node → ℕ → ℕ
spanned [] k = 0
spanned (d ∷ ds) zero = 0
spanned (d ∷ ds) (suc k) = suc (spanned ds (due d k))

spanned_nodes : (r : Rule) (ds : List Node) (k : ℕ) → spanned (nodes r ++ ds) (suc k) ≡ count r + spanned ds k
unfolding spanned due nodes
spanned_nodes (Constant b) ds k = omega arith
spanned_nodes (Join j a b) ds k = rw (append_assoc (nodes a) (nodes b) ds)
    (omega (arith, spanned_nodes a (nodes b ++ ds) (suc k), spanned_nodes b ds k))
spanned_nodes (Not a) ds k = omega (arith, spanned_nodes a ds k)
spanned_nodes (Literal t s) ds k = omega arith
spanned_nodes (Bind q v a) ds k = omega (arith, spanned_nodes a ds k)

none_spanned : (ds : List Node) → spanned ds 0 ≡ 0
unfolding spanned
none_spanned [] = refl
none_spanned (d ∷ ds) = refl

pub count_unique : (r s : Rule) (x y : List Node) → nodes r ++ x ≡ nodes s ++ y → count r ≡ count s
count_unique r s x y e =
    let same : spanned (nodes r ++ x) 1 ≡ spanned (nodes s ++ y) 1 = ap (λ (ds : List Node). spanned ds 1) e in
    omega (arith, spanned_nodes r x 0, spanned_nodes s y 0, none_spanned x, none_spanned y)

-- the nodes after those of the first rule
pub after : (a b : Rule) (x y : List Node) → count a ≡ count b → nodes a ++ x ≡ nodes b ++ y → x ≡ y
after a b x y c e =
    sym (drop-append_seam (nodes a) x) ∙ ap (drop (length (nodes a))) e
    ∙ ap (λ (k : ℕ). drop k (nodes b ++ y)) (length_nodes a ∙ c ∙ sym (length_nodes b)) ∙ drop-append_seam (nodes b) y
