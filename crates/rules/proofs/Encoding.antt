-- The table of a rule is read as that rule.
-- Assumes nothing.
use mathlib.Core.Path.{◌≡◌, refl, ap, ◌∙◌, subst}
use mathlib.Core.Logic.{◌↔◌}
use mathlib.Core.Bool.{Bool, true, false, ◌&&◌}
use mathlib.Core.List.{List, [], ◌∷◌, ◌++◌, append_assoc, append-nil}
use Prim.Native.Nat.{ℕ, ◌+◌, ◌≤◌, ◌<◌}
use native.Mathlib.Omega.{arith}
use lib.Dec.{T, leb, leb→le, le→leb, eqb, eqb_refl}
use lib.IntN.{ℤ, pos, ◌+ℤ◌, ◌-ℤ◌}
use lib.ListN.{length}
use Rattle.whole.proofs.Tests.{T_and}
use Rattle.whole.proofs.Difference.{z2, zz}
use Rattle.rules.specs.Sum.{limit, all_within}
use Rattle.rules.specs.Rule.{and, or, for_some, for_all, Test, positive, divisible, is_zero}
use Rattle.rules.specs.Rule.{Rule, Constant, Join, Not, Literal, Bind}
use Rattle.rules.specs.Result.{given}
use Rattle.rules.specs.Table.{Node, constant_node, join_node, not_node, literal_node, bind_node}
use Rattle.rules.specs.Table.{most_words, body, width, count, nodes, bodies, starts, size}
use Rattle.rules.specs.Table.{up_to, is_setting, is_divisor}
use Rattle.rules.specs.Decode.{cut, checked, sum_of, divisor_and_sum, node, read, trees, decode}
use Rattle.rules.specs.Laws.{Each, InTable, WellFormed, DecodeEncode}
use Rattle.rules.proofs.Refusals.{then, passed}
use Rattle.rules.proofs.Sizes.{count_pos, length_nodes, length_starts}

-- ---- what the fields of a node must be

pub one_to : (m n : ℕ) → T (up_to m (pos n)) ↔ ((1 ≤ n) × (n ≤ m))
unfolding up_to
one_to m n = (
  λ t. let (from, to) = (T_and (leb 1 n) (leb n m)).0 t in (leb→le 1 n from, leb→le n m to),
  λ h. (T_and (leb 1 n) (leb n m)).1 (le→leb 1 n h.0, le→leb n m h.1),
)

pub setting_range : (v : ℕ) → T (is_setting (pos v)) → (1 ≤ v) × (v < 7)
unfolding is_setting
setting_range v t = let (from, to) = (one_to 6 v).0 t in (from, omega arith)

pub divisor_range : (k : ℕ) → T (is_divisor (pos k)) → (0 < k) × (k ≤ limit)
unfolding is_divisor
divisor_range k = (one_to limit k).0

unfoldable pub Good : Node → Type 0
Good (constant_node b) = Unit {0}
Good (join_node j right) = Unit {0}
Good not_node = Unit {0}
Good (literal_node t s) = InTable t s
Good (bind_node q v) = T (is_setting (pos v))

unfoldable pub AllGood : List Node → Type 0
unfolding Good
AllGood [] = Unit {0}
AllGood (d ∷ ds) = Good d × AllGood ds

-- the nodes of a rule are good where the rule is well formed, and only there
pub good_nodes : (r : Rule) (ds : List Node) → AllGood (nodes r ++ ds) ↔ (WellFormed r × AllGood ds)
unfolding AllGood nodes Each
good_nodes (Constant b) ds = (λ h. h, λ h. h)
good_nodes (Join j a b) ds =
    let k = good_nodes a (nodes b ++ ds) in
    let l = good_nodes b ds in (
      λ h.
          let p = k.0 (rw (append_assoc (nodes a) (nodes b) ds) at h.1) in
          let q = l.0 p.1 in
          ((p.0, q.0), q.1),
      λ h. (tt, rw (append_assoc (nodes a) (nodes b) ds) (k.1 (h.0.0, l.1 (h.0.1, h.1)))),
    )
good_nodes (Not a) ds = (λ h. (good_nodes a ds).0 h.1, λ h. (tt, (good_nodes a ds).1 h))
good_nodes (Literal t s) ds = (λ h. h, λ h. h)
good_nodes (Bind q v a) ds =
    let k = good_nodes a ds in
    (λ h. let p = k.0 h.1 in ((h.0, p.0), p.1), λ h. (h.0.0, k.1 (h.0.1, h.1)))

-- ---- fields

cut_append : (n : ℕ) (s ws : List ℤ) → cut n (length s) (s ++ ws) ≡ given (s, ws)
unfolding cut
cut_append n [] ws = refl
cut_append n (a ∷ s) ws = then _ (cut_append n s ws)

cut_read : (n m : ℕ) (s ws : List ℤ) → length s ≡ m → cut n m (s ++ ws) ≡ given (s, ws)
cut_read n m s ws e = subst (λ (m : ℕ). cut n m (s ++ ws) ≡ given (s, ws)) e (cut_append n s ws)

checked_read : (test : ℤ → Bool) (n : ℕ) (ws : List ℤ) → T (test (pos n)) → checked test (pos n ∷ ws) ≡ given (n, ws)
unfolding checked
checked_read test n ws t = then _ (passed (test (pos n)) 3 t)

sum_read : (t : Test) (s ws : List ℤ) → InTable t s → sum_of t (s ++ ws) ≡ given (literal_node t s, ws)
unfolding sum_of
sum_read t s ws g = then _ (then _ (cut_read 3 7 s ws g.0) ∙ then _ (passed (all_within limit s) 3 g.1))

divisor_read : (b : Bool) (k : ℕ) (s ws : List ℤ) → InTable (divisible b k) s
    → divisor_and_sum b (pos k ∷ s ++ ws) ≡ given (literal_node (divisible b k) s, ws)
unfolding divisor_and_sum
divisor_read b k s ws g = then _ (checked_read is_divisor k (s ++ ws) g.2) ∙ sum_read (divisible b k) s ws g

-- ---- nodes

right_read : (i : ℕ) (right : ℤ) → (pos i +ℤ right) -ℤ pos i ≡ right
right_read i = z2 (λ k z. (k +ℤ z) -ℤ k ≡ z) (simp zz (omega arith)) (pos i)

pub node_read : (i : ℕ) (d : Node) (ws : List ℤ) → Good d → node i (body i d ++ ws) ≡ given (d, ws)
unfolding node body Good
node_read i (constant_node false) ws g = refl
node_read i (constant_node true) ws g = refl
node_read i (join_node and right) ws g = ap (λ z. given (join_node and z, ws)) (right_read i right)
node_read i (join_node or right) ws g = ap (λ z. given (join_node or z, ws)) (right_read i right)
node_read i not_node ws g = refl
node_read i (literal_node positive s) ws g = sum_read positive s ws g
node_read i (literal_node (divisible true k) s) ws g = divisor_read true k s ws g
node_read i (literal_node (divisible false k) s) ws g = divisor_read false k s ws g
node_read i (literal_node is_zero s) ws g = sum_read is_zero s ws g
node_read i (bind_node for_some v) ws g = then _ (checked_read is_setting v ws g)
node_read i (bind_node for_all v) ws g = then _ (checked_read is_setting v ws g)

read_back : (i p : ℕ) (ds : List Node) → AllGood ds → read i (starts p ds) p (bodies i ds) ≡ given ds
unfolding read starts bodies AllGood
read_back i p [] g = refl
read_back i p (d ∷ ds) g =
    then _ (passed (eqb p p) 2 (eqb_refl p))
    ∙ then _ (node_read i d (bodies (i + 1) ds) g.0)
    ∙ then _ (read_back (i + 1) (p + width d) ds g.1)

-- ---- the tree

pub trees_nodes : (r : Rule) (ds : List Node) (f : List Rule) → trees ds ≡ given f
    → trees (nodes r ++ ds) ≡ given (r ∷ f)
unfolding trees nodes
trees_nodes (Constant b) ds f e = then _ e
trees_nodes (Join j a b) ds f e =
    let n : ℕ = 1 + count a in
    let children = trees_nodes a (nodes b ++ ds) (b ∷ f) (trees_nodes b ds f e) in
    then _ (ap trees (append_assoc (nodes a) (nodes b) ds) ∙ children) ∙ then _ (passed (eqb n n) 4 (eqb_refl n))
trees_nodes (Not a) ds f e = then _ (trees_nodes a ds f e)
trees_nodes (Literal t s) ds f e = then _ e
trees_nodes (Bind q v a) ds f e = then _ (trees_nodes a ds f e)

-- ---- the table

pub decode_encode : DecodeEncode
unfolding decode size
decode_encode r w h =
    let ds : List Node = nodes r in
    let n : ℕ = length ds in
    let es : List ℤ = starts (n + 1) ds in
    let good : AllGood ds = rw (append-nil ds) at ((good_nodes r []).1 (w, unfold AllGood in tt)) in
    let one_tree : trees ds ≡ given (r ∷ []) = rw (append-nil ds) at (trees_nodes r [] [] (unfold trees in refl)) in
    let n_pos : 1 ≤ n = omega (arith, length_nodes r, count_pos r) in
    let small : Bool = leb (size r) most_words in
    let some : Bool = leb 1 n in
    then _ (passed (small && some) 1 ((T_and small some).1 (le→leb (size r) most_words h, le→leb 1 n n_pos)))
    ∙ then _ (cut_read 1 n es (bodies 0 ds) (length_starts (n + 1) ds))
    ∙ then _ (read_back 0 (n + 1) ds good)
    ∙ then _ one_tree
