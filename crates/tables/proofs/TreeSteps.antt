-- The walk over the tree, step by step in words: what its root's kind says, where its children's bodies start, and what
-- is due behind the root or the left child.
-- Assumes nothing.
use mathlib.Core.Path.{◌≡◌, refl, sym, ◌∙◌, ap, subst}
use mathlib.Core.List.{List, [], ◌∷◌, ◌++◌}
use Prim.Native.Nat.{ℕ, ◌+◌, ◌-◌, ◌<◌, ◌≤◌}
use native.Mathlib.Omega.{arith}
use lib.IntN.{ℤ, pos, ◌+ℤ◌}
use lib.ListN.{length, get_or, drop, length-append, length-drop}
use lib.Seq.{drop_at, drop-drop}
use Rattle.whole.proofs.Difference.{zz, z1}
use Rattle.rules.specs.Rule.{Junction, and, or, Rule}
use Rattle.rules.specs.Table.{Node, constant_node, join_node, not_node, literal_node, bind_node}
use Rattle.rules.specs.Table.{body, count, nodes, bodies}
use Rattle.rules.specs.Calls.{signed}
use Rattle.rules.proofs.Sizes.{words, weight, total, words_pos, weight_is}
use Rattle.rules.proofs.Sizes.{length_body, length_bodies, length_nodes, total_nodes}
use Rattle.rules.proofs.Encoding.{AllGood, good_nodes}
use Rattle.rules.proofs.Trees.{arity}
use Rattle.tables.specs.Reads.{widths, arities, kind_of}
use Rattle.tables.specs.Checks.{TreeOf, ListedAs, Listed, TreeAt}
use Rattle.std.proofs.Common.{Option, Some, None}
use Rattle.tables.specs.declared.extent.Extent.{Extent}
use Rattle.tables.proofs.Extents.{ends}
use Rattle.tables.proofs.WordLaws.{number_of, signed_low}
use Rattle.tables.proofs.TreeLaws.{
  none_left,
  a_leaf,
  one_ends,
  one_broken,
  after_left,
  left_broken,
  wrong_child,
  right_broken,
  two_end,
}
use Rattle.tables.proofs.DueTrees.{beyond, Due, written}
use Rattle.tables.proofs.Standings.{bodies_append}
use Rattle.tables.specs.declared.kind.Kind.{Kind}
use Rattle.tables.specs.Kinds.{number_of as number_of_kind}
use Rattle.tables.proofs.RootKinds.{node_kind}
use Rattle.tables.proofs.KindLaws.{first_word, kind_read, kind_words, kind_arity}

-- ---- the root of some bodies whose first word is k

pub record Rooted (bs : List ℤ) (n left k : ℕ) (ds : List Node) : Type 0 where
  pub root : Node
  pub after : List Node
  pub is : ds ≡ root ∷ after
  pub bodies_are : bs ≡ body n root ++ bodies (n + 1) after
  pub wide : get_or widths k 0 ≡ words root
  pub children : get_or arities k 0 ≡ arity root
  pub behind : ListedAs (drop (get_or widths k 0) bs) (n + 1) (left - 1) after

pub rooted : {bs : List ℤ} {n left : ℕ} (k : ℕ) {ds : List Node} → get_or bs 0 (pos 0) ≡ signed k → 0 < left
    → ListedAs bs n left ds → Rooted bs n left k ds
rooted {bs} {n} {left} k {ds} e h L = go ds L.bodies_are L.long L.good
  where
    go : (ds : List Node) → bs ≡ bodies n ds → length ds ≡ left → AllGood ds → Rooted bs n left k ds
    go [] b l g = absurd (omega arith)
    go (d ∷ ds) b l g = unfold bodies AllGood in
        let kind : k ≡ kind_of d = kind_read n d (bodies (n + 1) ds) k b e in
        let wide = ap (λ (m : ℕ). get_or widths m 0) kind ∙ kind_words d g.0 in
        let past = drop_at (body n d) (bodies (n + 1) ds) (get_or widths k 0) (length_body n d ∙ sym wide) in
        record {
          root = d;
          after = ds;
          is = refl;
          bodies_are = b;
          wide = wide;
          children = ap (λ (m : ℕ). get_or arities m 0) kind ∙ kind_arity d;
          behind = record {
            bodies_are = ap (drop (get_or widths k 0)) b ∙ past;
            long = omega arith;
            good = g.1;
          };
        }

-- the words of the root are there
root_inside : {bs : List ℤ} {n left k : ℕ} {ds : List Node} (r : Rooted bs n left k ds)
    → get_or widths k 0 + total r.after ≡ length bs
root_inside {n = n} r =
    let all = ap length r.bodies_are ∙ length-append (body n r.root) (bodies (n + 1) r.after) in
    omega (arith, all, length_body n r.root, length_bodies (n + 1) r.after, r.wide)

two_children : (d : Node) → ¬ (arity d ≡ 0) → ¬ (arity d ≡ 1) → (j : Junction) × (right : ℤ) × (d ≡ join_node j right)
unfolding arity
two_children (constant_node b) f g = absurd (f refl)
two_children (join_node j right) f g = (j, right, refl)
two_children not_node f g = absurd (g refl)
two_children (literal_node t s) f g = absurd (f refl)
two_children (bind_node q v) f g = absurd (g refl)

-- ---- the steps of the walk

pub tree_none : (bs : List ℤ) (n left : ℕ) → left ≡ 0 → TreeAt bs n left None
unfolding TreeAt
tree_none bs n left z ds L = go ds L.long
  where
    go : (ds : List Node) → length ds ≡ left → TreeOf ds None
    go [] l = none_left None refl
    go (d ∷ ds) l = absurd (omega arith)

-- some bodies, the first of them of kind k
pub record Headed (bs : List ℤ) (n left k : ℕ) : Type 0 where
  pub bodies : Listed bs n left
  pub some : 0 < left
  pub kind : get_or bs 0 (pos 0) ≡ signed k

module _ {bs : List ℤ} {n left k : ℕ} (head : Headed bs n left k) where
  root_of : {ds : List Node} → ListedAs bs n left ds → Rooted bs n left k ds
  root_of L = rooted k head.kind head.some L

  some_root : Rooted bs n left k head.bodies.nodes
  some_root = root_of head.bodies.listed

  pub tree_leaf : get_or arities k 0 ≡ 0 → TreeAt bs n left (ends 1 (get_or widths k 0))
  unfolding TreeAt
  tree_leaf z ds L =
      let r = root_of L in
      subst (λ (fs : List Node). TreeOf fs (ends 1 (get_or widths k 0))) (sym r.is)
      (subst (λ (m : ℕ). TreeOf (r.root ∷ r.after) (ends 1 m)) (sym r.wide)
      (a_leaf r.root r.after (sym r.children ∙ z)))

  pub listed_behind : Listed (drop (get_or widths k 0) bs) (n + 1) (left - 1) × (get_or widths k 0 ≤ length bs)
  listed_behind = (
    record { nodes = some_root.after; listed = some_root.behind },
    omega (arith, root_inside some_root),
  )

  -- the first child's verdict
  first_child : (v : Option Extent) → TreeAt (drop (get_or widths k 0) bs) (n + 1) (left - 1) v
      → {ds : List Node} (r : Rooted bs n left k ds) → TreeOf r.after v
  unfolding TreeAt
  first_child v t r = t r.after r.behind

  -- ---- one child: its tree is due

  pub due_only : get_or arities k 0 ≡ 1 → Due bs n left 1 (get_or widths k 0)
  unfolding TreeAt
  due_only one = record {
    listed = listed_behind.0;
    few = omega (arith, head.some);
    inside = listed_behind.1;
    verdict = λ v t ds L.
        let r = root_of L in
        subst (λ (fs : List Node). TreeOf fs (beyond 1 (get_or widths k 0) v)) (sym r.is)
        (subst (λ (x : ℕ). TreeOf (r.root ∷ r.after) (beyond 1 x v)) (sym r.wide)
        (over r.root r.after (sym r.children ∙ one) v (first_child v t r)));
  }
    where
      over : (d : Node) (ds : List Node) → arity d ≡ 1 → (v : Option Extent) → TreeOf ds v
          → TreeOf (d ∷ ds) (beyond 1 (words d) v)
      over d ds i (Some e) c = one_ends d ds e.nodes e.words i c
      over d ds i None c = one_broken d ds i c

  -- ---- two children

  module _ (some : ¬ (get_or arities k 0 ≡ 0)) (not_one : ¬ (get_or arities k 0 ≡ 1)) where
    record Pair (ds : List Node) : Type 0 where
      rooted_at : Rooted bs n left k ds
      joint : Junction
      right : ℤ
      is : rooted_at.root ≡ join_node joint right
      whole : ds ≡ join_node joint right ∷ rooted_at.after

    pair : {ds : List Node} → ListedAs bs n left ds → Pair ds
    pair L =
        let r = root_of L in
        let (j, right, i) = two_children r.root (λ x. some (r.children ∙ x)) (λ x. not_one (r.children ∙ x)) in
        record { rooted_at = r; joint = j; right = right; is = i; whole = r.is ∙ ap (λ (d : Node). d ∷ r.after) i }

    pub two_words : 1 < length bs
    unfolding words
    two_words =
        let p = pair head.bodies.listed in
        let r = p.rooted_at in
        omega (arith, root_inside r, r.wide, ap words p.is)

    pub tree_left_broken : TreeAt (drop (get_or widths k 0) bs) (n + 1) (left - 1) None → TreeAt bs n left None
    unfolding TreeAt
    tree_left_broken t ds L =
        let p = pair L in
        subst (λ (fs : List Node). TreeOf fs None) (sym p.whole)
        (left_broken p.joint p.right p.rooted_at.after (first_child None t p.rooted_at))

    -- behind the left child's tree, of m nodes and q words, where the right child's number is u
    module _ (m q u : ℕ) (t : TreeAt (drop (get_or widths k 0) bs) (n + 1) (left - 1) (ends m q))
        (second : get_or bs 1 (pos 0) ≡ signed u) where
      -- the rule of the left child
      module _ {ds : List Node} (r : Rooted bs n left k ds) where
        left_rule : (a : Rule) × (r.after ≡ nodes a ++ drop m r.after) × (m ≡ count a) × (q ≡ weight a)
        left_rule = after_left r.after m q (first_child (ends m q) t r)

        few : m ≤ left - 1
        few =
            let (a, i, c, x) = left_rule in
            let all = ap length i ∙ length-append (nodes a) (drop m r.after) in
            omega (arith, all, length_nodes a, r.behind.long)

        -- the right child's bodies
        second_listed : ListedAs (drop (get_or widths k 0 + q) bs) (n + 1 + m) (left - 1 - m) (drop m r.after)
        second_listed =
            let (a, i, c, x) = left_rule in
            let both = ap (bodies (n + 1)) i ∙ bodies_append (n + 1) (nodes a) (drop m r.after) in
            let long = length_bodies (n + 1) (nodes a) ∙ weight_is a ∙ sym x in
            record {
              bodies_are = sym (drop-drop q (get_or widths k 0) bs) ∙ ap (drop q) (r.behind.bodies_are ∙ both)
                  ∙ drop_at (bodies (n + 1) (nodes a)) (bodies (n + 1 + length (nodes a)) (drop m r.after)) q long
                  ∙ ap (λ (y : ℕ). bodies (n + 1 + y) (drop m r.after)) (length_nodes a ∙ sym c);
              long = omega (arith, length-drop m r.after, r.behind.long);
              good = ((good_nodes a (drop m r.after)).0 (subst AllGood i r.behind.good)).1;
            }

        inside : get_or widths k 0 + q ≤ length bs
        inside =
            let (a, i, c, x) = left_rule in
            omega (arith, root_inside r, ap total i, total_nodes a (drop m r.after))

      -- word 1 is the right child's number
      word : (j : Junction) (right : ℤ) (fs : List Node) → bs ≡ body n (join_node j right) ++ bodies (n + 1) fs
          → pos n +ℤ right ≡ signed u
      word and right fs b = unfold body in sym (ap (λ (ws : List ℤ). get_or ws 1 (pos 0)) b) ∙ second
      word or right fs b = unfold body in sym (ap (λ (ws : List ℤ). get_or ws 1 (pos 0)) b) ∙ second

      child : {ds : List Node} (p : Pair ds) → pos n +ℤ p.right ≡ signed u
      child p =
          let r = p.rooted_at in
          word p.joint p.right r.after
          (r.bodies_are ∙ ap (λ (d : Node). body n d ++ bodies (n + 1) r.after) p.is)

      pub tree_wrong : ¬ (u ≡ n + 1 + m) → TreeAt bs n left None
      unfolding TreeAt
      tree_wrong f ds L =
          let p = pair L in
          let r = p.rooted_at in
          subst (λ (fs : List Node). TreeOf fs None) (sym p.whole)
          (wrong_child p.joint p.right r.after m q (first_child (ends m q) t r)
          (λ i. f (number p.right (child p) i)))
        where
          number : (z : ℤ) → pos n +ℤ z ≡ signed u → z ≡ pos (1 + m) → u ≡ n + 1 + m
          number z c i = number_of u (n + 1 + m) (sym c ∙ ap (λ y. pos n +ℤ y) i ∙ ap pos (omega arith))

      pub due_right : u ≡ n + 1 + m → u < 2147483648 → Due bs n left (1 + m) (get_or widths k 0 + q)
      unfolding TreeAt
      due_right a low = record {
        listed = written Listed refl (omega arith) (omega arith)
            (record { nodes = drop m some_root.after; listed = second_listed some_root });
        few = omega (arith, few some_root, head.some);
        inside = inside some_root;
        verdict = λ v s ds L.
            let p = pair L in
            let r = p.rooted_at in
            let wide : get_or widths k 0 ≡ 2 = r.wide ∙ ap words p.is ∙ unfold words in refl in
            let at : TreeAt (drop (get_or widths k 0 + q) bs) (n + 1 + m) (left - 1 - m) v =
            written (λ (cs : List ℤ) (i j : ℕ). TreeAt cs i j v) refl (omega arith) (omega arith) s in
            let right = right_of n (1 + m) p.right (child p ∙ signed_low u low ∙ ap pos (a ∙ omega arith)) in
            subst (λ (fs : List Node). TreeOf fs (beyond (1 + m) (get_or widths k 0 + q) v)) (sym p.whole)
            (subst (λ (y : ℕ). TreeOf (join_node p.joint p.right ∷ r.after) (beyond (1 + m) (y + q) v))
            (sym wide)
            (joined p.joint p.right r.after right (first_child (ends m q) t r) v
            (at (drop m r.after) (second_listed r))));
      }
        where
          right_of : (n c : ℕ) (z : ℤ) → pos n +ℤ z ≡ pos (n + c) → z ≡ pos c
          right_of n c = z1 _ (simp zz (omega arith))

          joined : (j : Junction) (right : ℤ) (ds : List Node) → right ≡ pos (1 + m) → TreeOf ds (ends m q)
              → (v : Option Extent) → TreeOf (drop m ds) v → TreeOf (join_node j right ∷ ds) (beyond (1 + m) (2 + q) v)
          joined j right ds i c (Some e) d = two_end j right ds m q e.nodes e.words c i d
          joined j right ds i c None d = right_broken j right ds m q c d

-- some bodies have a first word
pub listed_some : {bs : List ℤ} {n left : ℕ} → Listed bs n left → 0 < left → 0 < length bs
listed_some {bs} {n} {left} L h = go L.nodes L.listed.bodies_are L.listed.long
  where
    go : (ds : List Node) → bs ≡ bodies n ds → length ds ≡ left → 0 < length bs
    go [] b l = absurd (omega arith)
    go (d ∷ ds) b l = unfold bodies in
        omega (arith, ap length b, length-append (body n d) (bodies (n + 1) ds), length_body n d, words_pos d)

-- and it is the number of a kind
pub listed_kind : {bs : List ℤ} {n left : ℕ} → Listed bs n left → 0 < left
    → (k : Kind) × (get_or bs 0 (pos 0) ≡ pos (number_of_kind k))
listed_kind {bs} {n} {left} L h = go L.nodes L.listed.bodies_are L.listed.long
  where
    go : (ds : List Node) → bs ≡ bodies n ds → length ds ≡ left
        → (k : Kind) × (get_or bs 0 (pos 0) ≡ pos (number_of_kind k))
    go [] b l = absurd (omega arith)
    go (d ∷ ds) b l = unfold bodies in
        let (k, e) = node_kind d in
        (k, ap (λ (ws : List ℤ). get_or ws 0 (pos 0)) b ∙ first_word n d (bodies (n + 1) ds) ∙ ap pos e)

-- a tree that starts some bodies is no longer than they are
pub tree_fits : {bs : List ℤ} {n left : ℕ} (m q : ℕ) → Listed bs n left → TreeAt bs n left (ends m q)
    → (m ≤ left) × (q ≤ length bs)
unfolding TreeAt
tree_fits {n = n} m q L t =
    let ds = L.nodes in
    let (a, i, c, x) = after_left ds m q (t ds L.listed) in (
      omega (arith, ap length i, length-append (nodes a) (drop m ds), length_nodes a, L.listed.long),
      omega (arith, ap length L.listed.bodies_are, length_bodies n ds, ap total i, total_nodes a (drop m ds)),
    )
