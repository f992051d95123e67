-- The turns of the walk over the tree, in bytes: what is known of the node where a tree is due, then of its left child.
-- Assumes nothing.
use mathlib.Core.Path.{◌≡◌, sym, ◌∙◌, ap, subst}
use mathlib.Core.List.{List}
use Prim.Native.Nat.{ℕ, ◌+◌, ◌-◌, ◌*◌, ◌<◌, ◌≤◌}
use native.Mathlib.Nat.{add-zero}
use native.Mathlib.Omega.{arith}
use lib.IntN.{ℤ, pos}
use lib.ListN.{length, get_or, drop, length-drop}
use lib.Seq.{drop-drop, get_or-drop}
use Rattle.rules.specs.Calls.{signed, words}
use Rattle.tables.specs.Reads.{widths, arities}
use Rattle.tables.specs.Checks.{Listed, TreeAt}
use Rattle.std.proofs.Common.{Option, None}
use Rattle.tables.specs.declared.extent.Extent.{Extent}
use Rattle.tables.proofs.Extents.{ends}
use Rattle.tables.specs.declared.kind.Kind.{Kind}
use Rattle.tables.specs.Kinds.{number_of, Kinded}
use Rattle.tables.proofs.RootKinds.{small}
use Rattle.tables.proofs.WordLaws.{part, words_from, words_length, signed_low}
use Rattle.tables.proofs.DueTrees.{Due, due_further}
use Rattle.tables.proofs.TreeSteps.{
  Headed,
  due_only,
  due_right,
  tree_leaf,
  tree_left_broken,
  tree_wrong,
  two_words,
  listed_behind,
  listed_some,
  listed_kind,
  tree_fits,
}

pub part_long : (l : List ℕ) (p : ℕ) → length (part l p) ≤ length (words l)
part_long l p = omega (arith, ap length (words_from l p), length-drop p (words l))

-- ---- a turn of the walk: behind m nodes and w words stands one of kind k, x words wide, with c children

pub record Turn (l : List ℕ) (n left m w k x c : ℕ) : Type 0 where
  pub due : Due (words l) n left m w
  pub low : n + left ≤ 16384
  pub most : length (words l) ≤ 16384
  pub some : m < left
  pub first : get_or (words l) w (pos 0) ≡ signed k
  pub wide : x ≡ get_or widths k 0
  pub children : c ≡ get_or arities k 0

-- its kind can be read
first_word : (l : List ℕ) {n left m w : ℕ} → Due (words l) n left m w → m < left → w < length (words l)
first_word l {w = w} due some =
    omega (arith, listed_some due.listed (omega arith), length-drop w (words l))

pub first_kind : (l : List ℕ) {n left m w : ℕ} → Due (words l) n left m w → m < left → Kinded (words l) w
first_kind l {w = w} due some =
    let (k, e) = listed_kind due.listed (omega arith) in
    record {
      there = first_word l due some;
      kind = k;
      numbered = ap (λ (i : ℕ). get_or (words l) i (pos 0)) (sym (add-zero w)) ∙ sym (get_or-drop w (words l) 0 (pos 0)) ∙ e;
    }

-- the number of a kind that stands there
pub kind_first : (l : List ℕ) (w : ℕ) (k : Kind) → get_or (words l) w (pos 0) ≡ pos (number_of k)
    → get_or (words l) w (pos 0) ≡ signed (number_of k)
kind_first l w k e = e ∙ sym (signed_low (number_of k) (small k))

module _ {l : List ℕ} {n left m w k x c : ℕ} (turn : Turn l n left m w k x c) where
  head : Headed (drop w (words l)) (n + m) (left - m) k
  head = record {
    bodies = turn.due.listed;
    some = omega (arith, turn.some);
    kind = get_or-drop w (words l) 0 (pos 0) ∙ ap (λ (i : ℕ). get_or (words l) i (pos 0)) (add-zero w) ∙ turn.first;
  }

  pub walk_leaf : c ≡ 0 → TreeAt (words l) n left (ends (m + 1) (w + x))
  walk_leaf z =
      subst (λ (y : ℕ). TreeAt (words l) n left (ends (m + 1) (w + y))) (sym turn.wide)
      (turn.due.verdict (ends 1 (get_or widths k 0)) (tree_leaf head (sym turn.children ∙ z)))

  pub walk_only : c ≡ 1 → Due (words l) n left (m + 1) (w + x)
  walk_only z =
      subst (λ (y : ℕ). Due (words l) n left (m + 1) (w + y)) (sym turn.wide)
      (due_further turn.due (due_only head (sym turn.children ∙ z)))

  -- the words behind this node
  behind : part l (w + x) ≡ drop (get_or widths k 0) (drop w (words l))
  behind =
      words_from l (w + x) ∙ ap (λ (y : ℕ). drop (w + y) (words l)) turn.wide
      ∙ sym (drop-drop (get_or widths k 0) w (words l))

  below : Listed (drop (get_or widths k 0) (drop w (words l))) (n + m + 1) (left - m - 1) × (w + x ≤ length (words l))
  below =
      let (listed, inside) = listed_behind head in
      (listed, omega (arith, inside, turn.wide, turn.due.inside, length-drop w (words l)))

  pub behind_place : w + x ≤ 16384
  behind_place = omega (arith, below.1, turn.most)

  pub behind_byte : (w + x) * 4 ≤ length l
  behind_byte = omega (arith, below.1, words_length l)

  -- what the walk over the left child asks
  pub left_asks : Listed (part l (w + x)) (n + m + 1) (left - m - 1) × (n + m + 1 + (left - m - 1) ≤ 16384)
      × (length (part l (w + x)) ≤ 16384)
  left_asks = (
    subst (λ (bs : List ℤ). Listed bs (n + m + 1) (left - m - 1)) (sym behind) below.0,
    omega (arith, turn.low, turn.some),
    omega (arith, turn.most, part_long l (w + x)),
  )

  -- what that walk found, in words
  found : {v s : Option Extent} → v ≡ s → TreeAt (part l (w + x)) (n + m + 1) (left - m - 1) v
      → TreeAt (drop (get_or widths k 0) (drop w (words l))) (n + m + 1) (left - m - 1) s
  found {s = s} e t =
      subst (λ (bs : List ℤ). TreeAt bs (n + m + 1) (left - m - 1) s) behind
      (subst (TreeAt (part l (w + x)) (n + m + 1) (left - m - 1)) e t)

-- ---- two children

pub record Pair (l : List ℕ) (n left m w k x c : ℕ) : Type 0 where
  pub turn : Turn l n left m w k x c
  pub not_leaf : ¬ (c ≡ 0)
  pub not_one : ¬ (c ≡ 1)

module _ {l : List ℕ} {n left m w k x c : ℕ} (pair : Pair l n left m w k x c) where
  some_child : ¬ (get_or arities k 0 ≡ 0)
  some_child z = pair.not_leaf (pair.turn.children ∙ z)

  more_children : ¬ (get_or arities k 0 ≡ 1)
  more_children z = pair.not_one (pair.turn.children ∙ z)

  pub second_word : w + 1 < length (words l)
  second_word =
      omega (arith, two_words (head pair.turn) some_child more_children, length-drop w (words l))

  -- the walk over the left child answers v, and r is answered
  pub walk_broken : {v r : Option Extent} → v ≡ None → r ≡ None → TreeAt (part l (w + x)) (n + m + 1) (left - m - 1) v
      → TreeAt (words l) n left r
  walk_broken e same t =
      let turn = pair.turn in
      subst (TreeAt (words l) n left) (sym same)
      (turn.due.verdict None (tree_left_broken (head turn) some_child more_children (found turn e t)))

-- ---- the left child's tree is found, of i nodes and q words, and the right child's number is u

pub record LeftTree (l : List ℕ) (n left m w k x c i q u : ℕ) : Type 0 where
  pub pair : Pair l n left m w k x c
  pub tree : TreeAt (drop (get_or widths k 0) (drop w (words l))) (n + m + 1) (left - m - 1) (ends i q)
  pub second : get_or (words l) (w + 1) (pos 0) ≡ signed u

pub left_found : {l : List ℕ} {n left m w k x c i q u : ℕ} {v : Option Extent} → Pair l n left m w k x c → v ≡ ends i q
    → TreeAt (part l (w + x)) (n + m + 1) (left - m - 1) v → get_or (words l) (w + 1) (pos 0) ≡ signed u
    → LeftTree l n left m w k x c i q u
left_found pair e t second = record { pair = pair; tree = found pair.turn e t; second = second }

module _ {l : List ℕ} {n left m w k x c i q u : ℕ} (left_tree : LeftTree l n left m w k x c i q u) where
  turned : Turn l n left m w k x c
  turned = left_tree.pair.turn

  number : get_or (drop w (words l)) 1 (pos 0) ≡ signed u
  number = get_or-drop w (words l) 1 (pos 0) ∙ left_tree.second

  -- the right child is due within the bodies
  pub left_fits : (m + (1 + i) ≤ left) × (w + (x + q) ≤ length (words l))
  left_fits =
      let (few, inside) = tree_fits i q (below turned).0 left_tree.tree in
      let long = length-drop (get_or widths k 0) (drop w (words l)) in (
        omega (arith, few, turned.some),
        omega (arith, inside, (below turned).1, turned.wide, long, length-drop w (words l)),
      )

  pub walk_wrong : ¬ (u ≡ n + m + 1 + i) → TreeAt (words l) n left None
  walk_wrong f =
      turned.due.verdict None
      (tree_wrong (head turned) (some_child left_tree.pair) (more_children left_tree.pair) i q u
      left_tree.tree number f)

  pub walk_right : u ≡ n + m + 1 + i → Due (words l) n left (m + (1 + i)) (w + (x + q))
  walk_right e =
      let low : u < 2147483648 = omega (arith, e, left_fits.0, turned.low) in
      subst (λ (y : ℕ). Due (words l) n left (m + (1 + i)) (w + (y + q))) (sym turned.wide)
      (due_further turned.due
      (due_right (head turned) (some_child left_tree.pair) (more_children left_tree.pair) i q u
      left_tree.tree number e low))
