-- The kind of a node: its body begins with it, and it says how many words the body and how many children the node has.
-- Assumes nothing.
use mathlib.Core.Path.{◌≡◌, refl, sym, ap, ◌∙◌}
use mathlib.Core.Bool.{true, false}
use mathlib.Core.List.{List, ◌∷◌, ◌++◌, append_assoc}
use Prim.Native.Nat.{ℕ, ◌+◌, ◌<◌, ◌≤◌}
use native.Mathlib.Omega.{arith}
use lib.IntN.{ℤ, pos}
use lib.ListN.{get_or}
use Rattle.rules.specs.Rule.{Junction, and, or, Quantifier, for_some, for_all, Test, positive, divisible, is_zero}
use Rattle.rules.specs.Table.{Node, constant_node, join_node, not_node, literal_node, bind_node}
use Rattle.rules.specs.Table.{body, width, bodies}
use Rattle.rules.specs.Calls.{signed}
use Rattle.rules.proofs.Sizes.{words, before_sum}
use Rattle.rules.proofs.Encoding.{Good}
use Rattle.rules.proofs.Trees.{arity}
use Rattle.tables.specs.Reads.{join_kind, test_kind, bind_kind, widths, arities, kind_of}
use Rattle.tables.specs.Standing.{Nodes}
use Rattle.tables.proofs.WordLaws.{number_of}
use Rattle.tables.proofs.Standings.{width_is}

-- a body begins with its node's kind
pub first_word : (i : ℕ) (d : Node) (vs : List ℤ) → get_or (body i d ++ vs) 0 (pos 0) ≡ pos (kind_of d)
unfolding body kind_of
first_word i (constant_node false) vs = refl
first_word i (constant_node true) vs = refl
first_word i (join_node and right) vs = refl
first_word i (join_node or right) vs = refl
first_word i not_node vs = refl
first_word i (literal_node positive s) vs = refl
first_word i (literal_node (divisible true k) s) vs = refl
first_word i (literal_node (divisible false k) s) vs = refl
first_word i (literal_node is_zero s) vs = refl
first_word i (bind_node for_some v) vs = refl
first_word i (bind_node for_all v) vs = refl

-- so a kind that is read there is the node's
pub kind_read : {ws : List ℤ} (i : ℕ) (d : Node) (vs : List ℤ) (k : ℕ) → ws ≡ body i d ++ vs
    → get_or ws 0 (pos 0) ≡ signed k → k ≡ kind_of d
kind_read i d vs k begins e =
    number_of k (kind_of d) (sym e ∙ ap (λ (l : List ℤ). get_or l 0 (pos 0)) begins ∙ first_word i d vs)

pub root_kind : {es bs : List ℤ} {n p : ℕ} {d : Node} {ds : List Node} (k : ℕ) → Nodes es bs n p (d ∷ ds)
    → get_or bs 0 (pos 0) ≡ signed k → k ≡ kind_of d
unfolding bodies
root_kind {n = n} {d = d} {ds = ds} k s =
    let here = s.bodies ∙ append_assoc (body n d) (bodies (n + 1) ds) s.bodies_after in
    kind_read n d (bodies (n + 1) ds ++ s.bodies_after) k here

-- the kind says how many words a body has
pub kind_words : (d : Node) → Good d → get_or widths (kind_of d) 0 ≡ words d
unfolding kind_of words before_sum Good
kind_words (constant_node false) g = refl
kind_words (constant_node true) g = refl
kind_words (join_node and right) g = refl
kind_words (join_node or right) g = refl
kind_words not_node g = refl
kind_words (literal_node positive s) g = omega (arith, g.0)
kind_words (literal_node (divisible true k) s) g = omega (arith, g.0)
kind_words (literal_node (divisible false k) s) g = omega (arith, g.0)
kind_words (literal_node is_zero s) g = omega (arith, g.0)
kind_words (bind_node for_some v) g = refl
kind_words (bind_node for_all v) g = refl

pub kind_width : (d : Node) → Good d → width d ≡ get_or widths (kind_of d) 0
kind_width d g = width_is d ∙ sym (kind_words d g)

-- and how many children its node has
pub kind_arity : (d : Node) → get_or arities (kind_of d) 0 ≡ arity d
unfolding kind_of arity
kind_arity (constant_node false) = refl
kind_arity (constant_node true) = refl
kind_arity (join_node and right) = refl
kind_arity (join_node or right) = refl
kind_arity not_node = refl
kind_arity (literal_node positive s) = refl
kind_arity (literal_node (divisible true k) s) = refl
kind_arity (literal_node (divisible false k) s) = refl
kind_arity (literal_node is_zero s) = refl
kind_arity (bind_node for_some v) = refl
kind_arity (bind_node for_all v) = refl

-- ---- the kinds of ands and ors, and of literals and quantifiers

pub join_kinds : (j : Junction) → (2 ≤ join_kind j) × (join_kind j ≤ 3)
join_kinds and = (omega arith, omega arith)
join_kinds or = (omega arith, omega arith)

pub literal_kinds : (t : Test) → 4 < test_kind t
literal_kinds positive = omega arith
literal_kinds (divisible true k) = omega arith
literal_kinds (divisible false k) = omega arith
literal_kinds is_zero = omega arith

pub bind_kinds : (q : Quantifier) → 4 < bind_kind q
bind_kinds for_some = omega arith
bind_kinds for_all = omega arith
