-- The tree that starts some nodes, step by step: by the children of its root.
-- Assumes nothing.
use mathlib.Core.Path.{◌≡◌, refl, sym, ◌∙◌, ap, subst}
use mathlib.Core.List.{List, [], ◌∷◌, ◌++◌, append_assoc}
use Prim.Native.Nat.{ℕ, ◌+◌}
use native.Mathlib.Omega.{arith}
use lib.IntN.{ℤ, pos}
use lib.ListN.{drop}
use lib.Seq.{drop_at}
use Rattle.rules.specs.Rule.{Junction, Rule, Constant, Join, Not, Literal, Bind}
use Rattle.rules.specs.Table.{Node, constant_node, join_node, not_node, literal_node, bind_node, count, nodes}
use Rattle.rules.proofs.Sizes.{words, weight, length_nodes}
use Rattle.rules.proofs.Trees.{arity, count_unique, after}
use Rattle.tables.specs.Checks.{TreeOf}
use Rattle.std.proofs.Common.{Option, None}
use Rattle.tables.specs.declared.extent.Extent.{Extent}
use Rattle.tables.proofs.Extents.{ends}

impossible : {X : Type 0} → ◌≡◌ {A = ℕ} 0 1 → X
impossible e = absurd (omega arith)

-- ---- nothing left, and a leaf

pub none_left : (v : Option Extent) → v ≡ None → TreeOf [] v
none_left v e = subst (TreeOf []) (sym e) (unfold TreeOf in none)
  where
    none : (r : Rule) (f : List Node) → ¬ ([] ≡ nodes r ++ f)
    none (Constant b) f e = unfold nodes in let z : ◌≡◌ {A = ℕ} 0 1 = cc in impossible z
    none (Join j a b) f e = unfold nodes in let z : ◌≡◌ {A = ℕ} 0 1 = cc in impossible z
    none (Not a) f e = unfold nodes in let z : ◌≡◌ {A = ℕ} 0 1 = cc in impossible z
    none (Literal t s) f e = unfold nodes in let z : ◌≡◌ {A = ℕ} 0 1 = cc in impossible z
    none (Bind q v a) f e = unfold nodes in let z : ◌≡◌ {A = ℕ} 0 1 = cc in impossible z

pub a_leaf : (d : Node) (ds : List Node) → arity d ≡ 0 → TreeOf (d ∷ ds) (ends 1 (words d))
unfolding TreeOf nodes arity words weight
a_leaf (constant_node b) ds e = (Constant b, ds, refl, refl, refl)
a_leaf (join_node j right) ds e = absurd (omega arith)
a_leaf not_node ds e = absurd (omega arith)
a_leaf (literal_node t s) ds e = (Literal t s, ds, refl, refl, refl)
a_leaf (bind_node q v) ds e = absurd (omega arith)

-- ---- one child

-- a node over the rule of its only child
over : (d : Node) → arity d ≡ 1 → (a : Rule)
    → (r : Rule) × (nodes r ≡ d ∷ nodes a) × (count r ≡ 1 + count a) × (weight r ≡ words d + weight a)
unfolding nodes arity words weight
over (constant_node b) e a = absurd (omega arith)
over (join_node j right) e a = absurd (omega arith)
over not_node e a = (Not a, refl, refl, refl)
over (literal_node t s) e a = absurd (omega arith)
over (bind_node q v) e a = (Bind q v a, refl, refl, refl)

-- and back
under : (d : Node) (ds : List Node) (r : Rule) (f : List Node) → arity d ≡ 1 → d ∷ ds ≡ nodes r ++ f
    → (a : Rule) × (ds ≡ nodes a ++ f)
under d ds (Constant b) f i e = unfold nodes arity in
    absurd (let h : d ≡ constant_node b = cc in omega (arith, ap arity h))
under d ds (Join j a b) f i e = unfold nodes arity in
    absurd (let h : d ≡ join_node j (pos (1 + count a)) = cc in omega (arith, ap arity h))
under d ds (Not a) f i e = unfold nodes in (a, cc)
under d ds (Literal t s) f i e = unfold nodes arity in
    absurd (let h : d ≡ literal_node t s = cc in omega (arith, ap arity h))
under d ds (Bind q v a) f i e = unfold nodes in (a, cc)

pub one_ends : (d : Node) (ds : List Node) (m q : ℕ) → arity d ≡ 1 → TreeOf ds (ends m q)
    → TreeOf (d ∷ ds) (ends (1 + m) (words d + q))
unfolding TreeOf
one_ends d ds m q i (a, f, e, c, w) =
    let (r, n, k, l) = over d i a in
    (r, f, ap (λ (g : List Node). d ∷ g) e ∙ ap (λ (g : List Node). g ++ f) (sym n), omega arith, omega arith)

pub one_broken : (d : Node) (ds : List Node) → arity d ≡ 1 → TreeOf ds None → TreeOf (d ∷ ds) None
unfolding TreeOf
one_broken d ds i h r f e = let (a, k) = under d ds r f i e in h a f k

-- ---- two children

both : (j : Junction) (right : ℤ) (ds : List Node) (r : Rule) (f : List Node) → join_node j right ∷ ds ≡ nodes r ++ f
    → (a : Rule) × (b : Rule) × (right ≡ pos (1 + count a)) × (ds ≡ nodes a ++ (nodes b ++ f))
both j right ds (Constant b) f e = unfold nodes in let z : ◌≡◌ {A = ℕ} 0 1 = cc in impossible z
both j right ds (Join k a b) f e = unfold nodes in
    let h : ds ≡ (nodes a ++ nodes b) ++ f = cc in
    (a, b, cc, h ∙ append_assoc (nodes a) (nodes b) f)
both j right ds (Not a) f e = unfold nodes in let z : ◌≡◌ {A = ℕ} 0 1 = cc in impossible z
both j right ds (Literal t s) f e = unfold nodes in let z : ◌≡◌ {A = ℕ} 0 1 = cc in impossible z
both j right ds (Bind q v a) f e = unfold nodes in let z : ◌≡◌ {A = ℕ} 0 1 = cc in impossible z

-- the nodes after those of the left child
pub after_left : (ds : List Node) (m q : ℕ) → TreeOf ds (ends m q)
    → (a : Rule) × (ds ≡ nodes a ++ drop m ds) × (m ≡ count a) × (q ≡ weight a)
unfolding TreeOf
after_left ds m q (a, f, e, c, w) =
    let behind = ap (drop m) e ∙ drop_at (nodes a) f m (length_nodes a ∙ sym c) in
    (a, e ∙ ap (λ (g : List Node). nodes a ++ g) (sym behind), c, w)

module _ (j : Junction) (right : ℤ) (ds : List Node) where
  pub left_broken : TreeOf ds None → TreeOf (join_node j right ∷ ds) None
  unfolding TreeOf
  left_broken h r f e = let (a, b, k, l) = both j right ds r f e in h a (nodes b ++ f) l

  -- behind the left child's tree, of m nodes, stands the right child of any rule that begins so
  behind_left : (m q : ℕ) → TreeOf ds (ends m q) → (r : Rule) (f : List Node) → join_node j right ∷ ds ≡ nodes r ++ f
      → (right ≡ pos (1 + m)) × (b : Rule) × (drop m ds ≡ nodes b ++ f)
  behind_left m q h r f e =
      let (a, b, k, l) = both j right ds r f e in
      let (c, i, u, w) = after_left ds m q h in
      let same : count c ≡ count a = count_unique c a (drop m ds) (nodes b ++ f) (sym i ∙ l) in (
        k ∙ ap (λ (x : ℕ). pos (1 + x)) (sym (u ∙ same)),
        b,
        after c a (drop m ds) (nodes b ++ f) same (sym i ∙ l),
      )

  pub wrong_child : (m q : ℕ) → TreeOf ds (ends m q) → ¬ (right ≡ pos (1 + m)) → TreeOf (join_node j right ∷ ds) None
  unfolding TreeOf
  wrong_child m q h n r f e = n (behind_left m q h r f e).0

  pub right_broken : (m q : ℕ) → TreeOf ds (ends m q) → TreeOf (drop m ds) None
      → TreeOf (join_node j right ∷ ds) None
  unfolding TreeOf
  right_broken m q h n r f e = let (child, b, behind) = behind_left m q h r f e in n b f behind

  pub two_end : (m q k w : ℕ) → TreeOf ds (ends m q) → right ≡ pos (1 + m) → TreeOf (drop m ds) (ends k w)
      → TreeOf (join_node j right ∷ ds) (ends (1 + m + k) (2 + q + w))
  unfolding TreeOf nodes weight
  two_end m q k w h e (b, f, i, c, v) =
      let (a, l, u, x) = after_left ds m q h in
      let child : right ≡ pos (1 + count a) = e ∙ ap (λ (y : ℕ). pos (1 + y)) u in
      let rest : ds ≡ (nodes a ++ nodes b) ++ f =
      l ∙ ap (λ (g : List Node). nodes a ++ g) i ∙ sym (append_assoc (nodes a) (nodes b) f) in
      let all = ap (λ z. join_node j z ∷ ds) child ∙ ap (λ (g : List Node). join_node j (pos (1 + count a)) ∷ g) rest in
      (Join j a b, f, all, omega arith, omega arith)
