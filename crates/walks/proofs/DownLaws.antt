-- Going down a chain: the kind that is read says whether the node is one more of the chain.
-- Assumes nothing.
use mathlib.Core.Path.{◌≡◌, refl, sym, ◌∙◌, ap, subst}
use mathlib.Core.Bool.{true, false}
use mathlib.Core.Logic.{◌⊎◌, inl, inr}
use mathlib.Core.List.{List}
use Prim.Native.Nat.{ℕ, suc, ◌+◌, ◌<◌, ◌≤◌}
use native.Mathlib.Omega.{arith}
use lib.IntN.{ℤ, pos}
use lib.ListN.{length, get_or, drop, length-drop}
use lib.Seq.{get_or-drop}
use Rattle.rules.specs.Rule.{and, or, for_some, for_all, positive, divisible, is_zero}
use Rattle.rules.specs.Rule.{Rule, Constant, Join, Not, Literal, Bind}
use Rattle.rules.specs.Table.{most_words}
use Rattle.tables.specs.Kinds.{number_of, Kinded, kind_of}
use Rattle.tables.specs.Standing.{Stands}
use Rattle.tables.specs.declared.kind.Kind.{Kind}
use Rattle.tables.specs.declared.kind.Kind.TheVariants as kind
use Rattle.tables.proofs.Parts.{moved}
use Rattle.tables.proofs.RootKinds.{root_first, root_read}
use Rattle.tables.proofs.Standings.{root_there}
use Rattle.walks.specs.Chain.{unary, Chained, no_link, a_not, a_bind, below, chain_words}
use Rattle.walks.specs.Chain.{link_words, ChainOf, SomeStands}
use Rattle.walks.proofs.ChainLaws.{chain_stands, chain_inside, chained_more, words_more}

-- ---- the kind of a node whose body is at some place of the bodies

module _ {es : List ℤ} (bs : List ℤ) {n p : ℕ} (w : ℕ) (r : Rule) (s : Stands es (drop w bs) n p r) where
  here : get_or bs w (pos 0) ≡ get_or (drop w bs) 0 (pos 0)
  here =
      let same : w ≡ w + 0 = omega arith in
      ap (λ (m : ℕ). get_or bs m (pos 0)) same ∙ sym (get_or-drop w bs 0 (pos 0))

  pub kind_there : Kinded bs w
  kind_there = record {
    there = omega (arith, (root_there r s).1, length-drop w bs);
    kind = kind_of r;
    numbered = here ∙ root_first r s;
  }

  pub kind_at : (k : Kind) → get_or bs w (pos 0) ≡ pos (number_of k) → k ≡ kind_of r
  kind_at k first = root_read k r s (sym here ∙ first)

pub link_few : (k : Kind) → link_words k ≤ 2
link_few kind.False = omega arith
link_few kind.True = omega arith
link_few kind.And = omega arith
link_few kind.Or = omega arith
link_few kind.Not = omega arith
link_few kind.Positive = omega arith
link_few kind.Divisible = omega arith
link_few kind.Indivisible = omega arith
link_few kind.ForSome = omega arith
link_few kind.ForAll = omega arith
link_few kind.Zero = omega arith

-- the rule r goes on with a node of v words, or its root is neither a not nor a quantifier
abbrev Goes : Rule → ℕ → Type 0
Goes r v = (Chained 1 r × (v ≡ chain_words 1 r) × (1 ≤ v)) ⊎ ((unary r ≡ false) × (v ≡ 0))

goes : (r : Rule) → Goes r (link_words (kind_of r))
unfolding unary chain_words kind_of
goes (Constant true) = inr (refl, refl)
goes (Constant false) = inr (refl, refl)
goes (Join and a b) = inr (refl, refl)
goes (Join or a b) = inr (refl, refl)
goes (Not a) = inl (a_not a (no_link a), omega arith, omega arith)
goes (Literal positive s) = inr (refl, refl)
goes (Literal (divisible true k) s) = inr (refl, refl)
goes (Literal (divisible false k) s) = inr (refl, refl)
goes (Literal is_zero s) = inr (refl, refl)
goes (Bind for_some v a) = inl (a_bind for_some v a (no_link a), omega arith, omega arith)
goes (Bind for_all v a) = inl (a_bind for_all v a (no_link a), omega arith, omega arith)

pub unlinked : {k : Kind} (a : Rule) → k ≡ kind_of a → link_words k ≡ 0 → unary a ≡ false
unlinked a is none = go (goes a)
  where
    go : Goes a (link_words (kind_of a)) → unary a ≡ false
    go (inl (u, i, some)) = absurd (omega (arith, ap link_words is))
    go (inr (u, i)) = u

-- ---- the steps

-- every rule whose bodies start there has a chain of k nodes, which have w words
unfoldable pub Reached : List ℤ → ℕ → ℕ → Type 0
Reached bs k w = (es : List ℤ) (n p : ℕ) (a : Rule) → Stands es bs n p a → Chained k a × (w ≡ chain_words k a)

pub reached_none : (bs : List ℤ) → Reached bs 0 0
unfolding Reached chain_words
reached_none bs es n p a s = (no_link a, refl)

module _ (bs : List ℤ) (k w : ℕ) (reached : Reached bs k w) where
  pub reached_inside : SomeStands bs → (w < length bs) × (w < most_words)
  unfolding Reached
  reached_inside some =
      let (c, e) = reached some.entries some.number some.place some.rule some.at.stands in
      let (nodes, words) = chain_inside k some.rule c some.at.stands in
      (omega (arith, e, words), omega (arith, e, words, some.at.few.few_words))

  -- the chain that was found, where it ends
  pub reached_ends : (most : ℕ) → k ≤ most
      → ((es : List ℤ) (n p : ℕ) (a : Rule) → Stands es bs n p a → (k ≡ most) ⊎ (unary (below k a) ≡ false))
      → (es : List ℤ) (n p : ℕ) (a : Rule) → Stands es bs n p a → ChainOf most a (record { nodes = k; words = w })
  unfolding Reached
  reached_ends most few ends es n p a s =
      let (c, e) = reached es n p a s in
      record { few = few; chained = c; wide = e; ends = ends es n p a s }

  -- the node that comes next, if one does
  next : {es : List ℤ} {n p : ℕ} (a : Rule) → Stands es bs n p a
      → Stands (drop k es) (drop w bs) (n + k) (p + chain_words k a) (below k a)
  unfolding Reached
  next {es} {n} {p} a s =
      let (c, e) = reached es n p a s in
      moved (below k a) refl (ap (λ (m : ℕ). drop m bs) (sym e)) refl refl (chain_stands k a c s)

  pub next_kinded : SomeStands bs → Kinded bs w
  next_kinded some = kind_there bs w (below k some.rule) (next some.rule some.at.stands)

  module _ (kind : Kind) (first : get_or bs w (pos 0) ≡ pos (number_of kind)) {v : ℕ} (link : v ≡ link_words kind) where
    goes_on : (es : List ℤ) (n p : ℕ) (a : Rule) → Stands es bs n p a → Goes (below k a) v
    goes_on es n p a s =
        let is = kind_at bs w (below k a) (next a s) kind first in
        subst (Goes (below k a)) (sym (link ∙ ap link_words is)) (goes (below k a))

    pub reached_more : ¬ (v ≡ 0) → Reached bs (k + 1) (w + v)
    unfolding Reached
    reached_more more es n p a s =
        let (c, e) = reached es n p a s in
        go c e (goes_on es n p a s)
      where
        go : Chained k a → w ≡ chain_words k a → Goes (below k a) v
            → Chained (k + 1) a × (w + v ≡ chain_words (k + 1) a)
        go c e (inl (u, i, some)) =
            let next : suc k ≡ k + 1 = omega arith in
            subst (λ (m : ℕ). Chained m a × (w + v ≡ chain_words m a)) next
            (chained_more k a c u, omega (arith, words_more k a))
        go c e (inr (u, i)) = absurd (more i)

    pub reached_end : v ≡ 0 → (es : List ℤ) (n p : ℕ) (a : Rule) → Stands es bs n p a
        → unary (below k a) ≡ false
    reached_end z es n p a s = go (goes_on es n p a s)
      where
        go : Goes (below k a) v → unary (below k a) ≡ false
        go (inl (u, i, more)) = absurd (omega arith)
        go (inr (u, i)) = u
