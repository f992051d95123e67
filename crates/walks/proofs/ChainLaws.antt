-- Chains of nots and quantifiers: one node more, what stands under a chain, and what folding makes of one.
-- Assumes nothing.
use mathlib.Core.Path.{◌≡◌, refl, sym, ◌∙◌, ap}
use mathlib.Core.Bool.{Bool}
use mathlib.Core.List.{List}
use Prim.Native.Nat.{ℕ, zero, suc, ◌+◌, ◌<◌, ◌≤◌}
use native.Mathlib.Omega.{arith}
use lib.IntN.{ℤ, pos}
use lib.ListN.{length, get_or, drop}
use lib.Seq.{drop-drop, get_or-drop}
use Rattle.rules.specs.Sum.{Sum}
use Rattle.rules.specs.Rule.{Test, Rule, Constant, Join, Not, Literal, Bind}
use Rattle.rules.specs.Table.{count, nodes}
use Rattle.rules.specs.Fold.{fold_not, fold}
use Rattle.rules.specs.Literals.{some_literal, map_literals}
use Rattle.rules.specs.Laws.{Each, WellFormed}
use Rattle.rules.specs.Calls.{words}
use Rattle.rules.proofs.Sizes.{weight, count_pos, weight_pos}
use Rattle.tables.specs.Standing.{Stands}
use Rattle.tables.proofs.WordLaws.{words_from}
use Rattle.tables.proofs.WordLaws.{part}
use Rattle.tables.proofs.Standings.{entry, under_not, under_bind, inside_entries, inside_bodies}
use Rattle.tables.proofs.Parts.{moved}
use Rattle.walks.specs.Chain.{Chained, no_link, a_not, a_bind, below, chain_words, wrap}

-- ---- one node more

pub below_more : (k : ℕ) (r : Rule) → below (suc k) r ≡ below 1 (below k r)
unfolding below
below_more zero r = refl
below_more (suc k) (Constant b) = refl
below_more (suc k) (Join j a b) = refl
below_more (suc k) (Not a) = below_more k a
below_more (suc k) (Literal t s) = refl
below_more (suc k) (Bind q v a) = below_more k a

pub words_more : (k : ℕ) (r : Rule) → chain_words (suc k) r ≡ chain_words k r + chain_words 1 (below k r)
unfolding below chain_words
words_more zero r = omega arith
words_more (suc k) (Constant b) = refl
words_more (suc k) (Join j a b) = refl
words_more (suc k) (Not a) = omega (arith, words_more k a)
words_more (suc k) (Literal t s) = refl
words_more (suc k) (Bind q v a) = omega (arith, words_more k a)

pub chained_more : (k : ℕ) (r : Rule) → Chained k r → Chained 1 (below k r) → Chained (suc k) r
unfolding below
chained_more k r (no_link s) u = u
chained_more k r (a_not {k = i} a c) u = a_not a (chained_more i a c u)
chained_more k r (a_bind {k = i} q v a c) u = a_bind q v a (chained_more i a c u)

-- and one less: the last node of a chain, and the chain before it
pub chained_last : (k : ℕ) (r : Rule) → Chained (suc k) r → Chained 1 (below k r)
unfolding below
chained_last zero r c = c
chained_last (suc k) r (a_not a c) = chained_last k a c
chained_last (suc k) r (a_bind q v a c) = chained_last k a c

pub chained_less : (k m : ℕ) (r : Rule) → k ≤ m → Chained m r → Chained k r
chained_less zero m r h c = no_link r
chained_less (suc k) m r h (no_link s) = absurd (omega arith)
chained_less (suc k) m r h (a_not {k = i} a c) = a_not a (chained_less k i a (omega arith) c)
chained_less (suc k) m r h (a_bind {k = i} q v a c) = a_bind q v a (chained_less k i a (omega arith) c)

-- ---- sizes

pub chain_weight : (k : ℕ) (r : Rule) → Chained k r → weight r ≡ chain_words k r + weight (below k r)
unfolding below chain_words weight
chain_weight k r (no_link s) = omega arith
chain_weight k r (a_not {k = i} a c) = omega (arith, chain_weight i a c)
chain_weight k r (a_bind {k = i} q v a c) = omega (arith, chain_weight i a c)

pub chain_count : (k : ℕ) (r : Rule) → Chained k r → count r ≡ k + count (below k r)
unfolding below count
chain_count k r (no_link s) = omega arith
chain_count k r (a_not {k = i} a c) = omega (arith, chain_count i a c)
chain_count k r (a_bind {k = i} q v a c) = omega (arith, chain_count i a c)

pub below_formed : (k : ℕ) (r : Rule) → WellFormed r → WellFormed (below k r)
unfolding below Each
below_formed zero r h = h
below_formed (suc k) (Constant b) h = h
below_formed (suc k) (Join j a b) h = h
below_formed (suc k) (Not a) h = below_formed k a h
below_formed (suc k) (Literal t s) h = h
below_formed (suc k) (Bind q v a) h = below_formed k a h.1

-- ---- what stands under a chain

-- behind a node of w words, and then behind k nodes of v words
further : (es bs : List ℤ) (n p w k v : ℕ) (r : Rule)
    → Stands (drop k (drop 1 es)) (drop v (drop w bs)) (n + 1 + k) (p + w + v) r
    → Stands (drop (suc k) es) (drop (w + v) bs) (n + suc k) (p + (w + v)) r
further es bs n p w k v r s =
    let one : 1 + k ≡ suc k = omega arith in
    moved r (drop-drop k 1 es ∙ ap (λ (m : ℕ). drop m es) one) (drop-drop v w bs) (omega arith) (omega arith) s

pub chain_stands : {es bs : List ℤ} {n p : ℕ} (k : ℕ) (r : Rule) → Chained k r → Stands es bs n p r
    → Stands (drop k es) (drop (chain_words k r) bs) (n + k) (p + chain_words k r) (below k r)
unfolding below chain_words
chain_stands {es} {bs} {n} {p} k r (no_link s) at = moved s refl refl (omega arith) (omega arith) at
chain_stands {es} {bs} {n} {p} k r (a_not {k = i} a c) at =
    further es bs n p 1 i (chain_words i a) (below i a)
    (chain_stands {es = drop 1 es} {bs = drop 1 bs} {n = n + 1} {p = p + 1} i a c (under_not a at))
chain_stands {es} {bs} {n} {p} k r (a_bind {k = i} q v a c) at =
    further es bs n p 2 i (chain_words i a) (below i a)
    (chain_stands {es = drop 1 es} {bs = drop 2 bs} {n = n + 1} {p = p + 2} i a c (under_bind q v a at))

-- in bytes, where w words were counted
pub chain_part : (le lb : List ℕ) {n p : ℕ} (k w : ℕ) (r : Rule) → Chained k r → w ≡ chain_words k r
    → Stands (words le) (words lb) n p r → Stands (part le k) (part lb w) (n + k) (p + w) (below k r)
chain_part le lb k w r c e s =
    moved (below k r) (sym (words_from le k)) (ap (λ (v : ℕ). drop v (words lb)) (sym e) ∙ sym (words_from lb w)) refl
    (omega arith) (chain_stands k r c s)

module _ {es bs : List ℤ} {n p : ℕ} (k : ℕ) (r : Rule) (c : Chained k r) (s : Stands es bs n p r) where
  -- there are more nodes and more words than those of the chain
  pub chain_inside : (k < length es) × (chain_words k r < length bs)
  chain_inside = (
    omega (arith, inside_entries r s, chain_count k r c, count_pos (below k r)),
    omega (arith, inside_bodies r s, chain_weight k r c, weight_pos (below k r)),
  )

  -- the entry of the node under the chain
  pub chain_entry : get_or es k (pos 0) ≡ pos (p + chain_words k r)
  chain_entry =
      sym (get_or-drop k es 0 (pos 0) ∙ ap (λ (m : ℕ). get_or es m (pos 0)) (omega arith))
      ∙ head (below k r) (chain_stands k r c s)
    where
      head : {es bs : List ℤ} {n p : ℕ} (a : Rule) → Stands es bs n p a → get_or es 0 (pos 0) ≡ pos p
      head (Constant c) s = unfold nodes in entry _ _ s
      head (Join k a b) s = unfold nodes in entry _ _ s
      head (Not a) s = unfold nodes in entry _ _ s
      head (Literal t u) s = unfold nodes in entry _ _ s
      head (Bind q v a) s = unfold nodes in entry _ _ s

-- ---- folding

pub wrap_fold : (g : Test → Sum → Rule) (k : ℕ) (r : Rule) → Chained k r
    → fold (map_literals g r) ≡ wrap k r (fold (map_literals g (below k r)))
unfolding below wrap fold map_literals
wrap_fold g k r (no_link s) = refl
wrap_fold g k r (a_not {k = i} a c) = ap fold_not (wrap_fold g i a c)
wrap_fold g k r (a_bind {k = i} q v a c) = ap (Bind q v) (wrap_fold g i a c)

-- no more words are put than those of the chain
pub wrap_weight : (k : ℕ) (r f : Rule) → weight (wrap k r f) ≤ weight f + chain_words k r
unfolding wrap chain_words weight
wrap_weight zero r f = omega arith
wrap_weight (suc k) (Constant b) f = omega arith
wrap_weight (suc k) (Join j a b) f = omega arith
wrap_weight (suc k) (Not a) f = omega (arith, not_weight (wrap k a f), wrap_weight k a f)
  where
    not_weight : (f : Rule) → weight (fold_not f) ≤ 1 + weight f
    not_weight (Constant b) = unfold fold_not weight in omega arith
    not_weight (Join j a b) = unfold fold_not weight in omega arith
    not_weight (Not a) = unfold fold_not weight in omega arith
    not_weight (Literal t s) = unfold fold_not weight in omega arith
    not_weight (Bind q v a) = unfold fold_not weight in omega arith
wrap_weight (suc k) (Literal t s) f = omega arith
wrap_weight (suc k) (Bind q v a) f = omega (arith, wrap_weight k a f)

pub over_below : (p : Test → Sum → Bool) (g : Test → Sum → Rule) (k : ℕ) (r : Rule)
    → some_literal p (map_literals g r) ≡ some_literal p (map_literals g (below k r))
unfolding below some_literal map_literals
over_below p g zero r = refl
over_below p g (suc k) (Constant b) = refl
over_below p g (suc k) (Join j a b) = refl
over_below p g (suc k) (Not a) = over_below p g k a
over_below p g (suc k) (Literal t s) = refl
over_below p g (suc k) (Bind q v a) = over_below p g k a
