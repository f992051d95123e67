-- Going up a chain: one node after the other over what was answered.
-- Assumes nothing.
use mathlib.Core.Path.{◌≡◌, refl, sym, ◌∙◌, ap, subst}
use mathlib.Core.List.{List}
use Prim.Native.Nat.{ℕ, suc, ◌+◌, ◌-◌, ◌<◌, ◌≤◌}
use native.Mathlib.Omega.{arith}
use lib.IntN.{ℤ, pos}
use lib.ListN.{length, get_or, drop}
use Rattle.rules.specs.Rule.{Rule}
use Rattle.rules.specs.Table.{Node}
use Rattle.rules.specs.Calls.{signed}
use Rattle.rules.proofs.Sizes.{weight, total}
use Rattle.tables.proofs.WordLaws.{number_of}
use Rattle.tables.proofs.Parts.{moved}
use Rattle.builder.specs.Built.{most_counted}
use Rattle.builder.specs.declared.push.State.{State}
use Rattle.folding.specs.Answers.{Gives}
use Rattle.walks.specs.Chain.{Chained, a_not, a_bind, below, chain_words, wrap}
use Rattle.walks.specs.Chain.{Over, SomeOver, Wrapping, SomeWrapping}
use Rattle.folding.specs.declared.answers.Folded.{Folded}
use Rattle.walks.proofs.ChainLaws.{
  below_more,
  words_more,
  chained_last,
  chained_less,
  below_formed,
  chain_stands,
  chain_inside,
  chain_entry,
  wrap_weight,
}

-- a node more over f
wrap_more : (m : ℕ) (r f : Rule) → Chained 1 r → wrap (suc m) r f ≡ wrap 1 r (wrap m (below 1 r) f)
unfolding below wrap
wrap_more m r f (a_not a c) = refl
wrap_more m r f (a_bind q v a c) = refl

-- f was answered with the nodes of the chain of a from node i to node k over it, and those before node i can be put too
pub record Up (k i : ℕ) (ws : List ℤ) (b : State) (a f : Rule) (ds : List Node) (g : Folded) : Type 0 where
  pub gives : Gives ws b ds (wrap (k - i) (below i a) f) g
  pub small : total ds + weight (wrap (k - i) (below i a) f) + chain_words i a < most_counted

-- whatever rule stands there: the buffer held us where the nodes were begun, and holds ws now
unfoldable pub Raised : List ℤ → List ℤ → ℕ → ℕ → ℕ → List ℤ → State → Folded → ℕ → List ℤ → Folded → Type 0
Raised es bs n p k us b inner i ws g =
    (a f : Rule) (ds : List Node) → Wrapping es bs n p k us b a f ds inner → Up k i ws b a f ds g

pub raised_none : (es bs : List ℤ) (n p k : ℕ) (us : List ℤ) (b : State) (inner : Folded)
    → Raised es bs n p k us b inner k us inner
unfolding Raised wrap
raised_none es bs n p k us b inner a f ds w =
    let none : 0 ≡ k - k = omega arith in
    let same : f ≡ wrap (k - k) (below k a) f = ap (λ (m : ℕ). wrap m (below k a) f) none in
    record {
      gives = subst (λ (r : Rule). Gives us b ds r inner) same w.gives;
      small = subst (λ (r : Rule). total ds + weight r + chain_words k a < most_counted) same w.small;
    }

pub raised_all : (es bs : List ℤ) (n p k : ℕ) (us : List ℤ) (b : State) (inner : Folded) (i : ℕ) (ws : List ℤ)
    (g : Folded) → Raised es bs n p k us b inner i ws g → i ≡ 0
    → (a f : Rule) (ds : List Node) → Wrapping es bs n p k us b a f ds inner → Gives ws b ds (wrap k a f) g
unfolding Raised below
raised_all es bs n p k us b inner i ws g raised none a f ds w =
    subst (λ (m : ℕ). Gives ws b ds (wrap m a f) g) (let all : k - 0 ≡ k = omega arith in all)
    (subst (λ (m : ℕ). Gives ws b ds (wrap (k - m) (below m a) f) g) none (raised a f ds w).gives)

-- what is known before node i of the chain is put, where the nodes from node j on were
pub record Step (es bs : List ℤ) (n p k : ℕ) (us : List ℤ) (b : State) (inner : Folded) (j i : ℕ) (ws : List ℤ)
    (g : Folded) : Type 0 where
  pub some : SomeWrapping es bs n p k us b inner
  pub raised : Raised es bs n p k us b inner j ws g
  pub follows : j ≡ suc i
  pub more : i < k

module _ {es bs : List ℤ} {n p k : ℕ} {us : List ℤ} {b : State} {inner : Folded} {j i : ℕ} {ws : List ℤ} {g : Folded}
    (step : Step es bs n p k us b inner j i ws g) where
  before : (a : Rule) → Chained k a → Chained i a
  before a = chained_less i k a (omega (arith, step.more))

  up_to : (a f : Rule) (ds : List Node) → Wrapping es bs n p k us b a f ds inner → Up k (suc i) ws b a f ds g
  unfolding Raised
  up_to a f ds w = subst (λ (m : ℕ). Up k m ws b a f ds g) step.follows (step.raised a f ds w)

  pub entry_there : i < length es
  entry_there =
      let w = step.some.wrapping in
      (chain_inside i step.some.rule (before step.some.rule w.chained) w.at.stands).0

-- its entry is read
pub record EntryRead (es bs : List ℤ) (n p k : ℕ) (us : List ℤ) (b : State) (inner : Folded) (j i : ℕ) (ws : List ℤ)
    (g : Folded) (at : ℕ) : Type 0 where
  pub step : Step es bs n p k us b inner j i ws g
  pub entry : get_or es i (pos 0) ≡ signed at

module _ {es bs : List ℤ} {n p k : ℕ} {us : List ℤ} {b : State} {inner : Folded} {j i : ℕ} {ws : List ℤ} {g : Folded}
    {at : ℕ} (read : EntryRead es bs n p k us b inner j i ws g at) where
  at_is : (a f : Rule) (ds : List Node) → Wrapping es bs n p k us b a f ds inner → at ≡ p + chain_words i a
  at_is a f ds w =
      let c = before read.step a w.chained in
      number_of at (p + chain_words i a) (sym read.entry ∙ chain_entry i a c w.at.stands)

  pub at_behind : p ≤ at
  at_behind = let s = read.step.some in omega (arith, at_is s.rule s.under s.tail s.wrapping)

  over_of : (a f : Rule) (ds : List Node) → Wrapping es bs n p k us b a f ds inner
      → Over (drop i es) bs (n + i) (p + chain_words i a) (at - p) ws b (below i a)
      (wrap (k - suc i) (below (suc i) a) f) ds g
  over_of a f ds w =
      let c = before read.step a w.chained in
      let place : chain_words i a ≡ at - p = omega (arith, at_is a f ds w) in
      let up = up_to read.step a f ds w in
      let there = chain_stands i a c w.at.stands in
      record {
        stands = moved (below i a) refl (ap (λ (m : ℕ). drop m bs) place) refl refl there;
        low = omega (arith, place, (chain_inside i a c w.at.stands).1, w.at.few.few_words);
        formed = below_formed i a w.at.formed;
        chained = chained_last i a (chained_less (suc i) k a (omega (arith, read.step.more)) w.chained);
        gives = up.gives;
        small = omega (arith, up.small, words_more i a);
      }

  pub over_asks : SomeOver bs (at - p) ws b g
  over_asks =
      let s = read.step.some in
      record {
        entries = _;
        number = _;
        place = _;
        rule = _;
        under = _;
        tail = s.tail;
        over = over_of s.rule s.under s.tail s.wrapping;
      }

  -- the node is put
  pub raised_more : (vs : List ℤ) (h : Folded)
      → ((fs : List ℤ) (m q : ℕ) (a f : Rule) (ds : List Node) → Over fs bs m q (at - p) ws b a f ds g
      → Gives vs b ds (wrap 1 a f) h)
      → Raised es bs n p k us b inner i vs h
  unfolding Raised
  raised_more vs h put a f ds w =
      let o = over_of a f ds w in
      let y : Rule = wrap (k - suc i) (below (suc i) a) f in
      let less : suc (k - suc i) ≡ k - i = omega (arith, read.step.more) in
      let same : wrap 1 (below i a) y ≡ wrap (k - i) (below i a) f =
      ap (λ (x : Rule). wrap 1 (below i a) (wrap (k - suc i) x f)) (below_more i a)
      ∙ sym (wrap_more (k - suc i) (below i a) f o.chained)
      ∙ ap (λ (m : ℕ). wrap m (below i a) f) less in
      let fits : total ds + weight (wrap 1 (below i a) y) + chain_words i a < most_counted =
      omega (arith, (up_to read.step a f ds w).small, words_more i a, wrap_weight 1 (below i a) y) in
      record {
        gives = subst (λ (x : Rule). Gives vs b ds x h) same (put _ _ _ _ _ ds o);
        small = subst (λ (x : Rule). total ds + weight x + chain_words i a < most_counted) same fits;
      }
