-- A not or a quantifier over what was answered: the node by its kind, and what it makes of the answer.
-- Assumes nothing.
use mathlib.Core.Path.{◌≡◌, refl, sym, ◌∙◌, subst}
use mathlib.Core.Bool.{Bool, true, false}
use mathlib.Core.List.{List}
use Prim.Native.Nat.{ℕ, ◌+◌, ◌<◌, ◌≤◌}
use native.Mathlib.Omega.{arith}
use lib.IntN.{ℤ, pos}
use lib.ListN.{length, get_or, drop, length-drop}
use lib.Seq.{get_or-drop}
use Rattle.rules.specs.Sum.{limit}
use Rattle.rules.specs.Rule.{Quantifier, for_some, for_all, Rule, Not, Bind}
use Rattle.rules.specs.Table.{Node}
use Rattle.rules.specs.Fold.{fold_not}
use Rattle.rules.specs.Laws.{Each, WellFormed}
use Rattle.rules.specs.Calls.{signed}
use Rattle.rules.proofs.Sizes.{weight, weight_pos}
use Rattle.rules.proofs.Encoding.{setting_range}
use Rattle.tables.specs.Kinds.{number_of as number_of_kind, Kinded, kind_of, bind_kind}
use Rattle.tables.specs.Standing.{Stands}
use Rattle.tables.specs.declared.kind.Kind.{Kind}
use Rattle.tables.specs.declared.kind.Kind.TheVariants as kind
use Rattle.tables.proofs.WordLaws.{number_of}
use Rattle.tables.proofs.Standings.{inside_bodies}
use Rattle.tables.proofs.Inversion.{setting_word}
use Rattle.builder.specs.Built.{quantifier}
use Rattle.builder.specs.declared.push.State.{State}
use Rattle.folding.specs.Answers.{Gives, Answered}
use Rattle.folding.specs.declared.answers.Folded.{Folded}
use Rattle.walks.specs.Chain.{Chained, a_not, a_bind, chain_words, wrap, Over, SomeOver}
use Rattle.walks.proofs.DownLaws.{kind_there, kind_at}

-- a not, or a quantifier and its setting, at this place of the bodies
data Link (bs : List ℤ) (at : ℕ) (k : Kind) : Rule → Type 0 where
  link_not : (a : Rule) → k ≡ kind.Not → Link bs at k (Not a)
  link_bind : (q : Quantifier) (v : ℕ) (a : Rule) → k ≡ bind_kind q → get_or bs (at + 1) (pos 0) ≡ pos v
      → at + 1 < length bs → v ≤ limit → Link bs at k (Bind q v a)

module _ {es bs : List ℤ} {n p at : ℕ} {ws : List ℤ} {b : State} {r f : Rule} {ds : List Node} {inner : Folded}
    (o : Over es bs n p at ws b r f ds inner) where
  over_inside : at + weight r ≤ length bs
  over_inside = omega (arith, inside_bodies r o.stands, weight_pos r, length-drop at bs)

  link_at : (k : Kind) → get_or bs at (pos 0) ≡ pos (number_of_kind k) → Link bs at k r
  link_at k first = go r o.chained o.formed over_inside (kind_at bs at r o.stands k first) o.stands
    where
      go : (r : Rule) → Chained 1 r → WellFormed r → at + weight r ≤ length bs → k ≡ kind_of r
          → Stands es (drop at bs) n p r → Link bs at k r
      go r (a_not x c) h i e s = unfold kind_of in link_not x e
      go r (a_bind q v x c) h i e s = unfold Each weight kind_of in
          let in_range = setting_range v h.0 in
          let word = sym (get_or-drop at bs 1 (pos 0)) ∙ setting_word q v x s in
          link_bind q v x e word (omega (arith, i, weight_pos x)) (omega (arith, in_range.1))

-- no quantifier is a not
not_bind : (q : Quantifier) → ¬ (kind.Not ≡ bind_kind q)
unfolding bind_kind
not_bind for_some e = cc
not_bind for_all e = cc

-- a quantifier of this kind
pub some_kind : ¬ (kind.ForSome ≡ kind.Not)
some_kind e = cc

pub for_some_kind : (q : Quantifier) → kind.ForSome ≡ bind_kind q → quantifier true ≡ q
unfolding bind_kind quantifier
for_some_kind for_some e = refl
for_some_kind for_all e = absurd (cc)

pub other_kind : {k : Kind} → ¬ (k ≡ kind.ForSome) → (q : Quantifier) → k ≡ bind_kind q → quantifier false ≡ q
unfolding bind_kind quantifier
other_kind n for_some e = absurd (n e)
other_kind n for_all e = refl

-- the node's kind is read
pub record KindRead (bs : List ℤ) (at : ℕ) (ws : List ℤ) (b : State) (inner : Folded) (k : Kind) : Type 0 where
  pub some : SomeOver bs at ws b inner
  pub first : get_or bs at (pos 0) ≡ pos (number_of_kind k)

pub over_kinded : {bs : List ℤ} {at : ℕ} {ws : List ℤ} {b : State} {inner : Folded} → SomeOver bs at ws b inner
    → Kinded bs at
over_kinded {bs = bs} {at = at} some = kind_there bs at some.rule some.over.stands

module _ {bs : List ℤ} {at : ℕ} {ws : List ℤ} {b : State} {inner : Folded} {k : Kind}
    (read : KindRead bs at ws b inner k) where
  some_link : Link bs at k read.some.rule
  some_link = link_at read.some.over k read.first

  -- so many words more are the node's own
  answered : (more : ℕ) → more ≤ chain_words 1 read.some.rule → Answered ws b inner more
  answered more fits =
      let o = read.some.over in
      record { rule = read.some.under; tail = read.some.tail; gives = o.gives; small = omega (arith, o.small) }

  -- a not
  pub not_asks : k ≡ kind.Not → Answered ws b inner 1
  not_asks four = answered 1 (go read.some.rule some_link)
    where
      go : (r : Rule) → Link bs at k r → 1 ≤ chain_words 1 r
      go r (link_not a e) = unfold chain_words in omega arith
      go r (link_bind q v a e w i l) = unfold chain_words in omega arith

  pub not_over : k ≡ kind.Not → (vs : List ℤ) (g : Folded)
      → ((x : Rule) (ds : List Node) → Gives ws b ds x inner → Gives vs b ds (fold_not x) g)
      → (es : List ℤ) (n p : ℕ) (a f : Rule) (ds : List Node) → Over es bs n p at ws b a f ds inner
      → Gives vs b ds (wrap 1 a f) g
  not_over four vs g put es n p a f ds o = go a (link_at o k read.first) (put f ds o.gives)
    where
      go : (r : Rule) → Link bs at k r → Gives vs b ds (fold_not f) g → Gives vs b ds (wrap 1 r f) g
      go r (link_not a e) x = unfold wrap in x
      go r (link_bind q v a e w i l) x = absurd (not_bind q (sym four ∙ e))

  -- a quantifier
  module _ (other : ¬ (k ≡ kind.Not)) where
    pub setting_there : at + 1 < length bs
    setting_there = go read.some.rule some_link
      where
        go : (r : Rule) → Link bs at k r → at + 1 < length bs
        go r (link_not a e) = absurd (other e)
        go r (link_bind q v a e w i l) = i

    module _ (v : ℕ) (second : get_or bs (at + 1) (pos 0) ≡ signed v) where
      pub bind_asks : Answered ws b inner 2 × (v ≤ limit)
      bind_asks = let (wide, low) = go read.some.rule some_link in (answered 2 wide, low)
        where
          go : (r : Rule) → Link bs at k r → (2 ≤ chain_words 1 r) × (v ≤ limit)
          go r (link_not a e) = absurd (other e)
          go r (link_bind q u a e w i l) = unfold chain_words in
              (omega arith, omega (arith, number_of v u (sym second ∙ w)))

      pub bind_over : (some : Bool) → ((q : Quantifier) → k ≡ bind_kind q → quantifier some ≡ q)
          → (vs : List ℤ) (g : Folded)
          → ((x : Rule) (ds : List Node) → Gives ws b ds x inner → Gives vs b ds (Bind (quantifier some) v x) g)
          → (es : List ℤ) (n p : ℕ) (a f : Rule) (ds : List Node) → Over es bs n p at ws b a f ds inner
          → Gives vs b ds (wrap 1 a f) g
      bind_over some which vs g put es n p a f ds o = go a (link_at o k read.first) (put f ds o.gives)
        where
          go : (r : Rule) → Link bs at k r → Gives vs b ds (Bind (quantifier some) v f) g
              → Gives vs b ds (wrap 1 r f) g
          go r (link_not a e) x = absurd (other e)
          go r (link_bind q u a e w i l) x = unfold wrap in
              let same = number_of v u (sym second ∙ w) in
              subst (λ (m : ℕ). Gives vs b ds (Bind q m f) g) same
              (subst (λ (k : Quantifier). Gives vs b ds (Bind k v f) g) (which q e) x)
