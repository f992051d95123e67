-- Where the chosen quantifier stands in a join, under a chain and at the root, and what folding makes of the rule with
-- another in its place.
-- Assumes nothing.
use mathlib.Core.Path.{◌≡◌, refl, sym, ◌∙◌, ap}
use mathlib.Core.Bool.{Bool, true, false, not}
use Prim.Native.Nat.{ℕ, ◌+◌, ◌<◌, ◌≤◌}
use native.Mathlib.Omega.{arith}
use lib.Dec.{T}
use Rattle.rules.specs.Rule.{Junction, Quantifier, Rule, Join, Not, Bind}
use Rattle.rules.specs.Table.{count}
use Rattle.rules.specs.Fold.{fold_not, fold}
use Rattle.rules.specs.Chosen.{the, quantifiers, quantified, chosen, replace}
use Rattle.rules.specs.Laws.{QuantifierFree}
use Rattle.rules.proofs.Sizes.{weight}
use Rattle.rules.proofs.Meaning.{none_quantified, some_quantified}
use Rattle.rules.proofs.Choosing.{Put, here, in_left, in_right, in_not, in_bind, put, put_some}
use Rattle.rules.proofs.Weights.{fold_lighter, join_lighter}
use Rattle.tables.specs.Last.{chosen_number, chosen_place}
use Rattle.bodies.proofs.ChosenLaws.{chosen_few}
use Rattle.walks.specs.Chain.{Chained, no_link, a_not, a_bind, below, chain_words, wrap}
use Rattle.walks.proofs.ChainLaws.{wrap_weight}

-- the first where the test passes, else the second
abbrev by : {A : Type 0} → A → A → Bool → A
by first second t = elim t [ true ↦ first | false ↦ second ]

pub some_chosen : (r : Rule) {q : Quantifier} {x : ℕ} {a : Rule} → chosen r ≡ the q x a → 0 < quantifiers r
some_chosen r e = put_some (put r r e)

-- the chosen quantifier of the rule r is that of its part s, which stands i nodes and w words behind it
pub record ChosenIn (r s : Rule) (i w : ℕ) : Type 0 where
  pub same : chosen r ≡ chosen s
  pub number : chosen_number r ≡ i + chosen_number s
  pub place : chosen_place r ≡ w + chosen_place s

-- ---- in a join

module _ (j : Junction) (a b : Rule) where
  pub right_chosen : quantified b ≡ true → ChosenIn (Join j a b) b (1 + count a) (2 + weight a)
  unfolding chosen chosen_number chosen_place
  right_chosen e = record {
    same = ap (by (chosen b) (chosen a)) e;
    number = ap (by (1 + count a + chosen_number b) (1 + chosen_number a)) e;
    place = ap (by (2 + weight a + chosen_place b) (2 + chosen_place a)) e;
  }

  pub left_chosen : quantified b ≡ false → ChosenIn (Join j a b) a 1 2
  unfolding chosen chosen_number chosen_place
  left_chosen e = record {
    same = ap (by (chosen b) (chosen a)) e;
    number = ap (by (1 + count a + chosen_number b) (1 + chosen_number a)) e;
    place = ap (by (2 + weight a + chosen_place b) (2 + chosen_place a)) e;
  }

  -- its number says which side has it
  pub before_right : chosen_number (Join j a b) < 1 + count a → quantified b ≡ false
  before_right low = go (quantified b) refl
    where
      go : (t : Bool) → quantified b ≡ t → t ≡ false
      go true e = absurd (omega (arith, (right_chosen e).number))
      go false e = refl

  pub behind_left : {q : Quantifier} {x : ℕ} {c : Rule} → chosen (Join j a b) ≡ the q x c
      → 1 + count a ≤ chosen_number (Join j a b) → quantified b ≡ true
  behind_left is high = go (quantified b) refl
    where
      go : (t : Bool) → quantified b ≡ t → t ≡ true
      go true e = refl
      go false e =
          let left = left_chosen e in
          absurd (omega (arith, left.number, (chosen_few a (some_chosen a (sym left.same ∙ is))).0))

-- new in the place of the chosen quantifier, or the rule as it is
abbrev pub put_in : Bool → Rule → Rule → Rule
put_in true new r = replace new r
put_in false new r = r

pub replace_sides : (new : Rule) (j : Junction) (a b : Rule) (d : Bool) → quantified b ≡ d
    → replace new (Join j a b) ≡ Join j (put_in (not d) new a) (put_in d new b)
unfolding replace
replace_sides new j a b true e = ap (by (Join j a (replace new b)) (Join j (replace new a) b)) e
replace_sides new j a b false e = ap (by (Join j a (replace new b)) (Join j (replace new a) b)) e

-- ---- under a chain

pub record Under (k : ℕ) (r : Rule) : Type 0 where
  pub inside : ChosenIn r (below k r) k (chain_words k r)
  pub folded : (new : Rule) → fold (replace new r) ≡ wrap k r (fold (replace new (below k r)))

-- a quantifier that is not the chosen one has it in its body
over_quantified : (q : Quantifier) (v : ℕ) (a : Rule) → 0 < chosen_number (Bind q v a) → quantified a ≡ true
unfolding chosen_number
over_quantified q v a some = go (quantified a) refl
  where
    go : (t : Bool) → quantified a ≡ t → t ≡ true
    go true e = refl
    go false e = absurd (omega (arith, some, ap (by (1 + chosen_number a) 0) e))

pub under_chain : (k : ℕ) (r : Rule) → Chained k r → k ≤ chosen_number r → Under k r
unfolding below chain_words wrap chosen chosen_number chosen_place replace fold
under_chain k r (no_link s) few = record {
  inside = record { same = refl; number = omega arith; place = omega arith };
  folded = λ new. refl;
}
under_chain k r (a_not {k = i} a c) few = let inner = under_chain i a c (omega (arith, few)) in record {
  inside = record {
    same = inner.inside.same;
    number = omega (arith, inner.inside.number);
    place = omega (arith, inner.inside.place);
  };
  folded = λ new. ap fold_not (inner.folded new);
}
under_chain k r (a_bind {k = i} q v a c) few =
    let e = over_quantified q v a (omega (arith, few)) in
    let number = ap (by (1 + chosen_number a) 0) e in
    let place = ap (by (2 + chosen_place a) 0) e in
    let inner = under_chain i a c (omega (arith, few, number)) in
    record {
      inside = record {
        same = ap (by (chosen a) (the q v a)) e ∙ inner.inside.same;
        number = omega (arith, number, inner.inside.number);
        place = omega (arith, place, inner.inside.place);
      };
      folded = λ new.
          ap (λ (t : Bool). fold (by (Bind q v (replace new a)) new t)) e ∙ ap (Bind q v) (inner.folded new);
    }

-- ---- at the root

pub record AtRoot (q : Quantifier) (x : ℕ) (a r : Rule) : Type 0 where
  pub is : r ≡ Bind q x a
  pub free : QuantifierFree a
  pub place : chosen_place r ≡ 0
  pub replaced : (new : Rule) → replace new r ≡ new

join_number : (j : Junction) (a b : Rule) → 0 < chosen_number (Join j a b)
unfolding chosen_number
join_number j a b = go (quantified b)
  where
    go : (t : Bool) → 0 < by (1 + count a + chosen_number b) (1 + chosen_number a) t
    go true = omega arith
    go false = omega arith

bind_number : (q : Quantifier) (v : ℕ) (a : Rule) → 0 < quantifiers a → 0 < chosen_number (Bind q v a)
unfolding chosen_number
bind_number q v a some = go (quantified a) (none_quantified a)
  where
    go : (t : Bool) → (T (not t) → QuantifierFree a) → 0 < by (1 + chosen_number a) 0 t
    go true none = omega arith
    go false none = absurd (omega (arith, some, none tt))

unquantified : (a : Rule) → QuantifierFree a → quantified a ≡ false
unquantified a free = go (quantified a) (some_quantified a)
  where
    go : (t : Bool) → (T t → 0 < quantifiers a) → t ≡ false
    go true some = absurd (omega (arith, free, some tt))
    go false some = refl

module _ {q : Quantifier} {x : ℕ} {a : Rule} where
  root_put : {new r s : Rule} → Put q x a new r s → chosen_number r ≡ 0 → (r ≡ Bind q x a) × QuantifierFree a
  unfolding chosen_number
  root_put (here e) z = (refl, e)
  root_put (in_left {j = j} {r = r} {b = b} p e) z = absurd (omega (arith, z, join_number j r b))
  root_put (in_right {j = j} {b = b} {r = r} p) z = absurd (omega (arith, z, join_number j b r))
  root_put (in_not p) z = absurd (omega (arith, z))
  root_put (in_bind {p = k} {v = v} {r = r} p) z = absurd (omega (arith, z, bind_number k v r (put_some p)))

  pub root_chosen : (r : Rule) → chosen r ≡ the q x a → chosen_number r ≡ 0 → AtRoot q x a r
  unfolding chosen_place replace
  root_chosen r e z =
      let (is, free) = root_put (put r r e) z in
      let none = unquantified a free in
      record {
        is = is;
        free = free;
        place = ap chosen_place is ∙ ap (by (2 + chosen_place a) 0) none;
        replaced = λ new. ap (replace new) is ∙ ap (by (Bind q x (replace new a)) new) none;
      }

-- ---- no more words are put than those of the rule and of what is put in

pub put_lighter : {q : Quantifier} {x : ℕ} {a new r s : Rule} → Put q x a new r s
    → weight (fold s) ≤ weight r + weight (fold new)
unfolding weight fold wrap chain_words
put_lighter (here e) = omega arith
put_lighter (in_left {j = j} {s = s} {b = b} p e) =
    omega (arith, join_lighter j (fold s) (fold b), put_lighter p, fold_lighter b)
put_lighter (in_right {j = j} {b = b} {s = s} p) =
    omega (arith, join_lighter j (fold b) (fold s), put_lighter p, fold_lighter b)
put_lighter (in_not {r = r} {s = s} p) =
    omega (arith, wrap_weight 1 (Not r) (fold s), put_lighter p)
put_lighter (in_bind p) = omega (arith, put_lighter p)

pub replace_lighter : (new r : Rule) {q : Quantifier} {x : ℕ} {a : Rule} → chosen r ≡ the q x a
    → weight (fold (replace new r)) ≤ weight r + weight (fold new)
replace_lighter new r e = put_lighter (put new r e)

-- the words that a side may have more
abbrev pub extra : Bool → Rule → ℕ
extra true new = weight (fold new)
extra false new = 0

pub record SidesLighter (d : Bool) (new a b : Rule) : Type 0 where
  pub right : weight (fold (put_in d new b)) ≤ weight b + extra d new
  pub left : weight (fold (put_in (not d) new a)) ≤ weight a + extra (not d) new
  pub both : extra d new + extra (not d) new ≡ weight (fold new)

pub sides_lighter : (new : Rule) (j : Junction) (a b : Rule) {q : Quantifier} {x : ℕ} {c : Rule} (d : Bool)
    → quantified b ≡ d → chosen (Join j a b) ≡ the q x c → SidesLighter d new a b
sides_lighter new j a b true e is = record {
  right = replace_lighter new b (sym (right_chosen j a b e).same ∙ is);
  left = omega (arith, fold_lighter a);
  both = omega arith;
}
sides_lighter new j a b false e is = record {
  right = omega (arith, fold_lighter b);
  left = replace_lighter new a (sym (left_chosen j a b e).same ∙ is);
  both = omega arith;
}
