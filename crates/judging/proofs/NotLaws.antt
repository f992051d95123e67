-- A run of nots at a rule's root: where it stands in a table, where it ends, what it makes of what is judged, and how
-- the walk passes it.
-- Assumes nothing.
use mathlib.Core.Path.{◌≡◌, refl, sym, ap, ◌∙◌, subst}
use mathlib.Core.Bool.{Bool, true, false, not, cond}
use mathlib.Core.List.{List}
use Prim.Native.Nat.{ℕ, zero, suc, ◌+◌, ◌%◌, ◌<◌, ◌≤◌}
use native.Mathlib.Omega.{arith}
use borrow.Author.Tests.{eqb-true, eqb-false, eq-eqb, ne_eqb}
use lib.Dec.{eqb}
use lib.IntN.{ℤ, pos}
use lib.ListN.{length, get_or, drop, length-drop}
use lib.Seq.{get_or-drop, drop-drop}
use Rattle.rules.specs.Sum.{Sum, add, number}
use Rattle.rules.specs.Rule.{and, or, Test, Rule, Constant, Join, Not, Literal, Bind}
use Rattle.rules.specs.Table.{count, most_words}
use Rattle.rules.specs.Literals.{map_literals}
use Rattle.rules.specs.Laws.{Each, WellFormed}
use Rattle.rules.specs.Calls.{signed, words}
use Rattle.rules.proofs.Sizes.{weight, weight_pos}
use Rattle.tables.specs.Standing.{Stands}
use Rattle.tables.specs.Parts.{RuleIn, Behind, SideIn}
use Rattle.tables.specs.declared.part.Part.{Part}
use Rattle.tables.proofs.Standings.{under_not, inside_entries, inside_bodies}
use Rattle.tables.proofs.Parts.{moved}
use Rattle.tables.proofs.PartSides.{behind_it}
use Rattle.tables.proofs.KindLaws.{literal_kinds, bind_kinds}
use Rattle.tables.proofs.Inversion.{Shape, shape, constant, join, negation, literal, bind}
use Rattle.literals.specs.Changes.{becomes}
use Rattle.judging.specs.Judging.{Says, put_into, at_sum}
use Rattle.judging.specs.Walks.{nots, SomeStands, Walking, SomeWalking, Judges}
use Rattle.judging.specs.declared.answers.Judged.{Judged}
use Rattle.tables.specs.Kinds.{Kinded, kind_of}
use Rattle.tables.proofs.RootKinds.{root_kinded}
use Rattle.tables.specs.declared.kind.Kind.{Kind}
use Rattle.tables.specs.declared.kind.Kind.TheVariants as kinds
use Rattle.judging.proofs.KindRules.{not_rule}
use Rattle.judging.proofs.SaidLaws.{says_not}

-- ---- where it stands

-- what stands under the nots
unfoldable bare : Rule → Rule
bare (Constant b) = Constant b
bare (Join j a b) = Join j a b
bare (Not a) = bare a
bare (Literal t s) = Literal t s
bare (Bind q v a) = Bind q v a

at_drop : (l : List ℤ) (i : ℕ) → get_or (drop 1 l) i (pos 0) ≡ get_or l (suc i) (pos 0)
at_drop l i = get_or-drop 1 l i (pos 0) ∙ ap (λ (m : ℕ). get_or l m (pos 0)) (let e : 1 + i ≡ suc i = omega arith in e)

-- the words of a not, and of no other rule, start with 4
first_four : {es bs : List ℤ} {n p : ℕ} (a : Rule) → get_or bs 0 (pos 0) ≡ signed 4 → Stands es bs n p a → 1 ≤ nots a
unfolding nots
first_four a e s = by a (shape 4 e a s)
  where
    by : {es bs : List ℤ} {n p : ℕ} (a : Rule) → Shape es bs n p 4 a → 1 ≤ nots a
    by a (constant b l e) = absurd (omega arith)
    by a (join and x y i z) = absurd (omega arith)
    by a (join or x y i z) = absurd (omega arith)
    by a (negation x i z) = omega arith
    by a (literal t s i z) = absurd (omega (arith, i, literal_kinds t))
    by a (bind q v x i w z) = absurd (omega (arith, i, bind_kinds q))

-- the words of the nots, and the one behind them, are kinds
pub nots_kinded : {es bs : List ℤ} {n p : ℕ} (i : ℕ) (a : Rule) → i ≤ nots a → Stands es bs n p a → Kinded bs i
unfolding nots
nots_kinded zero a h s = root_kinded a s
nots_kinded (suc i) (Constant b) h s = absurd (omega arith)
nots_kinded (suc i) (Join j x y) h s = absurd (omega arith)
nots_kinded {es} {bs} (suc i) (Not x) h s =
    let under = nots_kinded {es = drop 1 es} i x (omega arith) (under_not x s) in
    record {
      there = omega (arith, under.there, length-drop 1 bs);
      kind = under.kind;
      numbered = sym (at_drop bs i) ∙ under.numbered;
    }
nots_kinded (suc i) (Literal t z) h s = absurd (omega arith)
nots_kinded (suc i) (Bind q v x) h s = absurd (omega arith)

-- where a not stands, 4 does; behind the last one, something else
pub more_nots : {es bs : List ℤ} {n p : ℕ} (i : ℕ) (a : Rule) → i ≤ nots a → get_or bs i (pos 0) ≡ signed 4
    → Stands es bs n p a → i + 1 ≤ nots a
unfolding nots
more_nots zero a h e s = first_four a e s
more_nots (suc i) (Constant b) h e s = absurd (omega arith)
more_nots (suc i) (Join j x y) h e s = absurd (omega arith)
more_nots {es} {bs} (suc i) (Not x) h e s =
    let more = more_nots {es = drop 1 es} i x (omega arith) (at_drop bs i ∙ e) (under_not x s) in omega arith
more_nots (suc i) (Literal t z) h e s = absurd (omega arith)
more_nots (suc i) (Bind q v x) h e s = absurd (omega arith)

pub no_more_nots : {es bs : List ℤ} {n p kind : ℕ} (i : ℕ) (a : Rule) → i ≤ nots a → get_or bs i (pos 0) ≡ signed kind
    → ¬ (kind ≡ 4) → Stands es bs n p a → i ≡ nots a
unfolding nots
no_more_nots {kind = kind} zero a h e other s = by a (shape kind e a s)
  where
    by : {es bs : List ℤ} {n p : ℕ} (a : Rule) → Shape es bs n p kind a → 0 ≡ nots a
    by a (constant b l e) = refl
    by a (join j x y i z) = refl
    by a (negation x i z) = absurd (other i)
    by a (literal t u i z) = refl
    by a (bind q v x i w z) = refl
no_more_nots (suc i) (Constant b) h e other s = absurd (omega arith)
no_more_nots (suc i) (Join j x y) h e other s = absurd (omega arith)
no_more_nots {es} {bs} (suc i) (Not x) h e other s =
    ap suc (no_more_nots {es = drop 1 es} i x (omega arith) (at_drop bs i ∙ e) other (under_not x s))
no_more_nots (suc i) (Literal t z) h e other s = absurd (omega arith)
no_more_nots (suc i) (Bind q v x) h e other s = absurd (omega arith)

-- a rule has more nodes and more words than nots at its root
nots_counted : (a : Rule) → (nots a < count a) × (nots a < weight a)
unfolding nots count weight
nots_counted (Constant b) = (omega arith, omega arith)
nots_counted (Join j x y) = (omega arith, omega arith)
nots_counted (Not x) = let (n, w) = nots_counted x in (omega arith, omega arith)
nots_counted (Literal t s) = (omega arith, omega (arith, weight_pos (Literal t s)))
nots_counted (Bind q v x) = (omega arith, omega arith)

pub nots_inside : {es bs : List ℤ} {n p : ℕ} (a : Rule) → Stands es bs n p a
    → (nots a < length es) × (nots a < length bs)
nots_inside a s =
    let (n, w) = nots_counted a in
    (omega (arith, inside_entries a s), omega (arith, inside_bodies a s))

-- what is under them stands behind them
bare_stands : {es bs : List ℤ} {n p : ℕ} (a : Rule) → Stands es bs n p a
    → Stands (drop (nots a) es) (drop (nots a) bs) (n + nots a) (p + nots a) (bare a)
unfolding nots bare
bare_stands (Constant b) s = moved (Constant b) refl refl (omega arith) (omega arith) s
bare_stands (Join j x y) s = moved (Join j x y) refl refl (omega arith) (omega arith) s
bare_stands {es} {bs} {n} {p} (Not x) s =
    moved (bare x) (drop-drop (nots x) 1 es ∙ ap (λ (m : ℕ). drop m es) (one_more (nots x)))
    (drop-drop (nots x) 1 bs ∙ ap (λ (m : ℕ). drop m bs) (one_more (nots x))) (omega arith) (omega arith)
    (bare_stands {es = drop 1 es} x (under_not x s))
  where
    one_more : (m : ℕ) → 1 + m ≡ suc m
    one_more m = omega arith
bare_stands (Literal t z) s = moved (Literal t z) refl refl (omega arith) (omega arith) s
bare_stands (Bind q v x) s = moved (Bind q v x) refl refl (omega arith) (omega arith) s

bare_formed : (a : Rule) → WellFormed a → WellFormed (bare a)
unfolding bare Each
bare_formed (Constant b) h = h
bare_formed (Join j x y) h = h
bare_formed (Not x) h = bare_formed x h
bare_formed (Literal t s) h = h
bare_formed (Bind q v x) h = h

-- ---- what is judged

abbrev odd : ℕ → Bool
odd n = eqb (n % 2) 1

odd_next : (n : ℕ) → odd (suc n) ≡ not (odd n)
odd_next n = by (odd n) refl
  where
    by : (b : Bool) → odd n ≡ b → odd (suc n) ≡ not b
    by true e = ne_eqb (suc n % 2) 1 (λ z. let o = eqb-true (n % 2) 1 e in omega arith)
    by false e = eq-eqb (suc n % 2) 1 (even n (eqb-false (n % 2) 1 e))
      where
        even : (n : ℕ) → ¬ (n % 2 ≡ 1) → suc n % 2 ≡ 1
        even n h = omega arith

module _ (ys ns k : ℕ) (g : Test → Sum → Rule) where
  -- the masks say it of the rule a where they are turned, or as they are
  abbrev Turned : Bool → Rule → Type 0
  Turned o a = Says (cond o ns ys) (cond o ys ns) k (map_literals g a)

  nots_say : (a : Rule) → Says ys ns k (map_literals g (bare a)) → Turned (odd (nots a)) a
  unfolding nots bare map_literals
  nots_say (Constant b) s = s
  nots_say (Join j x y) s = s
  nots_say (Not x) s =
      subst (λ (o : Bool). Turned o (Not x)) (sym (odd_next (nots x))) (by (odd (nots x)) (says_not (nots_say x s)))
    where
      by : (o : Bool) → Says (cond o ys ns) (cond o ns ys) k (Not (map_literals g x)) → Turned (not o) (Not x)
      by true s = s
      by false s = s
  nots_say (Literal t u) s = s
  nots_say (Bind q v x) s = s

  turned_says : (a : Rule) {us vs : ℕ} {m : ℕ} → m ≡ nots a
      → (odd m ≡ true → (us ≡ ns) × (vs ≡ ys)) → (odd m ≡ false → (us ≡ ys) × (vs ≡ ns))
      → Says ys ns k (map_literals g (bare a)) → Says us vs k (map_literals g a)
  turned_says a {us} {vs} {m} e turned kept s =
      by (odd m) refl (subst (λ (n : ℕ). Turned (odd n) a) (sym e) (nots_say a s))
    where
      same : {ps qs : ℕ} → (us ≡ ps) × (vs ≡ qs) → Says ps qs k (map_literals g a) → Says us vs k (map_literals g a)
      same {ps} {qs} (e, f) s =
          subst (λ (y : ℕ). Says y vs k (map_literals g a)) (sym e)
          (subst (λ (n : ℕ). Says ps n k (map_literals g a)) (sym f) s)

      by : (o : Bool) → odd m ≡ o → Turned o a → Says us vs k (map_literals g a)
      by true e s = same (turned e) s
      by false e s = same (kept e) s

-- ---- the walk passes them by one call

module _ {p : Part} {x : ℕ} {v : Sum} (some : SomeWalking p x v) where
  pub nots_asks : SomeStands (words p.bodies.now)
  nots_asks = record {
    entries = words p.entries.now;
    number = p.node;
    place = p.place;
    rule = some.rule;
    stands = some.walking.at.stands;
    few = omega (arith, some.walking.at.few.few_words);
  }

some_nots : (a : Rule) → 1 ≤ nots (Not a)
unfolding nots
some_nots a = omega arith

-- n of them are found
pub record NotsFound (p : Part) (x : ℕ) (v : Sum) (n : ℕ) : Type 0 where
  pub some : SomeWalking p x v
  pub is_not : (a : Rule) → RuleIn p a → (b : Rule) × (a ≡ Not b)
  pub found : (es : List ℤ) (m q : ℕ) (a : Rule) → Stands es (words p.bodies.now) m q a → n ≡ nots a

pub nots_run : {p : Part} {x n : ℕ} {v : Sum} (k : Kind) → SomeWalking p x v
    → ((a : Rule) → RuleIn p a → k ≡ kind_of a) → k ≡ kinds.Not
    → ((es : List ℤ) (m q : ℕ) (a : Rule) → Stands es (words p.bodies.now) m q a → n ≡ nots a) → NotsFound p x v n
nots_run k some read is found = record {
  some = some;
  is_not = λ a at. not_rule k a (read a at) is;
  found = found;
}

module _ {p : Part} {x n : ℕ} {v : Sum} (run : NotsFound p x v n) where
  counted : (a : Rule) → RuleIn p a → n ≡ nots a
  counted a at = run.found _ _ _ a at.stands

  inside : (n < length (words p.entries.now)) × (n < length (words p.bodies.now))
  inside =
      let e = counted run.some.rule run.some.walking.at in
      let (low, lows) = nots_inside run.some.rule run.some.walking.at.stands in
      (omega arith, omega arith)

  positive : 0 < n
  positive =
      let (b, e) = run.is_not run.some.rule run.some.walking.at in
      omega (arith, counted run.some.rule run.some.walking.at, ap nots e, some_nots b)

  pub behind_asks : (n ≤ length (words p.entries.now)) × (n ≤ length (words p.bodies.now))
      × (p.node + n ≤ most_words) × (p.place + n ≤ most_words)
  behind_asks =
      let few = run.some.walking.at.few in
      let (low, lows) = inside in
      (omega arith, omega arith, omega (arith, few.few_nodes), omega (arith, few.few_words))

  module _ {q : Part} (behind : Behind p n n q) where
    bare_in : (a : Rule) → RuleIn p a → SideIn p n n (bare a) q
    bare_in a at =
        let there = subst (λ (m : ℕ). Stands (drop m (words p.entries.now)) (drop m (words p.bodies.now))
        (p.node + m) (p.place + m) (bare a)) (sym (counted a at)) (bare_stands a at.stands) in
        behind_it (bare a) at.few there (bare_formed a at.formed) positive inside.0 (omega (arith, inside.1)) behind

    under : (a : Rule) → Walking p x v a → Walking q x v (bare a)
    under a h = record { at = (bare_in a h.at).at; setting = h.setting; shift = h.shift }

    pub under_asks : SomeWalking q x v
    under_asks = record { rule = bare run.some.rule; walking = under run.some.rule run.some.walking }

    pub under_shorter : length (words q.entries.now) < length (words p.entries.now)
    under_shorter = (bare_in run.some.rule run.some.walking.at).shorter

    pub run_says : (far : Bool) (r o : Judged) → Judges q far x v r.yes r.no
        → (eqb (n % 2) 1 ≡ true → (o.yes ≡ r.no) × (o.no ≡ r.yes)) × (eqb (n % 2) 1 ≡ false → o ≡ r)
        → Judges p far x v o.yes o.no
    run_says far r o inner turned a w i h shifted less =
        up (inner (bare a) w i (under a h) shifted less)
      where
        up : Says r.yes r.no i (at_sum far x w i (bare a)) → Says o.yes o.no i (at_sum far x w i a)
        up s = unfold at_sum in
            turned_says r.yes r.no i (becomes (put_into far x) (add w (number (pos i)))) a
            (counted a h.at) turned.0
            (λ e. (ap (λ (j : Judged). j.yes) (turned.1 e), ap (λ (j : Judged). j.no) (turned.1 e))) s
