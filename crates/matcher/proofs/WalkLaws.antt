-- The walk of matching: what each kind makes of a verdict, and how the walk goes on to the part that decides.
-- Assumes nothing.
use Rattle.std.proofs.Common.{◌≡◌, Bool, true, false, not, ◌&&◌, ◌||◌, List, ◌++◌, ℕ, ℤ, ◌+◌, ◌-◌, ◌<◌, ◌≤◌, length, drop, refl, sym, ap, subst, ◌∙◌, arith, length-drop}
use lib.Seq.{drop-drop}
use mathlib.Core.Bool.{beq}
use mathlib.Core.List.{append-nil}
use Rattle.rules.specs.Sum.{Sum, value}
use Rattle.rules.specs.Rule.{Junction, and, or, Test, Rule, Join, Literal, passes}
use Rattle.rules.specs.Rule as rule
use Rattle.rules.specs.Match.{joined, holds, choice}
use Rattle.rules.specs.Calls.{words as words_of}
use Rattle.rules.specs.Table.{count, literal_node, body, most_words, nodes, bodies}
use Rattle.rules.specs.Laws.{QuantifierFree, Each}
use Rattle.rules.proofs.Sizes.{weight}
use Rattle.rules.proofs.Meaning.{join_free, not_free}
use Rattle.tables.specs.Kinds.{kind_of, join_kind}
use Rattle.tables.specs.declared.kind.Kind.{Kind}
use Rattle.tables.specs.declared.kind.Kind.TheVariants.{False, True, And, Or, Not}
use Rattle.tables.specs.declared.part.Part.{Part}
use Rattle.tables.specs.Parts.{PartOf, RuleIn, JoinIn, Behind, SideIn}
use Rattle.tables.proofs.Parts.{moved, few_moved}
use Rattle.tables.proofs.Standings.{root_there, under_not as stands_under}
use Rattle.literals.specs.Literal.{LiteralAt, SomeLiteral}
use Rattle.matcher.specs.Matching.{Matchable, SomeMatchable}
use Rattle.matcher.proofs.RuleKinds.{by_kind, literal_of}

same_verdict : (x y : Bool) → beq x y ≡ true → x ≡ y
same_verdict true true e = refl
same_verdict false false e = refl
same_verdict true false e = sym e
same_verdict false true e = e

other_verdict : (x y : Bool) → beq x y ≡ false → x ≡ not y
other_verdict true true e = e
other_verdict false false e = sym e
other_verdict true false e = refl
other_verdict false true e = refl

pub opposite : (x y : Bool) → not (beq x y) ≡ beq x (not y)
opposite true true = refl
opposite true false = refl
opposite false true = refl
opposite false false = refl

-- ---- the rule in a part of the table

-- the rule a stands in the part, and has no quantifier
pub record MatchableIn (p : Part) (a : Rule) : Type 0 where
  pub at : RuleIn p a
  pub free : QuantifierFree a

pub record SomeIn (p : Part) : Type 0 where
  pub rule : Rule
  pub matchable : MatchableIn p rule

-- the part q is that of the table with the words W that starts with its own node
abbrev pub Within : List ℤ → Part → Type 0
Within W q = PartOf W q.node q.place q

module _ {W : List ℤ} {n p : ℕ} {q : Part} (part : PartOf W n p q) where
  pub whole : Within W q
  whole = record {
    entries_are = part.entries_are ∙ ap (λ (i : ℕ). drop (i + 1) W) (sym part.node_is);
    bodies_are = part.bodies_are ∙ ap (λ (i : ℕ). drop i W) (sym part.place_is);
    node_is = refl;
    place_is = refl;
  }

  pub in_part : {a : Rule} → Matchable W n p a → MatchableIn q a
  in_part {a} m = record {
    at = record {
      stands = moved a (sym part.entries_are) (sym part.bodies_are) (sym part.node_is) (sym part.place_is) m.at.stands;
      few = few_moved (sym part.entries_are) (sym part.bodies_are) (sym part.node_is) (sym part.place_is) m.at.few;
      formed = m.at.formed;
    };
    free = m.free;
  }

  pub of_part : {a : Rule} → MatchableIn q a → Matchable W n p a
  of_part {a} m = record {
    at = record {
      stands = moved a part.entries_are part.bodies_are part.node_is part.place_is m.at.stands;
      few = few_moved part.entries_are part.bodies_are part.node_is part.place_is m.at.few;
      formed = m.at.formed;
    };
    free = m.free;
  }

  pub some_in : SomeMatchable W n p → SomeIn q
  some_in some = record { rule = some.rule; matchable = in_part some.matchable }

  pub some_of : SomeIn q → SomeMatchable W n p
  some_of some = record { rule = some.rule; matchable = of_part some.matchable }

-- such a part can be taken
pub part_there : {W : List ℤ} {n p : ℕ} → SomeMatchable W n p
    → (n < length W) × (p ≤ length W) × (length W ≤ most_words)
part_there {W} {n} {p} some =
    let at = some.matchable.at in
    let there = root_there some.rule at.stands in
    let entries = length-drop (n + 1) W in
    let bodies = length-drop p W in
    (omega (arith, there, entries), omega (arith, there, bodies), omega (arith, there, bodies, at.few.few_words))

-- what stands behind some of its nodes is one again
pub within_behind : {W : List ℤ} {p q : Part} {i j : ℕ} → Within W p → Behind p i j q → Within W q
within_behind {W} {p} {q} {i} {j} whole behind =
    let nodes : p.node + 1 + i ≡ q.node + 1 = omega (arith, behind.node_is) in
    let words : p.place + j ≡ q.place = omega (arith, behind.place_is) in
    record {
      entries_are = behind.entries_are ∙ ap (drop i) whole.entries_are ∙ drop-drop i (p.node + 1) W
          ∙ ap (λ (k : ℕ). drop k W) nodes;
      bodies_are = behind.bodies_are ∙ ap (drop j) whole.bodies_are ∙ drop-drop j p.place W
          ∙ ap (λ (k : ℕ). drop k W) words;
      node_is = refl;
      place_is = refl;
    }

pub within_side : {W : List ℤ} {p q : Part} {i j : ℕ} {a : Rule} → Within W p → SideIn p i j a q → Within W q
within_side whole side = within_behind whole (record {
  entries_are = side.entries_are;
  bodies_are = side.bodies_are;
  node_is = side.node_is;
  place_is = side.place_is;
})

-- what a verdict of the rule in the part says
abbrev pub Says : Part → List ℤ → Bool → Type 0
Says p vs x = (a : Rule) → MatchableIn p a → x ≡ holds a (choice vs)

-- the root of whatever rule stands there has this kind
abbrev pub KindIn : Part → Kind → Type 0
KindIn p k = (a : Rule) → RuleIn p a → k ≡ kind_of a

-- ---- a constant

module _ {p : Part} {k : Kind} (kinded : KindIn p k) (vs : List ℤ) where
  pub false_says : k ≡ False → Says p vs false
  unfolding holds
  false_says e a m = sym (ap (λ (r : Rule). holds r (choice vs)) (by_kind False a (sym e ∙ kinded a m.at)))

  pub true_says : k ≡ True → Says p vs true
  unfolding holds
  true_says e a m = sym (ap (λ (r : Rule). holds r (choice vs)) (by_kind True a (sym e ∙ kinded a m.at)))

-- ---- a not

-- the rule under it is a part again
pub not_there : {p : Part} → SomeIn p → (1 ≤ length (words_of p.entries.now)) × (1 ≤ length (words_of p.bodies.now))
    × (p.node + 1 ≤ most_words) × (p.place + 1 ≤ most_words)
not_there some =
    let at = some.matchable.at in
    let there = root_there some.rule at.stands in
    (there.0, there.1, omega (arith, there, at.few.few_nodes), omega (arith, there, at.few.few_words))

pub shorter : {p q : Part} → SomeIn p → Behind p 1 1 q
    → length (words_of q.entries.now) < length (words_of p.entries.now)
shorter {p} some behind =
    omega (arith, not_there some, ap length behind.entries_are, length-drop 1 (words_of p.entries.now))

below_not : {p q : Part} (b : Rule) → RuleIn p (rule.Not b) → Behind p 1 1 q → RuleIn q b
unfolding Each
below_not {p} b at behind =
    let there = root_there (rule.Not b) at.stands in
    record {
      stands = moved b (sym behind.entries_are) (sym behind.bodies_are) (sym behind.node_is) (sym behind.place_is)
          (stands_under b at.stands);
      few = record {
        few_nodes = omega (
          arith,
          there,
          at.few.few_nodes,
          behind.node_is,
          ap length behind.entries_are,
          length-drop 1 (words_of p.entries.now),
        );
        few_words = omega (
          arith,
          there,
          at.few.few_words,
          behind.place_is,
          ap length behind.bodies_are,
          length-drop 1 (words_of p.bodies.now),
        );
      };
      formed = at.formed;
    }

-- ---- a literal

literal_in : (p : Part) (t : Test) (s : Sum) → RuleIn p (Literal t s) → LiteralAt (words_of p.bodies.now) p.node t s
unfolding Each nodes bodies
literal_in p t s at = record {
  after = at.stands.bodies_after;
  begins = at.stands.bodies
      ∙ ap (λ (l : List ℤ). l ++ at.stands.bodies_after) (append-nil (body p.node (literal_node t s)));
  long = at.formed.0;
  fair = at.formed.2;
}

-- the kind is none of the others
pub record LiteralKind (k : Kind) : Type 0 where
  pub not_false : ¬ (k ≡ False)
  pub not_true : ¬ (k ≡ True)
  pub not_and : ¬ (k ≡ And)
  pub not_or : ¬ (k ≡ Or)
  pub not_not : ¬ (k ≡ Not)

module _ {p : Part} {k : Kind} (kinded : KindIn p k) (other : LiteralKind k) where
  a_literal : (a : Rule) → MatchableIn p a → (t : Test) × (s : Sum) × (a ≡ Literal t s)
  a_literal a m =
      literal_of k a (kinded a m.at) m.free other.not_false other.not_true other.not_and other.not_or other.not_not

  pub some_literal : SomeIn p → SomeLiteral (words_of p.bodies.now)
  some_literal some =
      let (t, s, is) = a_literal some.rule some.matchable in
      record { node = p.node; test = t; sum = s; at = literal_in p t s (subst (RuleIn p) is some.matchable.at) }

  pub literal_says : (vs : List ℤ) {x : Bool}
      → ((n : ℕ) (t : Test) (s : Sum) → LiteralAt (words_of p.bodies.now) n t s → x ≡ passes t (value s (choice vs)))
      → Says p vs x
  unfolding holds
  literal_says vs f a m =
      let (t, s, is) = a_literal a m in
      f p.node t s (literal_in p t s (subst (RuleIn p) is m.at)) ∙ ap (λ (r : Rule). holds r (choice vs)) (sym is)

-- ---- an and or an or

-- what settles it
abbrev pub settling : Junction → Bool
settling and = false
settling or = true

-- the kind is a join's, and this settles it
pub record JoinKind (p : Part) (x : Bool) : Type 0 where
  pub joint : Junction
  pub kinded : KindIn p (join_kind joint)
  pub settles : x ≡ settling joint

module _ {p : Part} {y : Bool} (join : JoinKind p y) where
  a_join : (a : Rule) → RuleIn p a → (b : Rule) × (c : Rule) × (a ≡ Join join.joint b c)
  unfolding join_kind
  a_join a at = go join.joint (join.kinded a at)
    where
      go : (j : Junction) → join_kind j ≡ kind_of a → (b : Rule) × (c : Rule) × (a ≡ Join j b c)
      go and e = by_kind And a e
      go or e = by_kind Or a e

  pub join_in : SomeIn p → JoinIn p
  join_in some =
      let (b, c, is) = a_join some.rule some.matchable.at in
      record { joint = join.joint; left_side = b; right_side = c; at = subst (RuleIn p) is some.matchable.at }

  -- its left side
  module _ {q : Part} (left : (j : Junction) (a b : Rule) → RuleIn p (Join j a b) → SideIn p 1 2 a q) where
    left_matchable : (b c : Rule) → MatchableIn p (Join join.joint b c) → MatchableIn q b
    left_matchable b c m = record { at = (left join.joint b c m.at).at; free = (join_free join.joint b c m.free).0 }

    pub some_left : SomeIn p → SomeIn q
    some_left some =
        let (b, c, is) = a_join some.rule some.matchable.at in
        record { rule = b; matchable = left_matchable b c (subst (MatchableIn p) is some.matchable) }

    pub left_within : {W : List ℤ} → Within W p → SomeIn p → Within W q
    left_within whole some =
        let (b, c, is) = a_join some.rule some.matchable.at in
        within_side whole (left join.joint b c (subst (RuleIn p) is some.matchable.at))

    pub left_shorter : SomeIn p → length (words_of q.entries.now) < length (words_of p.entries.now)
    left_shorter some =
        let (b, c, is) = a_join some.rule some.matchable.at in
        (left join.joint b c (subst (RuleIn p) is some.matchable.at)).shorter

    -- it settles the join
    pub left_says : (vs : List ℤ) {x : Bool} → Says q vs x → beq x y ≡ true → Says p vs x
    unfolding holds
    left_says vs {x} f e a m =
        let (b, c, is) = a_join a m.at in
        let right = holds c (choice vs) in
        settled join.joint x right (same_verdict x y e ∙ join.settles)
        ∙ ap (λ (z : Bool). joined join.joint z right) (f b (left_matchable b c (subst (MatchableIn p) is m)))
        ∙ ap (λ (r : Rule). holds r (choice vs)) (sym is)
      where
        settled : (j : Junction) (x y : Bool) → x ≡ settling j → x ≡ joined j x y
        settled and x y e = e ∙ sym (ap (λ (z : Bool). z && y) e)
        settled or x y e = e ∙ sym (ap (λ (z : Bool). z || y) e)

    -- it leaves the join to the right side
    right_decides : (vs : List ℤ) {x : Bool} → Says q vs x → beq x y ≡ false → (b c : Rule)
        → MatchableIn p (Join join.joint b c) → holds (Join join.joint b c) (choice vs) ≡ holds c (choice vs)
    unfolding holds
    right_decides vs {x} f u b c m =
        let right = holds c (choice vs) in
        ap (λ (z : Bool). joined join.joint z right) (sym (f b (left_matchable b c m)))
        ∙ left_open join.joint x right (other_verdict x y u ∙ ap not join.settles)
      where
        left_open : (j : Junction) (x y : Bool) → x ≡ not (settling j) → joined j x y ≡ y
        left_open and x y e = ap (λ (z : Bool). z && y) e
        left_open or x y e = ap (λ (z : Bool). z || y) e

  -- its right side
  pub right_shorter : {q : Part}
      → ((j : Junction) (a b : Rule) → RuleIn p (Join j a b) → SideIn p (1 + count a) (2 + weight a) b q)
      → SomeIn p → length (words_of q.entries.now) < length (words_of p.entries.now)
  right_shorter right some =
      let (b, c, is) = a_join some.rule some.matchable.at in
      (right join.joint b c (subst (RuleIn p) is some.matchable.at)).shorter

  pub right_within : {q : Part} {W : List ℤ}
      → ((j : Junction) (a b : Rule) → RuleIn p (Join j a b) → SideIn p (1 + count a) (2 + weight a) b q)
      → Within W p → SomeIn p → Within W q
  right_within right whole some =
      let (b, c, is) = a_join some.rule some.matchable.at in
      within_side whole (right join.joint b c (subst (RuleIn p) is some.matchable.at))

-- ---- the walk

-- a verdict, turned into its contrary by an odd number of nots
abbrev pub turned : Bool → Bool → Bool
turned x odd = not (beq x odd)

turned_not : (x odd : Bool) → turned (not x) odd ≡ turned x (not odd)
turned_not true true = refl
turned_not true false = refl
turned_not false true = refl
turned_not false false = refl

turned_none : (x : Bool) → x ≡ turned x false
turned_none true = refl
turned_none false = refl

pub turned_false : (odd : Bool) → odd ≡ turned false odd
turned_false true = refl
turned_false false = refl

pub turned_true : (odd : Bool) → not odd ≡ turned true odd
turned_true true = refl
turned_true false = refl

-- what decides of the rule a: the one that stands in the part, with the nots before it
pub record Decided (vs : List ℤ) (p : Part) (odd : Bool) (a : Rule) : Type 0 where
  pub rule : Rule
  pub matchable : MatchableIn p rule
  pub same : holds a (choice vs) ≡ turned (holds rule (choice vs)) odd

-- so of every rule in the part where the walk began
pub record CameTo (vs : List ℤ) (first now : Part) (odd : Bool) : Type 0 where
  pub decided : (a : Rule) → MatchableIn first a → Decided vs now odd a
  pub onward : length (words_of now.entries.now) ≤ length (words_of first.entries.now)

pub walk_begins : (vs : List ℤ) (p : Part) → CameTo vs p p false
walk_begins vs p = record {
  decided = λ a m. record { rule = a; matchable = m; same = turned_none (holds a (choice vs)) };
  onward = omega arith;
}

module _ {vs : List ℤ} {first now : Part} {odd : Bool} (came : CameTo vs first now odd) where
  pub come_to : SomeIn first → SomeIn now
  come_to some =
      let d = came.decided some.rule some.matchable in record { rule = d.rule; matchable = d.matchable }

  -- the verdict there, turned, is the whole's
  pub walk_ends : {x : Bool} → Says now vs x → Says first vs (turned x odd)
  walk_ends says a m =
      let d = came.decided a m in ap (λ (x : Bool). turned x odd) (says d.rule d.matchable) ∙ sym d.same

  -- under a not
  pub onto_not : {k : Kind} {next : Part} → KindIn now k → k ≡ Not → SomeIn now → Behind now 1 1 next
      → CameTo vs first next (not odd)
  unfolding holds
  onto_not {next = next} kinded e some behind = record {
    decided = λ a m.
        let d = came.decided a m in
        let (b, is) = by_kind Not d.rule (sym e ∙ kinded d.rule d.matchable.at) in
        record {
          rule = b;
          matchable = record {
            at = below_not b (subst (RuleIn now) is d.matchable.at) behind;
            free = not_free b (subst QuantifierFree is d.matchable.free);
          };
          same = d.same ∙ ap (λ (r : Rule). turned (holds r (choice vs)) odd) is
              ∙ turned_not (holds b (choice vs)) odd;
        };
    onward = omega (arith, came.onward, shorter some behind);
  }

  -- to the right side
  pub onto_right : {y x : Bool} {q next : Part} (join : JoinKind now y)
      → ((j : Junction) (a b : Rule) → RuleIn now (Join j a b) → SideIn now 1 2 a q)
      → ((j : Junction) (a b : Rule) → RuleIn now (Join j a b) → SideIn now (1 + count a) (2 + weight a) b next)
      → Says q vs x → beq x y ≡ false → SomeIn now → CameTo vs first next odd
  onto_right {next = next} join left right says unsettled some = record {
    decided = λ a m.
        let d = came.decided a m in
        let (b, c, is) = a_join join d.rule d.matchable.at in
        let here = subst (MatchableIn now) is d.matchable in
        record {
          rule = c;
          matchable = record {
            at = (right join.joint b c here.at).at;
            free = (join_free join.joint b c here.free).1;
          };
          same = d.same
              ∙ ap (λ (z : Bool). turned z odd) (ap (λ (r : Rule). holds r (choice vs)) is
              ∙ right_decides join left vs says unsettled b c here);
        };
    onward = omega (arith, came.onward, right_shorter join right some);
  }

  -- a left side on the way has fewer entries than where the walk began
  pub falls : {W : List ℤ} {n p : ℕ} {side : Part} → PartOf W n p first → Within W side
      → length (words_of side.entries.now) < length (words_of now.entries.now) → length W - side.node < length W - n
  falls {W} {n} {side = side} part within shorter = omega (
    arith,
    came.onward,
    shorter,
    ap length part.entries_are,
    length-drop (n + 1) W,
    ap length within.entries_are,
    length-drop (side.node + 1) W,
  )
