-- The walks of step 1: the rule that stands there by its kind, its parts, and what their answers make of its own.
-- `plainly` tells the plain walk from the one under a not.
-- Assumes nothing.
use mathlib.Core.Path.{◌≡◌, refl, sym, ap, ◌∙◌, subst}
use mathlib.Core.Bool.{Bool, true, false}
use mathlib.Core.List.{List}
use Prim.Native.Nat.{ℕ, ◌+◌, ◌*◌, ◌<◌, ◌≤◌}
use native.Mathlib.Omega.{arith}
use lib.ListN.{length}
use Rattle.rules.specs.Sum.{Sum}
use Rattle.rules.specs.Rule.{Junction, Test, Rule, Constant, Join, whether}
use Rattle.rules.specs.Table.{Node}
use Rattle.rules.specs.Fold.{fold, fold_join}
use Rattle.rules.specs.Literals.{some_literal}
use Rattle.rules.specs.Steps.{by_de_morgan, normal_literal, normal}
use Rattle.rules.specs.Laws.{Each, WellFormed, QuantifierFree}
use Rattle.rules.specs.Calls.{words}
use Rattle.rules.proofs.Meaning.{join_free}
use Rattle.rules.proofs.Weights.{folded_normal_lighter}
use Rattle.rules.proofs.Sizes.{weight}
use Rattle.tables.specs.Kinds.{kind_of}
use Rattle.tables.specs.Parts.{RuleIn, SideIn, SomeRuleIn}
use Rattle.tables.specs.Parts as parts
use Rattle.tables.specs.declared.kind.Kind.{Kind}
use Rattle.tables.specs.declared.kind.Kind.TheVariants as kind
use Rattle.tables.specs.declared.part.Part.{Part}
use Rattle.tables.proofs.WordLaws.{same_words}
use Rattle.builder.specs.Built.{Building, junction}
use Rattle.builder.specs.declared.push.State.{State}
use Rattle.builder.proofs.BuiltLaws.{building_less}
use Rattle.folding.specs.Answers.{Gives, after, built_then}
use Rattle.folding.specs.declared.answers.Folded.{Folded}
use Rattle.folding.specs.declared.answers.Folded.TheVariants.{Known}
use Rattle.folding.proofs.AnswerLaws.{building_then}
use Rattle.walks.specs.Pairs.{Pair, SomePair}
use Rattle.walks.specs.Walk.{SomeRule}
use Rattle.walks.specs.Normal.{NormalReadyIn, Normalled, LiteralReady, SomeLiteralReady}
use Rattle.std.specs.Prelude.{Option, Some, None}
use Rattle.walks.proofs.PairLaws.{right_over, left_over, BothMade, both_made, join_made, made_gives}
use Rattle.walks.proofs.PartLaws.{LiteralIn, IsJoin, IsOf, of_kind, literal_kind, bare_free, literal_in, some_join}
use Rattle.walks.proofs.FoldLaws.{FindsRight, FindsLeft}

-- ---- a call

-- what a walk is called with: where the rule stands, the setting x, and the bytes that the rule is built in, with the
-- state that they are in
pub record Call : Type 0 where
  pub part : Part
  pub setting : ℕ
  pub out : List ℕ
  pub state : State

abbrev pub call : Part → ℕ → List ℕ → State → Call
call p x l b = record { part = p; setting = x; out = l; state = b }

module _ (q : Call) where
  abbrev pub ReadyFor : Rule → List Node → Type 0
  ReadyFor = NormalReadyIn q.part q.setting (words q.out) q.state

  -- what is promised, where the walk leaves the bytes l and answers f
  abbrev pub Answers : Bool → List ℕ → Option Folded → Type 0
  Answers plainly l f = (a : Rule) (ds : List Node) → ReadyFor a ds
      → Normalled (words l) q.state ds (normal plainly q.setting a) f

-- the calls on another part: as the bytes are, and as they are then
abbrev pub call_on : Call → Part → Call
call_on q p = record { part = p; setting = q.setting; out = q.out; state = q.state }

abbrev pub call_then : Call → Part → List ℕ → State → Call
call_then q p l b = record { part = p; setting = q.setting; out = l; state = b }

-- ---- the kind is read

pub some_rule : (q : Call) → SomeRule (ReadyFor q) → SomeRuleIn q.part
some_rule q some = record { rule = some.rule; at = some.ready.at }

pub record Kinded (q : Call) (k : Kind) : Type 0 where
  pub some : SomeRule (ReadyFor q)
  pub kind_is : (a : Rule) → RuleIn q.part a → k ≡ kind_of a

module _ {q : Call} {k : Kind} (node : Kinded q k) where
  is_of : {a : Rule} {ds : List Node} → ReadyFor q a ds → IsOf k a
  is_of {a} ready = of_kind a (node.kind_is a ready.at)

  -- a constant
  pub constant_made : (v plainly : Bool) → ((a : Rule) → IsOf k a → a ≡ Constant v)
      → Answers q plainly q.out (Some (Known (whether plainly v)))
  unfolding normal Normalled Gives some_literal fold
  constant_made v plainly is a ds ready =
      let f = Some (Known (whether plainly v)) in
      subst (λ (y : Rule). Normalled (words q.out) q.state ds (normal plainly q.setting y) f)
      (sym (is a (is_of ready))) (tt, (refl, ready.building.built))

  -- a literal
  module _ (n0 : ¬ (k ≡ kind.False)) (n1 : ¬ (k ≡ kind.True)) (n2 : ¬ (k ≡ kind.And)) (n3 : ¬ (k ≡ kind.Or))
      (n4 : ¬ (k ≡ kind.Not)) where
    literal_for : {a : Rule} {ds : List Node} → ReadyFor q a ds → LiteralIn q.part a
    literal_for {a} ready =
        let is = node.kind_is a ready.at in
        let bare = bare_free a (λ e. n4 (is ∙ sym e)) ready.free in
        literal_in q.part ready.at (literal_kind k a n0 n1 n2 n3 bare (is_of ready))

    literal_ready : {a : Rule} {ds : List Node} (ready : ReadyFor q a ds)
        → let l = literal_for ready in
        LiteralReady (words q.part.bodies.now) q.part.node q.setting (words q.out) q.state l.test l.sum ds
    unfolding weight
    literal_ready ready =
        let l = literal_for ready in
        record {
          at = l.at;
          limited = l.limited;
          setting = ready.setting;
          building = building_less ready.building (omega (arith, ap weight l.is, l.at.long));
        }

    pub literal_asks : SomeLiteralReady (words q.part.bodies.now) q.setting (words q.out) q.state
    literal_asks =
        let some = node.some in
        let l = literal_for some.ready in
        record {
          node = q.part.node;
          test = l.test;
          sum = l.sum;
          tail = some.tail;
          ready = literal_ready some.ready;
        }

    pub literal_made : (plainly : Bool) (l : List ℕ) (f : Option Folded)
        → ((n : ℕ) (t : Test) (s : Sum) (ds : List Node)
        → LiteralReady (words q.part.bodies.now) n q.setting (words q.out) q.state t s ds
        → Normalled (words l) q.state ds (normal_literal plainly q.setting t s) f)
        → Answers q plainly l f
    unfolding normal
    literal_made plainly l f answer a ds ready =
        let x = literal_for ready in
        subst (λ (y : Rule). Normalled (words l) q.state ds (normal plainly q.setting y) f) (sym x.is)
        (answer q.part.node x.test x.sum ds (literal_ready ready))

-- ---- it is an and or an or, which the walk makes an and (`both`) or an or

pub record Joined (q : Call) (plainly both : Bool) : Type 0 where
  pub some : SomeRule (ReadyFor q)
  pub joins : (a : Rule) → RuleIn q.part a → IsJoin (whether plainly both) a

join_is : (plainly both : Bool) → by_de_morgan plainly (junction (whether plainly both)) ≡ junction both
unfolding junction
join_is true true = refl
join_is true false = refl
join_is false true = refl
join_is false false = refl

-- a join that is ready to be walked
record JoinFor (q : Call) (plainly both : Bool) (a : Rule) (ds : List Node) : Type 0 where
  at : RuleIn q.part a
  join : IsJoin (whether plainly both) a
  left_free : QuantifierFree join.left_side
  right_free : QuantifierFree join.right_side
  formed : WellFormed join.left_side × WellFormed join.right_side
  setting : (1 ≤ q.setting) × (q.setting ≤ 6)
  building : Building (words q.out) q.state ds
      (3 * weight join.left_side + 3 * weight join.right_side + 6)

module _ {q : Call} {plainly both : Bool} (node : Joined q plainly both) where
  join_for : {a : Rule} {ds : List Node} → ReadyFor q a ds → JoinFor q plainly both a ds
  unfolding weight Each
  join_for {a} ready =
      let join = node.joins a ready.at in
      let (left, right) = join_free (junction (whether plainly both)) join.left_side join.right_side
      (subst QuantifierFree join.is ready.free) in
      record {
        at = ready.at;
        join = join;
        left_free = left;
        right_free = right;
        formed = subst WellFormed join.is ready.at.formed;
        setting = ready.setting;
        building = building_less ready.building (omega (arith, ap weight join.is));
      }

  some_joined : JoinFor q plainly both node.some.rule node.some.tail
  some_joined = join_for node.some.ready

  -- the join of the call
  pub join_there : parts.JoinIn q.part
  join_there = some_join q.part some_joined.at some_joined.join

module _ {q : Call} {plainly both : Bool} {a : Rule} {ds : List Node} (x : JoinFor q plainly both a ds) where
  -- the sides in normal form
  abbrev right_rule : Rule
  right_rule = normal plainly q.setting x.join.right_side

  abbrev left_rule : Rule
  left_rule = normal plainly q.setting x.join.left_side

  normal_join : Join (junction both) left_rule right_rule ≡ normal plainly q.setting a
  unfolding normal
  normal_join =
      ap (λ (j : Junction). Join j left_rule right_rule) (sym (join_is plainly both))
      ∙ ap (normal plainly q.setting) (sym x.join.is)

  right_weighs : weight (fold right_rule) ≤ 3 * weight x.join.right_side
  right_weighs = folded_normal_lighter plainly q.setting x.join.right_side x.formed.1

  left_weighs : weight (fold left_rule) ≤ 3 * weight x.join.left_side
  left_weighs = folded_normal_lighter plainly q.setting x.join.left_side x.formed.0

  right_ready : {r : Part} → FindsRight q.part r → ReadyFor (call_on q r) x.join.right_side ds
  right_ready found = record {
    at = (found _ _ _ (subst (RuleIn q.part) x.join.is x.at)).at;
    free = x.right_free;
    setting = x.setting;
    building = building_less x.building (omega arith);
  }

pub right_side_asks : {q : Call} {plainly both : Bool} {r : Part} → Joined q plainly both → FindsRight q.part r
    → SomeRule (ReadyFor (call_on q r))
right_side_asks node found = let x = some_joined node in record {
  rule = x.join.right_side;
  tail = node.some.tail;
  ready = right_ready x found;
}

-- a side has fewer entries
pub right_shorter : {q : Call} {plainly both : Bool} {r : Part} → Joined q plainly both → FindsRight q.part r
    → length (words r.entries.now) < length (words q.part.entries.now)
right_shorter {q = q} node found =
    let x = some_joined node in (found _ _ _ (subst (RuleIn q.part) x.join.is x.at)).shorter

pub left_shorter : {q : Call} {plainly both : Bool} {l : Part} → Joined q plainly both → FindsLeft q.part l
    → length (words l.entries.now) < length (words q.part.entries.now)
left_shorter {q = q} node found =
    let x = some_joined node in (found _ _ _ (subst (RuleIn q.part) x.join.is x.at)).shorter

-- ---- the right side is answered, and the bytes l are left

pub record RightAnswered (q : Call) (plainly both : Bool) (p : Part) (l : List ℕ) (f : Option Folded) : Type 0 where
  pub join : Joined q plainly both
  pub found : FindsRight q.part p
  pub answer : Answers (call_on q p) plainly l f
  pub kept : length l ≡ length q.out

module _ {q : Call} {plainly both : Bool} {p : Part} {l : List ℕ} {f : Option Folded}
    (right : RightAnswered q plainly both p l f) where
  right_answer : {a : Rule} {ds : List Node} (x : JoinFor q plainly both a ds)
      → Normalled (words l) q.state ds (right_rule x) f
  right_answer {a} {ds} x = right.answer x.join.right_side ds (right_ready x right.found)

  pub join_right_over : f ≡ None → Answers q plainly l None
  join_right_over e a ds ready =
      let x = join_for right.join ready in
      subst (λ (y : Rule). Normalled (words l) q.state ds y None) (normal_join x)
      (right_over _ (right_rule x) (left_rule x) (words l) q.state ds f e (right_answer x))

-- it is put: r is its answer, in state b
pub record RightMade (q : Call) (plainly both : Bool) (p : Part) (l : List ℕ) (f : Option Folded) (r : Folded)
    (b : State) : Type 0 where
  pub right : RightAnswered q plainly both p l f
  pub made : f ≡ Some r
  pub state : b ≡ after q.state r

module _ {q : Call} {plainly both : Bool} {p : Part} {l : List ℕ} {f : Option Folded} {r : Folded} {b : State}
    (right : RightMade q plainly both p l f r b) where
  -- what is built with the right side, and can be then
  abbrev behind : {a : Rule} {ds : List Node} → JoinFor q plainly both a ds → List Node
  behind {ds = ds} x = built_then ds (fold (right_rule x)) r

  building_behind : {a : Rule} {ds : List Node} (x : JoinFor q plainly both a ds)
      → Building (words l) b (behind x) (3 * weight x.join.left_side + 6)
  building_behind {ds = ds} x =
      let gives = made_gives (words l) q.state ds (right_rule x) f r right.made
      (right_answer right.right x) in
      let more = 3 * weight x.join.left_side + 6 in
      subst (λ (c : State). Building (words l) c (behind x) more) (sym right.state)
      (building_then (fold (right_rule x)) r x.building gives (same_words _ _ right.right.kept)
      (omega (arith, right_weighs x)))

  module _ {o : Part} (found : FindsLeft q.part o) where
    left_ready : {a : Rule} {ds : List Node} (x : JoinFor q plainly both a ds)
        → ReadyFor (call_then q o l b) x.join.left_side (behind x)
    left_ready x = record {
      at = (found _ _ _ (subst (RuleIn q.part) x.join.is x.at)).at;
      free = x.left_free;
      setting = x.setting;
      building = building_less (building_behind x) (omega arith);
    }

    pub left_side_asks : SomeRule (ReadyFor (call_then q o l b))
    left_side_asks =
        let x = some_joined right.right.join in
        record { rule = x.join.left_side; tail = behind x; ready = left_ready x }

-- ---- and then the left side, and the bytes m are left

pub record LeftAnswered (q : Call) (plainly both : Bool) (p : Part) (l : List ℕ) (f : Option Folded) (r : Folded)
    (b : State) (o : Part) (m : List ℕ) (g : Option Folded) : Type 0 where
  pub right : RightMade q plainly both p l f r b
  pub found : FindsLeft q.part o
  pub answer : Answers (call_then q o l b) plainly m g
  pub kept : length m ≡ length l

module _ {q : Call} {plainly both : Bool} {p : Part} {l m : List ℕ} {f g : Option Folded} {r : Folded} {b : State}
    {o : Part} (left : LeftAnswered q plainly both p l f r b o m g) where
  left_answer : {a : Rule} {ds : List Node} (x : JoinFor q plainly both a ds)
      → Normalled (words m) (after q.state r) (behind left.right x) (left_rule x) g
  left_answer x =
      let es = behind left.right x in
      subst (λ (c : State). Normalled (words m) c es (left_rule x) g) left.right.state
      (left.answer x.join.left_side es (left_ready left.right left.found x))

  pub join_left_over : g ≡ None → Answers q plainly m None
  join_left_over e a ds ready =
      let x = join_for left.right.right.join ready in
      subst (λ (y : Rule). Normalled (words m) q.state ds y None) (normal_join x)
      (left_over _ (right_rule x) (left_rule x) (words m) q.state _ ds _ g e (left_answer x))

  -- it is put too: h is its answer
  module _ {h : Folded} (put : g ≡ Some h) where
    both_sides : {a : Rule} {ds : List Node} (x : JoinFor q plainly both a ds)
        → BothMade (junction both) (right_rule x) (left_rule x) (words m) q.state ds r h
    both_sides {ds = ds} x =
        both_made _ (right_rule x) (left_rule x) (words q.out) (words l) (words m) q.state ds f g
        r h x.building.built left.right.made (right_answer left.right.right x) put (left_answer x)

    pub both_asks : SomePair (words m) q.state r h
    both_asks =
        let node = left.right.right.join in
        let x = some_joined node in
        record {
          x = fold (right_rule x);
          y = fold (left_rule x);
          tail = node.some.tail;
          pair = (both_sides x).pair;
          small = omega (arith, x.building.small, right_weighs x, left_weighs x);
          room = omega (arith, (building_behind left.right x).room, same_words m l left.kept);
        }

    pub join_both : (v : List ℕ) (made : Folded)
        → ((x y : Rule) (ds : List Node) → Pair (words m) q.state ds x y r h
        → Gives (words v) q.state ds (fold_join (junction both) y x) made)
        → Answers q plainly v (Some made)
    join_both v made joined a ds ready =
        let x = join_for left.right.right.join ready in
        let sides = both_sides x in
        let right = right_rule x in
        let other = left_rule x in
        subst (λ (y : Rule). Normalled (words v) q.state ds y (Some made)) (normal_join x)
        (join_made _ right other (words m) (words v) q.state ds r h made sides
        (joined (fold right) (fold other) ds sides.pair))
