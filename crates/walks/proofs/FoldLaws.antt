-- The walk that folds a rule in a table, its literals changed: what it knows of a call once the kind is read, once the
-- right side is answered and once both sides are.
-- Assumes nothing.
use mathlib.Core.Path.{◌≡◌, sym, ap, subst}
use mathlib.Core.Bool.{Bool, true, false, not}
use mathlib.Core.List.{List}
use Prim.Native.Nat.{ℕ, ◌+◌, ◌<◌, ◌≤◌}
use native.Mathlib.Omega.{arith}
use lib.Dec.{T}
use lib.ListN.{length}
use Rattle.whole.proofs.Tests.{not_or}
use Rattle.rules.specs.Sum.{Sum}
use Rattle.rules.specs.Rule.{Junction, Test, positive, divisible, is_zero, Rule, Constant, Join, Literal}
use Rattle.rules.specs.Table.{Node, count}
use Rattle.rules.specs.Fold.{fold, fold_join}
use Rattle.rules.specs.Literals.{some_literal, map_literals}
use Rattle.rules.specs.Eliminate.{over_limit}
use Rattle.rules.specs.Calls.{words}
use Rattle.rules.specs.Laws.{Each, WellFormed}
use Rattle.rules.proofs.Sizes.{before_sum, weight}
use Rattle.tables.specs.Kinds.{kind_of}
use Rattle.tables.specs.Parts.{RuleIn, SideIn, SomeRuleIn}
use Rattle.tables.specs.Parts as parts
use Rattle.tables.specs.declared.kind.Kind.{Kind}
use Rattle.tables.specs.declared.kind.Kind.TheVariants as kind
use Rattle.tables.specs.declared.part.Part.{Part}
use Rattle.tables.proofs.WordLaws.{same_words}
use Rattle.builder.specs.Built.{Built, Building, junction}
use Rattle.builder.specs.declared.push.State.{State}
use Rattle.builder.proofs.BuiltLaws.{building_countable, building_less}
use Rattle.folding.specs.Answers.{Gives, Sides, SomeSides, after, built_then, settled}
use Rattle.folding.specs.declared.answers.Folded.{Folded}
use Rattle.folding.specs.declared.answers.Folded.TheVariants.{Known}
use Rattle.folding.proofs.AnswerLaws.{building_then, settled_join, sides_of, some_sides_of}
use Rattle.literals.specs.Literal.{LiteralAt}
use Rattle.literals.specs.Changes.{change_of, put_of, becomes, Usable}
use Rattle.literals.specs.declared.change.Change.{Change as Put}
use Rattle.walks.specs.Literals.{SomeChangeable}
use Rattle.walks.specs.Walk.{changed, changed_by, ReadyIn, CoreIn, SomeRule}
use Rattle.walks.proofs.PartLaws.{LiteralIn, IsJoin, IsOf, of_kind, literal_kind, literal_in, some_join}
use Rattle.walks.proofs.ChangedLaws.{changed_lighter}

-- ---- a call

-- what the walk is called with: where the rule stands, how its literals are changed, and the bytes that it is built in,
-- with the state that they are in
pub record Call : Type 0 where
  pub part : Part
  pub change : Put
  pub out : List ℕ
  pub state : State

abbrev pub call : Part → Put → List ℕ → State → Call
call p c l b = record { part = p; change = c; out = l; state = b }

module _ (q : Call) where
  abbrev pub ReadyFor : Rule → List Node → Type 0
  ReadyFor = ReadyIn q.part q.change (words q.out) q.state

  abbrev pub CoreFor : Rule → List Node → Type 0
  CoreFor = CoreIn q.part q.change (words q.out) q.state

  -- the rule a as it is to be put
  abbrev pub made : Rule → Rule
  made a = fold (changed_by q.change a)

  -- what is promised, where the walk leaves the bytes l and answers r
  abbrev pub Folds : List ℕ → Folded → Type 0
  Folds l r = (a : Rule) (ds : List Node) → ReadyFor a ds → Gives (words l) q.state ds (made a) r

  abbrev pub FoldsCore : List ℕ → Folded → Type 0
  FoldsCore l r = (a : Rule) (ds : List Node) → CoreFor a ds → Gives (words l) q.state ds (made a) r

-- the calls on another part: on the right side and on what stands under a chain as the bytes are, on the left side as
-- they are then
abbrev pub call_on : Call → Part → Call
call_on q p = record { part = p; change = q.change; out = q.out; state = q.state }

abbrev pub call_then : Call → Part → List ℕ → State → Call
call_then q p l b = record { part = p; change = q.change; out = l; state = b }

-- ---- the kind is read

pub record Kinded (q : Call) (k : Kind) : Type 0 where
  pub some : SomeRule (CoreFor q)
  pub kind_is : (a : Rule) → RuleIn q.part a → k ≡ kind_of a

pub some_rule : (q : Call) → SomeRule (CoreFor q) → SomeRuleIn q.part
some_rule q some = record { rule = some.rule; at = some.ready.ready.at }

literal_words : (t : Test) (s : Sum) → length s ≡ 7 → 8 ≤ weight (Literal t s)
unfolding weight before_sum
literal_words positive s e = omega arith
literal_words (divisible b k) s e = omega arith
literal_words is_zero s e = omega arith

module _ {q : Call} {k : Kind} (node : Kinded q k) where
  is_of : {a : Rule} {ds : List Node} → CoreFor q a ds → IsOf k a
  is_of {a} core = of_kind a (node.kind_is a core.ready.at)

  -- a constant
  pub constant_gives : (v : Bool) → ((a : Rule) → IsOf k a → a ≡ Constant v) → FoldsCore q q.out (Known v)
  unfolding Gives changed map_literals fold
  constant_gives v is a ds core = (ap (made q) (is a (is_of core)), core.ready.building.built)

  -- a literal
  module _ (n0 : ¬ (k ≡ kind.False)) (n1 : ¬ (k ≡ kind.True)) (n2 : ¬ (k ≡ kind.And)) (n3 : ¬ (k ≡ kind.Or)) where
    literal_for : {a : Rule} {ds : List Node} → CoreFor q a ds → LiteralIn q.part a
    literal_for {a} core =
        literal_in q.part core.ready.at (literal_kind k a n0 n1 n2 n3 core.bare (is_of core))

    pub literal_asks : SomeChangeable (words q.part.bodies.now) (change_of q.change) (put_of q.change) q.state
    unfolding changed map_literals
    literal_asks =
        let ready = node.some.ready.ready in
        let l = literal_for node.some.ready in
        let wide = literal_words l.test l.sum l.at.long in
        record {
          some = record { node = q.part.node; test = l.test; sum = l.sum; at = l.at };
          usable = ready.usable;
          numbers = subst (λ (a : Rule). T (not (some_literal over_limit (changed_by q.change a)))) l.is
              ready.numbers;
          countable = building_countable 9 ready.building (omega (arith, wide, ap weight l.is));
        }

    pub literal_gives : (l : List ℕ) (r : Folded)
        → ((n : ℕ) (t : Test) (s : Sum) (ds : List Node) → LiteralAt (words q.part.bodies.now) n t s
        → Built (words q.out) q.state ds
        → Gives (words l) q.state ds (fold (becomes (change_of q.change) (put_of q.change) t s)) r)
        → FoldsCore q l r
    unfolding changed map_literals
    literal_gives l r promise a ds core =
        let x = literal_for core in
        subst (λ (y : Rule). Gives (words l) q.state ds (made q y) r) (sym x.is)
        (promise q.part.node x.test x.sum ds x.at core.ready.building.built)

-- ---- it is an and (`both`) or an or

pub record Joined (q : Call) (both : Bool) : Type 0 where
  pub some : SomeRule (CoreFor q)
  pub joins : (a : Rule) → RuleIn q.part a → IsJoin both a

-- a join that is ready to be folded
record JoinFor (q : Call) (both : Bool) (a : Rule) (ds : List Node) : Type 0 where
  at : RuleIn q.part a
  join : IsJoin both a
  usable : Usable (change_of q.change) (put_of q.change)
  numbers_left : T (not (some_literal over_limit (changed_by q.change join.left_side)))
  numbers_right : T (not (some_literal over_limit (changed_by q.change join.right_side)))
  formed : WellFormed join.left_side × WellFormed join.right_side
  building : Building (words q.out) q.state ds (weight join.left_side + weight join.right_side + 3)

module _ {q : Call} {both : Bool} (node : Joined q both) where
  join_for : {a : Rule} {ds : List Node} → CoreFor q a ds → JoinFor q both a ds
  unfolding changed map_literals some_literal weight Each
  join_for {a} core =
      let join = node.joins a core.ready.at in
      let over : Rule → Bool = λ z. some_literal over_limit (changed_by q.change z) in
      let (left, right) = not_or (over join.left_side) (over join.right_side)
      (subst (λ (z : Rule). T (not (over z))) join.is core.ready.numbers) in
      record {
        at = core.ready.at;
        join = join;
        usable = core.ready.usable;
        numbers_left = left;
        numbers_right = right;
        formed = subst WellFormed join.is core.ready.at.formed;
        building = building_less core.ready.building (omega (arith, ap weight join.is));
      }

  some_joined : JoinFor q both node.some.rule node.some.tail
  some_joined = join_for node.some.ready

  -- the join of the call
  pub join_there : parts.JoinIn q.part
  join_there = some_join q.part some_joined.at some_joined.join

module _ {q : Call} {both : Bool} {a : Rule} {ds : List Node} (x : JoinFor q both a ds) where
  abbrev right_made : Rule
  right_made = made q x.join.right_side

  abbrev left_made : Rule
  left_made = made q x.join.left_side

  made_join : made q a ≡ fold_join (junction both) left_made right_made
  unfolding changed map_literals fold
  made_join = ap (made q) x.join.is

  lighter : (weight left_made ≤ weight x.join.left_side) × (weight right_made ≤ weight x.join.right_side)
  lighter = (
    changed_lighter (change_of q.change) (put_of q.change) x.join.left_side x.usable x.formed.0,
    changed_lighter (change_of q.change) (put_of q.change) x.join.right_side x.usable x.formed.1,
  )

-- the right side is found, and the left one
abbrev pub FindsRight : Part → Part → Type 0
FindsRight q r = (j : Junction) (a b : Rule) → RuleIn q (Join j a b) → SideIn q (1 + count a) (2 + weight a) b r

abbrev pub FindsLeft : Part → Part → Type 0
FindsLeft q l = (j : Junction) (a b : Rule) → RuleIn q (Join j a b) → SideIn q 1 2 a l

module _ {q : Call} {both : Bool} {a : Rule} {ds : List Node} (x : JoinFor q both a ds) where
  right_ready : {r : Part} → FindsRight q.part r → ReadyFor (call_on q r) x.join.right_side ds
  right_ready found = record {
    at = (found _ _ _ (subst (RuleIn q.part) x.join.is x.at)).at;
    usable = x.usable;
    numbers = x.numbers_right;
    building = building_less x.building (omega arith);
  }

pub right_side_asks : {q : Call} {both : Bool} {r : Part} → Joined q both → FindsRight q.part r
    → SomeRule (ReadyFor (call_on q r))
right_side_asks node found = let x = some_joined node in record {
  rule = x.join.right_side;
  tail = node.some.tail;
  ready = right_ready x found;
}

-- a side has fewer entries
pub right_shorter : {q : Call} {both : Bool} {r : Part} → Joined q both → FindsRight q.part r
    → length (words r.entries.now) < length (words q.part.entries.now)
right_shorter {q = q} node found =
    let x = some_joined node in (found _ _ _ (subst (RuleIn q.part) x.join.is x.at)).shorter

pub left_shorter : {q : Call} {both : Bool} {l : Part} → Joined q both → FindsLeft q.part l
    → length (words l.entries.now) < length (words q.part.entries.now)
left_shorter {q = q} node found =
    let x = some_joined node in (found _ _ _ (subst (RuleIn q.part) x.join.is x.at)).shorter

-- ---- the right side is answered, and the bytes l are left

pub record RightAnswered (q : Call) (both : Bool) (p : Part) (l : List ℕ) (r : Folded) : Type 0 where
  pub join : Joined q both
  pub found : FindsRight q.part p
  pub answered : Folds (call_on q p) l r
  pub kept : length l ≡ length q.out

module _ {q : Call} {both : Bool} {p : Part} {l : List ℕ} {r : Folded} (known : RightAnswered q both p l r) where
  right_gives : {a : Rule} {ds : List Node} (x : JoinFor q both a ds) → Gives (words l) q.state ds (right_made x) r
  right_gives {a} {ds} x = known.answered x.join.right_side ds (right_ready x known.found)

  -- it settles the join
  pub settled_gives : settled both r ≡ true → FoldsCore q l r
  settled_gives e a ds core =
      let x = join_for known.join core in
      subst (λ (y : Rule). Gives (words l) q.state ds y r) (sym (made_join x))
      (settled_join (words l) both q.state ds (right_made x) (left_made x) r e (right_gives x))

  -- what can be built then
  building_behind : {a : Rule} {ds : List Node} {b : State} → b ≡ after q.state r → (x : JoinFor q both a ds)
      → Building (words l) b (built_then ds (right_made x) r) (weight x.join.left_side + 3)
  building_behind {ds = ds} e x =
      let more = weight x.join.left_side + 3 in
      subst (λ (c : State). Building (words l) c (built_then ds (right_made x) r) more) (sym e)
      (building_then (right_made x) r x.building (right_gives x) (same_words l q.out known.kept)
      (omega (arith, (lighter x).1)))

  module _ {b : State} (state : b ≡ after q.state r) {o : Part} (found : FindsLeft q.part o) where
    left_ready : {a : Rule} {ds : List Node} (x : JoinFor q both a ds)
        → ReadyFor (call_then q o l b) x.join.left_side (built_then ds (right_made x) r)
    left_ready x = record {
      at = (found _ _ _ (subst (RuleIn q.part) x.join.is x.at)).at;
      usable = x.usable;
      numbers = x.numbers_left;
      building = building_less (building_behind state x) (omega arith);
    }

    pub left_side_asks : SomeRule (ReadyFor (call_then q o l b))
    left_side_asks = let x = some_joined known.join in record {
      rule = x.join.left_side;
      tail = built_then known.join.some.tail (right_made x) r;
      ready = left_ready x;
    }

-- ---- both sides are answered, the left one in the state b, and the bytes m are left

pub record BothAnswered (q : Call) (both : Bool) (p : Part) (l : List ℕ) (right : Folded) (b : State) (o : Part)
    (m : List ℕ) (left : Folded) : Type 0 where
  pub first : RightAnswered q both p l right
  pub unsettled : settled both right ≡ false
  pub state : b ≡ after q.state right
  pub found : FindsLeft q.part o
  pub answered : Folds (call_then q o l b) m left
  pub kept : length m ≡ length l

module _ {q : Call} {both : Bool} {p : Part} {l : List ℕ} {right : Folded} {b : State} {o : Part} {m : List ℕ}
    {left : Folded} (known : BothAnswered q both p l right b o m left) where
  sides_for : {a : Rule} {ds : List Node} (x : JoinFor q both a ds)
      → Sides (words m) both q.state ds (right_made x) (left_made x) right left
  sides_for {a} {ds} x =
      let built = built_then ds (right_made x) right in
      let gives = known.answered x.join.left_side built (left_ready known.first known.state known.found x) in
      sides_of (words q.out) (words l) (words m) both q.state ds (right_made x) (left_made x) right left
      x.building.built (right_gives known.first x) known.unsettled
      (subst (λ (c : State). Gives (words m) c built (left_made x) left) known.state gives)

  pub joined_asks : SomeSides (words m) both q.state right left
  joined_asks =
      let node = known.first.join in
      let x = some_joined node in
      some_sides_of (words m) both q.state node.some.tail (right_made x) (left_made x) right left
      (sides_for x) (omega (arith, x.building.small, (lighter x).0, (lighter x).1))
      (omega (arith, (building_behind known.first known.state x).room, same_words m l known.kept))

  pub joined_gives : (v : List ℕ) (r : Folded)
      → ((x y : Rule) (ds : List Node) → Sides (words m) both q.state ds x y right left
      → Gives (words v) q.state ds (fold_join (junction both) y x) r)
      → FoldsCore q v r
  joined_gives v r promise a ds core =
      let x = join_for known.first.join core in
      subst (λ (y : Rule). Gives (words v) q.state ds y r) (sym (made_join x))
      (promise (right_made x) (left_made x) ds (sides_for x))
