-- The walk around the chosen quantifier at a join: where its sides stand, which one has the quantifier, and what the
-- walk over the right one asks.
-- Assumes nothing.
use mathlib.Core.Path.{◌≡◌, refl, ◌∙◌, ap, subst, sym}
use mathlib.Core.Bool.{Bool, true, false, not}
use mathlib.Core.Logic.{inl, inr}
use mathlib.Core.List.{List}
use Prim.Native.Nat.{ℕ, ◌+◌, ◌<◌, ◌≤◌}
use native.Mathlib.Omega.{arith}
use lib.Dec.{T}
use lib.ListN.{length}
use Rattle.rules.specs.Rule.{Junction, and, or, Quantifier, Rule, Constant, Join, Not, Literal, Bind}
use Rattle.rules.specs.Table.{Node, count}
use Rattle.rules.specs.Fold.{fold, fold_join}
use Rattle.rules.specs.Chosen.{quantifiers, quantified}
use Rattle.rules.specs.Calls.{words}
use Rattle.rules.proofs.Sizes.{weight, total}
use Rattle.tables.specs.Kinds.{kind_of}
use Rattle.tables.specs.Parts.{RuleIn, SomeRuleIn, JoinIn, SideIn}
use Rattle.tables.specs.declared.kind.Kind.{Kind}
use Rattle.tables.specs.declared.kind.Kind.TheVariants as kind
use Rattle.tables.specs.declared.part.Part.{Part}
use Rattle.builder.specs.Built.{most_counted, junction}
use Rattle.walks.specs.Chain.{unary}
use Rattle.walks.proofs.FoldLaws.{FindsRight, FindsLeft}
use Rattle.steps.proofs.ReplaceLaws.{some_chosen, right_chosen, before_right, behind_left}
use Rattle.steps.proofs.ReplaceLaws.{replace_sides, SidesLighter, sides_lighter}
use Rattle.steps.proofs.AroundLaws.{Call, AroundFor, SomeAroundFor, BareFor, SomeBareFor, SomeReadyFor}
use Rattle.steps.proofs.AroundLaws.{new_for, made}
use Rattle.steps.proofs.AroundLaws.{some_around, call_on, PartFor, part_ready, around_part}

-- ---- a node that is not the chosen quantifier: an and (`both`) or an or

-- the kind of a join tells which it is
abbrev pub Tells : Call → Bool → Type 0
Tells c both = (j : Junction) (y z : Rule) → RuleIn c.part (Join j y z) → j ≡ junction both

pub tells_by : (c : Call) {k : Kind} {both : Bool} → ((a : Rule) → RuleIn c.part a → k ≡ kind_of a)
    → (k ≡ kind.And → both ≡ true) → (k ≡ kind.Or → both ≡ false) → Tells c both
unfolding kind_of junction
tells_by c is when when_not and y z at = sym (ap junction (when (is (Join and y z) at)))
tells_by c is when when_not or y z at = sym (ap junction (when_not (is (Join or y z) at)))

pub record Joined (c : Call) (both : Bool) : Type 0 where
  pub bare : SomeBareFor c
  pub apart : ¬ (c.part.node ≡ c.chosen)
  pub tells : Tells c both

pub some_rule : (c : Call) → SomeBareFor c → SomeRuleIn c.part
some_rule c bare = record { rule = bare.some.rule; at = bare.some.around.there }

-- it, and its sides
pub record JoinFor (c : Call) (both : Bool) (r : Rule) (q : Quantifier) (x : ℕ) (a : Rule)
    (ds : List Node) : Type 0 where
  pub left_side : Rule
  pub right_side : Rule
  pub is : r ≡ Join (junction both) left_side right_side
  pub heavy : weight (Join (junction both) left_side right_side) ≡ 2 + weight left_side + weight right_side
  pub around : AroundFor c (Join (junction both) left_side right_side) q x a ds

pub join_for : {c : Call} {both : Bool} → Joined c both → {r : Rule} {q : Quantifier} {x : ℕ} {a : Rule}
    {ds : List Node}
    → AroundFor c r q x a ds → BareFor c r → JoinFor c both r q x a ds
join_for {c} {both} node {r} {q} {x} {a} {ds} known bare = go r (neither bare) known
  where
    neither : BareFor c r → unary r ≡ false
    neither (inl e) = absurd (node.apart e)
    neither (inr e) = e

    never : {A : Type 0} → true ≡ false → A
    never e = absurd (subst T e tt)

    none : {A : Type 0} (r : Rule) → quantifiers r ≡ 0 → AroundFor c r q x a ds → A
    none r e known = absurd (omega (arith, e, some_chosen r known.at))

    go : (r : Rule) → unary r ≡ false → AroundFor c r q x a ds → JoinFor c both r q x a ds
    go (Constant v) u known = none (Constant v) (unfold quantifiers in refl) known
    go (Join j y z) u known =
        let is = ap (λ (i : Junction). Join i y z) (node.tells j y z known.there) in
        record {
          left_side = y;
          right_side = z;
          is = is;
          heavy = unfold weight in refl;
          around = subst (λ (s : Rule). AroundFor c s q x a ds) is known;
        }
    go (Not y) u known = never (unfold unary in u)
    go (Literal t s) u known = none (Literal t s) (unfold quantifiers in refl) known
    go (Bind p v y) u known = never (unfold unary in u)

module _ {c : Call} {both : Bool} (node : Joined c both) where
  -- the join of the call
  pub some_join : let some = node.bare.some in
      JoinFor c both some.rule some.quantifier some.setting some.body some.tail
  some_join = join_for node node.bare.some.around node.bare.bare

  pub join_there : JoinIn c.part
  join_there =
      let x = some_join in
      record { joint = junction both; left_side = x.left_side; right_side = x.right_side; at = x.around.there }

  pub left_shorter : {p : Part} → FindsLeft c.part p → length (words p.entries.now) < length (words c.part.entries.now)
  left_shorter found = (found _ _ _ some_join.around.there).shorter

-- ---- which side has the chosen quantifier: the right one (true) or the left one

abbrev pub Beside : Bool → Call → Part → Type 0
Beside true c p = p.node ≤ c.chosen
Beside false c p = c.chosen < p.node

-- the right side is found, in the part p
pub record RightFound (c : Call) (both : Bool) (p : Part) : Type 0 where
  pub join : Joined c both
  pub found : FindsRight c.part p

abbrev pub right_call : Call → Part → Call
right_call c p = call_on c p c.out c.state

module _ {c : Call} {both : Bool} {p : Part} (right : RightFound c both p) where
  pub right_shorter : length (words p.entries.now) < length (words c.part.entries.now)
  right_shorter = (right.found _ _ _ (some_join right.join).around.there).shorter

  module _ {r : Rule} {q : Quantifier} {x : ℕ} {a : Rule} {ds : List Node} (z : JoinFor c both r q x a ds) where
    right_of : SideIn c.part (1 + count z.left_side) (2 + weight z.left_side) z.right_side p
    right_of = right.found _ _ _ z.around.there

    pub has_it : (d : Bool) → Beside d c p → quantified z.right_side ≡ d
    has_it true beside =
        behind_left (junction both) z.left_side z.right_side z.around.at
        (omega (arith, beside, z.around.number_is, right_of.node_is))
    has_it false beside =
        before_right (junction both) z.left_side z.right_side
        (omega (arith, beside, z.around.number_is, right_of.node_is))

    pub lighter : (d : Bool) → Beside d c p → SidesLighter d (new_for c x a) z.left_side z.right_side
    lighter d beside =
        sides_lighter (new_for c x a) _ z.left_side z.right_side d (has_it d beside) z.around.at

    pub made_join : (d : Bool) → Beside d c p
        → made c true x a r
        ≡ fold_join (junction both) (made c (not d) x a z.left_side) (made c d x a z.right_side)
    unfolding fold
    made_join d beside =
        ap (made c true x a) z.is
        ∙ ap fold (replace_sides (new_for c x a) _ z.left_side z.right_side d (has_it d beside))

    pub right_part : PartFor (right_call c p) z.right_side ds
    right_part = record { there = right_of.at; built = z.around.built; room = z.around.room }

    -- what the walk over the right side asks, where it has the quantifier, and where it is folded as it is
    pub right_around : Beside true c p → AroundFor (right_call c p) z.right_side q x a ds
    right_around beside =
        let inside = right_chosen _ z.left_side z.right_side (has_it true beside) in
        around_part c p c.out c.state _ _ inside right_of.node_is right_of.bodies_are z.around right_part
        (omega (arith, z.around.small, z.heavy))

    pub right_small : total ds + weight z.right_side + 1 < most_counted
    right_small = omega (arith, z.around.small, z.heavy)

  pub right_around_asks : Beside true c p → SomeAroundFor (right_call c p)
  right_around_asks beside = some_around (right_call c p) (right_around (some_join right.join) beside)

  pub right_fold_asks : SomeReadyFor (right_call c p)
  right_fold_asks =
      let z = some_join right.join in
      record {
        rule = z.right_side;
        tail = right.join.bare.some.tail;
        ready = part_ready (right_part z) (right_small z);
      }
