-- The walk around the chosen quantifier at a join whose right side is answered: what it knows then, and once both sides
-- are.
-- Assumes nothing.
use mathlib.Core.Path.{◌≡◌, sym, subst}
use mathlib.Core.Bool.{Bool, true, false, not}
use mathlib.Core.List.{List}
use Prim.Native.Nat.{ℕ, ◌+◌, ◌<◌}
use native.Mathlib.Omega.{arith}
use lib.ListN.{length}
use Rattle.rules.specs.Rule.{Quantifier, Rule}
use Rattle.rules.specs.Table.{Node}
use Rattle.rules.specs.Fold.{fold_join}
use Rattle.rules.specs.Calls.{words}
use Rattle.rules.proofs.Sizes.{weight, total}
use Rattle.tables.specs.Parts.{SideIn}
use Rattle.tables.specs.declared.part.Part.{Part}
use Rattle.tables.proofs.WordLaws.{words_length}
use Rattle.builder.specs.Built.{Built, most_counted, junction}
use Rattle.builder.specs.declared.push.State.{State}
use Rattle.walks.proofs.FoldLaws.{FindsLeft}
use Rattle.folding.specs.Answers.{Gives, Sides, SomeSides, after, built_then, settled}
use Rattle.folding.specs.declared.answers.Folded.{Folded}
use Rattle.folding.proofs.AnswerLaws.{built_of, total_then, settled_join, sides_of, some_sides_of}
use Rattle.steps.proofs.ReplaceLaws.{left_chosen}
use Rattle.steps.proofs.ReplaceLaws.{extra}
use Rattle.steps.proofs.AroundLaws.{Call, AroundFor, SomeAroundFor, SomeReadyFor}
use Rattle.steps.proofs.AroundLaws.{new_for, made, Rebuilds, RebuildsBare, Folds}
use Rattle.steps.proofs.AroundLaws.{some_around, call_on, PartFor, part_ready, part_folds, around_part}
use Rattle.steps.proofs.AroundJoin.{JoinFor, join_for, some_join, right_call, RightFound, Beside}
use Rattle.steps.proofs.AroundJoin.{has_it, lighter, made_join, right_part, right_around, right_small}

-- ---- the right side is answered, and the bytes l are left

pub record RightAnswered (d : Bool) (c : Call) (both : Bool) (p : Part) (l : List ℕ) (f : Folded) : Type 0 where
  pub right : RightFound c both p
  pub beside : Beside d c p
  pub answered : {r : Rule} {q : Quantifier} {x : ℕ} {a : Rule} {ds : List Node} (z : JoinFor c both r q x a ds)
      → Gives (words l) c.state ds (made c d x a z.right_side) f
  pub kept : length l ≡ length c.out

pub right_rebuilt : {c : Call} {both : Bool} {p : Part} {l : List ℕ} {f : Folded} → RightFound c both p
    → Beside true c p
    → Rebuilds (right_call c p) l f → length l ≡ length c.out → RightAnswered true c both p l f
right_rebuilt right beside promise kept = record {
  right = right;
  beside = beside;
  answered = λ z. promise z.right_side _ _ _ _ (right_around right z beside);
  kept = kept;
}

pub right_folded : {c : Call} {both : Bool} {p : Part} {l : List ℕ} {f : Folded} → RightFound c both p
    → Beside false c p
    → Folds (right_call c p) l f → length l ≡ length c.out → RightAnswered false c both p l f
right_folded {l = l} {f = f} right beside promise kept = record {
  right = right;
  beside = beside;
  answered = λ z. part_folds (right_part right z) (right_small right z) l f promise;
  kept = kept;
}

module _ {d : Bool} {c : Call} {both : Bool} {p : Part} {l : List ℕ} {f : Folded}
    (known : RightAnswered d c both p l f) where
  -- it settles the join
  pub settled_gives : settled both f ≡ true → RebuildsBare c l f
  settled_gives e r q x a ds around bare =
      let z = join_for known.right.join around bare in
      subst (λ (y : Rule). Gives (words l) c.state ds y f) (sym (made_join known.right z d known.beside))
      (settled_join (words l) both c.state ds (made c d x a z.right_side) (made c (not d) x a z.left_side)
      f e (known.answered z))

  module _ {r : Rule} {q : Quantifier} {x : ℕ} {a : Rule} {ds : List Node} (z : JoinFor c both r q x a ds) where
    -- what is built then
    abbrev put_then : List Node
    put_then = built_then ds (made c d x a z.right_side) f

    left_small : total put_then + weight z.left_side + extra (not d) (new_for c x a) + 1 < most_counted
    left_small =
        let light = lighter known.right z d known.beside in
        omega (
          arith,
          z.around.small,
          z.around.makeable.light,
          z.heavy,
          total_then ds (made c d x a z.right_side) f,
          light.right,
          light.both,
        )

    module _ {o : Part} (found : FindsLeft c.part o) where
      left_of : SideIn c.part 1 2 z.left_side o
      left_of = found _ _ _ z.around.there

      left_part : {b : State} → b ≡ after c.state f → PartFor (call_on c o l b) z.left_side put_then
      left_part {b} e =
          let put = made c d x a z.right_side in
          record {
            there = left_of.at;
            built = subst (λ (g : State). Built (words l) g put_then) (sym e)
                (built_of (words l) c.state ds put f (known.answered z));
            room = omega (arith, z.around.room, words_length l, words_length c.out, known.kept);
          }

  pub left_fold_asks : {b : State} → b ≡ after c.state f → {o : Part} → FindsLeft c.part o
      → SomeReadyFor (call_on c o l b)
  left_fold_asks e found =
      let z = some_join known.right.join in
      record {
        rule = z.left_side;
        tail = put_then z;
        ready = part_ready (left_part z found e) (omega (arith, left_small z));
      }

-- what the walk over the left side asks, where it has the quantifier
module _ {c : Call} {both : Bool} {p : Part} {l : List ℕ} {f : Folded} (known : RightAnswered false c both p l f)
    {b : State} (state : b ≡ after c.state f) {o : Part} (found : FindsLeft c.part o) where
  left_around : {r : Rule} {q : Quantifier} {x : ℕ} {a : Rule} {ds : List Node} (z : JoinFor c both r q x a ds)
      → AroundFor (call_on c o l b) z.left_side q x a (put_then known z)
  left_around {x = x} {a = a} {ds = ds} z =
      let has = has_it known.right z false known.beside in
      let light = lighter known.right z false known.beside in
      let side = left_of known z found in
      around_part c o l b _ _ (left_chosen _ z.left_side z.right_side has) side.node_is side.bodies_are z.around
      (left_part known z found state)
      (omega (
        arith,
        z.around.small,
        z.heavy,
        total_then ds (made c false x a z.right_side) f,
        light.right,
      ))

  pub left_around_asks : SomeAroundFor (call_on c o l b)
  left_around_asks = some_around (call_on c o l b) (left_around (some_join known.right.join))

-- the right side is beside the quantifier or has it, and not both
pub only : {c : Call} {both : Bool} {p : Part} {l : List ℕ} {f : Folded} (d e : Bool) → Beside d c p → Beside e c p
    → RightAnswered d c both p l f → RightAnswered e c both p l f
only true true a b known = known
only false false a b known = known
only true false a b known = absurd (omega (arith, a, b))
only false true a b known = absurd (omega (arith, a, b))

-- whatever the bytes and the answer are called
pub right_as : {d : Bool} {c : Call} {both : Bool} {p : Part} {l m : List ℕ} {f g : Folded} → l ≡ m → f ≡ g
    → RightAnswered d c both p m g → RightAnswered d c both p l f
right_as {d} {c} {both} {p} {l} {m} {f} {g} e h known =
    subst (λ (k : List ℕ). RightAnswered d c both p k f) (sym e)
    (subst (λ (a : Folded). RightAnswered d c both p m a) (sym h) known)

-- ---- both sides are answered, the left one in the state b, and the bytes m are left

pub record BothAnswered (d : Bool) (c : Call) (both : Bool) (p : Part) (l : List ℕ) (right : Folded) (b : State)
    (m : List ℕ)
    (left : Folded) : Type 0 where
  pub first : RightAnswered d c both p l right
  pub unsettled : settled both right ≡ false
  pub state : b ≡ after c.state right
  pub answered : {r : Rule} {q : Quantifier} {x : ℕ} {a : Rule} {ds : List Node} (z : JoinFor c both r q x a ds)
      → Gives (words m) b (built_then ds (made c d x a z.right_side) right) (made c (not d) x a z.left_side) left
  pub kept : length m ≡ length l

module _ {c : Call} {both : Bool} {p : Part} {l : List ℕ} {right : Folded} {b : State} {m : List ℕ}
    {left : Folded} where
  pub left_rebuilt : RightAnswered false c both p l right → settled both right ≡ false → b ≡ after c.state right
      → {o : Part} → FindsLeft c.part o → Rebuilds (call_on c o l b) m left → length m ≡ length l
      → BothAnswered false c both p l right b m left
  left_rebuilt first unsettled state found promise kept = record {
    first = first;
    unsettled = unsettled;
    state = state;
    answered = λ z. promise z.left_side _ _ _ (put_then first z) (left_around first state found z);
    kept = kept;
  }

  pub left_folded : RightAnswered true c both p l right → settled both right ≡ false → b ≡ after c.state right
      → {o : Part} → FindsLeft c.part o → Folds (call_on c o l b) m left → length m ≡ length l
      → BothAnswered true c both p l right b m left
  left_folded first unsettled state found promise kept = record {
    first = first;
    unsettled = unsettled;
    state = state;
    answered = λ z. part_folds (left_part first z found state) (omega (arith, left_small first z)) m left promise;
    kept = kept;
  }

module _ {d : Bool} {c : Call} {both : Bool} {p : Part} {l : List ℕ} {right : Folded} {b : State} {m : List ℕ}
    {left : Folded}
    (known : BothAnswered d c both p l right b m left) where
  sides_for : {r : Rule} {q : Quantifier} {x : ℕ} {a : Rule} {ds : List Node} (z : JoinFor c both r q x a ds)
      → Sides (words m) both c.state ds (made c d x a z.right_side) (made c (not d) x a z.left_side) right
      left
  sides_for {x = x} {a = a} {ds = ds} z =
      let put_right = made c d x a z.right_side in
      let put_left = made c (not d) x a z.left_side in
      let built = built_then ds put_right right in
      sides_of (words c.out) (words l) (words m) both c.state ds put_right put_left right left
      z.around.built (known.first.answered z) known.unsettled
      (subst (λ (g : State). Gives (words m) g built put_left left) known.state (known.answered z))

  pub joined_asks : SomeSides (words m) both c.state right left
  joined_asks =
      let first = known.first in
      let node = first.right.join in
      let z = some_join node in
      let some = node.bare.some in
      let x = some.setting in
      let a = some.body in
      let light = lighter first.right z d first.beside in
      some_sides_of (words m) both c.state some.tail (made c d x a z.right_side)
      (made c (not d) x a z.left_side) right left (sides_for z)
      (omega (
        arith,
        z.around.small,
        z.around.makeable.light,
        z.heavy,
        light.right,
        light.left,
        light.both,
      ))
      (omega (arith, z.around.room, words_length m, words_length c.out, known.kept, first.kept))

  pub joined_gives : (o : List ℕ) (f : Folded)
      → ((x y : Rule) (ds : List Node) → Sides (words m) both c.state ds x y right left
      → Gives (words o) c.state ds (fold_join (junction both) y x) f)
      → RebuildsBare c o f
  joined_gives o f promise r q x a ds around bare =
      let first = known.first in
      let z = join_for first.right.join around bare in
      subst (λ (y : Rule). Gives (words o) c.state ds y f) (sym (made_join first.right z d first.beside))
      (promise (made c d x a z.right_side) (made c (not d) x a z.left_side) ds (sides_for z))

pub both_as : {d : Bool} {c : Call} {both : Bool} {p : Part} {l : List ℕ} {right : Folded} {b : State} {m n : List ℕ}
    {left g : Folded} → m ≡ n → left ≡ g → BothAnswered d c both p l right b n g
    → BothAnswered d c both p l right b m left
both_as {d} {c} {both} {p} {l} {right} {b} {m} {n} {left} {g} e h known =
    subst (λ (k : List ℕ). BothAnswered d c both p l right b k left) (sym e)
    (subst (λ (a : Folded). BothAnswered d c both p l right b n a) (sym h) known)
