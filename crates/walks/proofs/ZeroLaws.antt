-- T = 0 in normal form: two literals 0 < .., of which the right one is put first.
-- Assumes nothing.
use mathlib.Core.Path.{◌≡◌, refl, sym, ◌∙◌, subst}
use mathlib.Core.Bool.{Bool, true, false}
use mathlib.Core.List.{List}
use Prim.Native.Nat.{ℕ, ◌≤◌}
use native.Mathlib.Omega.{arith}
use lib.IntN.{ℤ}
use lib.ListN.{length}
use Rattle.rules.specs.Sum.{Sum, one_minus}
use Rattle.rules.specs.Rule.{Test, positive, is_zero, Rule, Literal, Join}
use Rattle.rules.specs.Table.{Node}
use Rattle.rules.specs.Fold.{fold, fold_join}
use Rattle.rules.specs.Steps.{normal_literal}
use Rattle.rules.proofs.Weights.{fold_lighter}
use Rattle.rules.proofs.Sizes.{weight}
use Rattle.builder.specs.Built.{Built, Countable, Building, junction}
use Rattle.builder.specs.declared.push.State.{State}
use Rattle.builder.proofs.BuiltLaws.{building_countable}
use Rattle.folding.specs.Answers.{Gives, after, built_then}
use Rattle.folding.specs.declared.answers.Folded.{Folded}
use Rattle.folding.proofs.AnswerLaws.{building_then}
use Rattle.walks.specs.Sums.{turned, raised, SumAt, TestAt, SomeTestAt}
use Rattle.walks.specs.Pairs.{Pair, SomePair}
use Rattle.walks.specs.Normal.{Normalled, ZeroReady, SomeZeroReady}
use Rattle.std.specs.Prelude.{Option, Some, None}
use Rattle.walks.proofs.SumLaws.{turned_long, raised_long}
use Rattle.walks.proofs.PairLaws.{right_over, left_over, BothMade, both_made, join_made, made_gives}

-- what `test` answers
abbrev pub Tested : List ℤ → ℕ → ℕ → Bool → Bool → List ℤ → List ℤ → State → Option Folded → Type 0
Tested bs kind k minus one ws vs b f = (t : Test) (s : Sum) (ds : List Node) → TestAt bs kind k t s → Built ws b ds
    → Normalled vs b ds (Literal t (raised one (turned minus s))) f

-- kind 5 with any divisor
pub positive_at : {bs : List ℤ} {s : Sum} → SumAt bs 1 s → TestAt bs 5 1 positive s
positive_at at = record { marked = record { same_kind = refl; same_divisor = tt }; fair = tt; sum = at }

-- the right side, which is put first, and the left side
abbrev zero_right : Bool → Sum → Rule
zero_right plainly s = Literal positive (raised plainly (turned false s))

abbrev zero_left : Bool → Sum → Rule
zero_left plainly s = Literal positive (raised plainly (turned true s))

zero_is : (plainly : Bool) (x : ℕ) (s : Sum)
    → Join (junction plainly) (zero_left plainly s) (zero_right plainly s) ≡ normal_literal plainly x is_zero s
unfolding junction normal_literal raised turned one_minus
zero_is true x s = refl
zero_is false x s = refl

pub zero_asks : {bs ws : List ℤ} {b : State} → SomeZeroReady bs ws b → SomeTestAt bs 5 1 × Countable b 9
zero_asks some =
    let ready = some.ready in (
      record { test = positive; sum = some.sum; there = positive_at ready.at },
      building_countable 9 ready.building (omega arith),
    )

-- a side has eight words at most
side_words : (one minus : Bool) {bs : List ℤ} {s : Sum} → SumAt bs 1 s
    → weight (fold (Literal positive (raised one (turned minus s)))) ≤ 8
unfolding weight
side_words one minus {bs} {s} at =
    let u = raised one (turned minus s) in
    let long : length u ≡ 7 = raised_long one (turned minus s) (turned_long minus s ∙ at.long) in
    omega (arith, fold_lighter (Literal positive u), long)

-- ---- the right side is answered

pub record RightTested (bs ws us : List ℤ) (b : State) (plainly : Bool) (f : Option Folded) : Type 0 where
  pub answer : Tested bs 5 1 false plainly ws us b f
  pub kept : length us ≡ length ws

module _ {bs ws us : List ℤ} {b : State} {plainly : Bool} {f : Option Folded}
    (right : RightTested bs ws us b plainly f) where
  right_answer : (s : Sum) (ds : List Node) → ZeroReady bs ws b s ds → Normalled us b ds (zero_right plainly s) f
  right_answer s ds ready = right.answer positive s ds (positive_at ready.at) ready.building.built

  pub zero_right_over : f ≡ None → (x : ℕ) (s : Sum) (ds : List Node) → ZeroReady bs ws b s ds
      → Normalled us b ds (normal_literal plainly x is_zero s) None
  zero_right_over e x s ds ready =
      subst (λ (r : Rule). Normalled us b ds r None) (zero_is plainly x s)
      (right_over (junction plainly) (zero_right plainly s) (zero_left plainly s) us b ds f e (right_answer s ds ready))

-- it is put: r is its answer, in state c
pub record RightPut (bs ws us : List ℤ) (b : State) (plainly : Bool) (f : Option Folded) (r : Folded) (c : State)
    : Type 0 where
  pub right : RightTested bs ws us b plainly f
  pub made : f ≡ Some r
  pub state : c ≡ after b r

module _ {bs ws us : List ℤ} {b : State} {plainly : Bool} {f : Option Folded} {r : Folded} {c : State}
    (put : RightPut bs ws us b plainly f r c) where
  -- what is built with it
  abbrev behind : Sum → List Node → List Node
  behind s ds = built_then ds (fold (zero_right plainly s)) r

  building_behind : (s : Sum) (ds : List Node) → ZeroReady bs ws b s ds → Building us c (behind s ds) 9
  building_behind s ds ready =
      let right = zero_right plainly s in
      let gives = made_gives us b ds right f r put.made (right_answer put.right s ds ready) in
      subst (λ (d : State). Building us d (behind s ds) 9) (sym put.state)
      (building_then (fold right) r ready.building gives put.right.kept
      (omega (arith, side_words plainly false ready.at)))

  pub zero_asks_again : SomeZeroReady bs ws b → SomeTestAt bs 5 1 × Countable c 9
  zero_asks_again some = (
    (zero_asks some).0,
    building_countable 9 (building_behind some.sum some.tail some.ready) (omega arith),
  )

-- ---- and then the left side

pub record LeftTested (bs ws us vs : List ℤ) (b : State) (plainly : Bool) (f : Option Folded) (r : Folded) (c : State)
    (g : Option Folded) : Type 0 where
  pub right : RightPut bs ws us b plainly f r c
  pub answer : Tested bs 5 1 true plainly us vs c g
  pub kept : length vs ≡ length us

module _ {bs ws us vs : List ℤ} {b : State} {plainly : Bool} {f g : Option Folded} {r : Folded} {c : State}
    (left : LeftTested bs ws us vs b plainly f r c g) where
  left_answer : (s : Sum) (ds : List Node) → ZeroReady bs ws b s ds
      → Normalled vs (after b r) (behind left.right s ds) (zero_left plainly s) g
  left_answer s ds ready =
      let es = behind left.right s ds in
      subst (λ (d : State). Normalled vs d es (zero_left plainly s) g) left.right.state
      (left.answer positive s es (positive_at ready.at) (building_behind left.right s ds ready).built)

  pub zero_left_over : g ≡ None → (x : ℕ) (s : Sum) (ds : List Node) → ZeroReady bs ws b s ds
      → Normalled vs b ds (normal_literal plainly x is_zero s) None
  zero_left_over e x s ds ready =
      subst (λ (y : Rule). Normalled vs b ds y None) (zero_is plainly x s)
      (left_over (junction plainly) (zero_right plainly s) (zero_left plainly s) vs b _ ds _ g e
      (left_answer s ds ready))

  -- it is put too: l is its answer
  module _ {l : Folded} (put : g ≡ Some l) where
    both_sides : (s : Sum) (ds : List Node) → ZeroReady bs ws b s ds
        → BothMade (junction plainly) (zero_right plainly s) (zero_left plainly s) vs b ds r l
    both_sides s ds ready =
        both_made (junction plainly) (zero_right plainly s) (zero_left plainly s) ws us vs b ds f g r l
        ready.building.built left.right.made (right_answer left.right.right s ds ready) put
        (left_answer s ds ready)

    pub zero_both_asks : SomeZeroReady bs ws b → SomePair vs b r l
    zero_both_asks some =
        let s = some.sum in
        let ready = some.ready in
        let words_right = side_words plainly false ready.at in
        let words_left = side_words plainly true ready.at in
        record {
          x = fold (zero_right plainly s);
          y = fold (zero_left plainly s);
          tail = some.tail;
          pair = (both_sides s some.tail ready).pair;
          small = omega (arith, ready.building.small, words_right, words_left);
          room = omega (arith, ready.building.room, left.right.right.kept, left.kept);
        }

    pub zero_made : (os : List ℤ) (both : Folded)
        → ((x y : Rule) (ds : List Node) → Pair vs b ds x y r l → Gives os b ds (fold_join (junction plainly) y x) both)
        → (x : ℕ) (s : Sum) (ds : List Node) → ZeroReady bs ws b s ds
        → Normalled os b ds (normal_literal plainly x is_zero s) (Some both)
    zero_made os both joined x s ds ready =
        let sides = both_sides s ds ready in
        subst (λ (y : Rule). Normalled os b ds y (Some both)) (zero_is plainly x s)
        (join_made (junction plainly) (zero_right plainly s) (zero_left plainly s) vs os b ds r l both sides
        (joined _ _ ds sides.pair))
