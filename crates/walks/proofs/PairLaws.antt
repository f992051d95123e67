-- Two sides of a join that were both answered, and then joined.
-- Assumes nothing.
use mathlib.Core.Path.{◌≡◌, sym, ◌∙◌, subst}
use mathlib.Core.Bool.{Bool, true, false, not, ◌||◌}
use mathlib.Core.List.{List}
use lib.Dec.{T}
use lib.IntN.{ℤ}
use Rattle.rules.specs.Rule.{Junction, Rule, Join}
use Rattle.rules.specs.Table.{Node, nodes}
use Rattle.rules.specs.Fold.{fold, fold_join}
use Rattle.rules.specs.Literals.{some_literal}
use Rattle.rules.specs.Eliminate.{over_limit}
use Rattle.builder.specs.Built.{Built, junction}
use Rattle.builder.specs.declared.push.State.{State}
use Rattle.builder.proofs.BuiltLaws.{built_back}
use Rattle.folding.specs.Answers.{Gives, Sides, SomeSides, after, built_then, settled}
use Rattle.folding.specs.declared.answers.Folded.{Folded}
use Rattle.folding.specs.declared.answers.Folded.TheVariants.{Known, Pushed}
use Rattle.folding.proofs.AnswerLaws.{settled_join, sides_of, some_sides_of}
use Rattle.walks.specs.Pairs.{Pair, SomePair}
use Rattle.walks.specs.Normal.{Normalled}
use Rattle.std.specs.Prelude.{Option, Some, None}

-- the buffer keeps its length
-- ---- what was there before an answer is there after it

pub built_before : (us ws : List ℤ) (b : State) (ds : List Node) (r : Rule) (f : Folded) → Built us b ds
    → Gives ws b ds r f → Built ws b ds
unfolding Gives
built_before us ws b ds r (Known v) before h = h.1
built_before us ws b ds r (Pushed c) before h = built_back us ws b c (nodes r) ds before h.1

pushed_open : (both : Bool) (c : State) → settled both (Pushed c) ≡ true → ⊥
unfolding settled
pushed_open true c e = subst T (sym e) tt
pushed_open false c e = subst T (sym e) tt

-- ---- `both`

module _ (ws : List ℤ) (and : Bool) (b : State) (right left : Folded) where
  -- the right side settles the join: it is a truth value, and the left side was put behind what was there before
  pub settled_pair : {r : Bool} → r ≡ true → r ≡ settled and right → (x y : Rule) (ds : List Node)
      → Pair ws b ds x y right left → Gives ws b ds (fold_join (junction and) y x) right
  settled_pair e told x y ds pair = settled_join ws and b ds x y right (sym told ∙ e) (by right (sym told ∙ e) pair)
    where
      by : (right : Folded) → settled and right ≡ true → Pair ws b ds x y right left → Gives ws b ds x right
      by (Known v) s pair = unfold Gives in (
        unfold Gives in pair.first.0,
        built_before pair.between ws b ds y left (unfold Gives in pair.first.1)
            (unfold after built_then in pair.second),
      )
      by (Pushed c) s pair = absurd (pushed_open and c s)

  open_pair : {r : Bool} → r ≡ false → r ≡ settled and right → (x y : Rule) (ds : List Node)
      → Pair ws b ds x y right left → Sides ws and b ds x y right left
  open_pair e told x y ds pair =
      sides_of pair.start pair.between ws and b ds x y right left pair.built pair.first (sym told ∙ e)
      pair.second

  pub joined_asks : {r : Bool} → r ≡ false → r ≡ settled and right → SomePair ws b right left
      → SomeSides ws and b right left
  joined_asks e told some =
      some_sides_of ws and b some.tail some.x some.y right left
      (open_pair e told some.x some.y some.tail some.pair) some.small some.room

  pub joined_pair : (vs : List ℤ) (f : Folded) {r : Bool} → r ≡ false → r ≡ settled and right
      → ((x y : Rule) (ds : List Node) → Sides ws and b ds x y right left
      → Gives vs b ds (fold_join (junction and) y x) f)
      → (x y : Rule) (ds : List Node) → Pair ws b ds x y right left → Gives vs b ds (fold_join (junction and) y x) f
  joined_pair vs f e told joined x y ds pair = joined x y ds (open_pair e told x y ds pair)

-- ---- a join in normal form, its right side x answered first and then its left side y

module _ (j : Junction) (x y : Rule) where
  -- a number passes the limit
  pub right_over : (ws : List ℤ) (b : State) (ds : List Node) (f : Option Folded) → f ≡ None → Normalled ws b ds x f
      → Normalled ws b ds (Join j y x) None
  unfolding Normalled some_literal
  right_over ws b ds f e answer =
      by (some_literal over_limit y) (some_literal over_limit x) (subst (Normalled ws b ds x) e answer)
    where
      by : (p q : Bool) → T q → T (p || q)
      by true q t = tt
      by false q t = t

  pub left_over : (ws : List ℤ) (b c : State) (ds es : List Node) (f : Option Folded) → f ≡ None → Normalled ws c es y f
      → Normalled ws b ds (Join j y x) None
  unfolding Normalled some_literal
  left_over ws b c ds es f e answer =
      by (some_literal over_limit y) (some_literal over_limit x) (subst (Normalled ws c es y) e answer)
    where
      by : (p q : Bool) → T p → T (p || q)
      by true q t = tt
      by false q t = absurd t

  -- both are built
  pub record BothMade (ws : List ℤ) (b : State) (ds : List Node) (right left : Folded) : Type 0 where
    pub right_within : T (not (some_literal over_limit x))
    pub left_within : T (not (some_literal over_limit y))
    pub pair : Pair ws b ds (fold x) (fold y) right left

  pub both_made : (ws₀ ws₁ ws₂ : List ℤ) (b : State) (ds : List Node) (f g : Option Folded) (right left : Folded)
      → Built ws₀ b ds → f ≡ Some right → Normalled ws₁ b ds x f
      → g ≡ Some left → Normalled ws₂ (after b right) (built_then ds (fold x) right) y g → BothMade ws₂ b ds right left
  unfolding Normalled
  both_made ws₀ ws₁ ws₂ b ds f g right left before d first e second =
      let one = subst (Normalled ws₁ b ds x) d first in
      let two = subst (Normalled ws₂ (after b right) (built_then ds (fold x) right) y) e second in
      record {
        right_within = one.0;
        left_within = two.0;
        pair = record { start = ws₀; between = ws₁; built = before; first = one.1; second = two.1 };
      }

  pub join_made : (ws vs : List ℤ) (b : State) (ds : List Node) (right left f : Folded) → BothMade ws b ds right left
      → Gives vs b ds (fold_join j (fold y) (fold x)) f → Normalled vs b ds (Join j y x) (Some f)
  unfolding Normalled some_literal fold
  join_made ws vs b ds right left f made h =
      (neither (some_literal over_limit y) (some_literal over_limit x) made.left_within made.right_within, h)
    where
      neither : (p q : Bool) → T (not p) → T (not q) → T (not (p || q))
      neither true q s t = absurd s
      neither false q s t = t

-- ---- an answer of normal form that is put

pub made_gives : (ws : List ℤ) (b : State) (ds : List Node) (x : Rule) (f : Option Folded) (r : Folded) → f ≡ Some r
    → Normalled ws b ds x f → Gives ws b ds (fold x) r
unfolding Normalled
made_gives ws b ds x f r e h = (subst (Normalled ws b ds x) e h).1
