-- What for-all and normal form make of the body of the chosen quantifier: what the walk over it asks for, and that its
-- answer, negated and bound, is the folded new rule.
-- Assumes nothing.
use mathlib.Core.Path.{◌≡◌, subst}
use mathlib.Core.Bool.{true}
use mathlib.Core.List.{List}
use Prim.Native.Nat.{ℕ, ◌+◌, ◌*◌, ◌<◌, ◌≤◌}
use native.Mathlib.Omega.{arith}
use lib.Dec.{T_not}
use lib.IntN.{ℤ, pos}
use Rattle.rules.specs.Sum.{number, limit}
use Rattle.rules.specs.Rule.{Rule, Not, Bind, Some}
use Rattle.rules.specs.Table.{Node}
use Rattle.rules.specs.Fold.{fold_not, fold}
use Rattle.rules.specs.Literals.{some_literal}
use Rattle.rules.specs.Steps.{normal}
use Rattle.rules.specs.Eliminate.{over_limit}
use Rattle.rules.proofs.Sizes.{weight}
use Rattle.rules.proofs.Weights.{fold_lighter, normal_lighter}
use Rattle.builder.specs.Built.{quantifier}
use Rattle.builder.specs.declared.push.State.{State}
use Rattle.builder.proofs.BuiltLaws.{building_less}
use Rattle.folding.specs.Answers.{Gives, Answered}
use Rattle.folding.specs.declared.answers.Folded.{Folded}
use Rattle.walks.specs.Walk.{changed, Ready}
use Rattle.walks.specs.Normal.{NormalReady, Normalled}
use Rattle.steps.specs.Making.{new_of, BodyMaking}
use Rattle.literals.specs.Changes.{Same}
use Rattle.std.specs.Prelude.{Option, None}
use Rattle.std.specs.declared.option.Option.TheVariants as option
use Rattle.steps.specs.declared.made.Step.{Step}
use Rattle.steps.specs.declared.made.Step.TheVariants.{ForAll, NormalForm}
use Rattle.builder.specs.Built.{most_counted}
use Rattle.rules.proofs.Sizes.{total}
use Rattle.steps.proofs.ThereLaws.{table_words, same_ready, same_gives}

-- ---- the body

module _ {es bs : List ℤ} {n p x : ℕ} {step : Step} {ws : List ℤ} {b : State} {a : Rule} {ds : List Node}
    (m : BodyMaking es bs n p step x ws b a ds) where
  -- a rule of three times as many words at most, and a few, can be put
  pub answer : (vs : List ℤ) (f : Folded) (r : Rule) (more : ℕ) → weight r + more ≤ 3 * weight a + 20
      → Gives vs b ds (fold r) f → Answered vs b f more
  answer vs f r more light gives = record {
    rule = fold r;
    tail = ds;
    gives = gives;
    small = omega (arith, fold_lighter r, light, table_words m.there, m.on.small);
  }

  pub setting_low : x ≤ limit
  setting_low = omega (arith, m.setting)

-- what `answers::negated` and `answers::bound` promise of one answer
abbrev pub Negates : List ℤ → List ℤ → State → Folded → Folded → Type 0
Negates ws vs b f g = (y : Rule) (l : List Node) → Gives ws b l y f → Gives vs b l (fold_not y) g

abbrev pub Binds : ℕ → List ℤ → List ℤ → State → Folded → Folded → Type 0
Binds x ws vs b f g = (y : Rule) (l : List Node) → Gives ws b l y f → Gives vs b l (Bind (quantifier true) x y) g

-- ---- for-all

module _ {es bs : List ℤ} {n p x : ℕ} {ws : List ℤ} {b : State} {a : Rule} {ds : List Node}
    (m : BodyMaking es bs n p ForAll x ws b a ds) where
  body_small : total ds + weight a + 1 < most_counted
  body_small = omega (arith, table_words m.there, m.on.small)

  pub body_ready : Ready es bs n p Same (number (pos 0)) ws b a ds
  body_ready = same_ready m.there m.on.built body_small m.on.room

  module _ (ws₁ : List ℤ) (body : Folded)
      (walk : (r : Rule) (l : List Node) → Ready es bs n p Same (number (pos 0)) ws b r l
      → Gives ws₁ b l (fold (changed Same (number (pos 0)) r)) body)
    where
      body_gives : Gives ws₁ b ds (fold a) body
      body_gives = same_gives m.there m.on.built body_small m.on.room ws₁ body walk

      pub body_answer : Answered ws₁ b body 1
      body_answer = answer m ws₁ body a 1 (omega arith) body_gives

      module _ (ws₂ : List ℤ) (opposite : Folded) (negates : Negates ws₁ ws₂ b body opposite) where
        opposite_gives : Gives ws₂ b ds (fold (Not a)) opposite
        unfolding fold
        opposite_gives = negates (fold a) ds body_gives

        pub opposite_answer : Answered ws₂ b opposite 2
        unfolding weight
        opposite_answer = answer m ws₂ opposite (Not a) 2 (omega arith) opposite_gives

        module _ (ws₃ : List ℤ) (some : Folded) (binds : Binds x ws₂ ws₃ b opposite some) where
          some_gives : Gives ws₃ b ds (fold (Some x (Not a))) some
          unfolding fold quantifier
          some_gives = binds (fold (Not a)) ds opposite_gives

          pub some_answer : Answered ws₃ b some 1
          unfolding weight
          some_answer = answer m ws₃ some (Some x (Not a)) 1 (omega arith) some_gives

          pub by_some_gives : (ws₄ : List ℤ) (last : Folded) → Negates ws₃ ws₄ b some last
              → Gives ws₄ b ds (fold (new_of ForAll x a)) last
          unfolding fold new_of
          by_some_gives ws₄ last turns = turns (fold (Some x (Not a))) ds some_gives

-- ---- normal form

module _ {es bs : List ℤ} {n p x : ℕ} {ws : List ℤ} {b : State} {a : Rule} {ds : List Node}
    (m : BodyMaking es bs n p NormalForm x ws b a ds) where
  pub normal_ready : NormalReady es bs n p x ws b a ds
  normal_ready = record {
    at = m.there;
    free = m.free;
    setting = m.setting;
    building = building_less m.on (omega (arith, table_words m.there));
  }

  module _ (ws₁ : List ℤ) (body : Option Folded)
      (walk : (r : Rule) (l : List Node) → NormalReady es bs n p x ws b r l → Normalled ws₁ b l (normal true x r) body)
    where
      body_normalled : Normalled ws₁ b ds (normal true x a) body
      body_normalled = walk a ds normal_ready

      -- no number passes the limit
      pub never_over : {A : Type 0} → body ≡ None → A
      unfolding new_of some_literal Normalled
      never_over e = absurd (T_not (some_literal over_limit (normal true x a)) m.numbers
          (subst (Normalled ws₁ b ds (normal true x a)) e body_normalled))

      module _ (made : Folded) (is_made : body ≡ option.Some made) where
        made_gives : Gives ws₁ b ds (fold (normal true x a)) made
        unfolding Normalled
        made_gives = (subst (Normalled ws₁ b ds (normal true x a)) is_made body_normalled).1

        pub made_answer : Answered ws₁ b made 2
        made_answer = answer m ws₁ made (normal true x a) 2 (omega (arith, normal_lighter true x a m.there.formed))
            made_gives

        pub normal_gives : (ws₂ : List ℤ) (last : Folded) → Binds x ws₁ ws₂ b made last
            → Gives ws₂ b ds (fold (new_of NormalForm x a)) last
        unfolding fold quantifier new_of
        normal_gives ws₂ last binds = binds (fold (normal true x a)) ds made_gives
