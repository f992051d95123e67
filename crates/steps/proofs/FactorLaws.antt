-- The common factor: what the walk over the body asks for once "D divides x" is put, and that their answers, joined and
-- bound, are the folded new rule.
-- Assumes nothing.
use mathlib.Core.Path.{◌≡◌, refl, sym, ◌∙◌, ap, subst}
use mathlib.Core.Bool.{Bool, true, false, not}
use mathlib.Core.List.{List}
use Prim.Native.Nat.{ℕ, zero, suc, ◌+◌, ◌≤◌}
use native.Mathlib.Omega.{arith}
use lib.Dec.{T}
use lib.IntN.{ℤ, pos}
use lib.ListN.{length, set}
use Rattle.whole.proofs.Tests.{not_or}
use Rattle.whole.proofs.Divisibility.{divides_zero}
use Rattle.rules.specs.Sum.{Sum, factor, put, number, setting}
use Rattle.rules.specs.Rule.{Test, divisible, passes, Rule, Constant, Literal}
use Rattle.rules.specs.Table.{Node, most_words}
use Rattle.rules.specs.Fold.{fold_literal, fold_join, fold}
use Rattle.rules.specs.Literals.{some_literal, map_literals}
use Rattle.rules.specs.Steps.{scale_literal, scaled}
use Rattle.rules.specs.Eliminate.{over_limit, most_period}
use Rattle.rules.proofs.Sizes.{weight}
use Rattle.rules.proofs.Meaning.{passes_decides}
use Rattle.rules.proofs.Folding.{Open, fold_literal_ind}
use Rattle.rules.proofs.Shapes.{seven_put}
use Rattle.rules.proofs.Weights.{fold_lighter, scaled_lighter}
use Rattle.builder.specs.Built.{Built, quantifier, junction}
use Rattle.builder.specs.declared.push.State.{State}
use Rattle.builder.proofs.BuiltLaws.{built_countable}
use Rattle.folding.specs.Answers.{Gives, Answered, Sides, SomeSides, after, built_then, settled}
use Rattle.folding.specs.declared.answers.Folded.{Folded}
use Rattle.folding.specs.declared.answers.Folded.TheVariants.{Known, Pushed}
use Rattle.folding.proofs.AnswerLaws.{built_of, total_then, sides_of, some_sides_of}
use Rattle.literals.specs.Changes.{becomes, Fair}
use Rattle.walks.specs.Literals.{Puttable}
use Rattle.walks.specs.Walk.{changed, Ready}
use Rattle.literals.specs.Literal.{Marked}
use Rattle.tables.specs.Kinds.{number_of}
use Rattle.tables.specs.declared.kind.Kind.TheVariants.{Divisible}
use Rattle.steps.specs.Making.{new_of, BodyMaking}
use Rattle.literals.specs.Changes.{Scaled}
use Rattle.steps.specs.declared.made.Step.TheVariants.{CommonFactor}
use Rattle.steps.proofs.ThereLaws.{table_words, zeros_usable}
use Rattle.steps.proofs.MakingLaws.{answer, Binds}

-- ---- "D divides x"

-- the sum that is the setting x: a 1 at place x
pub unit_is : (x : ℕ) → x ≤ 6 → set (number (pos 0)) x (pos 1) ≡ setting x
unfolding setting put
unit_is zero inside = refl
unit_is (suc zero) inside = refl
unit_is (suc (suc zero)) inside = refl
unit_is (suc (suc (suc zero))) inside = refl
unit_is (suc (suc (suc (suc zero)))) inside = refl
unit_is (suc (suc (suc (suc (suc zero))))) inside = refl
unit_is (suc (suc (suc (suc (suc (suc zero)))))) inside = refl
unit_is (suc (suc (suc (suc (suc (suc (suc v))))))) inside = absurd (omega arith)

-- "D divides x" is never false: its number is 0, which D divides
never_false : (D x : ℕ) (v : Bool) → 1 ≤ x → fold_literal (divisible true D) (setting x) ≡ Constant v → not v ≡ false
never_false D zero v low e = absurd (omega arith)
never_false D (suc y) v low e =
    fold_literal_ind (λ (r : Rule). r ≡ Constant v → not v ≡ false) (divisible true D) (setting (suc y))
    (λ c k. holds (passes (divisible true D) (factor 0 (setting (suc y)))) divided k)
    (λ c k. absurd (subst Open k tt))
    e
  where
    divided : T (passes (divisible true D) (factor 0 (setting (suc y))))
    divided = unfold setting put in (passes_decides (divisible true D) (pos 0)).1 divides_zero

    holds : (p : Bool) → T p → Constant p ≡ Constant v → not v ≡ false
    holds true t k = let same : true ≡ v = cc in ap not (sym same)
    holds false t k = absurd t

unsettled : (ws : List ℤ) (b : State) (ds : List Node) (D x : ℕ) (f : Folded) → 1 ≤ x
    → Gives ws b ds (fold_literal (divisible true D) (setting x)) f → settled true f ≡ false
unfolding Gives settled
unsettled ws b ds D x (Known v) low gives = never_false D x v low gives.0
unsettled ws b ds D x (Pushed c) low gives = refl

-- ---- the scaled body beside it

module _ {es bs : List ℤ} {n p x D : ℕ} {ws : List ℤ} {b : State} {a : Rule} {ds : List Node}
    (fair : (1 ≤ D) × (D ≤ most_period)) (m : BodyMaking es bs n p (CommonFactor D) x ws b a ds) where
  abbrev divided : Rule
  divided = Literal (divisible true D) (setting x)

  abbrev multiplied : Rule
  multiplied = map_literals (scale_literal D x) a

  light : 2 + weight multiplied + weight divided ≤ 2 + weight a + 9
  light = unfold scaled weight in scaled_lighter D x a m.setting.0 m.setting.1 m.there.formed

  pub divisor_asks : (s : Sum) → s ≡ setting x → Puttable (number_of Divisible) D s b
  unfolding number_of
  divisor_asks s e = record {
    some = record {
      test = divisible true D;
      marked = record { same_kind = refl; same_divisor = refl };
      small = omega (arith, fair.1);
    };
    seven = ap length e ∙ (unfold setting in seven_put x (pos 1) (number (pos 0)) (omega (arith, m.setting)) refl);
    countable = built_countable ws b ds 9 m.on.built (omega (arith, m.on.small));
  }

  module _ (s : Sum) (e : s ≡ setting x) (ws₁ : List ℤ) (right : Folded)
      (puts : (t : Test) (l : List Node) → Marked (number_of Divisible) D t → Built ws b l → Gives ws₁ b l
      (fold_literal t s) right) where
    right_gives : Gives ws₁ b ds (fold divided) right
    unfolding fold number_of
    right_gives = subst (λ (u : Sum). Gives ws₁ b ds (fold_literal (divisible true D) u) right) e
        (puts (divisible true D) ds (record { same_kind = refl; same_divisor = refl }) m.on.built)

    module _ (c : State) (then : c ≡ after b right) where
      pub scaled_ready : length ws₁ ≤ most_words
          → Ready es bs n p (Scaled D x) (number (pos 0)) ws₁ c a (built_then ds (fold divided) right)
      unfolding Fair changed becomes new_of scaled some_literal
      scaled_ready room = record {
        at = m.there;
        usable = zeros_usable (Scaled D x) (m.setting, fair.0, fair.1);
        numbers = (not_or (some_literal over_limit multiplied) (over_limit (divisible true D) (setting x))
            m.numbers).0;
        building = record {
          built = subst (λ (d : State). Built ws₁ d (built_then ds (fold divided) right)) (sym then)
              (built_of ws₁ b ds (fold divided) right right_gives);
          small = omega (
            arith,
            total_then ds (fold divided) right,
            fold_lighter divided,
            light,
            table_words m.there,
            m.on.small,
          );
          room = room;
        };
      }

      module _ (room : length ws₁ ≤ most_words) (ws₂ : List ℤ) (left : Folded)
          (walk : (r : Rule) (l : List Node) → Ready es bs n p (Scaled D x) (number (pos 0)) ws₁ c r l
          → Gives ws₂ c l (fold (changed (Scaled D x) (number (pos 0)) r)) left) where
        sides : Sides ws₂ true b ds (fold divided) (fold multiplied) right left
        unfolding fold changed becomes
        sides = sides_of ws ws₁ ws₂ true b ds (fold divided) (fold multiplied) right left m.on.built right_gives
            (unsettled ws₁ b ds D x right m.setting.0 right_gives)
            (subst (λ (d : State). Gives ws₂ d (built_then ds (fold divided) right) (fold multiplied) left) then
            (walk a (built_then ds (fold divided) right) (scaled_ready room)))

        pub joins : length ws₂ ≤ most_words → SomeSides ws₂ true b right left
        joins = some_sides_of ws₂ true b ds (fold divided) (fold multiplied) right left sides
            (omega (arith, fold_lighter divided, fold_lighter multiplied, light, table_words m.there, m.on.small))

        module _ (ws₃ : List ℤ) (both : Folded)
            (joined : (y z : Rule) (l : List Node) → Sides ws₂ true b l y z right left
            → Gives ws₃ b l (fold_join (junction true) z y) both) where
          both_gives : Gives ws₃ b ds (fold (scaled D x a)) both
          unfolding fold junction scaled
          both_gives = joined (fold divided) (fold multiplied) ds sides

          pub both_answer : Answered ws₃ b both 2
          both_answer = answer m ws₃ both (scaled D x a) 2
              (omega (arith, scaled_lighter D x a m.setting.0 m.setting.1 m.there.formed)) both_gives

          pub scaled_gives : (ws₄ : List ℤ) (last : Folded) → Binds x ws₃ ws₄ b both last
              → Gives ws₄ b ds (fold (new_of (CommonFactor D) x a)) last
          unfolding fold quantifier new_of
          scaled_gives ws₄ last binds = binds (fold (scaled D x a)) ds both_gives
