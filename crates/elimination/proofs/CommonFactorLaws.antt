-- Step 2, common factor: D and the numbers within their limits, and the new rule, which can be built.
-- Assumes nothing.
use mathlib.Core.Path.{◌≡◌, refl, sym, ◌∙◌, ap, subst}
use mathlib.Core.Bool.{Bool, true, false, not, ◌&&◌, ◌||◌, or-false}
use mathlib.Core.List.{List, [], ◌∷◌}
use Prim.Native.Nat.{ℕ, zero, suc, ◌<◌, ◌≤◌}
use native.Mathlib.Omega.{arith}
use lib.Dec.{T, leb, le→leb, eqb, eqb→eq}
use lib.IntN.{ℤ, pos}
use Rattle.whole.specs.Integers.{within}
use Rattle.whole.proofs.Tests.{T_and, is_false}
use Rattle.rules.specs.Sum.{Sum, put, number, setting, limit, all_within}
use Rattle.rules.specs.Rule.{Quantifier, for_some, for_all, divisible, Rule, Literal, Some}
use Rattle.rules.specs.Table.{is_divisor}
use Rattle.rules.specs.Fold.{fold}
use Rattle.rules.specs.Chosen.{the, chosen, replace}
use Rattle.rules.specs.Literals.{some_literal}
use Rattle.rules.specs.Steps.{common_factor, scaled}
use Rattle.rules.specs.Eliminate.{over_limit, most_period, common_step}
use Rattle.rules.specs.Laws.{Each}
use Rattle.rules.proofs.Sizes.{weight}
use Rattle.rules.proofs.Shapes.{Shape, seven_put, some_shape, scaled_shape}
use Rattle.rules.proofs.CommonFactor.{common_factor_pos}
use Rattle.rules.proofs.FactorOne.{common_one}
use Rattle.rules.proofs.Weights.{fold_lighter, scaled_lighter}
use Rattle.rules.proofs.Limits.{within_table}
use Rattle.literals.specs.Changes.{Usable, becomes, Fair}
use Rattle.walks.specs.Walk.{changed}
use Rattle.steps.specs.Making.{new_of, FairStep}
use Rattle.elimination.specs.Stepping.{Answer, is_some, Stepped, sized}
use Rattle.literals.specs.Changes.{Scaled}
use Rattle.elimination.specs.declared.locate.Quantified.{Quantified}
use Rattle.steps.specs.declared.made.Step.TheVariants.{CommonFactor}
use Rattle.std.specs.Prelude.{⊤, Ok, Err}
use Rattle.tables.specs.Refusals.{number_of}
use Rattle.tables.specs.declared.refusal.Refusal.TheVariants.{Number, Multiple}
use Rattle.elimination.proofs.StepLaws.{refusal, Least, common_refused, common_is}
use Rattle.elimination.proofs.PlacedLaws.{Placed, NewRule, light_body, in_range, low, high, formed, stepped_by}
use Rattle.elimination.proofs.PlacedLaws.{over_by}

-- ---- "D divides x" is within the limit

-- a setting's own sum is
put_within : (v : ℕ) (s : Sum) → T (all_within limit s) → T (all_within limit (put v (pos 1) s))
unfolding put all_within
put_within zero [] h = tt
put_within zero (b ∷ s) h = ((T_and (within limit b) (all_within limit s)).0 h).1
put_within (suc v) [] h = put_within v [] tt
put_within (suc v) (b ∷ s) h =
    let (first, rest) = (T_and (within limit b) (all_within limit s)).0 h in
    (T_and (within limit b) (all_within limit (put v (pos 1) s))).1 (first, put_within v s rest)

-- and D is a divisor
divisor_fair : (D : ℕ) → 1 ≤ D → D ≤ most_period → T (is_divisor (pos D))
unfolding is_divisor
divisor_fair D h k = (T_and (leb 1 D) (leb D limit)).1 (le→leb 1 D h, le→leb D limit (omega arith))

divisor_within : (D v : ℕ) → 1 ≤ D → D ≤ most_period → v ≤ 6 → over_limit (divisible true D) (setting v) ≡ false
unfolding some_literal Each setting
divisor_within D v low high few = is_false _ (within_table (Literal (divisible true D) (setting v)) (
  seven_put v (pos 1) (number (pos 0)) (omega (arith, few)) refl,
  put_within v (number (pos 0)) (unfold all_within in tt),
  divisor_fair D low high,
))

some_only : (q : Quantifier) → T (is_some q) → q ≡ for_some
unfolding is_some
some_only for_some t = refl
some_only for_all t = absurd t

-- ---- the step

module _ {ts ws : List ℤ} {room : ℕ} {r : Rule} {c : Quantified} (p : Placed ts ws room r c) where
  pub common_over : (ts : List ℤ) → most_period < common_factor c.setting p.body
      → Stepped (common_step room r) (Err Multiple) ts
  unfolding number_of
  common_over ts many = refusal ts Multiple (common_refused room r p.there.at many)

  module _ (D : ℕ) (least : Least (common_factor c.setting p.body) D) where
    fair_factor : (1 ≤ D) × (D ≤ most_period)
    fair_factor = (omega (arith, least.0, common_factor_pos c.setting p.body), least.1)

    -- where it is 1, the table stays
    pub common_stays : {u : ⊤} → (c.some && eqb D 1) ≡ true → Stepped (common_step room r) (Ok u) ts
    unfolding Stepped
    common_stays e =
        let (some, one) = (T_and c.some (eqb D 1)).0 (subst T (sym e) tt) in
        let is_some_one = some_only p.quantifier (subst T p.some_is some) in
        let at = subst (λ (q : Quantifier). chosen r ≡ the q c.setting p.body) is_some_one p.there.at in
        let factor_is = sym least.0 ∙ eqb→eq D 1 one in
        let small = divisor_within 1 c.setting (omega arith) (omega arith) (high p) in
        let ready = p.ready in
        let stays = common_one room r at (high p) factor_is ready.has.formed ready.folded small ready.fits in
        (r, stays, ready.has.table)

    pub scaled_usable : Usable (Scaled D c.setting) (number (pos 0))
    unfolding Fair all_within
    scaled_usable = record { seven = refl; small = tt; fair = (in_range p, fair_factor.0, fair_factor.1) }

    scaled_numbers : (b : Bool) → b ≡ some_literal over_limit (changed (Scaled D c.setting) (number (pos 0)) p.body)
        → some_literal over_limit (Some c.setting (scaled D c.setting p.body)) ≡ b
    unfolding changed becomes some_literal scaled
    scaled_numbers b e =
        ap (λ (d : Bool). some_literal over_limit (changed (Scaled D c.setting) (number (pos 0)) p.body) || d)
        (divisor_within D c.setting fair_factor.0 fair_factor.1 (high p))
        ∙ or-false _ ∙ sym e

    pub new_scaled : (bs : List ℤ) {b : Bool} → b ≡ false
        → b ≡ some_literal over_limit (changed (Scaled D c.setting) (number (pos 0)) p.body)
        → NewRule (CommonFactor D) bs c.setting p.body
    unfolding new_of FairStep weight
    new_scaled bs none e =
        let b = scaled D c.setting p.body in
        record {
          makeable = record {
            fair = fair_factor;
            numbers = subst (λ (d : Bool). T (not d)) (sym (scaled_numbers _ e ∙ none)) tt;
            light = omega (
              arith,
              fold_lighter (Some c.setting b),
              scaled_lighter D c.setting p.body (low p) (high p) (formed p),
              light_body p,
            );
          };
          shape = some_shape c.setting b (low p) (high p)
              (subst (λ (n : ℕ). Each Shape (scaled n c.setting p.body)) (sym least.0)
              (scaled_shape c.setting p.body (low p) (high p) (formed p)));
        }

    pub scaled_over : (ts : List ℤ) {b : Bool} → b ≡ true
        → b ≡ some_literal over_limit (changed (Scaled D c.setting) (number (pos 0)) p.body)
        → Stepped (common_step room r) (Err Number) ts
    scaled_over ts some e =
        over_by p (Some c.setting (scaled D c.setting p.body)) (common_is room r p.there.at least)
        (scaled_numbers _ e ∙ some) ts

    pub common_stepped : (ts : List ℤ) (n : Answer) {bs : List ℤ}
        → NewRule (CommonFactor D) bs c.setting p.body
        → Stepped (sized room (fold (replace (new_of (CommonFactor D) c.setting p.body) r))) n ts
        → Stepped (common_step room r) n ts
    unfolding new_of
    common_stepped ts n new = stepped_by p (common_is room r p.there.at least) new ts n
