-- Step 3, disjunction: P, the bounds in their places, what is surveyed, and what is planned, which can be built.
-- Assumes nothing.
use mathlib.Core.Path.{◌≡◌, sym, ◌∙◌, ap, subst}
use mathlib.Core.Logic.{inl, inr}
use mathlib.Core.Bool.{Bool, true, false, not}
use mathlib.Core.List.{List}
use Prim.Native.Nat.{ℕ, ◌<◌, ◌≤◌}
use native.Mathlib.Omega.{arith}
use lib.Dec.{T}
use lib.IntN.{ℤ}
use lib.ListN.{length, take, length-take}
use Rattle.std.specs.Borrow.{Bor}
use Rattle.rules.specs.Rule.{Rule}
use Rattle.rules.specs.Fold.{fold}
use Rattle.rules.specs.Chosen.{replace}
use Rattle.rules.specs.Literals.{some_literal}
use Rattle.rules.specs.Steps.{period, bounds, disjunction}
use Rattle.rules.specs.Eliminate.{over_limit, most_period, disjunction_step}
use Rattle.rules.specs.Laws.{Each}
use Rattle.rules.proofs.Sizes.{weight}
use Rattle.rules.proofs.Shapes.{period_positive, disjunction_shape}
use Rattle.tables.specs.declared.part.Part.{Part}
use Rattle.rules.specs.Calls.{words}
use Rattle.bodies.specs.Body.{BoundsAt, RoomForBounds}
use Rattle.bodies.proofs.BoundCount.{few_bounds}
use Rattle.steps.specs.Numbers.{SomeBounds}
use Rattle.steps.specs.Blocks.{BodyBounds, SomeBodyBounds}
use Rattle.steps.specs.Making.{new_of, FairStep}
use Rattle.elimination.specs.Stepping.{Answer, BodyIn, Stepped, sized, Planned}
use Rattle.elimination.specs.declared.locate.Quantified.{Quantified}
use Rattle.std.specs.Prelude.{Ok, Err}
use Rattle.tables.specs.Refusals.{number_of}
use Rattle.tables.specs.declared.refusal.Refusal.{Refusal}
use Rattle.tables.specs.declared.refusal.Refusal.TheVariants.{Number, Multiple}
use Rattle.rules.specs.Result.{refused}
use Rattle.steps.specs.declared.made.Step.{Step}
use Rattle.steps.specs.declared.made.Step.TheVariants.{Disjunction, Truth}
use Rattle.elimination.proofs.LocateLaws.{quantifier_small}
use Rattle.steps.proofs.DisjunctionWeights.{disjunction_light}
use Rattle.steps.proofs.BoundsLaws.{first_places}
use Rattle.elimination.proofs.SameBodies.{same_count}
use Rattle.elimination.proofs.PlanLaws.{same_replaced, replaced_long, no_room}
use Rattle.elimination.proofs.StepLaws.{answered, refusal, within_sized, Least, disjunction_refused, disjunction_is}
use Rattle.elimination.proofs.PlacedLaws.{Placed, NewRule, light_body, in_range, low, high, formed, the_body}
use Rattle.elimination.proofs.PlacedLaws.{some_body, over_by}

module _ {ts ws : List ℤ} {room : ℕ} {r : Rule} {c : Quantified} (p : Placed ts ws room r c) where
  pub room_for_bounds : {q : Part} → BodyIn ts c.place p.body q
      → RoomForBounds (words q.bodies.now) c.end c.setting 1365
  room_for_bounds there n a b =
      let many = same_count a p.body b (the_body p there) in
      few_bounds c.setting a b.formed
      (omega (arith, quantifier_small p.there, many, b.ends, p.end_is))

  pub period_over : (ts : List ℤ) → most_period < period p.body → Stepped (disjunction_step room r) (Err Multiple) ts
  unfolding number_of
  period_over ts many = refusal ts Multiple (disjunction_refused room r p.there.at many)

  -- P, and the bounds in their places, where the body is the part q
  pub record Collected (q : Part) (P : ℕ) (places : List ℕ) : Type 0 where
    pub there : BodyIn ts c.place p.body q
    pub least : Least (period p.body) P
    pub at : BoundsAt (words q.bodies.now) c.setting places (length places) (bounds c.setting p.body)
    pub few : length places ≤ 1365

  -- the first k of all places
  pub collected_first : {q : Part} {P k : ℕ} {all : List ℕ} → BodyIn ts c.place p.body q → Least (period p.body) P
      → BoundsAt (words q.bodies.now) c.setting all k (bounds c.setting p.body) → length all ≡ 1365
      → Collected q P (take k all)
  collected_first {k = k} {all} there least at long = record {
    there = there;
    least = least;
    at = first_places at;
    few = omega (arith, length-take k all, long);
  }

  module _ {q : Part} {P : ℕ} {places : List ℕ} (known : Collected q P places) where
    pub fair_period : (1 ≤ P) × (P ≤ most_period)
    fair_period = (omega (arith, known.least.0, period_positive p.body (formed p)), known.least.1)

    pub some_bounds : SomeBounds (words q.bodies.now) c.end c.setting places
    some_bounds = record {
      number = q.node;
      rule = p.body;
      body = the_body p known.there;
      at = known.at;
      few = (some_body p known.there).few;
    }

    pub disjuncts_over : (ts : List ℤ) {b : Bool} → b ≡ true
        → b ≡ some_literal over_limit (disjunction P c.setting p.body)
        → Stepped (disjunction_step room r) (Err Number) ts
    disjuncts_over ts some e =
        over_by p (disjunction P c.setting p.body) (disjunction_is room r p.there.at known.least)
        (sym e ∙ some) ts

    -- the body stands there to be surveyed
    pub body_judged : BodyBounds (words q.entries.now) (words q.bodies.now) q.node q.place c.setting places p.body
    body_judged = record { there = known.there.at; setting = in_range p; bounds_at = known.at }

    pub survey_asks : SomeBodyBounds (words q.entries.now) (words q.bodies.now) q.node q.place c.setting places
        × (P ≤ most_period) × (length places ≤ 1365)
    survey_asks = (record { rule = p.body; body = body_judged }, known.least.1, known.few)

    -- a truth value can be put anywhere
    new_truth : (v : Bool) → NewRule (Truth v) (words q.bodies.now) c.setting p.body
    unfolding new_of FairStep some_literal Each fold weight
    new_truth v = record { makeable = record { fair = tt; numbers = tt; light = omega arith }; shape = tt }

    -- where no number passes the limit
    module _ {b : Bool} (none : b ≡ false) (e : b ≡ some_literal over_limit (disjunction P c.setting p.body)) where
      numbers : T (not (some_literal over_limit (disjunction P c.setting p.body)))
      numbers = subst (λ (d : Bool). T (not d)) (sym (sym e ∙ none)) tt

      -- the disjunction can be built
      new_disjunction : (lent : Bor (List ℕ)) → lent.now ≡ places
          → NewRule (Disjunction P lent) (words q.bodies.now) c.setting p.body
      unfolding new_of FairStep
      new_disjunction lent is =
          let at = subst
          (λ (l : List ℕ). BoundsAt (words q.bodies.now) c.setting l (length l) (bounds c.setting p.body))
          (sym is) known.at in
          record {
            makeable = record {
              fair = (fair_period.0, fair_period.1, omega (arith, known.few, ap length is), at);
              numbers = numbers;
              light = disjunction_light P (length places) c.setting p.body known.least.1 known.few known.at.as_many
                  (low p) (high p) (formed p) (light_body p);
            };
            shape = disjunction_shape P c.setting p.body (low p) (high p) (formed p);
          }

      whole_step : disjunction_step room r ≡ sized room (fold (replace (disjunction P c.setting p.body) r))
      whole_step =
          disjunction_is room r p.there.at known.least
          ∙ within_sized room (disjunction P c.setting p.body) r p.there.at p.ready.has.formed numbers

      -- what is planned
      pub too_long : (ts : List ℤ) (e : Refusal) (whole : Step) → Planned room P whole c.setting p.body (Err e)
          → Stepped (disjunction_step room r) (Err e) ts
      unfolding Planned number_of
      too_long ts e whole (is, stays, long) =
          refusal ts e (whole_step ∙ no_room room (fold (replace (disjunction P c.setting p.body) r))
          (omega (
            arith,
            long,
            replaced_long (disjunction P c.setting p.body) r p.there.at p.ready.folded stays,
          )) ∙ ap (λ (e : Refusal). refused (number_of e)) (sym is))

      pub new_planned : (step : Step) (lent : Bor (List ℕ))
          → Planned room P (Disjunction P lent) c.setting p.body (Ok step) → lent.now ≡ places
          → NewRule step (words q.bodies.now) c.setting p.body
      unfolding Planned
      new_planned step lent (inl is) same =
          subst (λ (s : Step). NewRule s (words q.bodies.now) c.setting p.body) (sym is) (new_disjunction lent same)
      new_planned step lent (inr (v, is, folds)) same =
          subst (λ (s : Step). NewRule s (words q.bodies.now) c.setting p.body) (sym is) (new_truth v)

      same_fold : (step : Step) (lent : Bor (List ℕ)) → Planned room P (Disjunction P lent) c.setting p.body (Ok step)
          → fold (disjunction P c.setting p.body) ≡ fold (new_of step c.setting p.body)
      unfolding Planned new_of fold
      same_fold step lent (inl is) = ap (λ (s : Step). fold (new_of s c.setting p.body)) (sym is)
      same_fold step lent (inr (v, is, folds)) = folds ∙ ap (λ (s : Step). fold (new_of s c.setting p.body)) (sym is)

      pub planned_stepped : (step : Step) (lent : Bor (List ℕ))
          → Planned room P (Disjunction P lent) c.setting p.body (Ok step) → (ts : List ℤ) (n : Answer)
          → Stepped (sized room (fold (replace (new_of step c.setting p.body) r))) n ts
          → Stepped (disjunction_step room r) n ts
      planned_stepped step lent planned ts n h =
          let same = same_replaced (disjunction P c.setting p.body) (new_of step c.setting p.body)
          (same_fold step lent planned) r in
          answered ts n (whole_step ∙ ap (sized room) same) h
