-- For-all, and step 1, normal form: the new rule, which can be built, and the numbers that it passes.
-- Assumes nothing.
use mathlib.Core.Path.{◌≡◌, sym, ◌∙◌, subst}
use mathlib.Core.Bool.{Bool, true, false, not}
use mathlib.Core.List.{List, []}
use Prim.Native.Nat.{ℕ}
use native.Mathlib.Omega.{arith}
use lib.Dec.{T}
use lib.IntN.{ℤ}
use Rattle.whole.proofs.Tests.{is_true, is_false}
use Rattle.rules.specs.Rule.{Rule, Some}
use Rattle.rules.specs.Fold.{fold}
use Rattle.rules.specs.Chosen.{replace}
use Rattle.rules.specs.Literals.{some_literal}
use Rattle.rules.specs.Steps.{by_some, normal}
use Rattle.rules.specs.Eliminate.{over_limit, for_all_step, normal_step}
use Rattle.rules.specs.Laws.{Each}
use Rattle.rules.proofs.Sizes.{weight, total}
use Rattle.rules.proofs.Shapes.{formed_shape, normal_shape, some_shape, by_some_shape}
use Rattle.rules.proofs.Weights.{fold_lighter, by_some_weight, normal_lighter}
use Rattle.rules.proofs.Limits.{within_table}
use Rattle.tables.specs.declared.part.Part.{Part}
use Rattle.builder.specs.Built.{Built}
use Rattle.builder.specs.declared.push.State.{State}
use Rattle.folding.specs.declared.answers.Folded.{Folded}
use Rattle.walks.specs.Normal.{NormalReadyIn, Normalled}
use Rattle.steps.specs.Making.{new_of, FairStep}
use Rattle.elimination.specs.Stepping.{Answer, BodyIn, Stepped, sized}
use Rattle.elimination.specs.declared.locate.Quantified.{Quantified}
use Rattle.steps.specs.declared.made.Step.TheVariants.{ForAll, NormalForm}
use Rattle.std.specs.Prelude as std
use Rattle.std.specs.Prelude.{Option, None, is_some, Err}
use Rattle.tables.specs.declared.refusal.Refusal.TheVariants.{Number}
use Rattle.elimination.proofs.LocateLaws.{body_free, quantifier_formed}
use Rattle.elimination.proofs.StepLaws.{for_all_is, normal_is}
use Rattle.elimination.proofs.PlacedLaws.{Placed, NewRule, light_body, in_range, low, high, formed, stepped_by}
use Rattle.elimination.proofs.PlacedLaws.{over_by}

-- ---- for-all: it becomes not, for some, not

module _ {ts ws : List ℤ} {room : ℕ} {r : Rule} {c : Quantified} (p : Placed ts ws room r c) where
  pub new_by_some : (bs : List ℤ) → NewRule ForAll bs c.setting p.body
  unfolding new_of FairStep Each
  new_by_some bs = record {
    makeable = record {
      fair = tt;
      numbers = within_table (by_some c.setting p.body) (quantifier_formed p.there);
      light = omega (
        arith,
        fold_lighter (by_some c.setting p.body),
        by_some_weight c.setting p.body,
        light_body p,
      );
    };
    shape = by_some_shape c.setting p.body (low p) (high p) (formed p);
  }

  pub for_all_stepped : (ts : List ℤ) (n : Answer) → c.some ≡ false
      → Stepped (sized room (fold (replace (new_of ForAll c.setting p.body) r))) n ts
      → Stepped (for_all_step room r) n ts
  unfolding new_of
  for_all_stepped ts n e =
      let is = for_all_is room r p.quantifier (sym p.some_is ∙ e) p.there.at in
      stepped_by p is (new_by_some []) ts n

  -- ---- 1. normal form

  pub new_normal : (bs : List ℤ) {b : Bool} → b ≡ false
      → b ≡ some_literal over_limit (normal true c.setting p.body)
      → NewRule NormalForm bs c.setting p.body
  unfolding new_of FairStep some_literal weight
  new_normal bs none e =
      let b = normal true c.setting p.body in
      record {
        makeable = record {
          fair = tt;
          numbers = subst (λ (d : Bool). T (not d)) (sym (sym e ∙ none)) tt;
          light = omega (
            arith,
            fold_lighter (Some c.setting b),
            normal_lighter true c.setting p.body (formed p),
            light_body p,
          );
        };
        shape = some_shape c.setting b (low p) (high p) (normal_shape true c.setting p.body
            (formed_shape p.body (formed p)));
      }

  -- it is built from nothing, only to see its numbers
  pub normal_asks : {q : Part} → BodyIn ts c.place p.body q → (b : State) → ((vs : List ℤ) → Built vs b [])
      → NormalReadyIn q c.setting ws b p.body []
  unfolding total
  normal_asks there b none = record {
    at = there.at;
    free = body_free p.there;
    setting = in_range p;
    building = record {
      built = none ws;
      small = omega (arith, light_body p);
      room = omega (arith, p.ready.work_room, p.ready.table_room, p.ready.has.few);
    };
  }

  pub normal_refused : (ts : List ℤ) {b : Bool} → b ≡ true
      → b ≡ some_literal over_limit (normal true c.setting p.body) → Stepped (normal_step room r) (Err Number) ts
  unfolding some_literal
  normal_refused ts some e =
      over_by p (Some c.setting (normal true c.setting p.body)) (normal_is room r p.there.at)
      (sym e ∙ some) ts

  pub normal_stepped : (ts : List ℤ) (n : Answer) {bs : List ℤ}
      → NewRule NormalForm bs c.setting p.body
      → Stepped (sized room (fold (replace (new_of NormalForm c.setting p.body) r))) n ts
      → Stepped (normal_step room r) n ts
  unfolding new_of
  normal_stepped ts n new = stepped_by p (normal_is room r p.there.at) new ts n

-- what is told of its numbers
pub passes : (vs : List ℤ) (b : State) (n : Rule) (f : Option Folded) (none : Bool) → Normalled vs b [] n f
    → is_some f ≡ not none → none ≡ some_literal over_limit n
unfolding Normalled
passes vs b n None true h e = sym (is_true _ h)
passes vs b n None false h e = absurd cc
passes vs b n (std.Some g) true h e = absurd cc
passes vs b n (std.Some g) false h e = sym (is_false _ h.0)
