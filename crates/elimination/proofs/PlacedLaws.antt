-- The chosen quantifier where it was located, in the table's bytes: its body, and a new rule in its place.
-- Assumes nothing.
use mathlib.Core.Path.{◌≡◌, ◌∙◌, ap, subst}
use mathlib.Core.Bool.{true}
use mathlib.Core.List.{List}
use Prim.Native.Nat.{ℕ, ◌+◌, ◌≤◌}
use native.Mathlib.Omega.{arith}
use lib.IntN.{ℤ}
use lib.ListN.{length, drop}
use Rattle.rules.specs.Rule.{Quantifier, Rule}
use Rattle.rules.specs.Result.{Result}
use Rattle.rules.specs.Table.{most_words}
use Rattle.rules.specs.Fold.{fold}
use Rattle.rules.specs.Chosen.{replace}
use Rattle.rules.specs.Literals.{some_literal}
use Rattle.rules.specs.Eliminate.{over_limit, step_table}
use Rattle.rules.specs.Laws.{Each, WellFormed}
use Rattle.rules.specs.Calls.{words}
use Rattle.rules.proofs.Sizes.{weight}
use Rattle.rules.proofs.Shapes.{Shape}
use Rattle.bodies.specs.Body.{BodyOf, SomeBody}
use Rattle.steps.specs.Making.{new_of, Makeable}
use Rattle.elimination.specs.Stepping.{Answer, is_some, Locates, StepReady, SomeStepLocated, Stepped, sized, Rebuilding}
use Rattle.elimination.specs.Stepping.{SomeRebuilding}
use Rattle.elimination.specs.declared.locate.Quantified.{Quantified}
use Rattle.steps.specs.declared.made.Step.{Step}
use Rattle.std.specs.Prelude.{Err}
use Rattle.tables.specs.Refusals.{number_of}
use Rattle.tables.specs.declared.refusal.Refusal.TheVariants.{Number}
use Rattle.elimination.proofs.LocateLaws.{located, quantifier_small, body_formed, setting_known}
use Rattle.elimination.specs.Stepping.{ChosenIn, SomeChosen, BodyIn}
use Rattle.tables.specs.declared.part.Part.{Part}
use Rattle.elimination.proofs.StepLaws.{answered, refusal, over_refused, within_sized}

pub record Placed (ts ws : List ℤ) (room : ℕ) (r : Rule) (c : Quantified) : Type 0 where
  pub quantifier : Quantifier
  pub body : Rule
  pub ready : StepReady ts ws room r
  pub there : ChosenIn ts r quantifier c.setting body c.node c.place
  pub some_is : c.some ≡ is_some quantifier
  pub end_is : c.end ≡ weight body

abbrev pub placed : {ts ws : List ℤ} {room : ℕ} {r : Rule} {c : Quantified} → StepReady ts ws room r
    → Locates r c → Placed ts ws room r c
placed ready found = record {
  quantifier = found.quantifier;
  body = found.body;
  ready = ready;
  there = located ready.has found;
  some_is = found.quantifier_is;
  end_is = found.end_is;
}

-- that of the rule that is asked for
abbrev pub the_place : {ts ws : List ℤ} {room : ℕ} {c : Quantified}
    → (some : SomeStepLocated ts ws room c) → Placed ts ws room some.rule c
the_place some = placed some.ready some.locates

-- the new rule that is put there
pub record NewRule (step : Step) (bs : List ℤ) (x : ℕ) (a : Rule) : Type 0 where
  pub makeable : Makeable step bs x a
  pub shape : Each Shape (new_of step x a)

pub another_work : {ts ws vs : List ℤ} {room : ℕ} {r : Rule} → length vs ≡ length ws → StepReady ts ws room r
    → StepReady ts vs room r
another_work e ready = record {
  has = ready.has;
  folded = ready.folded;
  fits = ready.fits;
  table_room = ready.table_room;
  work_room = e ∙ ready.work_room;
}

module _ {ts ws : List ℤ} {room : ℕ} {r : Rule} {c : Quantified} (p : Placed ts ws room r c) where
  pub light_body : weight p.body ≤ most_words
  light_body = omega (arith, quantifier_small p.there)

  pub in_range : (1 ≤ c.setting) × (c.setting ≤ 6)
  in_range = setting_known p.there

  pub low : 1 ≤ c.setting
  low = (setting_known p.there).0

  pub high : c.setting ≤ 6
  high = (setting_known p.there).1

  pub formed : WellFormed p.body
  formed = body_formed p.there

  -- what its body's part asks
  pub some_chosen : SomeChosen ts c.node c.place
  some_chosen = record { rule = r; quantifier = p.quantifier; setting = c.setting; body = p.body; there = p.there }

  -- ---- the body, as the loops over it ask for it

  module _ {q : Part} (b : BodyIn ts c.place p.body q) where
    pub the_body : BodyOf (words q.bodies.now) c.end q.node p.body
    the_body = record {
      bodied = record { after = b.at.stands.bodies_after; begins = b.at.stands.bodies };
      formed = formed;
      ends = p.end_is;
    }

    pub some_body : SomeBody (words q.bodies.now) c.end
    some_body = record {
      number = q.node;
      rule = p.body;
      body = the_body;
      few = omega (arith, b.at.few.few_words);
    }

  -- ---- a new rule in its place

  -- where its numbers are within the limit, only its size may be refused
  pub sized_by : {step : Step} {bs : List ℤ} → NewRule step bs c.setting p.body
      → step_table room (replace (new_of step c.setting p.body) r)
      ≡ sized room (fold (replace (new_of step c.setting p.body) r))
  sized_by new = within_sized room _ r p.there.at p.ready.has.formed new.makeable.numbers

  pub stepped_by : {s : Result Rule} {step : Step} {bs : List ℤ}
      → s ≡ step_table room (replace (new_of step c.setting p.body) r)
      → NewRule step bs c.setting p.body → (ts : List ℤ) (n : Answer)
      → Stepped (sized room (fold (replace (new_of step c.setting p.body) r))) n ts → Stepped s n ts
  stepped_by e new ts n h = answered ts n (e ∙ sized_by new) h

  -- and where one passes it, that is refused
  pub over_by : {s : Result Rule} (new : Rule) → s ≡ step_table room (replace new r)
      → some_literal over_limit new ≡ true → (ts : List ℤ) → Stepped s (Err Number) ts
  unfolding number_of
  over_by new e over ts = refusal ts Number (e ∙ over_refused room new r p.there.at p.ready.has.formed over)

  -- where bs are the words of its body
  module _ {bs vs : List ℤ} {step : Step} (e : bs ≡ drop (c.place + 2) ts)
      (same : length vs ≡ length ws) (n : NewRule step bs c.setting p.body) where
    pub rebuilding : Rebuilding ts vs room c.node step r p.quantifier c.setting p.body
    rebuilding = record {
      ready = another_work same p.ready;
      at = p.there.at;
      number_is = p.there.number_is;
      makeable = subst (λ (bs : List ℤ). Makeable step bs c.setting p.body)
          (e ∙ ap (λ (k : ℕ). drop (k + 2) ts) p.there.place_is) n.makeable;
      shape = n.shape;
    }

    pub some_rebuilding : SomeRebuilding ts vs room c.node step
    some_rebuilding = record {
      rule = r;
      quantifier = p.quantifier;
      setting = c.setting;
      body = p.body;
      rebuilding = rebuilding;
    }
