-- Any step: of the body, it asks and gives what its own function does; of the quantifier, what it does of the body.
-- Assumes nothing.
use mathlib.Core.Path.{◌≡◌, refl, sym, ◌∙◌, ap, subst}
use mathlib.Core.Bool.{Bool}
use mathlib.Core.List.{List}
use Prim.Native.Nat.{ℕ, ◌+◌, ◌<◌, ◌≤◌}
use native.Mathlib.Omega.{arith}
use lib.IntN.{ℤ, pos}
use lib.ListN.{length, get_or, length-drop}
use Rattle.rules.specs.Rule.{Quantifier, for_some, for_all, Rule, Bind}
use Rattle.rules.specs.Table.{Node, bind_node, body, nodes}
use Rattle.rules.specs.Fold.{fold}
use Rattle.rules.specs.Steps.{disjunction}
use Rattle.rules.specs.Eliminate.{most_period}
use Rattle.rules.specs.Laws.{Each}
use Rattle.rules.specs.Calls.{signed, words}
use Rattle.rules.proofs.Sizes.{words as node_words}
use Rattle.rules.proofs.Encoding.{setting_range}
use Rattle.tables.specs.Standing.{Stands}
use Rattle.tables.proofs.WordLaws.{number_of}
use Rattle.tables.proofs.Standings.{body_word, under_bind}
use Rattle.tables.proofs.Parts.{moved, root_there, bind_there}
use Rattle.tables.specs.Parts.{RuleIn, Behind}
use Rattle.tables.specs.declared.part.Part.{Part}
use Rattle.std.specs.Borrow.{Bor}
use Rattle.rules.specs.Table.{most_words}
use Rattle.steps.specs.There.{In}
use Rattle.builder.specs.declared.push.State.{State}
use Rattle.folding.specs.Answers.{Gives}
use Rattle.folding.specs.declared.answers.Folded.{Folded}
use Rattle.folding.specs.declared.answers.Folded.TheVariants.{Known}
use Rattle.steps.specs.Disjoining.{Disjoining, SomeDisjoining}
use Rattle.steps.specs.Making.{new_of, FairStep, Making, SomeBodyMaking, FairMaking, SomeFairMaking}
use Rattle.steps.specs.declared.made.Step.{Step}
use Rattle.steps.specs.declared.made.Step.TheVariants.{CommonFactor, Disjunction, Truth}

-- ---- any step, of the body

module _ {es bs : List ℤ} {n p x : ℕ} {ws : List ℤ} {b : State} (step known : Step)
    (is : step ≡ known)
  where
    step_known : {a : Rule} {ds : List Node} → FairMaking es bs n p step x ws b a ds
        → FairMaking es bs n p known x ws b a ds
    step_known {a} {ds} m = subst (λ (s : Step). FairMaking es bs n p s x ws b a ds) is m

    pub some_known : SomeFairMaking es bs n p step x ws b → SomeBodyMaking es bs n p known x ws b
    some_known some =
        record { rule = some.rule; tail = some.tail; making = (step_known some.fair_making).making }

    -- what the known step gives, the step gives
    pub known_gives : {a : Rule} {ds : List Node} → FairMaking es bs n p step x ws b a ds
        → (vs : List ℤ) (f : Folded)
        → (FairMaking es bs n p known x ws b a ds → Gives vs b ds (fold (new_of known x a)) f)
        → Gives vs b ds (fold (new_of step x a)) f
    known_gives {a} {ds} m vs f gives =
        subst (λ (s : Step). Gives vs b ds (fold (new_of s x a)) f) (sym is) (gives (step_known m))

pub factor_fair : {es bs : List ℤ} {n p x : ℕ} {ws : List ℤ} {b : State} (step : Step) (D : ℕ)
    → step ≡ CommonFactor D → SomeFairMaking es bs n p step x ws b → (1 ≤ D) × (D ≤ most_period)
unfolding FairStep
factor_fair step D is some = (step_known step (CommonFactor D) is some.fair_making).fair

module _ {es bs : List ℤ} {n p x P : ℕ} {places : Bor (List ℕ)} {ws : List ℤ} {b : State} {a : Rule} {ds : List Node}
    (m : FairMaking es bs n p (Disjunction P places) x ws b a ds) where
  disjoining_of : Disjoining es bs n p x P places.now ws b a ds
  unfolding FairStep new_of
  disjoining_of =
      let (from, to, few, at) = m.fair in
      let body = m.making in
      record {
        of = record {
          there = body.there;
          setting = body.setting;
          period_fits = (from, to);
          few_bounds = omega (arith, few, at.as_many);
          numbers = body.numbers;
        };
        bounds_at = at;
        on = body.on;
      }

  pub disjunction_gives : (vs : List ℤ) (f : Folded)
      → (Disjoining es bs n p x P places.now ws b a ds → Gives vs b ds (fold (disjunction P x a)) f)
      → Gives vs b ds (fold (new_of (Disjunction P places) x a)) f
  unfolding new_of
  disjunction_gives vs f gives = gives disjoining_of

pub some_disjoining : {es bs : List ℤ} {n p x : ℕ} {ws : List ℤ} {b : State} (step : Step) (P : ℕ)
    (places : Bor (List ℕ)) → step ≡ Disjunction P places → SomeFairMaking es bs n p step x ws b
    → SomeDisjoining es bs n p x P places.now ws b
some_disjoining step P places is some = record {
  rule = some.rule;
  tail = some.tail;
  disjoining = disjoining_of (step_known step (Disjunction P places) is some.fair_making);
}

-- ---- any step, of the quantifier

-- a quantifier has its setting in word 1
setting_word : {es bs : List ℤ} {n p : ℕ} (q : Quantifier) (x : ℕ) (a : Rule) → Stands es bs n p (Bind q x a)
    → get_or bs 1 (pos 0) ≡ pos x
unfolding nodes node_words body
setting_word for_some x a s = body_word (bind_node for_some x) (nodes a) 1 s (omega arith)
setting_word for_all x a s = body_word (bind_node for_all x) (nodes a) 1 s (omega arith)

module _ (t : Part) {step : Step} {ws : List ℤ} {b : State} {q : Quantifier} {x : ℕ} {a : Rule} {ds : List Node}
    (m : In Making t step ws b q x a ds) where
  entries_there : 1 ≤ length (words t.entries.now)
  entries_there = (root_there (Bind q x a) m.there.stands).0

  bodies_there : 2 ≤ length (words t.bodies.now)
  bodies_there = bind_there q x a m.there.stands

  pub word_there : 1 < length (words t.bodies.now)
  word_there = omega (arith, bodies_there)

  pub body_asks : (1 ≤ length (words t.entries.now)) × (2 ≤ length (words t.bodies.now))
      × (t.node + 1 ≤ most_words) × (t.place + 2 ≤ most_words)
  body_asks = (
    entries_there,
    bodies_there,
    omega (arith, entries_there, m.there.few.few_nodes),
    omega (arith, bodies_there, m.there.few.few_words),
  )

  -- the setting is read, and the body stands in the part u
  module _ (read : ℕ) (word : get_or (words t.bodies.now) 1 (pos 0) ≡ signed read) {u : Part} (behind : Behind t 1 2 u)
    where
      setting_read : read ≡ x
      setting_read = number_of read x (sym word ∙ setting_word q x a m.there.stands)

      body_in : RuleIn u a
      unfolding Each
      body_in =
          let long = ap length behind.entries_are ∙ length-drop 1 (words t.entries.now) in
          let wide = ap length behind.bodies_are ∙ length-drop 2 (words t.bodies.now) in
          record {
            stands = moved a (sym behind.entries_are) (sym behind.bodies_are) (sym behind.node_is) (sym behind.place_is)
                (under_bind q x a m.there.stands);
            few = record {
              few_nodes = omega (arith, m.there.few.few_nodes, long, behind.node_is, entries_there);
              few_words = omega (arith, m.there.few.few_words, wide, behind.place_is, bodies_there);
            };
            formed = m.there.formed.1;
          }

      pub fair_making : In FairMaking u step read ws b a ds
      unfolding Each
      fair_making = subst (λ (v : ℕ). In FairMaking u step v ws b a ds) (sym setting_read)
          (record {
            making = record {
              there = body_in;
              free = m.free;
              setting = let (from, to) = setting_range x m.there.formed.0 in (from, omega (arith, to));
              numbers = m.makeable.numbers;
              on = m.on;
            };
            fair = subst (λ (bs : List ℤ). FairStep step bs x a) (sym behind.bodies_are) m.makeable.fair;
          })

      pub read_gives : (vs : List ℤ) (f : Folded) → Gives vs b ds (fold (new_of step read a)) f
          → Gives vs b ds (fold (new_of step x a)) f
      read_gives vs f gives = subst (λ (v : ℕ). Gives vs b ds (fold (new_of step v a)) f) setting_read gives

-- a truth value is answered, and nothing is put
pub truth_gives : {es bs : List ℤ} {n p x : ℕ} {ws : List ℤ} {b : State} {a : Rule} {ds : List Node}
    (v : Bool) → FairMaking es bs n p (Truth v) x ws b a ds
    → Gives ws b ds (fold (new_of (Truth v) x a)) (Known v)
unfolding new_of fold Gives
truth_gives v m = (refl, m.making.on.built)
