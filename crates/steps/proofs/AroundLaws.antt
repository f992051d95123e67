-- The walk that rebuilds what stands around the chosen quantifier: what it is called with, what it asks of a part of
-- the rule, and what it knows once it is at the quantifier.
-- Assumes nothing.
use mathlib.Core.Path.{◌≡◌, sym, ◌∙◌, ap, subst}
use mathlib.Core.Bool.{Bool, true}
use mathlib.Core.List.{List}
use Prim.Native.Nat.{ℕ, ◌+◌, ◌<◌, ◌≤◌}
use native.Mathlib.Omega.{arith}
use lib.IntN.{ℤ}
use lib.ListN.{length, drop}
use lib.Seq.{drop-drop}
use Rattle.rules.specs.Rule.{Quantifier, Rule}
use Rattle.rules.specs.Table.{Node, most_words}
use Rattle.rules.specs.Fold.{fold}
use Rattle.rules.specs.Calls.{words}
use Rattle.rules.proofs.Sizes.{weight, total}
use Rattle.builder.specs.Built.{Built, most_counted}
use Rattle.builder.specs.declared.push.State.{State}
use Rattle.folding.specs.Answers.{Gives}
use Rattle.folding.specs.declared.answers.Folded.{Folded}
use Rattle.tables.specs.Last.{chosen_place}
use Rattle.tables.specs.Parts.{RuleIn}
use Rattle.tables.specs.declared.part.Part.{Part}
use Rattle.walks.specs.Walk.{changed_by, ReadyIn, SomeRule}
use Rattle.literals.specs.declared.change.Change.TheVariants.{Same}
use Rattle.steps.specs.There.{most_made, In}
use Rattle.steps.specs.Making.{new_of, Makeable, Making, SomeMaking, Around, SomeAround, Bare, SomeBare}
use Rattle.steps.specs.declared.made.Step.{Step}
use Rattle.steps.proofs.ReplaceLaws.{put_in, ChosenIn, AtRoot, root_chosen}
use Rattle.steps.proofs.ThereLaws.{same_ready, same_gives}

-- ---- a call

-- what the walk is called with: a part of a table, the number of the chosen quantifier, the step, and the bytes that
-- the rule is built in, with the state that they are in
pub record Call : Type 0 where
  pub part : Part
  pub chosen : ℕ
  pub step : Step
  pub out : List ℕ
  pub state : State

abbrev pub call : Part → ℕ → Step → List ℕ → State → Call
call p n s l b = record { part = p; chosen = n; step = s; out = l; state = b }

-- the call on a part of the rule, where the bytes l are left in the state b
abbrev pub call_on : Call → Part → List ℕ → State → Call
call_on c p l b = record { part = p; chosen = c.chosen; step = c.step; out = l; state = b }

module _ (c : Call) where
  abbrev pub AroundFor : Rule → Quantifier → ℕ → Rule → List Node → Type 0
  AroundFor r q x a ds = In Around c.part c.chosen c.step (words c.out) c.state r q x a ds

  abbrev pub SomeAroundFor : Type 0
  SomeAroundFor = In SomeAround c.part c.chosen c.step (words c.out) c.state

  abbrev pub BareFor : Rule → Type 0
  BareFor r = Bare c.part.node c.chosen r

  abbrev pub SomeBareFor : Type 0
  SomeBareFor = In SomeBare c.part c.chosen c.step (words c.out) c.state

  abbrev pub ReadyFor : Rule → List Node → Type 0
  ReadyFor r ds = ReadyIn c.part Same (words c.out) c.state r ds

  abbrev pub SomeReadyFor : Type 0
  SomeReadyFor = SomeRule ReadyFor

  -- the step's new rule, and the rule r folded with it in the place of the chosen quantifier, or as it is
  abbrev pub new_for : ℕ → Rule → Rule
  new_for x a = new_of c.step x a

  abbrev pub made : Bool → ℕ → Rule → Rule → Rule
  made d x a r = fold (put_in d (new_for x a) r)

  -- what is promised, where the walk leaves the bytes l and answers f
  abbrev pub Rebuilds : List ℕ → Folded → Type 0
  Rebuilds l f = (r : Rule) (q : Quantifier) (x : ℕ) (a : Rule) (ds : List Node) → AroundFor r q x a ds
      → Gives (words l) c.state ds (made true x a r) f

  abbrev pub RebuildsBare : List ℕ → Folded → Type 0
  RebuildsBare l f = (r : Rule) (q : Quantifier) (x : ℕ) (a : Rule) (ds : List Node) → AroundFor r q x a ds
      → BareFor r → Gives (words l) c.state ds (made true x a r) f

  -- the same of the walk that folds
  abbrev pub Folds : List ℕ → Folded → Type 0
  Folds l f = (r : Rule) (ds : List Node) → ReadyFor r ds → Gives (words l) c.state ds (fold (changed_by Same r)) f

abbrev pub some_around : (c : Call) {r : Rule} {q : Quantifier} {x : ℕ} {a : Rule} {ds : List Node}
    → AroundFor c r q x a ds → SomeAroundFor c
some_around c {r} {q} {x} {a} {ds} known =
    record { rule = r; quantifier = q; setting = x; body = a; tail = ds; around = known }

-- ---- a part of the rule

-- what both walks over it ask
pub record PartFor (c : Call) (r : Rule) (ds : List Node) : Type 0 where
  pub there : RuleIn c.part r
  pub built : Built (words c.out) c.state ds
  pub room : length (words c.out) ≤ most_words

-- it is folded as it is
module _ {c : Call} {r : Rule} {ds : List Node} (part : PartFor c r ds) (small : total ds + weight r + 1 < most_counted)
  where
    pub part_ready : ReadyFor c r ds
    part_ready = same_ready part.there part.built small part.room

    pub part_folds : (l : List ℕ) (f : Folded) → Folds c l f → Gives (words l) c.state ds (fold r) f
    part_folds l f walk = same_gives part.there part.built small part.room (words l) f walk

-- the words behind the chosen quantifier's, from a part that starts w words further
behind_part : (ws : List ℤ) (w i m : ℕ) → m ≡ w + i → drop (m + 2) ws ≡ drop (i + 2) (drop w ws)
behind_part ws w i m e =
    let far : m + 2 ≡ w + (i + 2) = omega (arith, e) in
    ap (λ (n : ℕ). drop n ws) far ∙ sym (drop-drop (i + 2) w ws)

-- it has the quantifier
pub around_part : (c : Call) (p : Part) (l : List ℕ) (b : State) {r s : Rule} {q : Quantifier} {x : ℕ} {a : Rule}
    {ds es : List Node} (i w : ℕ) → ChosenIn r s i w → p.node ≡ c.part.node + i
    → words p.bodies.now ≡ drop w (words c.part.bodies.now) → AroundFor c r q x a ds
    → PartFor (call_on c p l b) s es → total es + weight s + most_made < most_counted
    → AroundFor (call_on c p l b) s q x a es
around_part c p l b {r} {s} {x = x} {a = a} i w inside node_is bodies_are known part small =
    let behind = behind_part (words c.part.bodies.now) w (chosen_place s) (chosen_place r) inside.place in
    let bodies = ap (λ (ws : List ℤ). drop (chosen_place s + 2) ws) (sym bodies_are) in
    record {
      there = part.there;
      at = sym inside.same ∙ known.at;
      number_is = omega (arith, known.number_is, inside.number, node_is);
      makeable = subst (λ (bs : List ℤ). Makeable c.step bs x a) (behind ∙ bodies) known.makeable;
      built = part.built;
      small = small;
      room = part.room;
    }

-- ---- the chosen quantifier itself

module _ (c : Call) (here : c.part.node ≡ c.chosen) where
  root_for : {r : Rule} {q : Quantifier} {x : ℕ} {a : Rule} {ds : List Node} → AroundFor c r q x a ds → AtRoot q x a r
  root_for {r} known = root_chosen r known.at (omega (arith, here, known.number_is))

  making : {r : Rule} {q : Quantifier} {x : ℕ} {a : Rule} {ds : List Node} → AroundFor c r q x a ds
      → In Making c.part c.step (words c.out) c.state q x a ds
  making {r} {q} {x} {a} known =
      let root = root_for known in
      record {
        there = subst (RuleIn c.part) root.is known.there;
        free = root.free;
        makeable = subst (λ (i : ℕ). Makeable c.step (drop (i + 2) (words c.part.bodies.now)) x a)
            root.place known.makeable;
        on = record { built = known.built; small = omega (arith, known.small); room = known.room };
      }

  pub made_asks : SomeBareFor c → In SomeMaking c.part c.step (words c.out) c.state
  made_asks bare =
      let some = bare.some in
      record {
        quantifier = some.quantifier;
        setting = some.setting;
        body = some.body;
        tail = some.tail;
        making = making some.around;
      }

  pub made_gives : (l : List ℕ) (f : Folded)
      → ((q : Quantifier) (x : ℕ) (a : Rule) (ds : List Node)
      → In Making c.part c.step (words c.out) c.state q x a ds → Gives (words l) c.state ds (fold (new_for c x a)) f)
      → RebuildsBare c l f
  made_gives l f promise r q x a ds known bare =
      subst (λ (s : Rule). Gives (words l) c.state ds (fold s) f) (sym ((root_for known).replaced (new_for c x a)))
      (promise q x a ds (making known))
