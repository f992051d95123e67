-- What a step puts in the place of the chosen quantifier, and what building that asks for.
-- Assumes nothing.
use Rattle.std.specs.Prelude.{◌≡◌, true, false, not, ◌⊎◌, List, ℕ, ◌+◌, ◌<◌, ◌≤◌, T, ℤ, length, drop}
use Rattle.rules.specs.Rule.{Quantifier, Rule, Constant, Bind, Some}
use Rattle.rules.specs.Table.{Node, most_words}
use Rattle.rules.specs.Fold.{fold}
use Rattle.rules.specs.Literals.{some_literal}
use Rattle.rules.specs.Chosen.{the, chosen}
use Rattle.rules.specs.Steps.{by_some, normal, scaled, bounds, disjunction}
use Rattle.rules.specs.Eliminate.{over_limit, most_period}
use Rattle.rules.specs.Laws.{QuantifierFree}
use Rattle.rules.proofs.Sizes.{weight, total}
use Rattle.builder.specs.Built.{Built, most_counted}
use Rattle.builder.specs.declared.push.State.{State}
use Rattle.tables.specs.Last.{chosen_number, chosen_place}
use Rattle.bodies.specs.Body.{BoundsAt}
use Rattle.literals.specs.Changes.{InRange}
use Rattle.walks.specs.Chain.{unary}
use Rattle.tables.specs.Standing.{RuleAt}
use Rattle.steps.specs.There.{most_made, BuildsOn}
use Rattle.steps.specs.declared.made.Step.{Step}
use Rattle.steps.specs.declared.made.Step.TheVariants.{ForAll, NormalForm, CommonFactor, Disjunction, Truth}

-- the new rule for the chosen quantifier with setting x and body a
unfoldable pub new_of : Step → ℕ → Rule → Rule
unfolding normal scaled disjunction
new_of ForAll x a = by_some x a
new_of NormalForm x a = Some x (normal true x a)
new_of (CommonFactor D) x a = Some x (scaled D x a)
new_of (Disjunction P places) x a = disjunction P x a
new_of (Truth v) x a = Constant v

-- the step's own numbers: D and P are not refused, and the bounds of the body, whose bodies are bs, are in their places
unfoldable pub FairStep : Step → List ℤ → ℕ → Rule → Type 0
FairStep ForAll bs x a = Unit {0}
FairStep NormalForm bs x a = Unit {0}
FairStep (CommonFactor D) bs x a = (1 ≤ D) × (D ≤ most_period)
FairStep (Disjunction P places) bs x a =
    (1 ≤ P) × (P ≤ most_period) × (length places.now ≤ 1365)
    × BoundsAt bs x places.now (length places.now) (bounds x a)
FairStep (Truth v) bs x a = Unit {0}

-- the new rule can be built: no number of it passes the limit, and its words can be counted
pub record Makeable (step : Step) (bs : List ℤ) (x : ℕ) (a : Rule) : Type 0 where
  pub fair : FairStep step bs x a
  pub numbers : T (not (some_literal over_limit (new_of step x a)))
  pub light : weight (fold (new_of step x a)) ≤ most_made

-- ---- of the quantifier, which starts the entries es and the bodies bs

module _ (es bs : List ℤ) (n p : ℕ) (step : Step) (ws : List ℤ) (b : State) where
  pub record Making (q : Quantifier) (x : ℕ) (a : Rule) (ds : List Node) : Type 0 where
    pub there : RuleAt es bs n p (Bind q x a)
    pub free : QuantifierFree a
    pub makeable : Makeable step (drop 2 bs) x a
    pub on : BuildsOn ws b ds

  pub record SomeMaking : Type 0 where
    pub quantifier : Quantifier
    pub setting : ℕ
    pub body : Rule
    pub tail : List Node
    pub making : Making quantifier setting body tail

-- ---- of its body a alone, with the setting x

module _ (es bs : List ℤ) (n p : ℕ) (step : Step) (x : ℕ) (ws : List ℤ) (b : State) where
  pub record BodyMaking (a : Rule) (ds : List Node) : Type 0 where
    pub there : RuleAt es bs n p a
    pub free : QuantifierFree a
    pub setting : InRange x
    pub numbers : T (not (some_literal over_limit (new_of step x a)))
    pub on : BuildsOn ws b ds

  pub record SomeBodyMaking : Type 0 where
    pub rule : Rule
    pub tail : List Node
    pub making : BodyMaking rule tail

  -- and the step's own numbers are fair
  pub record FairMaking (a : Rule) (ds : List Node) : Type 0 where
    pub making : BodyMaking a ds
    pub fair : FairStep step bs x a

  pub record SomeFairMaking : Type 0 where
    pub rule : Rule
    pub tail : List Node
    pub fair_making : FairMaking rule tail

-- ---- of what stands around it: it is node c

module _ (es bs : List ℤ) (n p c : ℕ) (step : Step) (ws : List ℤ) (b : State) where
  -- the rule r stands there, and its chosen quantifier is that node
  pub record Around (r : Rule) (q : Quantifier) (x : ℕ) (a : Rule) (ds : List Node) : Type 0 where
    pub there : RuleAt es bs n p r
    pub at : chosen r ≡ the q x a
    pub number_is : c ≡ n + chosen_number r
    pub makeable : Makeable step (drop (chosen_place r + 2) bs) x a
    pub built : Built ws b ds
    pub small : total ds + weight r + most_made < most_counted
    pub room : length ws ≤ most_words

  pub record SomeAround : Type 0 where
    pub rule : Rule
    pub quantifier : Quantifier
    pub setting : ℕ
    pub body : Rule
    pub tail : List Node
    pub around : Around rule quantifier setting body tail

-- the rule is the chosen quantifier, or neither a not nor a quantifier
abbrev pub Bare : ℕ → ℕ → Rule → Type 0
Bare n c r = (n ≡ c) ⊎ (unary r ≡ false)

pub record SomeBare (es bs : List ℤ) (n p c : ℕ) (step : Step) (ws : List ℤ)
    (b : State) : Type 0 where
  pub some : SomeAround es bs n p c step ws b
  pub bare : Bare n c some.rule
