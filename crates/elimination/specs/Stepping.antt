-- A step table in a lent buffer: what a step asks for, and what it leaves.
-- Assumes nothing.
use Rattle.std.specs.Prelude.{◌≡◌, Bool, true, false, List, [], ◌⊎◌, ℕ, ◌+◌, ◌<◌, ◌≤◌, leb, ℤ, length, drop}
use Rattle.std.specs.Prelude.{⊤, Option, Some, None, Ok, Err}
use Rattle.std.specs.declared.result.Result as answered
use Rattle.rules.specs.Rule.{Quantifier, for_some, for_all, Rule, Constant}
use Rattle.rules.specs.Result.{Result, refused, given, ◌>>=◌, require}
use Rattle.rules.specs.Table.{most_words, count, size}
use Rattle.rules.specs.Fold.{fold}
use Rattle.rules.specs.Chosen.{the, nothing, chosen}
use Rattle.rules.specs.Steps.{disjunction}
use Rattle.rules.specs.Eliminate.{normal_step, common_step, disjunction_step}
use Rattle.rules.specs.Laws.{Each, WellFormed}
use Rattle.rules.proofs.Sizes.{weight}
use Rattle.rules.proofs.Folding.{Open, Folded}
use Rattle.rules.proofs.Shapes.{Shape}
use Rattle.tables.specs.Standing.{TableAt}
use Rattle.tables.specs.Parts.{RuleIn, PartOf}
use Rattle.tables.specs.declared.part.Part.{Part}
use Rattle.rules.specs.Calls.{words, rule_of}
use Rattle.builder.specs.Built.{most_counted}
use Rattle.builder.specs.declared.push.State.{State}
use Rattle.folding.specs.Answers.{Gives}
use Rattle.folding.specs.declared.answers.Folded as answer
use Rattle.tables.specs.Last.{chosen_number, chosen_place}
use Rattle.tables.specs.Refusals.{number_of}
use Rattle.tables.specs.declared.refusal.Refusal.{Refusal}
use Rattle.tables.specs.declared.refusal.Refusal.TheVariants.{Room}
use Rattle.steps.specs.Making.{new_of, Makeable}
use Rattle.elimination.specs.declared.locate.Quantified.{Quantified}
use Rattle.steps.specs.declared.made.Step.{Step}
use Rattle.steps.specs.declared.made.Step.TheVariants.{Truth}

-- ---- a table

pub record HasTable (ts : List ℤ) (r : Rule) : Type 0 where
  pub table : TableAt ts r
  pub formed : WellFormed r
  pub few : length ts ≤ most_words

pub record SomeTable (ts : List ℤ) : Type 0 where
  pub rule : Rule
  pub has : HasTable ts rule

-- the bytes pass the check
pub record SomeChecked (bytes : List ℕ) : Type 0 where
  pub rule : Rule
  pub decodes : rule_of bytes ≡ given rule

-- its rule is the part q
pub record WholeIn (ts : List ℤ) (r : Rule) (q : Part) : Type 0 where
  pub at : RuleIn q r
  pub part : PartOf ts 0 (count r + 1) q

-- ---- the chosen quantifier in it

-- it is node i at place p
pub record ChosenIn (ts : List ℤ) (r : Rule) (q : Quantifier) (x : ℕ) (a : Rule) (i p : ℕ) : Type 0 where
  pub has : HasTable ts r
  pub at : chosen r ≡ the q x a
  pub number_is : i ≡ chosen_number r
  pub place_is : p ≡ count r + 1 + chosen_place r

pub record SomeChosen (ts : List ℤ) (i p : ℕ) : Type 0 where
  pub rule : Rule
  pub quantifier : Quantifier
  pub setting : ℕ
  pub body : Rule
  pub there : ChosenIn ts rule quantifier setting body i p

-- the body a of the one at place p is the part q
pub record BodyIn (ts : List ℤ) (p : ℕ) (a : Rule) (q : Part) : Type 0 where
  pub at : RuleIn q a
  pub bodies_are : words q.bodies.now ≡ drop (p + 2) ts

unfoldable pub is_some : Quantifier → Bool
is_some for_some = true
is_some for_all = false

-- its number, its place, its setting, and how many words its body has
pub record Locates (r : Rule) (c : Quantified) : Type 0 where
  pub quantifier : Quantifier
  pub body : Rule
  pub at : chosen r ≡ the quantifier c.setting body
  pub number_is : c.node ≡ chosen_number r
  pub place_is : c.place ≡ count r + 1 + chosen_place r
  pub quantifier_is : c.some ≡ is_some quantifier
  pub end_is : c.end ≡ weight body

unfoldable pub LocatedIn : Rule → Option Quantified → Type 0
LocatedIn r None = chosen r ≡ nothing
LocatedIn r (Some c) = Locates r c

-- ---- a step

-- the table of the rule r, which is folded throughout, is in ts, and both buffers have exactly the room
pub record StepReady (ts ws : List ℤ) (room : ℕ) (r : Rule) : Type 0 where
  pub has : HasTable ts r
  pub folded : Folded r
  pub fits : size r ≤ room
  pub table_room : length ts ≡ room
  pub work_room : length ws ≡ room

pub record SomeStepReady (ts ws : List ℤ) (room : ℕ) : Type 0 where
  pub rule : Rule
  pub ready : StepReady ts ws room rule

-- and c says where its chosen quantifier is
pub record SomeStepLocated (ts ws : List ℤ) (room : ℕ) (c : Quantified) : Type 0 where
  pub rule : Rule
  pub ready : StepReady ts ws room rule
  pub locates : Locates rule c

-- a step answers nothing, or its refusal
abbrev pub Answer : Type 0
Answer = answered.Result ⊤ Refusal

-- what the step refuses with, by its number, or else its table
unfoldable pub Stepped : Result Rule → Answer → List ℤ → Type 0
Stepped m (Ok u) ts = (f : Rule) × (m ≡ given f) × TableAt ts f
Stepped m (Err e) ts = m ≡ refused (number_of e)

-- "Then:" the numbered steps 1 to 3
unfoldable pub numbered : ℕ → Rule → Result Rule
unfolding normal_step common_step disjunction_step ◌>>=◌
numbered room r = normal_step room r >>= common_step room >>= disjunction_step room

-- "size after folding (6)"
unfoldable pub sized : ℕ → Rule → Result Rule
unfolding ◌>>=◌ require size
sized room f = require (leb (size f) room) 6 >>= λ u. given f

-- the new rule that a step puts in the place of the chosen quantifier, which is node c, can be built
pub record Rebuilding (ts ws : List ℤ) (room c : ℕ) (step : Step) (r : Rule) (q : Quantifier) (x : ℕ) (a : Rule)
    : Type 0 where
  pub ready : StepReady ts ws room r
  pub at : chosen r ≡ the q x a
  pub number_is : c ≡ chosen_number r
  pub makeable : Makeable step (drop (count r + 1 + chosen_place r + 2) ts) x a
  pub shape : Each Shape (new_of step x a)

pub record SomeRebuilding (ts ws : List ℤ) (room c : ℕ) (step : Step) : Type 0 where
  pub rule : Rule
  pub quantifier : Quantifier
  pub setting : ℕ
  pub body : Rule
  pub rebuilding : Rebuilding ts ws room c step rule quantifier setting body

-- what step 3 comes to for the body a, with the period P: the disjunction has no room; or what makes it is made, or the
-- truth value that it folds to
unfoldable pub Planned : ℕ → ℕ → Step → ℕ → Rule → answered.Result Step Refusal → Type 0
unfolding count weight fold disjunction
Planned room P whole x a (Err e) =
    let f = fold (disjunction P x a) in
    (e ≡ Room) × Open f × (room ≤ count f + weight f)
Planned room P whole x a (Ok step) =
    (step ≡ whole) ⊎ ((v : Bool) × (step ≡ Truth v) × (fold (disjunction P x a) ≡ Constant v))

-- ---- what is built becomes the table

-- the state in which nothing is built
abbrev pub none_built : State
none_built = record { used = 0; nodes = 0 }

-- the table of the rule r is in ts, and the work buffer is no longer than a table
pub record Folding (ts ws : List ℤ) (r : Rule) : Type 0 where
  pub has : HasTable ts r
  pub most : length ws ≤ most_words

pub record SomeFolding (ts ws : List ℤ) : Type 0 where
  pub rule : Rule
  pub folding : Folding ts ws rule

-- the rule f is answered, where nothing was built before, and both buffers have exactly the room
pub record Closing (ts ws : List ℤ) (room : ℕ) (folded : answer.Folded) (f : Rule) : Type 0 where
  pub gives : Gives ws none_built [] f folded
  pub formed : WellFormed f
  pub light : weight f < most_counted
  pub table_room : length ts ≡ room
  pub work_room : length ws ≡ room
  pub most : room ≤ most_words

pub record SomeClosing (ts ws : List ℤ) (room : ℕ) (folded : answer.Folded) : Type 0 where
  pub rule : Rule
  pub closing : Closing ts ws room folded rule

-- ---- the first step table

pub record FirstReady (ts ws : List ℤ) (room : ℕ) : Type 0 where
  pub table_room : length ts ≡ room
  pub work_room : length ws ≡ room
  pub most : room ≤ most_words

-- the table of the rule r, not folded yet, is in ts, and both buffers have exactly the room
pub record InPlace (ts ws : List ℤ) (room : ℕ) (r : Rule) : Type 0 where
  pub has : HasTable ts r
  pub table_room : length ts ≡ room
  pub work_room : length ws ≡ room

pub record SomeInPlace (ts ws : List ℤ) (room : ℕ) : Type 0 where
  pub rule : Rule
  pub ready : InPlace ts ws room rule
