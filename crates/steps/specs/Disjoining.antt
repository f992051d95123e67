-- What step 3 asks for: a body stands there with its lower bounds, and its disjuncts can be put.
-- Assumes nothing.
use Rattle.std.specs.Prelude.{◌≡◌, not, List, [], ◌++◌, ℕ, suc, ◌+◌, ◌-◌, ◌<◌, ◌≤◌, T, ℤ, length, get_or}
use Rattle.rules.specs.Sum.{Sum}
use Rattle.rules.specs.Rule.{Rule, False}
use Rattle.rules.specs.Table.{Node, most_words}
use Rattle.rules.specs.Fold.{fold}
use Rattle.rules.specs.Literals.{some_literal}
use Rattle.rules.specs.Steps.{bounds, for_each, disjuncts, disjunction}
use Rattle.rules.specs.Eliminate.{over_limit, most_period}
use Rattle.rules.proofs.Sizes.{weight, total}
use Rattle.rules.proofs.Disjuncts.{fold_any, fars, nears}
use Rattle.builder.specs.Built.{most_counted}
use Rattle.builder.specs.declared.push.State.{State}
use Rattle.folding.specs.Answers.{Gives}
use Rattle.folding.specs.declared.answers.Folded.{Folded}
use Rattle.bodies.specs.Body.{BoundsAt}
use Rattle.literals.specs.Changes.{Change, InRange, Usable}
use Rattle.walks.specs.Walk.{changed}
use Rattle.judging.specs.Judging.{bit}
use Rattle.tables.specs.Standing.{RuleAt}
use Rattle.steps.specs.There.{most_made, BuildsOn}
use Rattle.steps.specs.Blocks.{far_at, full_at, FalseWhere, FalseAtBounds}

-- ---- one disjunct: the rules l are answered, and the body a, changed, is to be put in front of them

module _ (es bs : List ℤ) (n p : ℕ) (c : Change) (u : Sum) (ws : List ℤ) (b : State) where
  pub record Disjunct (a : Rule) (l : List Rule) (ds : List Node) (so_far : Folded) : Type 0 where
    pub there : RuleAt es bs n p a
    pub usable : Usable c u
    pub numbers : T (not (some_literal over_limit (changed c u a)))
    pub counted : (b.used ≡ total ds) × (b.nodes ≡ length ds)
    pub gives : Gives ws b ds (fold_any l) so_far
    pub small : total ds + weight (fold_any l) + weight a + 2 < most_counted
    pub room : length ws ≤ most_words

  pub record SomeDisjunct (so_far : Folded) : Type 0 where
    pub rule : Rule
    pub others : List Rule
    pub tail : List Node
    pub disjunct : Disjunct rule others tail so_far

-- ---- the disjuncts of the body a, which stands there and has the setting x

-- a block: the j's over low, up to high
pub record Block (low high P : ℕ) : Type 0 where
  pub some : low ≤ high
  pub short : high ≤ low + 64
  pub upto : high ≤ P

module _ (es bs : List ℤ) (n p x : ℕ) where
  -- they can be made
  pub record Disjoinable (P : ℕ) (a : Rule) : Type 0 where
    pub there : RuleAt es bs n p a
    pub setting : InRange x
    pub period_fits : (1 ≤ P) × (P ≤ most_period)
    pub few_bounds : length (bounds x a) ≤ 1365
    pub numbers : T (not (some_literal over_limit (disjunction P x a)))

  pub record Disjoining (P : ℕ) (places : List ℕ) (ws : List ℤ) (b : State) (a : Rule) (ds : List Node)
      : Type 0 where
    pub of : Disjoinable P a
    pub bounds_at : BoundsAt bs x places (length places) (bounds x a)
    pub on : BuildsOn ws b ds

  pub record SomeDisjoining (P : ℕ) (places : List ℕ) (ws : List ℤ) (b : State) : Type 0 where
    pub rule : Rule
    pub tail : List Node
    pub disjoining : Disjoining P places ws b rule tail

  -- on the way: the last disjuncts l are answered, those before them are to come
  pub record Disjoined (P : ℕ) (ws : List ℤ) (b : State) (a : Rule) (before l : List Rule) (ds : List Node)
      (so_far : Folded) : Type 0 where
    pub of : Disjoinable P a
    pub all : disjuncts P x a ≡ before ++ l
    pub counted : (b.used ≡ total ds) × (b.nodes ≡ length ds)
    pub gives : Gives ws b ds (fold_any l) so_far
    pub small : total ds + most_made < most_counted
    pub room : length ws ≤ most_words

  -- the full bodies at x = b+j, one for each bound b, come next; bit m of the masks is for this j
  pub record AtBounds (j m : ℕ) (places masks : List ℕ) (ws : List ℤ) (b : State) (P : ℕ) (a : Rule)
      (before l : List Rule) (ds : List Node) (so_far : Folded) : Type 0 where
    pub disjoined : Disjoined P ws b a (before ++ nears x a j) l ds so_far
    pub bounds_at : BoundsAt bs x places (length places) (bounds x a)
    pub upto : j ≤ P
    pub judged : (m < 64) × (length masks ≡ length places)
    pub falses : (i : ℕ) → i < length places → bit (get_or masks i 0) m ≡ 1 → fold
        (full_at x a (get_or (bounds x a) i []) j) ≡ False

  pub record SomeAtBounds (j m : ℕ) (places masks : List ℕ) (ws : List ℤ) (b : State) (so_far : Folded)
      : Type 0 where
    pub period : ℕ
    pub rule : Rule
    pub before : List Rule
    pub others : List Rule
    pub tail : List Node
    pub at_bounds : AtBounds j m places masks ws b period rule before others tail so_far

  -- of the disjuncts that F makes of each j, those of the j's over this one are answered, in front of l
  abbrev pub FromJ : (P : ℕ) (b : State) (a : Rule) (first : List Rule) (F : ℕ → List Rule) (l : List Rule)
      (ds : List Node) (ws : List ℤ) (j : ℕ) (f : Folded) → Type 0
  FromJ P b a first F l ds ws j f =
      Disjoined P ws b a (first ++ for_each 1 j F) (for_each (suc j) (P - j) F ++ l) ds f

  -- the full bodies of the j's over this one are answered
  abbrev pub FullFrom : (P : ℕ) (ws : List ℤ) (b : State) (a : Rule) (ds : List Node) (j : ℕ) (f : Folded) → Type 0
  FullFrom P ws b a ds j f = FromJ P b a (for_each 1 P (fars x a)) (nears x a) [] ds ws j f

  -- those of a block come next
  pub record FullBlock (low high : ℕ) (places masks : List ℕ) (ws : List ℤ) (b : State) (P : ℕ) (a : Rule)
      (ds : List Node) (so_far : Folded) : Type 0 where
    pub from : FullFrom P ws b a ds high so_far
    pub block : Block low high P
    pub bounds_at : BoundsAt bs x places (length places) (bounds x a)
    pub long : length masks ≡ length places
    pub falses : FalseAtBounds masks x (low + 1) (length places) a

  pub record SomeFullBlock (low high : ℕ) (places masks : List ℕ) (ws : List ℤ) (b : State) (so_far : Folded)
      : Type 0 where
    pub period : ℕ
    pub rule : Rule
    pub tail : List Node
    pub full_block : FullBlock low high places masks ws b period rule tail so_far

  -- only the far-left bodies are to come
  abbrev pub FarToCome : (P : ℕ) (ws : List ℤ) (b : State) (a : Rule) (l : List Rule) (ds : List Node) (so_far : Folded)
      → Type 0
  FarToCome P ws b a l ds so_far = Disjoined P ws b a (for_each 1 P (fars x a)) l ds so_far

  pub record SomeFarToCome (P : ℕ) (ws : List ℤ) (b : State) (so_far : Folded) : Type 0 where
    pub rule : Rule
    pub others : List Rule
    pub tail : List Node
    pub to_come : FarToCome P ws b rule others tail so_far

  -- those of the j's over this one are answered
  abbrev pub FarFrom : (P : ℕ) (ws : List ℤ) (b : State) (a : Rule) (l : List Rule) (ds : List Node) (j : ℕ)
      (f : Folded) → Type 0
  FarFrom P ws b a l ds j f = FromJ P b a [] (fars x a) l ds ws j f

  -- those of a block come next
  pub record FarBlock (low high mask : ℕ) (ws : List ℤ) (b : State) (P : ℕ) (a : Rule) (l : List Rule) (ds : List Node)
      (so_far : Folded) : Type 0 where
    pub from : FarFrom P ws b a l ds high so_far
    pub block : Block low high P
    pub falses : FalseWhere mask (low + 1) (far_at x a)

  pub record SomeFarBlock (low high mask : ℕ) (ws : List ℤ) (b : State) (so_far : Folded) : Type 0 where
    pub period : ℕ
    pub rule : Rule
    pub others : List Rule
    pub tail : List Node
    pub far_block : FarBlock low high mask ws b period rule others tail so_far
