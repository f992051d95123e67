-- How many of some rules fold to true, and how many stay open.
-- Assumes nothing.
use Rattle.std.specs.Prelude.{◌≡◌, true, false, List, [], ◌∷◌, ℕ, ◌+◌, ◌-◌, ◌<◌, Option, Some, None}
use Rattle.rules.specs.Rule.{Rule}
use Rattle.rules.specs.Fold.{fold}
use Rattle.judging.specs.Judging.{settled_as}

-- 1 where the rule folds to true, and where it stays open, else 0
abbrev pub folds_true : Rule → ℕ
folds_true d = settled_as true (fold d)

abbrev pub stays_open : Rule → ℕ
stays_open d = 1 - settled_as true (fold d) - settled_as false (fold d)

-- what f counts of each, added up
unfoldable pub tally : (Rule → ℕ) → List Rule → ℕ
tally f [] = 0
tally f (d ∷ l) = f d + tally f l

-- what a survey tells of these two counts, and of some rules: one folds to true, or none does, and so many stay open
unfoldable pub Tells : ℕ → ℕ → Option ℕ → Type 0
Tells trues opens None = 0 < trues
Tells trues opens (Some n) = (trues ≡ 0) × (n ≡ opens)

pub record Surveyed (l : List Rule) (s : Option ℕ) : Type 0 where
  pub tells : Tells (tally folds_true l) (tally stays_open l) s
