-- What a survey of the disjuncts says of the disjunction, folded: it is true, or false, or open and long.
-- Assumes nothing.
use mathlib.Core.Path.{◌≡◌, refl, sym, ◌∙◌, ap, subst}
use mathlib.Core.Bool.{true, false}
use mathlib.Core.List.{List, [], ◌∷◌}
use Prim.Native.Nat.{ℕ, zero, suc, ◌+◌, ◌-◌, ◌*◌, ◌<◌, ◌≤◌}
use native.Mathlib.Omega.{arith}
use Rattle.rules.specs.Rule.{or, Rule, Constant, Join, Not, Literal, Bind, True, False}
use Rattle.rules.specs.Table.{count}
use Rattle.rules.specs.Fold.{side, fold_sides, fold_join, fold}
use Rattle.rules.proofs.Sizes.{count_pos, weight, weight_pos}
use Rattle.rules.proofs.Folding.{Open, join_open}
use Rattle.rules.proofs.Disjuncts.{fold_any, true_beats}
use Rattle.judging.specs.Judging.{settled_as}
use Rattle.steps.specs.Surveying.{folds_true, stays_open, tally, Tells, Surveyed}
use Rattle.std.specs.Prelude.{Some, None}

-- ---- one folds to true

some_true : (l : List Rule) → 0 < tally folds_true l → fold_any l ≡ True
unfolding tally fold_any settled_as fold_join side fold_sides
some_true [] some = absurd (omega (arith, some))
some_true (d ∷ l) some = by (fold d) refl some (some_true l)
  where
    by : (f : Rule) → fold d ≡ f → 0 < settled_as true f + tally folds_true l
        → (0 < tally folds_true l → fold_any l ≡ True) → fold_any (d ∷ l) ≡ True
    by (Constant true) e some rest = ap (λ (f : Rule). fold_join or f (fold_any l)) e
    by (Constant false) e some rest = true_beats (d ∷ []) l (rest (omega (arith, some)))
    by (Join j a b) e some rest = true_beats (d ∷ []) l (rest (omega (arith, some)))
    by (Not a) e some rest = true_beats (d ∷ []) l (rest (omega (arith, some)))
    by (Literal t s) e some rest = true_beats (d ∷ []) l (rest (omega (arith, some)))
    by (Bind q v a) e some rest = true_beats (d ∷ []) l (rest (omega (arith, some)))

pub folds_to_true : (l : List Rule) → Surveyed l None → fold_any l ≡ True
unfolding Tells
folds_to_true l seen = some_true l seen.tells

-- ---- none does, and n stay open: with none it is false. Each has an entry and a word at least, and each or but the
-- last an entry and two words

Folds : ℕ → Rule → Type 0
Folds zero f = f ≡ False
Folds (suc n) f = Open f × (5 * suc n ≤ 3 + count f + weight f)

join_none : (f : Rule) → Open f → fold_join or f False ≡ f
unfolding fold_join side fold_sides
join_none (Constant b) stays = absurd stays
join_none (Join j a b) stays = refl
join_none (Not a) stays = refl
join_none (Literal t s) stays = refl
join_none (Bind q v a) stays = refl

one_open : (f g : Rule) (n : ℕ) → Open f → Folds n g → Folds (suc n) (fold_join or f g)
unfolding Folds count weight
one_open f g zero stays rest =
    let alone = ap (fold_join or f) rest ∙ join_none f stays in
    subst (Folds 1) (sym alone) (stays, omega (arith, count_pos f, weight_pos f))
one_open f g (suc n) stays rest = subst (Folds (suc (suc n))) (sym (join_open or f g stays rest.0))
    (tt, omega (arith, count_pos f, weight_pos f, rest.1))

counted_open : (f g : Rule) (n m : ℕ) → m ≡ 1 + n → Open f → Folds n g → Folds m (fold_join or f g)
counted_open f g n m is stays rest =
    let same : suc n ≡ m = omega (arith, is) in
    subst (λ (i : ℕ). Folds i (fold_join or f g)) same (one_open f g n stays rest)

one_more : (f g : Rule) (n m : ℕ) → settled_as true f ≡ 0 → m ≡ 1 - settled_as true f - settled_as false f + n
    → Folds n g → Folds m (fold_join or f g)
unfolding settled_as fold_join side fold_sides
one_more (Constant true) g n m e is rest = absurd (omega (arith, e))
one_more (Constant false) g n m e is rest =
    let same : n ≡ m = omega (arith, is) in subst (λ (i : ℕ). Folds i g) same rest
one_more (Join j a b) g n m e is rest = counted_open (Join j a b) g n m is tt rest
one_more (Not a) g n m e is rest = counted_open (Not a) g n m is tt rest
one_more (Literal t s) g n m e is rest = counted_open (Literal t s) g n m is tt rest
one_more (Bind q v a) g n m e is rest = counted_open (Bind q v a) g n m is tt rest

folds : (l : List Rule) → tally folds_true l ≡ 0 → Folds (tally stays_open l) (fold_any l)
unfolding tally fold_any
folds [] e = unfold Folds in refl
folds (d ∷ l) e =
    one_more (fold d) (fold_any l) (tally stays_open l) _ (omega (arith, e)) refl (folds l (omega (arith, e)))

module _ (l : List Rule) {n : ℕ} (seen : Surveyed l (Some n)) where
  as_many : Folds n (fold_any l)
  unfolding Tells
  as_many = subst (λ (m : ℕ). Folds m (fold_any l)) (sym seen.tells.1) (folds l seen.tells.0)

  pub folds_to_false : n ≡ 0 → fold_any l ≡ False
  unfolding Folds
  folds_to_false e = subst (λ (m : ℕ). Folds m (fold_any l)) e as_many

  pub folds_long : 0 < n → Open (fold_any l) × (5 * n ≤ 3 + count (fold_any l) + weight (fold_any l))
  unfolding Folds
  folds_long some =
      let one : n ≡ suc (n - 1) = omega arith in
      let (stays, long) = subst (λ (m : ℕ). Folds m (fold_any l)) one as_many in
      (stays, omega (arith, long))
