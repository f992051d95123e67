-- The rows of a survey: the far-left bodies, then the full bodies bound by bound. Together they are the disjuncts,
-- which go by j first.
-- Assumes nothing.
use mathlib.Core.Path.{◌≡◌, refl, sym, ◌∙◌, ap, subst}
use mathlib.Core.Bool.{true, false}
use mathlib.Core.List.{List, [], ◌∷◌, ◌++◌}
use Prim.Native.Nat.{ℕ, suc, ◌+◌, ◌<◌, ◌≤◌}
use native.Mathlib.Omega.{arith}
use lib.IntN.{ℤ, pos}
use lib.ListN.{length, get_or, take, drop, length-map, take-append-drop}
use lib.Seq.{take_all}
use Rattle.rules.specs.Sum.{Sum, add, number}
use Rattle.rules.specs.Rule.{Rule}
use Rattle.rules.specs.Steps.{bounds, body_at, for_each, disjuncts}
use Rattle.rules.specs.Eliminate.{most_period}
use Rattle.rules.proofs.Disjuncts.{length_for_each, fars, nears}
use Rattle.bodies.specs.Body.{BoundAt}
use Rattle.literals.specs.Changes.{InRange}
use Rattle.walks.specs.Walk.{changed}
use Rattle.judging.specs.Judging.{at_sum, Judging}
use Rattle.tables.specs.Standing.{RuleAt}
use Rattle.steps.specs.Blocks.{BodyBounds, SomeBodyBounds, full_at}
use Rattle.steps.specs.Surveying.{folds_true, stays_open, tally, Tells, Surveyed}
use Rattle.std.specs.Prelude.{Option, Some, None}
use Rattle.steps.proofs.ForEachLaws.{same_for_each, for_each_nothing}
use Rattle.steps.proofs.BlockLaws.{far_judging, far_same, full_judging, full_same, same_sum}
use Rattle.steps.proofs.BoundsLaws.{made_at}
use Rattle.steps.proofs.FarLaws.{far_one}
use Rattle.steps.proofs.SurveyLaws.{tally_append, tally_parts, true_first, seen_few}
use Rattle.steps.proofs.SurveyLaws.{each_of}

-- ---- one row

-- the same rules, written otherwise
same_row : (P : ℕ) (F G : ℕ → List Rule) (s : Option ℕ) → ((j : ℕ) → F j ≡ G j) → Surveyed (for_each 1 P F) s
    → Surveyed (for_each 1 P G) s
same_row P F G s same seen = subst (λ (l : List Rule). Surveyed l s) (same_for_each 1 P F G same) seen

module _ {es bs : List ℤ} {n p x P : ℕ} (s : Option ℕ) (upto : P ≤ most_period) (setting : InRange x) where
  pub far_row_seen : (u : Sum) → u ≡ number (pos 0)
      → ((a : Rule) → Judging es bs n p x u P a → Surveyed (for_each 1 P (each_of (λ j. at_sum true x u j a))) s)
      → (a : Rule) → RuleAt es bs n p a → Surveyed (for_each 1 P (fars x a)) s
  far_row_seen u is seen a there = same_row P (each_of (λ j. at_sum true x u j a)) (fars x a) s
      (λ j. ap (λ (r : Rule). r ∷ []) (far_same x u is j a) ∙ sym (far_one x a j))
      (seen a (far_judging upto setting u is there))

  pub full_row_seen : {q : ℕ} (bound : Sum) → BoundAt bs x q bound → (u : Sum) → u ≡ add bound (number (pos 0))
      → ((a : Rule) → Judging es bs n p x u P a → Surveyed (for_each 1 P (each_of (λ j. at_sum false x u j a))) s)
      → (a : Rule) → RuleAt es bs n p a → Surveyed (for_each 1 P (each_of (full_at x a bound))) s
  full_row_seen bound at u is seen a there =
      same_row P (each_of (λ j. at_sum false x u j a)) (each_of (full_at x a bound)) s
      (λ j. ap (λ (r : Rule). r ∷ []) (full_same x (same_sum bound at u is setting) j a))
      (seen a (full_judging upto setting bound at u is there))

-- ---- row by row

-- the disjuncts, but the full ones at the first i bounds alone
abbrev rows : ℕ → ℕ → Rule → ℕ → List Rule
rows P x a i = for_each 1 P (fars x a) ++ for_each 1 P (λ j. take i (nears x a j))

abbrev pub RowsSoFar : (es bs : List ℤ) (n p x P : ℕ) (places : List ℕ) (i many : ℕ) → Type 0
RowsSoFar es bs n p x P places i many =
    (a : Rule) → BodyBounds es bs n p x places a → Surveyed (rows P x a i) (Some many)

-- what is found of the row of a bound, whose literal is at place q
abbrev pub SeenRow : (es bs : List ℤ) (n p x P q : ℕ) (s : Option ℕ) → Type 0
SeenRow es bs n p x P q s = (a : Rule) (bound : Sum) → RuleAt es bs n p a → BoundAt bs x q bound
    → Surveyed (for_each 1 P (each_of (full_at x a bound))) s

-- no bound: nothing
no_bounds : (f : Rule → ℕ) (n : ℕ) → tally f (for_each 1 n (λ j. [])) ≡ 0
unfolding tally
no_bounds f n = ap (tally f) (for_each_nothing 1 n)

-- a bound more: its row more
next_row : (x : ℕ) (a : Rule) (i j : ℕ) → i < length (bounds x a)
    → (take (suc i) (nears x a j) ≡ take i (nears x a j) ++ (full_at x a (get_or (bounds x a) i []) j ∷ []))
unfolding changed body_at
next_row x a i j inside = (made_at (λ b. body_at x (add b (number (pos j))) a) [] (bounds x a) i inside).0

row_more : (f : Rule → ℕ) (P x : ℕ) (a : Rule) (i : ℕ) → i < length (bounds x a)
    → tally f (rows P x a (suc i))
    ≡ tally f (rows P x a i) + tally f (for_each 1 P (each_of (full_at x a (get_or (bounds x a) i []))))
row_more f P x a i inside =
    let F : ℕ → List Rule = λ j. take i (nears x a j) in
    let row = each_of (full_at x a (get_or (bounds x a) i [])) in
    omega (
      arith,
      tally_append f (for_each 1 P (fars x a)) (for_each 1 P (λ j. take (suc i) (nears x a j))),
      tally_append f (for_each 1 P (fars x a)) (for_each 1 P F),
      ap (tally f) (same_for_each 1 P (λ j. take (suc i) (nears x a j)) (λ j. F j ++ row j)
          (λ j. next_row x a i j inside)),
      tally_parts f 1 P F row,
    )

-- the rest of the rows
rows_after : (f : Rule → ℕ) (P x : ℕ) (a : Rule) (i : ℕ) → tally f (rows P x a i) ≤ tally f (disjuncts P x a)
unfolding disjuncts
rows_after f P x a i =
    let F : ℕ → List Rule = λ j. take i (nears x a j) in
    let G : ℕ → List Rule = λ j. drop i (nears x a j) in
    omega (
      arith,
      tally_append f (for_each 1 P (fars x a)) (for_each 1 P F),
      tally_append f (for_each 1 P (fars x a)) (for_each 1 P (nears x a)),
      ap (tally f) (same_for_each 1 P (λ j. F j ++ G j) (nears x a) (λ j. take-append-drop i (nears x a j))),
      tally_parts f 1 P F G,
    )

all_rows : (P x : ℕ) (a : Rule) (i : ℕ) → length (bounds x a) ≤ i → rows P x a i ≡ disjuncts P x a
unfolding disjuncts
all_rows P x a i enough = ap (λ (l : List Rule). for_each 1 P (fars x a) ++ l)
    (same_for_each 1 P (λ j. take i (nears x a j)) (nears x a) (λ j. take_all i (nears x a j) (no_more j)))
  where
    no_more : (j : ℕ) → length (nears x a j) ≤ i
    no_more j = omega (arith, enough, length-map (bounds x a) (λ b. body_at x (add b (number (pos j))) a))

module _ {es bs : List ℤ} {n p x : ℕ} (P : ℕ) {places : List ℕ} where
  -- the far-left row
  pub far_few : SomeBodyBounds es bs n p x places → {many : ℕ}
      → ((a : Rule) → RuleAt es bs n p a → Surveyed (for_each 1 P (fars x a)) (Some many)) → many ≤ P
  far_few some seen = omega (
    arith,
    seen_few (for_each 1 P (fars x some.rule)) (seen some.rule some.body.there),
    length_for_each 1 1 P (fars x some.rule) (λ j. refl),
  )

  pub first_row : {many : ℕ}
      → ((a : Rule) → RuleAt es bs n p a → Surveyed (for_each 1 P (fars x a)) (Some many))
      → RowsSoFar es bs n p x P places 0 many
  unfolding Tells
  first_row seen a body =
      let (none, opens) = (seen a body.there).tells in record {
        tells = (
          omega (
            arith,
            none,
            tally_append folds_true (for_each 1 P (fars x a)) (for_each 1 P (λ j. [])),
            no_bounds folds_true P,
          ),
          omega (
            arith,
            opens,
            tally_append stays_open (for_each 1 P (fars x a)) (for_each 1 P (λ j. [])),
            no_bounds stays_open P,
          ),
        );
      }

  pub far_true : ((a : Rule) → RuleAt es bs n p a → Surveyed (for_each 1 P (fars x a)) None)
      → (a : Rule) → BodyBounds es bs n p x places a → Surveyed (disjuncts P x a) None
  unfolding disjuncts
  far_true seen a body = true_first (for_each 1 P (fars x a)) (for_each 1 P (nears x a)) (seen a body.there)

  pub every_row : (i many : ℕ) → length places ≤ i → RowsSoFar es bs n p x P places i many → (a : Rule)
      → BodyBounds es bs n p x places a → Surveyed (disjuncts P x a) (Some many)
  every_row i many over done a body = subst (λ (l : List Rule). Surveyed l (Some many))
      (all_rows P x a i (omega (arith, over, body.bounds_at.as_many))) (done a body)

  -- the row of the next bound, bound i, whose literal is at place q
  module _ {i q : ℕ} (inside : i < length places) (is_place : q ≡ get_or places i 0) where
    row_seen : {s : Option ℕ} → SeenRow es bs n p x P q s → (a : Rule) → BodyBounds es bs n p x places a
        → Surveyed (for_each 1 P (each_of (full_at x a (get_or (bounds x a) i [])))) s
    row_seen seen a body =
        let bound = get_or (bounds x a) i [] in
        let at = subst (λ (r : ℕ). BoundAt bs x r bound) (sym is_place) (body.bounds_at.each i inside) in
        seen a bound body.there at

    pub row_few : SomeBodyBounds es bs n p x places → {more : ℕ} → SeenRow es bs n p x P q (Some more) → more ≤ P
    row_few some seen =
        let F = each_of (full_at x some.rule (get_or (bounds x some.rule) i [])) in
        omega (
          arith,
          seen_few (for_each 1 P F) (row_seen seen some.rule some.body),
          length_for_each 1 1 P F (λ j. refl),
        )

    pub one_row_more : {many more : ℕ} → SeenRow es bs n p x P q (Some more) → RowsSoFar es bs n p x P places i many
        → RowsSoFar es bs n p x P places (i + 1) (many + more)
    unfolding Tells
    one_row_more {many} {more} seen done a body =
        let short : i < length (bounds x a) = omega (arith, inside, body.bounds_at.as_many) in
        let next : suc i ≡ i + 1 = omega arith in
        let (none, opens) = (done a body).tells in
        let (none_there, opens_there) = (row_seen seen a body).tells in
        subst (λ (m : ℕ). Surveyed (rows P x a m) (Some (many + more))) next (record {
          tells = (
            omega (arith, none, none_there, row_more folds_true P x a i short),
            omega (arith, opens, opens_there, row_more stays_open P x a i short),
          );
        })

    pub row_true : SeenRow es bs n p x P q None → (a : Rule) → BodyBounds es bs n p x places a → Surveyed
        (disjuncts P x a) None
    unfolding Tells
    row_true seen a body =
        let short : i < length (bounds x a) = omega (arith, inside, body.bounds_at.as_many) in record {
          tells = omega (
            arith,
            (row_seen seen a body).tells,
            row_more folds_true P x a i short,
            rows_after folds_true P x a (suc i),
          );
        }
