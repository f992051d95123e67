-- The full bodies: block by block from j = P to j = 1, and in a block from the last j to the first.
-- Assumes nothing.
use mathlib.Core.Path.{◌≡◌, refl, sym, ap, ◌∙◌, subst}
use mathlib.Core.Bool.{true, false}
use mathlib.Core.List.{List, [], ◌∷◌, ◌++◌, map, append-nil}
use Prim.Native.Nat.{ℕ, suc, ◌+◌, ◌-◌, ◌<◌, ◌≤◌}
use native.Mathlib.Omega.{arith}
use lib.Dec.{T}
use lib.IntN.{ℤ, pos}
use lib.ListN.{length, get_or}
use Rattle.rules.specs.Sum.{Sum, add, number}
use Rattle.rules.specs.Rule.{Rule, False}
use Rattle.rules.specs.Table.{Node}
use Rattle.rules.specs.Fold.{fold}
use Rattle.rules.specs.Steps.{body_at, bounds, for_each, disjuncts}
use Rattle.rules.specs.Eliminate.{most_period}
use Rattle.rules.proofs.Disjuncts.{fold_any, true_beats, fars, nears}
use Rattle.builder.specs.declared.push.State.{State}
use Rattle.folding.specs.Answers.{Gives, settled}
use Rattle.folding.specs.declared.answers.Folded.{Folded}
use Rattle.folding.specs.declared.answers.Folded.TheVariants.{Known, Pushed}
use Rattle.steps.specs.Blocks.{BodyBounds, SomeBodyBounds, FalseAtBounds, full_at}
use Rattle.steps.specs.Disjoining.{Disjoining, SomeDisjoining, Disjoined, Block, FullFrom, FullBlock}
use Rattle.steps.specs.Disjoining.{SomeFullBlock, FarToCome, AtBounds, SomeAtBounds}
use Rattle.steps.proofs.ForEachLaws.{for_each_nothing, each_from}
use Rattle.steps.proofs.DisjunctionLaws.{regrouped, with_answer, none_answered}
use Rattle.steps.proofs.PeriodLaws.{no_j_yet, every_j, next_j, more_j, bit_of_j}

-- ---- block by block

-- for every body that may stand there, the full bodies of the j's over this one are answered
abbrev pub FullDone : (es bs : List ℤ) (n p x P : ℕ) (places : List ℕ) (ws : List ℤ) (b : State)
    (vs : List ℤ) (j : ℕ) (f : Folded) → Type 0
FullDone es bs n p x P places ws b vs j f = (a : Rule) (ds : List Node)
    → Disjoining es bs n p x P places ws b a ds → FullFrom es bs n p x P vs b a ds j f

-- a true one makes all before it true
settled_beats : (ws : List ℤ) (b : State) (ds : List Node) (k l : List Rule) (f : Folded) → settled false f ≡ true
    → Gives ws b ds (fold_any l) f → Gives ws b ds (fold_any (k ++ l)) f
unfolding settled Gives
settled_beats ws b ds k l (Known true) settles gives = (true_beats k l gives.0, gives.1)
settled_beats ws b ds k l (Known false) settles gives = absurd (subst T (sym settles) tt)
settled_beats ws b ds k l (Pushed c) settles gives = absurd (subst T (sym settles) tt)

pub no_full_yet : {es bs : List ℤ} {n p x P : ℕ} {places : List ℕ} {ws : List ℤ} {b : State}
    → FullDone es bs n p x P places ws b ws P (Known false)
no_full_yet {x = x} {P = P} a ds start =
    no_j_yet (for_each 1 P (fars x a)) (nears x a) [] (none_answered a ds start)

no_sum : (us : List Sum) → 0 ≡ length us → us ≡ []
no_sum [] e = refl
no_sum (u ∷ us) e = absurd (omega (arith, e))

-- without a bound there is no full body
pub no_full : {es bs : List ℤ} {n p x P : ℕ} {places : List ℕ} {ws : List ℤ} {b : State} → length places ≡ 0
    → (a : Rule) (ds : List Node) → Disjoining es bs n p x P places ws b a ds
    → FarToCome es bs n p x P ws b a (for_each 1 P (nears x a)) ds (Known false)
no_full {x = x} {P = P} without a ds start =
    let at : List Sum → ℕ → List Rule = λ us j. map (λ u. body_at x (add u (number (pos j))) a) us in
    let none : for_each 1 P (nears x a) ≡ [] =
    ap (λ (us : List Sum). for_each 1 P (at us)) (no_sum (bounds x a) (sym without ∙ start.bounds_at.as_many))
    ∙ for_each_nothing 1 P in
    let first = for_each 1 P (fars x a) in
    regrouped (ap (λ (l : List Rule). first ++ l) none ∙ append-nil first) (sym none) (none_answered a ds start)

module _ {es bs : List ℤ} {n p x P : ℕ} {places : List ℕ} {ws : List ℤ} {b : State} where
  -- the body, with its bounds
  body_bounds : {a : Rule} {ds : List Node} → Disjoining es bs n p x P places ws b a ds
      → BodyBounds es bs n p x places a
  body_bounds start = record {
    there = start.of.there;
    setting = start.of.setting;
    bounds_at = start.bounds_at;
  }

  pub masks_ask : (low : ℕ) → low < P → (masks : List ℕ) → length masks ≡ length places
      → SomeDisjoining es bs n p x P places ws b
      → SomeBodyBounds es bs n p x places × (low + 1 ≤ most_period) × (length places ≤ length masks)
  masks_ask low inside masks long start = (
    record { rule = start.rule; body = body_bounds start.disjoining },
    omega (arith, start.disjoining.of.period_fits.1),
    omega (arith, long),
  )

  module _ {vs : List ℤ} {f : Folded} where
    pub full_over : (j : ℕ) → j ≤ 0 → FullDone es bs n p x P places ws b vs j f → (a : Rule) (ds : List Node)
        → Disjoining es bs n p x P places ws b a ds
        → FarToCome es bs n p x P vs b a (for_each 1 P (nears x a)) ds f
    full_over j over done a ds start = regrouped refl (append-nil (for_each 1 P (nears x a)))
        (every_j (for_each 1 P (fars x a)) (nears x a) [] j over (done a ds start))

    -- where one of them is true, those before it are not looked at
    pub full_settled : (j : ℕ) → j ≤ P → settled false f ≡ true → FullDone es bs n p x P places ws b vs j f
        → (a : Rule) (ds : List Node) → Disjoining es bs n p x P places ws b a ds
        → FarToCome es bs n p x P vs b a (for_each 1 P (nears x a)) ds f
    full_settled j upto s done a ds start =
        let F = nears x a in
        let here = done a ds start in
        let rest = for_each (suc j) (P - j) F in
        let all : for_each 1 P F ≡ for_each 1 j F ++ (rest ++ []) =
        each_from F P j upto ∙ ap (λ (m : List Rule). for_each 1 j F ++ m) (sym (append-nil rest)) in
        with_answer here (for_each 1 P (fars x a)) (for_each 1 P F) (unfold disjuncts in refl) vs f here.room
        (subst (λ (m : List Rule). Gives vs b ds (fold_any m) f) (sym all)
        (settled_beats vs b ds (for_each 1 j F) (rest ++ []) f s here.gives))

    -- a block's full bodies, whose masks are made
    module _ {low high : ℕ} {masks : List ℕ} (done : FullDone es bs n p x P places ws b vs high f)
        (block : Block low high P) (long : length masks ≡ length places)
        (falses : (a : Rule) → BodyBounds es bs n p x places a → FalseAtBounds masks x (low + 1)
        (length places) a) where
      full_block_of : (a : Rule) (ds : List Node) → Disjoining es bs n p x P places ws b a ds
          → FullBlock es bs n p x low high places masks vs b P a ds f
      full_block_of a ds start = record {
        from = done a ds start;
        block = block;
        bounds_at = start.bounds_at;
        long = long;
        falses = falses a (body_bounds start);
      }

      pub full_block_asks : SomeDisjoining es bs n p x P places ws b
          → SomeFullBlock es bs n p x low high places masks vs b f
      full_block_asks start = record {
        period = P;
        rule = start.rule;
        tail = start.tail;
        full_block = full_block_of start.rule start.tail start.disjoining;
      }

      pub full_block_done : (us : List ℤ) (g : Folded)
          → ((P : ℕ) (a : Rule) (ds : List Node) → FullBlock es bs n p x low high places masks vs b P a ds f
          → FullFrom es bs n p x P us b a ds low g)
          → FullDone es bs n p x P places ws b us low g
      full_block_done us g answered a ds start = answered P a ds (full_block_of a ds start)

-- ---- in one block

-- whatever body the block is of, the full bodies of the j's over this one are answered
abbrev pub FullSoFar : (es bs : List ℤ) (n p x low high : ℕ) (places masks : List ℕ) (ws : List ℤ) (b : State)
    (so_far : Folded) (vs : List ℤ) (j : ℕ) (f : Folded) → Type 0
FullSoFar es bs n p x low high places masks ws b so_far vs j f = (P : ℕ) (a : Rule) (ds : List Node)
    → FullBlock es bs n p x low high places masks ws b P a ds so_far → FullFrom es bs n p x P vs b a ds j f

module _ {es bs : List ℤ} {n p x low high : ℕ} {places masks : List ℕ} {ws : List ℤ} {b : State}
    {so_far : Folded} where
  pub full_block_starts : FullSoFar es bs n p x low high places masks ws b so_far ws high so_far
  full_block_starts P a ds start = start.from

  pub full_block_over : {vs : List ℤ} (j : ℕ) {f : Folded} → low ≤ j → j ≤ low
      → FullSoFar es bs n p x low high places masks ws b so_far vs j f
      → FullSoFar es bs n p x low high places masks ws b so_far vs low f
  full_block_over {vs} j {f} above over done = let last : j ≡ low = omega arith in
      subst (λ (i : ℕ). FullSoFar es bs n p x low high places masks ws b so_far vs i f) last done

  -- the full bodies of the next j
  module _ {vs : List ℤ} {j : ℕ} {f : Folded}
      (done : FullSoFar es bs n p x low high places masks ws b so_far vs j f) (some : low < j) (upto : j ≤ high) where
    at_bounds_of : (P : ℕ) (a : Rule) (ds : List Node)
        → FullBlock es bs n p x low high places masks ws b P a ds so_far
        → AtBounds es bs n p x j (j - low - 1) places masks vs b P a
        (for_each 1 P (fars x a) ++ for_each 1 (j - 1) (nears x a)) (for_each (suc j) (P - j) (nears x a) ++ []) ds f
    at_bounds_of P a ds start =
        let inside : j ≤ P = omega (arith, upto, start.block.upto) in
        record {
          disjoined = next_j (for_each 1 P (fars x a)) (nears x a) [] (omega arith) inside (done P a ds start);
          bounds_at = start.bounds_at;
          upto = inside;
          judged = (omega (arith, upto, start.block.short), start.long);
          falses = λ i inside there.
              subst (λ (m : ℕ). fold (full_at x a (get_or (bounds x a) i []) m) ≡ False) (bit_of_j low j some)
              (start.falses i inside (j - low - 1) (omega (arith, upto, start.block.short)) there);
        }

    pub at_bounds_asks : SomeFullBlock es bs n p x low high places masks ws b so_far
        → SomeAtBounds es bs n p x j (j - low - 1) places masks vs b f
    at_bounds_asks start =
        let P = start.period in
        let a = start.rule in
        record {
          period = P;
          rule = a;
          before = for_each 1 P (fars x a) ++ for_each 1 (j - 1) (nears x a);
          others = for_each (suc j) (P - j) (nears x a) ++ [];
          tail = start.tail;
          at_bounds = at_bounds_of P a start.tail start.full_block;
        }

    pub at_bounds_done : (us : List ℤ) (g : Folded)
        → ((P : ℕ) (a : Rule) (before l : List Rule) (ds : List Node)
        → AtBounds es bs n p x j (j - low - 1) places masks vs b P a before l ds f
        → Disjoined es bs n p x P us b a before (nears x a j ++ l) ds g)
        → FullSoFar es bs n p x low high places masks ws b so_far us (j - 1) g
    at_bounds_done us g answered P a ds start =
        more_j (for_each 1 P (fars x a)) (nears x a) [] (omega arith) (omega (arith, upto, start.block.upto))
        (answered P a _ (for_each (suc j) (P - j) (nears x a) ++ []) ds (at_bounds_of P a ds start))
