-- The far-left bodies, in front of the full ones: block by block from j = P to j = 1, and in a block from the last j to
-- the first.
-- Assumes nothing.
use mathlib.Core.Path.{◌≡◌, refl, sym, ap, ◌∙◌, subst}
use mathlib.Core.Bool.{Bool, true}
use mathlib.Core.List.{List, [], ◌∷◌, ◌++◌}
use Prim.Native.Nat.{ℕ, suc, ◌+◌, ◌-◌, ◌<◌, ◌≤◌}
use native.Mathlib.Omega.{arith}
use lib.Dec.{eqb}
use lib.IntN.{ℤ, pos}
use lib.ListN.{length}
use Rattle.rules.specs.Sum.{Sum, number}
use Rattle.rules.specs.Rule.{Rule, False}
use Rattle.rules.specs.Table.{Node, most_words}
use Rattle.rules.specs.Fold.{fold}
use Rattle.rules.specs.Steps.{for_each, disjuncts, disjunction}
use Rattle.rules.specs.Eliminate.{most_period}
use Rattle.rules.proofs.Disjuncts.{fold_any, fold_any_of, far_body, fars}
use Rattle.builder.specs.declared.push.State.{State}
use Rattle.folding.specs.Answers.{Gives}
use Rattle.folding.specs.declared.answers.Folded.{Folded}
use Rattle.literals.specs.Changes.{InRange, Usable}
use Rattle.walks.specs.Walk.{changed}
use Rattle.judging.specs.Judging.{bit}
use Rattle.tables.specs.Standing.{RuleAt}
use Rattle.steps.specs.There.{SomeRuleThere}
use Rattle.steps.specs.Blocks.{far_at, Judges}
use Rattle.steps.specs.Disjoining.{Disjoined, Block, FarToCome, SomeFarToCome, FarFrom, FarBlock, SomeFarBlock}
use Rattle.steps.specs.Disjoining.{Disjunct, SomeDisjunct}
use Rattle.literals.specs.Changes.{Far}
use Rattle.steps.proofs.BlockLaws.{judged_false, bit_told}
use Rattle.steps.proofs.DisjunctLaws.{false_disjunct}
use Rattle.steps.proofs.DisjunctionLaws.{regrouped, next, one_more}
use Rattle.steps.proofs.SumLaws.{number_usable}
use Rattle.steps.proofs.PeriodLaws.{no_j_yet, every_j, next_j, more_j, bit_of_j}

-- ---- block by block

-- for every body that may stand there, those of the j's over this one are answered
abbrev pub FarDone : (es bs : List ℤ) (n p x P : ℕ) (ws : List ℤ) (b : State) (so_far : Folded) (vs : List ℤ) (j : ℕ)
    (f : Folded) → Type 0
FarDone es bs n p x P ws b so_far vs j f = (a : Rule) (l : List Rule) (ds : List Node)
    → FarToCome es bs n p x P ws b a l ds so_far → FarFrom es bs n p x P vs b a l ds j f

module _ {es bs : List ℤ} {n p x P : ℕ} {ws : List ℤ} {b : State} {so_far : Folded} where
  pub no_far_yet : FarDone es bs n p x P ws b so_far ws P so_far
  no_far_yet a l ds start = no_j_yet [] (fars x a) l start

  pub far_mask_asks : (low : ℕ) → low < P → SomeFarToCome es bs n p x P ws b so_far
      → SomeRuleThere es bs n p × InRange x × (low + 1 ≤ most_period)
  far_mask_asks low inside start =
      let known = start.to_come.of in (
        record { rule = start.rule; there = known.there },
        known.setting,
        omega (arith, known.period_fits.1),
      )

  module _ {vs : List ℤ} {f : Folded} where
    -- all disjuncts are answered
    pub far_over : (j : ℕ) → j ≤ 0 → FarDone es bs n p x P ws b so_far vs j f
        → (a : Rule) (l : List Rule) (ds : List Node) → FarToCome es bs n p x P ws b a l ds so_far
        → Gives vs b ds (fold (disjunction P x a)) f
    unfolding disjunction
    far_over j over done a l ds start =
        let here = every_j [] (fars x a) l j over (done a l ds start) in
        subst (λ (r : Rule). Gives vs b ds r f) (sym (fold_any_of (disjuncts P x a) ∙ ap fold_any here.all))
        here.gives

    -- a block's far-left bodies, whose mask is made
    module _ {low high trues mask : ℕ} (done : FarDone es bs n p x P ws b so_far vs high f) (block : Block low high P)
        (judges : (a : Rule) → RuleAt es bs n p a → Judges trues mask (low + 1) (far_at x a)) where
      far_block_of : (a : Rule) (l : List Rule) (ds : List Node) → FarToCome es bs n p x P ws b a l ds so_far
          → FarBlock es bs n p x low high mask vs b P a l ds f
      far_block_of a l ds start = record {
        from = done a l ds start;
        block = block;
        falses = judged_false trues mask (low + 1) (far_at x a) (judges a start.of.there);
      }

      pub far_block_asks : SomeFarToCome es bs n p x P ws b so_far → SomeFarBlock es bs n p x low high mask vs b f
      far_block_asks start = record {
        period = P;
        rule = start.rule;
        others = start.others;
        tail = start.tail;
        far_block = far_block_of start.rule start.others start.tail start.to_come;
      }

      pub far_block_done : (us : List ℤ) (g : Folded)
          → ((P : ℕ) (a : Rule) (l : List Rule) (ds : List Node)
          → FarBlock es bs n p x low high mask vs b P a l ds f → FarFrom es bs n p x P us b a l ds low g)
          → FarDone es bs n p x P ws b so_far us low g
      far_block_done us g answered a l ds start = answered P a l ds (far_block_of a l ds start)

-- ---- in one block

abbrev pub FarSoFar : (es bs : List ℤ) (n p x low high mask : ℕ) (ws : List ℤ) (b : State) (so_far : Folded)
    (vs : List ℤ) (j : ℕ) (f : Folded) → Type 0
FarSoFar es bs n p x low high mask ws b so_far vs j f = (P : ℕ) (a : Rule) (l : List Rule) (ds : List Node)
    → FarBlock es bs n p x low high mask ws b P a l ds so_far → FarFrom es bs n p x P vs b a l ds j f

-- the one of a j, as the walk makes it
pub far_one : (x : ℕ) (a : Rule) (j : ℕ) → fars x a j ≡ far_at x a j ∷ []
unfolding changed
far_one x a j = ap (λ (r : Rule). r ∷ []) (far_body x (number (pos j)) a)

module _ {es bs : List ℤ} {n p x low high mask : ℕ} {ws : List ℤ} {b : State} {so_far : Folded} where
  pub far_block_starts : FarSoFar es bs n p x low high mask ws b so_far ws high so_far
  far_block_starts P a l ds start = start.from

  pub far_block_over : {vs : List ℤ} (j : ℕ) {f : Folded} → low ≤ j → j ≤ low
      → FarSoFar es bs n p x low high mask ws b so_far vs j f → FarSoFar es bs n p x low high mask ws b so_far vs low f
  far_block_over {vs} j {f} above over done = let last : j ≡ low = omega arith in
      subst (λ (i : ℕ). FarSoFar es bs n p x low high mask ws b so_far vs i f) last done

  -- that of the next j
  module _ {vs : List ℤ} {j : ℕ} {f : Folded} (done : FarSoFar es bs n p x low high mask ws b so_far vs j f)
      (some : low < j) (upto : j ≤ high) where
    module _ (P : ℕ) (a : Rule) (l : List Rule) (ds : List Node)
        (start : FarBlock es bs n p x low high mask ws b P a l ds so_far) where
      inside : j ≤ P
      inside = omega (arith, upto, start.block.upto)

      far_usable : Usable (Far x) (number (pos j))
      far_usable = number_usable x j start.from.of.setting (omega (arith, inside, start.from.of.period_fits.1))

      far_first : Disjoined es bs n p x P vs b a (for_each 1 (j - 1) (fars x a) ++ (far_at x a j ∷ []))
          (for_each (suc j) (P - j) (fars x a) ++ l) ds f
      far_first = regrouped (ap (λ (m : List Rule). for_each 1 (j - 1) (fars x a) ++ m) (far_one x a j)) refl
          (next_j [] (fars x a) l (omega arith) inside (done P a l ds start))

      far_next : Disjunct es bs n p (Far x) (number (pos j)) vs b a (for_each (suc j) (P - j) (fars x a) ++ l) ds f
      far_next = next (for_each 1 (j - 1) (fars x a)) (Far x) (number (pos j)) far_usable far_first

      far_answered : (us : List ℤ) (g : Folded) → length us ≤ most_words
          → Gives us b ds (fold_any (far_at x a j ∷ (for_each (suc j) (P - j) (fars x a) ++ l))) g
          → FarFrom es bs n p x P us b a l ds (j - 1) g
      far_answered us g room gives =
          let rest = for_each (suc j) (P - j) (fars x a) ++ l in
          more_j [] (fars x a) l (omega arith) inside
          (regrouped refl (ap (λ (m : List Rule). m ++ rest) (sym (far_one x a j)))
          (one_more (for_each 1 (j - 1) (fars x a)) (Far x) (number (pos j)) far_usable far_first us g room gives))

    -- told by its bit to be false, it is passed over
    pub far_passed : {told : Bool} → told ≡ eqb (bit mask (j - low - 1)) 1 → told ≡ true
        → FarSoFar es bs n p x low high mask ws b so_far vs (j - 1) f
    far_passed is_told e P a l ds start =
        let d = far_next P a l ds start in
        far_answered P a l ds start vs f d.room
        (false_disjunct vs b ds _ _ f
        (subst (λ (m : ℕ). fold (far_at x a m) ≡ False) (bit_of_j low j some)
        (start.falses (j - low - 1) (omega (arith, upto, start.block.short)) (bit_told mask (j - low - 1) is_told e)))
        d.gives)

    pub far_upto : SomeFarBlock es bs n p x low high mask ws b so_far → j ≤ most_period
    far_upto start =
        let known = start.far_block in omega (arith, inside _ start.rule _ _ known, known.from.of.period_fits.1)

    -- u is its sum
    module _ (u : Sum) (sum : u ≡ number (pos j)) where
      far_disjunct : (P : ℕ) (a : Rule) (l : List Rule) (ds : List Node)
          → FarBlock es bs n p x low high mask ws b P a l ds so_far
          → Disjunct es bs n p (Far x) u vs b a (for_each (suc j) (P - j) (fars x a) ++ l) ds f
      far_disjunct P a l ds start =
          subst (λ (s : Sum). Disjunct es bs n p (Far x) s vs b a (for_each (suc j) (P - j) (fars x a) ++ l) ds f)
          (sym sum) (far_next P a l ds start)

      pub far_asks : SomeFarBlock es bs n p x low high mask ws b so_far → SomeDisjunct es bs n p (Far x) u vs b f
      far_asks start = record {
        rule = start.rule;
        others = for_each (suc j) (start.period - j) (fars x start.rule) ++ start.others;
        tail = start.tail;
        disjunct = far_disjunct start.period start.rule start.others start.tail start.far_block;
      }

      pub far_done : (us : List ℤ) (g : Folded) → (length ws ≤ most_words → length us ≤ most_words)
          → ((a : Rule) (l : List Rule) (ds : List Node) → Disjunct es bs n p (Far x) u vs b a l ds f
          → Gives us b ds (fold_any (changed (Far x) u a ∷ l)) g)
          → FarSoFar es bs n p x low high mask ws b so_far us (j - 1) g
      far_done us g room answered P a l ds start =
          far_answered P a l ds start us g (room start.from.room)
          (subst (λ (s : Sum). Gives us b ds (fold_any (changed (Far x) s a ∷ (for_each (suc j) (P - j)
          (fars x a) ++ l))) g)
          sum (answered a (for_each (suc j) (P - j) (fars x a) ++ l) ds (far_disjunct P a l ds start)))
