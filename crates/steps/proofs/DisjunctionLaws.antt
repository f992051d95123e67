-- The disjuncts of step 3 are answered from the last to the first: none at the start, then one more, and one more.
-- Assumes nothing.
use mathlib.Core.Path.{◌≡◌, refl, sym, ap, ◌∙◌, subst}
use mathlib.Core.Logic.{inl, inr}
use mathlib.Core.Bool.{false, not}
use mathlib.Core.List.{List, [], ◌∷◌, ◌++◌, append-nil, append_assoc}
use Prim.Native.Nat.{ℕ, ◌+◌, ◌*◌, ◌≤◌}
use native.Mathlib.Omega.{arith}
use lib.Dec.{T, T_not, not_T}
use lib.IntN.{ℤ}
use lib.ListN.{length, length-append}
use Rattle.whole.proofs.Lists.{All, Any, all_append, any_append}
use Rattle.rules.specs.Sum.{Sum}
use Rattle.rules.specs.Rule.{Rule}
use Rattle.rules.specs.Table.{Node, most_words}
use Rattle.rules.specs.Literals.{some_literal}
use Rattle.rules.specs.Steps.{bounds, for_each, disjuncts, any_of, disjunction}
use Rattle.rules.specs.Eliminate.{over_limit}
use Rattle.rules.proofs.Sizes.{weight}
use Rattle.rules.proofs.Disjuncts.{fold_any, length_disjuncts, fars, nears, any_of_some}
use Rattle.rules.proofs.Weights.{any_lighter}
use Rattle.builder.specs.declared.push.State.{State}
use Rattle.builder.proofs.BuiltLaws.{length_unplaced}
use Rattle.folding.specs.Answers.{Gives}
use Rattle.folding.specs.declared.answers.Folded.{Folded}
use Rattle.folding.specs.declared.answers.Folded.TheVariants.{Known}
use Rattle.literals.specs.Changes.{Usable}
use Rattle.walks.specs.Walk.{changed}
use Rattle.steps.proofs.ThereLaws.{table_words}
use Rattle.steps.proofs.DisjunctionWeights.{all_lighter, all_counted}
use Rattle.steps.specs.Disjoining.{Disjunct, Disjoining, Disjoined}
use Rattle.literals.specs.Changes.{Change}

-- ---- no number of a disjunct passes the limit

one_fits : (k : List Rule) (d : Rule) (l : List Rule) → T (not (some_literal over_limit (any_of (k ++ (d ∷ l)))))
    → T (not (some_literal over_limit d))
unfolding Any
one_fits k d l fits =
    let among = any_append (λ e. T (some_literal over_limit e)) k (d ∷ l) in
    not_T (some_literal over_limit d) (λ over. T_not (some_literal over_limit (any_of (k ++ (d ∷ l)))) fits
    ((any_of_some over_limit (k ++ (d ∷ l))).1 (among.1 (inr (inl over)))))

-- ---- the next disjunct

module _ {es bs : List ℤ} {n p x P : ℕ} {b : State} {a : Rule} {ds : List Node} where
  -- the same disjuncts, written otherwise
  pub regrouped : {ws : List ℤ} {before k l m : List Rule} {f : Folded} → before ≡ k → l ≡ m
      → Disjoined es bs n p x P ws b a before l ds f → Disjoined es bs n p x P ws b a k m ds f
  regrouped {ws} {before} {k} {l} {m} {f} d e known =
      subst (λ (m : List Rule). Disjoined es bs n p x P ws b a k m ds f) e
      (subst (λ (k : List Rule). Disjoined es bs n p x P ws b a k l ds f) d known)

  -- another answer, for as many of the last disjuncts as it is for
  pub with_answer : {ws : List ℤ} {before l : List Rule} {f : Folded} → Disjoined es bs n p x P ws b a before l ds f
      → (k m : List Rule) → disjuncts P x a ≡ k ++ m → (vs : List ℤ) (g : Folded) → length vs ≤ most_words
      → Gives vs b ds (fold_any m) g → Disjoined es bs n p x P vs b a k m ds g
  with_answer known k m all vs g room gives = record {
    of = known.of;
    all = all;
    counted = known.counted;
    gives = gives;
    small = known.small;
    room = room;
  }

  module _ {ws : List ℤ} (before : List Rule) {l : List Rule} {f : Folded} (c : Change) (u : Sum) (usable : Usable c u)
      (known : Disjoined es bs n p x P ws b a (before ++ (changed c u a ∷ [])) l ds f) where
    one_first : disjuncts P x a ≡ before ++ (changed c u a ∷ l)
    one_first = known.all ∙ append_assoc before (changed c u a ∷ []) l

    pub next : Disjunct es bs n p c u ws b a l ds f
    unfolding disjunction any_of
    next =
        let d = changed c u a in
        let long : length (disjuncts P x a) ≡ length before + length (d ∷ l) =
        ap length one_first ∙ length-append before (d ∷ l) in
        let many : length l + 1 ≤ P + P * length (bounds x a) = omega (arith, long, length_disjuncts P x a) in
        let body = known.of in
        let lighter = all_lighter P x a body.setting.1 body.there.formed in
        let each = subst (All (λ d. weight d ≤ weight a)) known.all lighter in
        let light = ((all_append (λ d. weight d ≤ weight a) (before ++ (d ∷ [])) l).0 each).1 in
        record {
          there = body.there;
          usable = usable;
          numbers = one_fits before d l
              (subst (λ (ds : List Rule). T (not (some_literal over_limit (any_of ds)))) one_first body.numbers);
          counted = known.counted;
          gives = known.gives;
          small =
              let most = all_counted P _ (length l + 1) (weight a) body.period_fits.1 body.few_bounds many
              (table_words body.there) in
              omega (arith, known.small, any_lighter (weight a) l light, most);
          room = known.room;
        }

    -- it is answered, and the words vs are left
    pub one_more : (vs : List ℤ) (g : Folded) → length vs ≤ most_words → Gives vs b ds (fold_any (changed c u a ∷ l)) g
        → Disjoined es bs n p x P vs b a before (changed c u a ∷ l) ds g
    one_more vs g room gives = with_answer known before (changed c u a ∷ l) one_first vs g room gives

-- ---- at the start

module _ {es bs : List ℤ} {n p x P : ℕ} {places : List ℕ} {ws : List ℤ} {b : State} (a : Rule) (ds : List Node)
    (start : Disjoining es bs n p x P places ws b a ds) where
  pub none_answered : Disjoined es bs n p x P ws b a (for_each 1 P (fars x a) ++ for_each 1 P (nears x a)) [] ds
      (Known false)
  none_answered = record {
    of = start.of;
    all = unfold disjuncts in sym (append-nil (for_each 1 P (fars x a) ++ for_each 1 P (nears x a)));
    counted = (start.on.built.ends.long ∙ length_unplaced ds, start.on.built.counted);
    gives = unfold Gives fold_any in (refl, start.on.built);
    small = start.on.small;
    room = start.on.room;
  }
