-- What step 3 plans from its survey: what folds to the same may take the disjunction's place, and a folded rule
-- grows by what is put into it.
-- Assumes nothing.
use mathlib.Core.Path.{◌≡◌, refl, sym, ◌∙◌, ap, subst}
use mathlib.Core.Logic.{inl, inr}
use mathlib.Core.Bool.{Bool, true, false}
use Prim.Native.Nat.{ℕ, ◌+◌, ◌/◌, ◌<◌, ◌≤◌}
use native.Mathlib.Omega.{arith}
use native.Mathlib.Nat.{div-add-mod', mod-lt}
use lib.Dec.{T, leb, leb→le}
use Rattle.rules.specs.Rule.{Quantifier, Rule, Constant, Join, Not, Literal, Bind}
use Rattle.rules.specs.Result.{refused, given, ◌>>=◌, require}
use Rattle.rules.specs.Table.{count, size}
use Rattle.rules.specs.Fold.{fold_not, fold_join, fold}
use Rattle.rules.specs.Chosen.{the, quantified, chosen, replace}
use Rattle.rules.specs.Steps.{disjuncts, disjunction}
use Rattle.rules.proofs.Sizes.{weight, size_is}
use Rattle.rules.proofs.Folding.{Open, Folded}
use Rattle.rules.proofs.Choosing.{Put, here, in_left, in_right, in_not, in_bind, put, put_fold}
use Rattle.rules.proofs.Disjuncts.{fold_any, fold_any_of}
use Rattle.steps.specs.Surveying.{Surveyed}
use Rattle.steps.proofs.SurveyLaws.{told_none}
use Rattle.steps.proofs.SurveyOutcomes.{folds_to_true, folds_to_false, folds_long}
use Rattle.elimination.specs.Stepping.{sized, Planned}
use Rattle.steps.specs.declared.made.Step.TheVariants.{Truth}
use Rattle.steps.specs.declared.made.Step.{Step}
use Rattle.tables.specs.declared.refusal.Refusal.TheVariants.{Room}
use Rattle.std.specs.Prelude.{Option, Some, None, Ok, Err}

-- ---- what folds to the same

pub same_replaced : (new other : Rule) → fold new ≡ fold other → (r : Rule)
    → fold (replace new r) ≡ fold (replace other r)
unfolding fold replace
same_replaced new other e (Constant b) = refl
same_replaced new other e (Join j a b) =
    by_test (quantified b) (same_replaced new other e a) (same_replaced new other e b)
  where
    by_test : (c : Bool) → fold (replace new a) ≡ fold (replace other a) → fold (replace new b) ≡ fold (replace other b)
        → fold (elim c [ true ↦ Join j a (replace new b) | false ↦ Join j (replace new a) b ])
        ≡ fold (elim c [ true ↦ Join j a (replace other b) | false ↦ Join j (replace other a) b ])
    by_test true left right = ap (fold_join j (fold a)) right
    by_test false left right = ap (λ (f : Rule). fold_join j f (fold b)) left
same_replaced new other e (Not a) = ap fold_not (same_replaced new other e a)
same_replaced new other e (Literal t s) = refl
same_replaced new other e (Bind q x a) = by_test (quantified a) (same_replaced new other e a)
  where
    by_test : (c : Bool) → fold (replace new a) ≡ fold (replace other a)
        → fold (elim c [ true ↦ Bind q x (replace new a) | false ↦ new ])
        ≡ fold (elim c [ true ↦ Bind q x (replace other a) | false ↦ other ])
    by_test true inside = ap (Bind q x) inside
    by_test false inside = e

-- ---- what stays open is there, and counts

put_long : {q : Quantifier} {x : ℕ} {a new r s : Rule} → Put q x a new r s
    → count new + weight new ≤ count s + weight s
unfolding count weight
put_long (here e) = omega arith
put_long (in_left p e) = omega (arith, put_long p)
put_long (in_right p) = omega (arith, put_long p)
put_long (in_not p) = omega (arith, put_long p)
put_long (in_bind p) = omega (arith, put_long p)

pub replaced_long : (new r : Rule) {q : Quantifier} {x : ℕ} {a : Rule} → chosen r ≡ the q x a → Folded r
    → Open (fold new) → count (fold new) + weight (fold new) < size (fold (replace new r))
replaced_long new r at folded stays =
    omega (arith, put_long (put_fold stays (put new r at) folded), size_is (fold (replace new r)))

pub no_room : (room : ℕ) (f : Rule) → room < size f → sized room f ≡ refused 6
unfolding sized require ◌>>=◌
no_room room f long = by (leb (size f) room) (λ t. omega (arith, long, leb→le (size f) room t))
  where
    by : (b : Bool) → ¬ T b → (require b 6 >>= λ u. given f) ≡ refused 6
    by true none = absurd (none tt)
    by false none = refl

-- ---- what is planned, as the survey tells it

module _ (room P : ℕ) (whole : Step) (x : ℕ) (a : Rule) {s : Option ℕ} (seen : Surveyed (disjuncts P x a) s) where
  folded_is : fold (disjunction P x a) ≡ fold_any (disjuncts P x a)
  unfolding disjunction
  folded_is = fold_any_of (disjuncts P x a)

  pub plan_true : s ≡ None → Planned room P whole x a (Ok (Truth true))
  unfolding Planned
  plan_true e = inr (
    true,
    refl,
    folded_is
        ∙ folds_to_true (disjuncts P x a) (subst (Surveyed (disjuncts P x a)) e seen),
  )

  module _ {n : ℕ} (e : s ≡ Some n) where
    told : Surveyed (disjuncts P x a) (Some n)
    told = told_none (disjuncts P x a) e seen

    pub plan_false : n ≡ 0 → Planned room P whole x a (Ok (Truth false))
    unfolding Planned
    plan_false none = inr (false, refl, folded_is ∙ folds_to_false (disjuncts P x a) told none)

    pub plan_long : room / 5 + 1 < n → Planned room P whole x a (Err Room)
    unfolding Planned
    plan_long many =
        let (stays, long) = folds_long (disjuncts P x a) told (omega (arith, many)) in
        let parts = div-add-mod' room 5 in
        let both = subst (λ (f : Rule). Open f × (room ≤ count f + weight f)) (sym folded_is)
        (stays, omega (arith, long, many, parts, mod-lt room {m = 5} (omega arith))) in
        (refl, both.0, both.1)

pub plan_whole : (room P : ℕ) (whole : Step) (x : ℕ) (a : Rule) → Planned room P whole x a (Ok whole)
unfolding Planned
plan_whole room P whole x a = inl refl
