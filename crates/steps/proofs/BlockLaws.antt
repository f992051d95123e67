-- What a block's masks say of the disjuncts, and what judging asks for.
-- Assumes nothing.
use mathlib.Core.Path.{◌≡◌, sym, ◌∙◌, ap, subst}
use mathlib.Core.Bool.{Bool, true, false}
use mathlib.Core.List.{List, []}
use Prim.Native.Nat.{ℕ, ◌+◌, ◌/◌, ◌^◌, ◌<◌, ◌≤◌}
use native.Mathlib.Decide.{ℕ_discrete}
use native.Mathlib.Omega.{arith}
use lib.Bits.{bit_and, and_mask}
use lib.Dec.{T, eqb, eqb→eq}
use lib.IntN.{ℤ, pos, ◌+ℤ◌, +ℤ_idl, +ℤ_idr}
use lib.ListN.{length, get_or, set}
use lib.Seq.{ext_get_or, get_or-set_same, get_or-set_other}
use Rattle.rules.specs.Sum.{Sum, factor, add, number, limit, all_within}
use Rattle.rules.specs.Rule.{Rule}
use Rattle.rules.specs.Fold.{fold}
use Rattle.rules.specs.Steps.{bounds}
use Rattle.rules.specs.Eliminate.{most_period}
use Rattle.rules.proofs.Sums.{factor_add, length_add}
use Rattle.bodies.specs.Body.{BoundAt}
use Rattle.judging.proofs.SaidLaws.{settled_is}
use Rattle.judging.proofs.ShiftLaws.{zero_number}
use Rattle.literals.specs.Changes.{InRange}
use Rattle.walks.specs.Walk.{changed}
use Rattle.steps.specs.Put.{SomeBound}
use Rattle.judging.specs.Judging.{bit, Says, put_into, at_sum, Judging, SomeJudging}
use Rattle.tables.specs.Standing.{RuleAt}
use Rattle.steps.specs.There.{SomeRuleThere}
use Rattle.steps.specs.Blocks.{BodyBounds, SomeBodyBounds, far_at, full_at, Judges, FalseWhere, FalseAtBounds}
use Rattle.steps.proofs.SumLaws.{bound_seven, bound_within}

-- ---- what a bit says

pub judged_false : (trues falses j : ℕ) (d : ℕ → Rule) → Judges trues falses j d → FalseWhere falses j d
judged_false trues falses j d judges k inside there =
    settled_is false (fold (d (j + k))) (sym (judges k inside).is_no ∙ there)

-- a test of a bit, as the code makes it
pub bit_told : (mask k : ℕ) {told : Bool} → told ≡ eqb (bit mask k) 1 → told ≡ true → bit mask k ≡ 1
bit_told mask k is e = eqb→eq (bit mask k) 1 (subst T (sym (sym is ∙ e)) tt)

pub bit_tested : (mask k : ℕ) → eqb (bit_and (mask / 2 ^ k) 1) 1 ≡ eqb (bit mask k) 1
bit_tested mask k = ap (λ (x : ℕ). eqb x 1) (and_mask (mask / 2 ^ k) 1)

-- ---- what judging asks for: the sum is a bound, or 0

pub none_added : (b : Sum) → length b ≡ 7 → add b (number (pos 0)) ≡ b
none_added b seven = ext_get_or (pos 0) (add b (number (pos 0))) b
    (length_add b (number (pos 0)) seven ∙ sym seven)
    (λ i inside.
    factor_add i b (number (pos 0)) ∙ ap (λ (z : ℤ). factor i b +ℤ z) (zero_number i) ∙ +ℤ_idr (factor i b))

pub far_same : (x : ℕ) (u : Sum) → u ≡ number (pos 0) → (m : ℕ) (a : Rule) → at_sum true x u m a ≡ far_at x a m
unfolding at_sum put_into add changed
far_same x u is m a = ap (λ (s : Sum). changed (put_into true x) (add s (number (pos m))) a) is
    ∙ ap (λ (z : ℤ). changed (put_into true x) (number z) a) (+ℤ_idl (pos m))

pub full_same : (x : ℕ) {u bound : Sum} → u ≡ bound → (m : ℕ) (a : Rule) → at_sum false x u m a ≡ full_at x a bound m
unfolding at_sum put_into changed
full_same x is m a = ap (λ (s : Sum). changed (put_into false x) (add s (number (pos m))) a) is

pub same_sum : {bs : List ℤ} {x q : ℕ} (bound : Sum) → BoundAt bs x q bound → (u : Sum)
    → u ≡ add bound (number (pos 0)) → InRange x → u ≡ bound
same_sum bound at u is range = is ∙ none_added bound (bound_seven at range)

module _ {es bs : List ℤ} {n p x j : ℕ} (upto : j ≤ most_period) where
  judging_of : {a : Rule} → RuleAt es bs n p a → InRange x → (u : Sum) → length u ≡ 7 → T (all_within limit u)
      → Judging es bs n p x u j a
  judging_of there setting u seven within = record {
    at = there;
    setting = setting;
    sum = record { seven = seven; within = within };
    upto = upto;
  }

  -- the far-left body
  module _ (setting : InRange x) (u : Sum) (is : u ≡ number (pos 0)) where
    pub far_judging : {a : Rule} → RuleAt es bs n p a → Judging es bs n p x u j a
    unfolding all_within
    far_judging there =
        judging_of there setting u (ap length is) (subst (λ (s : Sum). T (all_within limit s)) (sym is) tt)

    pub some_far_judging : SomeRuleThere es bs n p → SomeJudging es bs n p x u j
    some_far_judging some = record { rule = some.rule; judging = far_judging some.there }

    pub far_judged : (trues falses : ℕ)
        → ((a : Rule) (k : ℕ) → Judging es bs n p x u j a → k < 64 → Says trues falses k (at_sum true x u (j + k) a))
        → (a : Rule) → RuleAt es bs n p a → Judges trues falses j (far_at x a)
    far_judged trues falses says a there k inside =
        subst (Says trues falses k) (far_same x u is (j + k) a) (says a k (far_judging there) inside)

  -- the full one
  module _ (setting : InRange x) {q : ℕ} (bound : Sum) (at : BoundAt bs x q bound) (u : Sum)
      (is : u ≡ add bound (number (pos 0))) where
    pub full_judging : {a : Rule} → RuleAt es bs n p a → Judging es bs n p x u j a
    full_judging there =
        let same = same_sum bound at u is setting in
        judging_of there setting u (ap length same ∙ bound_seven at setting)
        (subst (λ (s : Sum). T (all_within limit s)) (sym same) (bound_within at))

    pub some_full_judging : SomeRuleThere es bs n p → SomeJudging es bs n p x u j
    some_full_judging some = record { rule = some.rule; judging = full_judging some.there }

    pub full_judged : (trues falses : ℕ)
        → ((a : Rule) (k : ℕ) → Judging es bs n p x u j a → k < 64 → Says trues falses k (at_sum false x u (j + k) a))
        → (a : Rule) → RuleAt es bs n p a → Judges trues falses j (full_at x a bound)
    full_judged trues falses says a there k inside =
        subst (Says trues falses k) (full_same x (same_sum bound at u is setting) (j + k) a)
        (says a k (full_judging there) inside)

-- what is known of bound i, whose literal is at place q
module _ {es bs : List ℤ} {n p x : ℕ} {places : List ℕ} {i q : ℕ} (some : SomeBodyBounds es bs n p x places)
    (inside : i < length places) (is : q ≡ get_or places i 0) where
  pub bound_some : SomeBound bs x q
  bound_some =
      let bound = get_or (bounds x some.rule) i [] in
      record {
        bound = bound;
        at = subst (λ (r : ℕ). BoundAt bs x r bound) (sym is) (some.body.bounds_at.each i inside);
        few = omega (arith, some.body.there.few.few_words);
        setting = some.body.setting;
      }

  -- what its judging asks for, whose sum is u
  pub bound_asks : {j : ℕ} → j ≤ most_period → (u : Sum)
      → ((b : Sum) → BoundAt bs x q b → u ≡ add b (number (pos 0))) → SomeJudging es bs n p x u j
  bound_asks upto u sum =
      let known = bound_some in
      some_full_judging upto known.setting known.bound known.at u (sum known.bound known.at)
      (record { rule = some.rule; there = some.body.there })

-- ---- a mask for each bound: those before bound i are there

abbrev pub FalseBefore : (es bs : List ℤ) (n p x j : ℕ) (places : List ℕ) (masks : List ℕ) (i : ℕ) → Type 0
FalseBefore es bs n p x j places masks i =
    (a : Rule) → BodyBounds es bs n p x places a → FalseAtBounds masks x j i a

module _ {es bs : List ℤ} {n p x : ℕ} (j : ℕ) {places : List ℕ} where
  pub no_mask_yet : (masks : List ℕ) → FalseBefore es bs n p x j places masks 0
  no_mask_yet masks a body i before = absurd (omega (arith, before))

  pub every_mask : (masks : List ℕ) (i : ℕ) → length places ≤ i → FalseBefore es bs n p x j places masks i
      → FalseBefore es bs n p x j places masks (length places)
  every_mask masks i all done a body m inside = done a body m (omega (arith, all, inside))

  -- the mask of the next bound
  pub one_mask_more : (masks after : List ℕ) {i q : ℕ} (trues falses : ℕ) → after ≡ set masks i falses
      → i < length places → length places ≤ length masks → q ≡ get_or places i 0
      → ((a : Rule) (bound : Sum) → RuleAt es bs n p a → BoundAt bs x q bound
      → Judges trues falses j (full_at x a bound))
      → FalseBefore es bs n p x j places masks i
      → FalseBefore es bs n p x j places after (i + 1)
  one_mask_more masks after {i} {q} trues falses made inside long is judges done a body m upto =
      subst (λ (l : List ℕ). FalseWhere (get_or l m 0) j (full_at x a (get_or (bounds x a) m []))) (sym made)
      (by (ℕ_discrete m i))
    where
      bound : Sum
      bound = get_or (bounds x a) i []

      here : FalseWhere falses j (full_at x a bound)
      here = judged_false trues falses j (full_at x a bound)
          (judges a bound body.there
          (subst (λ (r : ℕ). BoundAt bs x r bound) (sym is) (body.bounds_at.each i inside)))

      by : Dec (m ≡ i) → FalseWhere (get_or (set masks i falses) m 0) j (full_at x a (get_or (bounds x a) m []))
      by (yes e) =
          subst (λ (t : ℕ). FalseWhere (get_or (set masks i falses) t 0) j (full_at x a (get_or (bounds x a) t [])))
          (sym e)
          (subst (λ (mask : ℕ). FalseWhere mask j (full_at x a bound))
          (sym (get_or-set_same masks i falses 0 (omega (arith, inside, long)))) here)
      by (no f) = subst (λ (mask : ℕ). FalseWhere mask j (full_at x a (get_or (bounds x a) m [])))
          (sym (get_or-set_other masks i m falses 0 f)) (done a body m (omega (arith, upto, f)))
