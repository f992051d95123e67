-- Rules are surveyed part by part: the tallies of the parts add up.
-- Assumes nothing.
use mathlib.Core.Path.{◌≡◌, refl, sym, ◌∙◌, ap, subst}
use mathlib.Core.Bool.{Bool, true, false, not}
use mathlib.Core.List.{List, [], ◌∷◌, ◌++◌}
use Prim.Native.Nat.{ℕ, zero, suc, ◌+◌, ◌-◌, ◌<◌, ◌≤◌}
use native.Mathlib.Omega.{arith}
use borrow.Author.Tests.{eqb-false}
use lib.Dec.{eqb}
use lib.IntN.{ℤ}
use lib.ListN.{length}
use Rattle.rules.specs.Sum.{Sum}
use Rattle.rules.specs.Rule.{Rule, Constant, Join, Not, Literal, Bind}
use Rattle.rules.specs.Fold.{fold}
use Rattle.rules.specs.Steps.{for_each}
use Rattle.rules.proofs.Disjuncts.{length_for_each}
use Rattle.judging.specs.Judging.{bit, settled_as, Says, at_sum, Judging, SomeJudging}
use Rattle.steps.specs.Blocks.{Judges}
use Rattle.steps.specs.Surveying.{folds_true, stays_open, tally, Tells, Surveyed}
use Rattle.std.specs.Prelude.{Option, Some, None}
use Rattle.std.specs.Int.{from_bool}
use Rattle.steps.proofs.BlockLaws.{bit_told}
use Rattle.steps.proofs.ForEachLaws.{for_each_parts}

-- ---- tallies

pub tally_append : (f : Rule → ℕ) (k l : List Rule) → tally f (k ++ l) ≡ tally f k + tally f l
unfolding tally
tally_append f [] l = omega arith
tally_append f (d ∷ k) l = omega (arith, tally_append f k l)

-- the lists of each j in two parts
pub tally_parts : (f : Rule → ℕ) (from n : ℕ) (F G : ℕ → List Rule)
    → tally f (for_each from n (λ j. F j ++ G j)) ≡ tally f (for_each from n F) + tally f (for_each from n G)
unfolding for_each tally
tally_parts f from zero F G = omega arith
tally_parts f from (suc n) F G = omega (
  arith,
  tally_append f (F from ++ G from) (for_each (suc from) n (λ j. F j ++ G j)),
  tally_append f (F from) (G from),
  tally_append f (F from) (for_each (suc from) n F),
  tally_append f (G from) (for_each (suc from) n G),
  tally_parts f (suc from) n F G,
)

few_open : (l : List Rule) → tally stays_open l ≤ length l
unfolding tally
few_open [] = omega arith
few_open (d ∷ l) = omega (arith, few_open l)

-- ---- parts

pub none_seen : Surveyed [] (Some 0)
unfolding Tells tally
none_seen = record { tells = (refl, refl) }

both_seen : (k l : List Rule) (m n : ℕ) → Surveyed k (Some m) → Surveyed l (Some n)
    → Surveyed (k ++ l) (Some (m + n))
unfolding Tells
both_seen k l m n first second = record {
  tells = (
    omega (arith, tally_append folds_true k l, first.tells.0, second.tells.0),
    omega (arith, tally_append stays_open k l, first.tells.1, second.tells.1),
  );
}

pub true_first : (k l : List Rule) → Surveyed k None → Surveyed (k ++ l) None
unfolding Tells
true_first k l seen = record { tells = omega (arith, tally_append folds_true k l, seen.tells) }

true_last : (k l : List Rule) → Surveyed l None → Surveyed (k ++ l) None
unfolding Tells
true_last k l seen = record { tells = omega (arith, tally_append folds_true k l, seen.tells) }

pub seen_few : (l : List Rule) {n : ℕ} → Surveyed l (Some n) → n ≤ length l
unfolding Tells
seen_few l seen = omega (arith, seen.tells.1, few_open l)

-- as it is told
pub told_none : (l : List Rule) {s : Option ℕ} {n : ℕ} → s ≡ Some n → Surveyed l s → Surveyed l (Some n)
told_none l e seen = subst (Surveyed l) e seen

-- one after the other: the rules of m numbers from `from` on, and of w more
module _ (F : ℕ → List Rule) (from m w : ℕ) where
  pub more_seen : {o q : ℕ} → Surveyed (for_each from m F) (Some o)
      → Surveyed (for_each (from + m) w F) (Some q) → Surveyed (for_each from (m + w) F) (Some (o + q))
  more_seen {o} {q} first second =
      subst (λ (l : List Rule). Surveyed l (Some (o + q))) (sym (for_each_parts from m w F))
      (both_seen (for_each from m F) (for_each (from + m) w F) o q first second)

  pub true_among : (n : ℕ) → m + w ≤ n → Surveyed (for_each (from + m) w F) None
      → Surveyed (for_each from n F) None
  true_among n inside seen =
      let all : m + w + (n - (m + w)) ≡ n = omega arith in
      subst (λ (i : ℕ). Surveyed (for_each from i F) None) all
      (subst (λ (l : List Rule). Surveyed l None) (sym (for_each_parts from (m + w) (n - (m + w)) F))
      (true_first (for_each from (m + w) F) (for_each (from + (m + w)) (n - (m + w)) F)
      (subst (λ (l : List Rule). Surveyed l None) (sym (for_each_parts from m w F))
      (true_last (for_each from m F) (for_each (from + m) w F) seen))))

-- ---- a block, bit by bit

-- one rule a number
abbrev pub each_of : (ℕ → Rule) → ℕ → List Rule
each_of d i = d i ∷ []

abbrev pub BlockSoFar : (trues falses k many : ℕ) → Type 0
BlockSoFar trues falses k many = (j : ℕ) (d : ℕ → Rule) → Judges trues falses j d
    → Surveyed (for_each j k (each_of d)) (Some many)

pub no_bit_yet : (trues falses : ℕ) → BlockSoFar trues falses 0 0
unfolding for_each
no_bit_yet trues falses j d judges = none_seen

-- what one bit says
unsettled : (f : Rule) → eqb (settled_as true f) 1 ≡ false
    → (settled_as true f ≡ 0)
    × (from_bool (not (eqb (settled_as false f) 1)) ≡ 1 - settled_as true f - settled_as false f)
unfolding settled_as
unsettled (Constant true) e = absurd (eqb-false 1 1 e refl)
unsettled (Constant false) e = (refl, refl)
unsettled (Join j a b) e = (refl, refl)
unsettled (Not a) e = (refl, refl)
unsettled (Literal t s) e = (refl, refl)
unsettled (Bind q v a) e = (refl, refl)

module _ (trues falses k : ℕ) (d : Rule) (says : Says trues falses k d) where
  one_seen : {is_true is_false : Bool} {n : ℕ} → is_true ≡ eqb (bit trues k) 1 → is_true ≡ false
      → is_false ≡ eqb (bit falses k) 1 → n ≡ from_bool (not is_false) → Surveyed (d ∷ []) (Some n)
  unfolding Tells tally
  one_seen {n = n} told none told_false counts =
      let f = fold d in
      let (no_true, opens) = unsettled f (ap (λ (b : ℕ). eqb b 1) (sym says.is_yes) ∙ sym told ∙ none) in
      let here : n ≡ 1 - settled_as true f - settled_as false f = counts
      ∙ ap (λ (b : Bool). from_bool (not b)) (told_false ∙ ap (λ (b : ℕ). eqb b 1) says.is_no) ∙ opens in
      record { tells = (omega (arith, no_true), omega (arith, here)) }

  one_true : {is_true : Bool} → is_true ≡ eqb (bit trues k) 1 → is_true ≡ true → Surveyed (d ∷ []) None
  unfolding Tells tally
  one_true told e = record { tells = omega (arith, says.is_yes, bit_told trues k told e) }

pub one_at_most : (b : Bool) {n : ℕ} → n ≡ from_bool b → n ≤ 1
one_at_most true e = omega (arith, e)
one_at_most false e = omega (arith, e)

module _ (trues falses k : ℕ) (inside : k < 64) where
  pub one_bit_more : {many n : ℕ} {is_true is_false : Bool} → is_true ≡ eqb (bit trues k) 1 → is_true ≡ false
      → is_false ≡ eqb (bit falses k) 1 → n ≡ from_bool (not is_false) → BlockSoFar trues falses k many
      → BlockSoFar trues falses (k + 1) (many + n)
  unfolding for_each
  one_bit_more told none told_false counts done j d judges = more_seen (each_of d) j k 1 (done j d judges)
      (one_seen trues falses k (d (j + k)) (judges k inside) told none told_false counts)

  pub bit_true : (n : ℕ) {is_true : Bool} → k < n → is_true ≡ eqb (bit trues k) 1 → is_true ≡ true
      → (j : ℕ) (d : ℕ → Rule) → Judges trues falses j d → Surveyed (for_each j n (each_of d)) None
  unfolding for_each
  bit_true n among told e j d judges = true_among (each_of d) j k 1 n (omega arith)
      (one_true trues falses k (d (j + k)) (judges k inside) told e)

pub every_bit : (trues falses n k many : ℕ) → k ≤ n → n ≤ k → BlockSoFar trues falses k many
    → BlockSoFar trues falses n many
every_bit trues falses n k many few over done =
    let all : k ≡ n = omega arith in subst (λ (i : ℕ). BlockSoFar trues falses i many) all done

-- what is found of a block of w
abbrev pub SeenBlock : (trues falses w : ℕ) (s : Option ℕ) → Type 0
SeenBlock trues falses w s = (j : ℕ) (d : ℕ → Rule) → Judges trues falses j d → Surveyed (for_each j w (each_of d)) s

-- ---- a row, block by block, from the last to the first

-- the j's up to `left` are still to come
abbrev pub RowSoFar : (es bs : List ℤ) (n p : ℕ) (far : Bool) (x : ℕ) (u : Sum) (P left many : ℕ) → Type 0
RowSoFar es bs n p far x u P left many = (a : Rule) → Judging es bs n p x u P a
    → Surveyed (for_each (1 + left) (P - left) (each_of (λ j. at_sum far x u j a))) (Some many)

module _ {es bs : List ℤ} {n p x : ℕ} {u : Sum} {P : ℕ} where
  judging_at : {a : Rule} (j : ℕ) → j ≤ P → Judging es bs n p x u P a → Judging es bs n p x u j a
  judging_at j upto judging = record {
    at = judging.at;
    setting = judging.setting;
    sum = judging.sum;
    upto = omega (arith, upto, judging.upto);
  }

  pub block_asks : (low : ℕ) → low < P → SomeJudging es bs n p x u P → SomeJudging es bs n p x u (low + 1)
  block_asks low inside some = record {
    rule = some.rule;
    judging = judging_at (low + 1) (omega arith) some.judging;
  }

module _ {es bs : List ℤ} {n p : ℕ} (far : Bool) {x : ℕ} {u : Sum} {P : ℕ} where
  pub no_block_yet : RowSoFar es bs n p far x u P P 0
  unfolding for_each
  no_block_yet a judging =
      let none : 0 ≡ P - P = omega arith in
      subst (λ (i : ℕ). Surveyed (for_each (1 + P) i (each_of (λ j. at_sum far x u j a))) (Some 0)) none none_seen

  pub every_block : (left many : ℕ) → left ≤ 0 → RowSoFar es bs n p far x u P left many → (a : Rule)
      → Judging es bs n p x u P a → Surveyed (for_each 1 P (each_of (λ j. at_sum far x u j a))) (Some many)
  every_block left many over done a judging =
      let F = each_of (λ j. at_sum far x u j a) in
      let first : 1 + left ≡ 1 = omega arith in
      let all : P - left ≡ P = omega arith in
      subst (λ (i : ℕ). Surveyed (for_each i P F) (Some many)) first
      (subst (λ (i : ℕ). Surveyed (for_each (1 + left) i F) (Some many)) all (done a judging))

  -- the block of the last j's that are left, those over `low`, with its masks
  module _ (left low trues falses : ℕ) (upto : left ≤ P) (some_j : low < left)
      (says : (a : Rule) (k : ℕ) → Judging es bs n p x u (low + 1) a → k < 64
      → Says trues falses k (at_sum far x u (low + 1 + k) a)) where
    block_seen : {s : Option ℕ} → SeenBlock trues falses (left - low) s → (a : Rule) → Judging es bs n p x u P a
        → Surveyed (for_each (1 + low) (left - low) (each_of (λ j. at_sum far x u j a))) s
    block_seen {s} surveys a judging =
        let next : low + 1 ≡ 1 + low = omega arith in
        subst (λ (i : ℕ). Surveyed (for_each i (left - low) (each_of (λ j. at_sum far x u j a))) s) next
        (surveys (low + 1) (λ j. at_sum far x u j a)
        (λ k inside. says a k (judging_at (low + 1) (omega arith) judging) inside))

    pub block_few : {more : ℕ} → SeenBlock trues falses (left - low) (Some more) → SomeJudging es bs n p x u P
        → more ≤ left - low
    block_few surveys some =
        let F = each_of (λ j. at_sum far x u j some.rule) in
        omega (
          arith,
          seen_few (for_each (1 + low) (left - low) F) (block_seen surveys some.rule some.judging),
          length_for_each 1 (1 + low) (left - low) F (λ j. refl),
        )

    pub one_block_more : {many more : ℕ} → SeenBlock trues falses (left - low) (Some more)
        → RowSoFar es bs n p far x u P left many → RowSoFar es bs n p far x u P low (many + more)
    one_block_more {many} {more} surveys done a judging =
        let F = each_of (λ j. at_sum far x u j a) in
        let meets : 1 + left ≡ 1 + low + (left - low) = omega arith in
        let both : left - low + (P - left) ≡ P - low = omega arith in
        let sum : more + many ≡ many + more = omega arith in
        subst (λ (o : ℕ). Surveyed (for_each (1 + low) (P - low) F) (Some o)) sum
        (subst (λ (i : ℕ). Surveyed (for_each (1 + low) i F) (Some (more + many))) both
        (more_seen F (1 + low) (left - low) (P - left) (block_seen surveys a judging)
        (subst (λ (i : ℕ). Surveyed (for_each i (P - left) F) (Some many)) meets (done a judging))))

    pub block_true : SeenBlock trues falses (left - low) None → (a : Rule) → Judging es bs n p x u P a
        → Surveyed (for_each 1 P (each_of (λ j. at_sum far x u j a))) None
    block_true surveys a judging =
        true_among (each_of (λ j. at_sum far x u j a)) 1 low (left - low) P (omega arith)
        (block_seen surveys a judging)
