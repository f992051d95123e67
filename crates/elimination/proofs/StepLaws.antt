-- What the definition's steps come to, by what is chosen: the limits in their order, and the step table.
-- Assumes nothing.
use mathlib.Core.Path.{◌≡◌, sym, ◌∙◌, ap, subst}
use mathlib.Core.Bool.{Bool, true, false, not}
use mathlib.Core.List.{List}
use Prim.Native.Nat.{ℕ, ◌<◌, ◌≤◌}
use native.Mathlib.Omega.{arith}
use lib.Dec.{T, not_T, leb, le→leb, leb→le}
use lib.IntN.{ℤ}
use Rattle.whole.proofs.Tests.{is_false}
use Rattle.rules.specs.Rule.{Quantifier, for_some, for_all, Rule, Some}
use Rattle.rules.specs.Result.{Result, refused, given, ◌>>=◌, require}
use Rattle.rules.specs.Fold.{fold}
use Rattle.rules.specs.Chosen.{Chosen, nothing, the, chosen, replace}
use Rattle.rules.specs.Literals.{some_literal}
use Rattle.rules.specs.Steps.{by_some, normal, common_factor, scaled, period, disjunction}
use Rattle.rules.specs.Eliminate.{over_limit, step_table, on_chosen, most_period, for_all_step, normal_step}
use Rattle.rules.specs.Eliminate.{common_step, disjunction_step}
use Rattle.rules.specs.Laws.{WellFormed}
use Rattle.rules.proofs.Refusals.{passed, then}
use Rattle.rules.proofs.Limits.{replaced_numbers}
use Rattle.bodies.specs.Body.{Bounded}
use Rattle.std.specs.Prelude as std
use Rattle.std.specs.Prelude.{Option, None, Ok, Err}
use Rattle.std.specs.Prelude.{ok_or}
use Rattle.tables.specs.Refusals.{number_of}
use Rattle.tables.specs.declared.refusal.Refusal.{Refusal}
use Rattle.elimination.specs.Stepping.{Answer, is_some, LocatedIn, Stepped, sized}

-- ---- answers

pub answered : (ts : List ℤ) (n : Answer) {s t : Result Rule} → s ≡ t → Stepped t n ts
    → Stepped s n ts
answered ts n e h = subst (λ (s : Result Rule). Stepped s n ts) (sym e) h

pub refusal : (ts : List ℤ) {s : Result Rule} (e : Refusal) → s ≡ refused (number_of e) → Stepped s (Err e) ts
unfolding Stepped
refusal ts e h = h

-- ---- what each step makes of the chosen quantifier

abbrev pub For : Type 0
For = Quantifier → ℕ → Rule → Result Rule

module _ (room : ℕ) (r : Rule) where
  abbrev pub by_for_all : For
  by_for_all q x a = elim q [ for_some ↦ given r | for_all ↦ step_table room (replace (by_some x a) r) ]

  abbrev pub by_normal : For
  by_normal q x a = step_table room (replace (Some x (normal true x a)) r)

  abbrev pub by_common : For
  by_common q x a =
      require (leb (common_factor x a) most_period) 7
      >>= λ u. step_table room (replace (Some x (scaled (common_factor x a) x a)) r)

  abbrev pub by_disjunction : For
  by_disjunction q x a =
      require (leb (period a) most_period) 7 >>= λ u. step_table room (replace (disjunction (period a) x a) r)

module _ (r : Rule) (step : For) where
  none_chosen : chosen r ≡ nothing → on_chosen r (chosen r) step ≡ given r
  unfolding on_chosen
  none_chosen e = ap (λ (k : Chosen). on_chosen r k step) e

  one_chosen : {q : Quantifier} {x : ℕ} {a : Rule} → chosen r ≡ the q x a
      → on_chosen r (chosen r) step ≡ step q x a
  unfolding on_chosen
  one_chosen e = ap (λ (k : Chosen). on_chosen r k step) e

-- ---- no quantifier is chosen

pub nowhere : (r : Rule) → LocatedIn r None → chosen r ≡ nothing
unfolding LocatedIn
nowhere r h = h

module _ (room : ℕ) (r : Rule) (none : chosen r ≡ nothing) where
  pub normal_none : normal_step room r ≡ given r
  unfolding normal_step
  normal_none = none_chosen r (by_normal room r) none

  pub common_none : common_step room r ≡ given r
  unfolding common_step
  common_none = none_chosen r (by_common room r) none

  pub disjunction_none : disjunction_step room r ≡ given r
  unfolding disjunction_step
  disjunction_none = none_chosen r (by_disjunction room r) none

-- ---- D and P

-- k is n, and not over 4,096
abbrev pub Least : ℕ → ℕ → Type 0
Least n k = (k ≡ n) × (k ≤ most_period)

-- what an Option says of it, as it is held in a Result
pub multiple_over : (n : ℕ) (e d : Refusal) (m : Option ℕ) → ok_or m e ≡ Err d → Bounded n m
    → (d ≡ e) × (most_period < n)
unfolding Bounded
multiple_over n e d None is h = (cc, h)
multiple_over n e d (std.Some k) is h = absurd cc

pub multiple_least : (n k : ℕ) (e : Refusal) (m : Option ℕ) → ok_or m e ≡ Ok k → Bounded n m → Least n k
unfolding Bounded
multiple_least n k e None is h = absurd cc
multiple_least n k e (std.Some j) is h = let same : j ≡ k = cc in (omega (arith, h.0), omega (arith, h.0, h.1))

-- ---- one is chosen: "numbers come first (5)"

pub numbers_first : (room : ℕ) (t : Rule) {b : Bool} → some_literal over_limit t ≡ b
    → step_table room t ≡ (require (not b) 5 >>= λ u. sized room (fold t))
unfolding step_table sized
numbers_first room t e = ap (λ (b : Bool). require (not b) 5 >>= λ u. sized room (fold t)) e

module _ (room : ℕ) (new r : Rule) {q : Quantifier} {x : ℕ} {a : Rule} (at : chosen r ≡ the q x a) (w : WellFormed r)
  where
    pub over_refused : some_literal over_limit new ≡ true → step_table room (replace new r) ≡ refused 5
    unfolding require ◌>>=◌
    over_refused e = numbers_first room (replace new r) (replaced_numbers new r at w ∙ e)

    pub within_sized : T (not (some_literal over_limit new))
        → step_table room (replace new r) ≡ sized room (fold (replace new r))
    unfolding require ◌>>=◌
    within_sized h = numbers_first room (replace new r) (replaced_numbers new r at w ∙ is_false _ h)

-- "D or P passes 4,096" (7), where a new rule that hangs on it would be put
module _ (room : ℕ) (r : Rule) (new : ℕ → Rule) where
  abbrev held : ℕ → Result Rule
  held n = require (leb n most_period) 7 >>= λ u. step_table room (replace (new n) r)

  held_refused : {n : ℕ} → most_period < n → held n ≡ refused 7
  unfolding require ◌>>=◌
  held_refused {n} many =
      let over = not_T (leb n most_period) (λ t. omega (arith, leb→le n most_period t)) in
      ap (λ (b : Bool). require b 7 >>= λ u. step_table room (replace (new n) r)) (is_false (leb n most_period) over)

  held_passed : {n k : ℕ} → Least n k → held n ≡ step_table room (replace (new k) r)
  held_passed {n} (same, few) =
      then (λ u. step_table room (replace (new n) r)) (passed _ 7 (le→leb n most_period (omega (arith, same, few))))
      ∙ ap (λ (m : ℕ). step_table room (replace (new m) r)) (sym same)

module _ (room : ℕ) (r : Rule) {x : ℕ} {a : Rule} where
  pub for_some_is : (q : Quantifier) → is_some q ≡ true → chosen r ≡ the q x a → for_all_step room r ≡ given r
  unfolding for_all_step is_some
  for_some_is for_some e at = one_chosen r (by_for_all room r) at
  for_some_is for_all e at = absurd (subst T (sym e) tt)

  pub for_all_is : (q : Quantifier) → is_some q ≡ false → chosen r ≡ the q x a
      → for_all_step room r ≡ step_table room (replace (by_some x a) r)
  unfolding for_all_step is_some
  for_all_is for_some e at = absurd (subst T e tt)
  for_all_is for_all e at = one_chosen r (by_for_all room r) at

  module _ {q : Quantifier} (at : chosen r ≡ the q x a) where
    pub normal_is : normal_step room r ≡ step_table room (replace (Some x (normal true x a)) r)
    unfolding normal_step
    normal_is = one_chosen r (by_normal room r) at

    pub common_refused : most_period < common_factor x a → common_step room r ≡ refused 7
    unfolding common_step
    common_refused many =
        one_chosen r (by_common room r) at ∙ held_refused room r (λ D. Some x (scaled D x a)) many

    pub common_is : {D : ℕ} → Least (common_factor x a) D
        → common_step room r ≡ step_table room (replace (Some x (scaled D x a)) r)
    unfolding common_step
    common_is least = one_chosen r (by_common room r) at ∙ held_passed room r (λ D. Some x (scaled D x a)) least

    pub disjunction_refused : most_period < period a → disjunction_step room r ≡ refused 7
    unfolding disjunction_step
    disjunction_refused many =
        one_chosen r (by_disjunction room r) at ∙ held_refused room r (λ P. disjunction P x a) many

    pub disjunction_is : {P : ℕ} → Least (period a) P
        → disjunction_step room r ≡ step_table room (replace (disjunction P x a) r)
    unfolding disjunction_step
    disjunction_is least = one_chosen r (by_disjunction room r) at ∙ held_passed room r (λ P. disjunction P x a) least
