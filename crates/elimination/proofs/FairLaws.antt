-- What a step may answer: a refusal by a number from 1 on, or a folded rule whose table has room.
-- Assumes nothing.
use mathlib.Core.Path.{◌≡◌, refl, sym, subst}
use mathlib.Core.Bool.{Bool, true, false, not}
use Prim.Native.Nat.{ℕ, ◌≤◌}
use native.Mathlib.Omega.{arith}
use lib.Dec.{T, leb, leb→le}
use Rattle.rules.specs.Rule.{Quantifier, for_some, for_all, Rule, Bind, Some}
use Rattle.rules.specs.Result.{Result, refused, given, ◌>>=◌, require}
use Rattle.rules.specs.Table.{size}
use Rattle.rules.specs.Fold.{fold}
use Rattle.rules.specs.Chosen.{Chosen, nothing, the, chosen, replace}
use Rattle.rules.specs.Literals.{some_literal}
use Rattle.rules.specs.Steps.{by_some, normal, common_factor, scaled, period, disjunction}
use Rattle.rules.specs.Eliminate.{over_limit, step_table, on_chosen, most_period, for_all_step, normal_step}
use Rattle.rules.specs.Eliminate.{common_step, disjunction_step, round}
use Rattle.rules.specs.Laws.{Each, InTable, WellFormed}
use Rattle.rules.proofs.Encoding.{setting_range}
use Rattle.rules.proofs.Choosing.{put, put_each}
use Rattle.rules.proofs.Folding.{Folded, folded_fold}
use Rattle.rules.proofs.Shapes.{Shape, formed_shape, normal_shape}
use Rattle.rules.proofs.Shapes.{some_shape, by_some_shape, scaled_shape, disjunction_shape}
use Rattle.rules.proofs.Limits.{replaced_formed, replaced_numbers}
use Rattle.elimination.specs.Stepping.{sized}
use Rattle.elimination.proofs.StepLaws.{numbers_first, For, by_for_all, by_normal, by_common, by_disjunction}

unfoldable pub Fair : ℕ → Result Rule → Type 0
unfolding size
Fair room (refused k) = 1 ≤ k
Fair room (given f) = WellFormed f × (size f ≤ room) × Folded f

fair_require : (room : ℕ) (b : Bool) (k : ℕ) (rest : Result Rule) → 1 ≤ k → (T b → Fair room rest)
    → Fair room (require b k >>= λ u. rest)
unfolding Fair require ◌>>=◌
fair_require room true k rest h f = f tt
fair_require room false k rest h f = h

fair_then : (room : ℕ) (m : Result Rule) (step : Rule → Result Rule) → Fair room m
    → ((f : Rule) → WellFormed f → size f ≤ room → Folded f → Fair room (step f)) → Fair room (m >>= step)
unfolding Fair ◌>>=◌
fair_then room (refused k) step h next = h
fair_then room (given f) step h next = next f h.0 h.1 h.2

module _ (room : ℕ) (r : Rule) (w : WellFormed r) where
  fair_table : (new : Rule) {q : Quantifier} {x : ℕ} {a : Rule} → chosen r ≡ the q x a → Each Shape new
      → Fair room (step_table room (replace new r))
  unfolding Fair sized
  fair_table new at shape =
      subst (Fair room) (sym (numbers_first room (replace new r) (replaced_numbers new r at w)))
      (fair_require room (not (some_literal over_limit new)) 5 (sized room f) (omega arith)
      (λ within. fair_require room (leb (size f) room) 6 (given f) (omega arith)
      (λ fits. (replaced_formed new r at w shape within, leb→le (size f) room fits, folded_fold (replace new r)))))
    where
      f : Rule
      f = fold (replace new r)

  -- the chosen quantifier's setting and body
  module _ {q : Quantifier} {x : ℕ} {a : Rule} (at : chosen r ≡ the q x a) where
    formed_there : WellFormed (Bind q x a)
    formed_there = put_each InTable (put r r at) w

    low : 1 ≤ x
    unfolding Each
    low = (setting_range x formed_there.0).0

    high : x ≤ 6
    unfolding Each
    high = omega (arith, (setting_range x formed_there.0).1)

    formed : WellFormed a
    unfolding Each
    formed = formed_there.1

  module _ (fits : size r ≤ room) (folded : Folded r) where
    fair_chosen : (step : For) → ((q : Quantifier) (x : ℕ) (a : Rule) → chosen r ≡ the q x a → Fair room (step q x a))
        → Fair room (on_chosen r (chosen r) step)
    unfolding Fair on_chosen
    fair_chosen step one = go (chosen r) refl
      where
        go : (k : Chosen) → chosen r ≡ k → Fair room (on_chosen r k step)
        go nothing e = (w, fits, folded)
        go (the q x a) e = one q x a e

    pub for_all_fair : Fair room (for_all_step room r)
    unfolding for_all_step Fair
    for_all_fair = fair_chosen (by_for_all room r) go
      where
        go : (q : Quantifier) (x : ℕ) (a : Rule) → chosen r ≡ the q x a → Fair room (by_for_all room r q x a)
        go for_some x a at = (w, fits, folded)
        go for_all x a at = fair_table (by_some x a) at (by_some_shape x a (low at) (high at) (formed at))

    pub normal_fair : Fair room (normal_step room r)
    unfolding normal_step
    normal_fair = fair_chosen (by_normal room r) (λ q x a at.
        fair_table (Some x (normal true x a)) at
        (some_shape x (normal true x a) (low at) (high at) (normal_shape true x a (formed_shape a (formed at)))))

    pub common_fair : Fair room (common_step room r)
    unfolding common_step
    common_fair = fair_chosen (by_common room r) (λ q x a at.
        let b = scaled (common_factor x a) x a in
        fair_require room (leb (common_factor x a) most_period) 7 (step_table room (replace (Some x b) r)) (omega arith)
        (λ t. fair_table (Some x b) at
        (some_shape x b (low at) (high at) (scaled_shape x a (low at) (high at) (formed at)))))

    pub disjunction_fair : Fair room (disjunction_step room r)
    unfolding disjunction_step
    disjunction_fair = fair_chosen (by_disjunction room r) (λ q x a at.
        let new = disjunction (period a) x a in
        fair_require room (leb (period a) most_period) 7 (step_table room (replace new r)) (omega arith)
        (λ t. fair_table new at (disjunction_shape (period a) x a (low at) (high at) (formed at))))

pub round_fair : (room : ℕ) (r : Rule) → WellFormed r → size r ≤ room → Folded r → Fair room (round room r)
unfolding round
round_fair room r w fits folded =
    let first = for_all_step room r in
    let second = first >>= normal_step room in
    let third = second >>= common_step room in
    fair_then room third (disjunction_step room)
    (fair_then room second (common_step room)
    (fair_then room first (normal_step room) (for_all_fair room r w fits folded) (normal_fair room)) (common_fair room))
    (disjunction_fair room)
