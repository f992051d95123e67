-- Where the common factor D is 1, step 2 changes nothing: each literal is taken once, and 1 divides x is true.
-- Assumes nothing.
use mathlib.Core.Path.{◌≡◌, refl, sym, ◌∙◌, ap, ap₂, subst}
use mathlib.Core.Bool.{Bool, true, false, not, cond, true≢false, ◌||◌, or-true}
use mathlib.Core.List.{[], ◌∷◌}
use Prim.Native.Nat.{ℕ, zero, suc, ◌/◌, ◌≤◌, ◌<◌}
use native.Mathlib.Omega.{arith}
use lib.Dec.{leb, le→leb, eqb, eqb-suc-zero}
use lib.IntN.{ℤ, pos, negsuc, nat_abs, ◌*ℤ◌}
use lib.ListN.{length}
use Rattle.whole.proofs.Tests.{is_true}
use Rattle.whole.specs.Integers.{eq_ℤ}
use Rattle.whole.specs.Divides.{Divides, divides}
use Rattle.whole.proofs.Lists.{All}
use Rattle.whole.proofs.Difference.{zz, z1}
use Rattle.whole.proofs.Divisibility.{one_divides, divides_test}
use Rattle.whole.proofs.Multiples.{divides_antisym}
use Rattle.rules.specs.Sum.{Sum, factor, put, scale, setting, no_factors}
use Rattle.rules.specs.Rule.{Quantifier, for_some, Test, positive, divisible, is_zero}
use Rattle.rules.specs.Rule.{Rule, Constant, Join, Not, Literal, Bind, True, Some, and}
use Rattle.rules.specs.Result.{Result, given, require, ◌>>=◌}
use Rattle.rules.specs.Table.{size}
use Rattle.rules.specs.Fold.{fold, fold_join, fold_sides, side, fold_literal}
use Rattle.rules.specs.Chosen.{Chosen, the, chosen, replace}
use Rattle.rules.specs.Literals.{map_literals, some_literal}
use Rattle.rules.specs.Steps.{size_of, common_factor, multiplier, times, sign, scale_literal, scaled}
use Rattle.rules.specs.Eliminate.{over_limit, most_period, step_table, on_chosen, common_step}
use Rattle.rules.specs.Laws.{Each, InTable, WellFormed}
use Rattle.rules.proofs.Folding.{Open, Folded, fold_folded}
use Rattle.rules.proofs.Choosing.{Put, here, in_left, in_right, in_not, in_bind, put_each, put_fold}
use Rattle.rules.proofs.Choosing.{put as put_chosen}
use Rattle.rules.proofs.CommonFactor.{SizeDivides, sizes_divide}
use Rattle.rules.proofs.OverLiterals.{each_imp}
use Rattle.rules.proofs.Limits.{within_limits, replaced_numbers}

-- ---- a literal taken once

scale_one : (s : Sum) → scale (pos 1) s ≡ s
unfolding scale
scale_one [] = refl
scale_one (a ∷ s) = ap₂ ◌∷◌ (law a) (scale_one s)
  where
    law : (a : ℤ) → pos 1 *ℤ a ≡ a
    law = z1 _ (simp zz (omega arith))

put_its_own : (v : ℕ) (s : Sum) → v < length s → put v (factor v s) s ≡ s
unfolding put
put_its_own v [] h = absurd (omega arith)
put_its_own zero (a ∷ s) h = refl
put_its_own (suc v) (a ∷ s) h = ap (λ (t : Sum). a ∷ t) (put_its_own v s (omega arith))

divides_one : (n : ℕ) → Divides (suc n) (pos 1) → n ≡ 0
divides_one n d = omega (arith, divides_antisym (suc n) 1 d (one_divides (pos (suc n))))

-- the multiplier is 1, and the factor of x its own sign
taken_once : (x : ℕ) (t : Test) (s : Sum) → SizeDivides 1 x t s
    → (multiplier 1 x s ≡ 1) × (sign (factor x s) ≡ factor x s)
unfolding SizeDivides size_of multiplier All
taken_once x t s = by_factor (factor x s)
  where
    by_factor : (f : ℤ) → All (λ k. Divides k (pos 1)) (cond (not (eq_ℤ f (pos 0))) (nat_abs f ∷ []) [])
        → (cond (not (eq_ℤ f (pos 0))) (1 / nat_abs f) 1 ≡ 1) × (sign f ≡ f)
    by_factor (pos zero) d = (refl, refl)
    by_factor (pos (suc n)) d = nonzero (eqb (suc n) 0) (eqb-suc-zero n) d
      where
        nonzero : (c : Bool) → c ≡ false → All (λ k. Divides k (pos 1)) (cond (not c) (suc n ∷ []) [])
            → (cond (not c) (1 / suc n) 1 ≡ 1) × (pos 1 ≡ pos (suc n))
        nonzero true e d = absurd (true≢false e)
        nonzero false e d =
            let z = divides_one n d.0 in
            (ap (λ (k : ℕ). 1 / suc k) z, ap (λ (k : ℕ). pos (suc k)) (sym z))
    by_factor (negsuc n) d =
        let z = divides_one n d.0 in
        (ap (λ (k : ℕ). 1 / suc k) z, ap negsuc (sym z))

times_one : (t : Test) → times 1 t ≡ t
times_one positive = refl
times_one (divisible b k) = ap (divisible b) (omega arith)
times_one is_zero = refl

scaled_once : (x : ℕ) (t : Test) (s : Sum) → x < length s → SizeDivides 1 x t s → scale_literal 1 x t s ≡ Literal t s
unfolding scale_literal
scaled_once x t s h d =
    let (m, f) = taken_once x t s d in
    ap (λ (n : ℕ). Literal (times n t) (put x (sign (factor x s)) (scale (pos n) s))) m
    ∙ ap₂ Literal (times_one t) (ap (λ (u : Sum). put x (sign (factor x s)) u) (scale_one s)
    ∙ ap (λ (z : ℤ). put x z s) f ∙ put_its_own x s h)

-- ---- the body

map_once : (f : Test → Sum → Rule) (a : Rule) → Each (λ t s. f t s ≡ Literal t s) a → map_literals f a ≡ a
unfolding Each map_literals
map_once f (Constant b) h = refl
map_once f (Join j a b) h = ap₂ (Join j) (map_once f a h.0) (map_once f b h.1)
map_once f (Not a) h = ap Not (map_once f a h)
map_once f (Literal t s) h = h
map_once f (Bind q v a) h = ap (Bind q v) (map_once f a h.1)

body_once : (x : ℕ) (a : Rule) → x ≤ 6 → WellFormed a → common_factor x a ≡ 1 → map_literals (scale_literal 1 x) a ≡ a
body_once x a six w one = map_once (scale_literal 1 x) a (
    each_imp (λ t s. SizeDivides 1 x t s × InTable t s) (λ t s. scale_literal 1 x t s ≡ Literal t s)
    (λ t s h. scaled_once x t s (omega (arith, h.1.0)) h.0) a
    (subst (λ (D : ℕ). Each (λ t s. SizeDivides D x t s × InTable t s) a) one (sizes_divide x InTable a w))
    )

-- 1 divides x is true, so that the body stands alone
one_divides_true : (s : Sum) → fold_literal (divisible true 1) s ≡ True
unfolding fold_literal
one_divides_true s =
    let c = factor 0 s in
    ap (λ (t : Bool). cond t (Constant (divides 1 c)) (Literal (divisible true 1) s)) (or-true (no_factors s))
    ∙ ap Constant (is_true (divides 1 c) ((divides_test 1 c).1 (one_divides c)))

alone : (a : Rule) → fold_join and a True ≡ a
unfolding fold_join fold_sides side
alone (Constant true) = refl
alone (Constant false) = refl
alone (Join j a b) = refl
alone (Not a) = refl
alone (Literal t s) = refl
alone (Bind q v a) = refl

scaled_folds : (x : ℕ) (a : Rule) → x ≤ 6 → WellFormed a → Folded a → common_factor x a ≡ 1
    → fold (Some x (scaled (common_factor x a) x a)) ≡ Some x a
unfolding fold scaled
scaled_folds x a six w folded one =
    ap (λ (D : ℕ). fold (Some x (scaled D x a))) one
    ∙ ap (Some x) (
    ap₂ (fold_join and) (ap fold (body_once x a six w one) ∙ fold_folded a folded) (one_divides_true (setting x))
    ∙ alone a
    )

-- ---- what stands around it

module _ {q : Quantifier} {x : ℕ} {a new : Rule} where
  put_folded : {r s : Rule} → Put q x a new r s → Folded r → Folded a
  unfolding Folded
  put_folded (here e) h = h
  put_folded (in_left p e) h = put_folded p h.2
  put_folded (in_right p) h = put_folded p h.3
  put_folded (in_not p) h = put_folded p h.1
  put_folded (in_bind p) h = put_folded p h

put_itself : {q : Quantifier} {x : ℕ} {a r s : Rule} → Put q x a (Bind q x a) r s → s ≡ r
put_itself (here e) = refl
put_itself (in_left {j = j} {b = b} p e) = ap (λ (c : Rule). Join j c b) (put_itself p)
put_itself (in_right {j = j} {b = b} p) = ap (Join j b) (put_itself p)
put_itself (in_not p) = ap Not (put_itself p)
put_itself (in_bind {p = k} {v = v} p) = ap (Bind k v) (put_itself p)

module _ (room : ℕ) (r : Rule) {x : ℕ} {a : Rule} (at : chosen r ≡ the for_some x a) (six : x ≤ 6)
    (one : common_factor x a ≡ 1) (formed : WellFormed r) (folded : Folded r) where
  abbrev new : Rule
  new = Some x (scaled (common_factor x a) x a)

  body_formed : WellFormed a
  body_formed = unfold Each in (put_each InTable (put_chosen new r at) formed).1

  body_folded : Folded a
  body_folded = put_folded (put_chosen new r at) folded

  stays : fold (replace new r) ≡ r
  stays =
      let folds = scaled_folds x a six body_formed body_folded one in
      let open_new : Open (fold new) = subst Open (sym folds) tt in
      let after : Put for_some x a (fold new) r (fold (replace new r)) =
      put_fold open_new (put_chosen new r at) folded in
      put_itself (subst (λ (n : Rule). Put for_some x a n r (fold (replace new r))) folds after)

  new_within : over_limit (divisible true 1) (setting x) ≡ false → some_literal over_limit new ≡ false
  unfolding scaled some_literal
  new_within divisor =
      let body = ap (some_literal over_limit) (body_once x a six body_formed one) ∙ within_limits a body_formed in
      ap (λ (D : ℕ). some_literal over_limit (scaled D x a)) one ∙ ap₂ ◌||◌ body divisor

  pub common_one : over_limit (divisible true 1) (setting x) ≡ false → size r ≤ room → common_step room r ≡ given r
  unfolding common_step on_chosen step_table require ◌>>=◌
  common_one divisor fits =
      ap (λ (k : Chosen). on_chosen r k step) at
      ∙ ap (λ (D : ℕ). require (leb D most_period) 7 >>= λ u. step_table room (replace (Some x (scaled D x a)) r)) one
      ∙ ap (λ (D : ℕ). step_table room (replace (Some x (scaled D x a)) r)) (sym one)
      ∙ ap (λ (b : Bool). require (not b) 5 >>= λ u. sized (fold (replace new r)))
      (replaced_numbers new r at formed ∙ new_within divisor)
      ∙ ap sized stays
      ∙ ap (λ (b : Bool). require b 6 >>= λ u. given r) (is_true (leb (size r) room) (le→leb (size r) room fits))
    where
      step : Quantifier → ℕ → Rule → Result Rule
      step q x a = require (leb (common_factor x a) most_period) 7
          >>= λ u. step_table room (replace (Some x (scaled (common_factor x a) x a)) r)

      sized : Rule → Result Rule
      sized f = require (leb (size f) room) 6 >>= λ w. given f
