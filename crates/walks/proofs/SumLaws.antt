-- The words of T, −T, 1+T and 1−T: what the machine makes of them, and that c alone can pass the limit.
-- Assumes nothing.
use mathlib.Core.Path.{◌≡◌, refl, sym, ap, ap₂, ◌∙◌, subst}
use mathlib.Core.Bool.{Bool, true, false, not, ◌&&◌, ◌||◌, cond}
use mathlib.Core.List.{List, [], ◌∷◌}
use Prim.Native.Nat.{ℕ, zero, suc, ◌+◌, ◌-◌, ◌<◌, ◌≤◌}
use native.Mathlib.Omega.{arith}
use borrow.Author.Tests.{eq-eqb, ne_eqb, lt-ltb, le-ltb, le-leb, lt-leb}
use lib.Dec.{T, eqb, leb, eqb→eq}
use lib.IntN.{ℤ, pos, negsuc, nat_abs, ◌+ℤ◌, ◌-ℤ◌, ◌*ℤ◌, +ℤ_idl}
use lib.ListN.{length, get_or, drop}
use lib.Seq.{get_or-take, get_or-drop}
use mir.Syntax.{w32}
use mir.Val.{SFits, to_z, of_z}
use mir.Facts.{to_z-of_z}
use Rattle.whole.specs.Integers.{eq_ℤ, within}
use Rattle.whole.proofs.Tests.{T_and, is_true, never}
use Rattle.whole.proofs.Difference.{zz, z1}
use Rattle.rules.specs.Sum.{Sum, factor, limit, all_within, add, scale, one_plus}
use Rattle.rules.specs.Rule.{Test, positive, divisible, is_zero, Literal}
use Rattle.rules.specs.Table.{Node}
use Rattle.rules.specs.Fold.{fold, fold_literal}
use Rattle.rules.specs.Literals.{some_literal}
use Rattle.rules.specs.Eliminate.{divisor_over, over_limit}
use Rattle.rules.proofs.Encoding.{divisor_range}
use Rattle.rules.proofs.Sums.{factor_scale, length_scale}
use Rattle.tables.proofs.Inversion.{test_kind}
use Rattle.builder.specs.declared.push.State.{State}
use Rattle.folding.specs.Answers.{Gives}
use Rattle.folding.specs.declared.answers.Folded.{Folded}
use Rattle.literals.specs.Literal.{Fair, start_of}
use Rattle.literals.proofs.Sevens.{listed, within_at}
use Rattle.literals.proofs.Sizes.{size_mul, fits_size}
use Rattle.walks.specs.Sums.{turned, raised, raise, passes_limit, RaiseOf, SumAt, SomeSum, TestAt, SomeTestAt}
use Rattle.walks.specs.Normal.{Normalled}
use Rattle.std.specs.Prelude.{Option, Some, None, SomeIff}

-- ---- seven words

data Seven : Sum → Type 0 where
  seven : (c a b d e f g : ℤ) → Seven (c ∷ a ∷ b ∷ d ∷ e ∷ f ∷ g ∷ [])

seven_of : (s : Sum) → length s ≡ 7 → Seven s
seven_of s h = subst Seven (sym (listed s h)) (seven _ _ _ _ _ _ _)

-- ---- T or −T

pub turned_long : (minus : Bool) (s : Sum) → length (turned minus s) ≡ length s
unfolding turned
turned_long false s = refl
turned_long true s = length_scale (negsuc 0) s

negated_within : (s : Sum) → T (all_within limit s) → T (all_within limit (scale (negsuc 0) s))
unfolding all_within scale
negated_within [] h = tt
negated_within (a ∷ s) h =
    let both = (T_and (within limit a) (all_within limit s)).0 h in
    let same : nat_abs (negsuc 0 *ℤ a) ≡ nat_abs a = omega (arith, size_mul (negsuc 0) a) in
    (T_and (within limit (negsuc 0 *ℤ a)) (all_within limit (scale (negsuc 0) s))).1
    (subst (λ (n : ℕ). T (leb n limit)) (sym same) both.0, negated_within s both.1)

pub turned_within : (minus : Bool) (s : Sum) → T (all_within limit s) → T (all_within limit (turned minus s))
unfolding turned
turned_within false s h = h
turned_within true s h = negated_within s h

minus_is : (z : ℤ) → pos 0 -ℤ z ≡ negsuc 0 *ℤ z
minus_is = z1 _ (simp zz (omega arith))

-- word `at + v` is the factor of v, and z is read there
module _ {ws : List ℤ} {at v : ℕ} {z : ℤ} (inside : v < 7) (fits : SFits w32 z)
    (here : z ≡ get_or ws (at + v) (pos 0)) where
  factor_is : (s : Sum) → SumAt ws at s → z ≡ factor v s
  factor_is s h =
      here ∙ sym (get_or-take 7 (drop at ws) v (pos 0) inside ∙ get_or-drop at ws v (pos 0))
      ∙ ap (λ (l : List ℤ). get_or l v (pos 0)) h.begins

  pub minus_fits : SomeSum ws at → SFits w32 (pos 0 -ℤ to_z w32 (of_z w32 z))
  minus_fits some =
      let small = within_at limit some.sum v some.there.small in
      let is = factor_is some.sum some.there in
      let size : nat_abs z ≤ limit = subst (λ (a : ℤ). nat_abs a ≤ limit) (sym is) small in
      rw (to_z-of_z fits, minus_is z) (fits_size w32 (negsuc 0 *ℤ z) (omega (arith, size_mul (negsuc 0) z)))

  pub factor_minus : (minus : Bool) → minus ≡ true → SomeSum ws at → (s : Sum) → SumAt ws at s
      → to_z w32 (of_z w32 (pos 0 -ℤ to_z w32 (of_z w32 z))) ≡ factor v (turned minus s)
  unfolding turned
  factor_minus true e some s h =
      to_z-of_z (minus_fits some) ∙ ap (λ (a : ℤ). pos 0 -ℤ a) (to_z-of_z fits) ∙ minus_is z
      ∙ ap (λ (a : ℤ). negsuc 0 *ℤ a) (factor_is s h) ∙ sym (factor_scale v (negsuc 0) s)
  factor_minus false e some s h = absurd (subst T (sym e) tt)

  pub factor_plain : (minus : Bool) → minus ≡ false → (s : Sum) → SumAt ws at s
      → to_z w32 (of_z w32 z) ≡ factor v (turned minus s)
  unfolding turned
  factor_plain false e s h = to_z-of_z fits ∙ factor_is s h
  factor_plain true e s h = absurd (subst T e tt)

-- ---- one more

one_more : (c : ℤ) → pos 1 +ℤ c ≡ c +ℤ pos 1
one_more = z1 _ (simp zz (omega arith))

below_zero : (n : ℕ) → negsuc (suc n) +ℤ pos 1 ≡ negsuc n
below_zero n =
    ap (λ (t : Bool). cond t (negsuc (suc (suc n) - 2)) (pos (1 - suc (suc n)))) (lt-ltb 1 (suc (suc n)) (omega arith))
    ∙ ap negsuc (let e : suc (suc n) - 2 ≡ n = omega arith in e)

module _ {c : ℤ} (fits : SFits w32 c) where
  sum_fits : eq_ℤ c (pos limit) ≡ false → SFits w32 (c +ℤ pos 1)
  sum_fits h = by c fits h
    where
      by : (c : ℤ) → SFits w32 c → eq_ℤ c (pos limit) ≡ false → SFits w32 (c +ℤ pos 1)
      by (pos n) f h =
          let less : ¬ (n ≡ limit) = λ e. absurd (subst T (sym (eq-eqb n limit e) ∙ h) tt) in
          record { sfits = omega (arith, f.sfits, less) }
      by (negsuc zero) f h = record { sfits = omega arith }
      by (negsuc (suc n)) f h = rw (below_zero n) (record { sfits = omega (arith, f.sfits) })

  -- of c in 32 bits there is one more where c is not the limit
  limit_is : ¬ (SFits w32 (c +ℤ pos 1)) → eq_ℤ c (pos limit) ≡ true
  limit_is h = by (eq_ℤ c (pos limit)) refl
    where
      by : (e : Bool) → eq_ℤ c (pos limit) ≡ e → e ≡ true
      by true e = refl
      by false e = absurd (h (sum_fits e))

  limit_not : SFits w32 (c +ℤ pos 1) → eq_ℤ c (pos limit) ≡ false
  limit_not h = by c h
    where
      by : (c : ℤ) → SFits w32 (c +ℤ pos 1) → eq_ℤ c (pos limit) ≡ false
      by (pos n) f = ne_eqb n limit (λ e. omega (arith, f.sfits, e))
      by (negsuc n) f = refl

  pub raise_one : (one : Bool) → one ≡ true → (r : Option ℤ)
      → SomeIff r (SFits w32 (to_z w32 (of_z w32 c) +ℤ pos 1)) (to_z w32 (of_z w32 c) +ℤ pos 1) → RaiseOf one c r
  raise_one false e r h = absurd (subst T (sym e) tt)
  raise_one true e r h =
      by r (subst (λ (a : ℤ). SomeIff r (SFits w32 (a +ℤ pos 1)) (a +ℤ pos 1)) (to_z-of_z fits) h)
    where
      by : (r : Option ℤ) → SomeIff r (SFits w32 (c +ℤ pos 1)) (c +ℤ pos 1) → RaiseOf true c r
      by None h = limit_is h
      by (Some z) h = unfold raise in (limit_not h.0, h.1 ∙ sym (one_more c))

  pub raise_none : (one : Bool) → one ≡ false → (passes_limit one c ≡ false) × (to_z w32 (of_z w32 c) ≡ raise one c)
  unfolding raise
  raise_none false e = (refl, to_z-of_z fits)
  raise_none true e = absurd (subst T e tt)

  pub raise_fits : (one : Bool) → passes_limit one c ≡ false → {z : ℤ} → z ≡ raise one c → SFits w32 z
  unfolding raise
  raise_fits true e is = subst (SFits w32) (sym (is ∙ one_more c)) (sum_fits e)
  raise_fits false e is = subst (SFits w32) (sym is) fits

-- ---- where T starts

module _ {ws : List ℤ} {kind k at : ℕ} where
  pub sum_at : {t : Test} {s : Sum} → TestAt ws kind k t s → ((t : Test) → kind ≡ test_kind t → at ≡ start_of t)
      → SumAt ws at s
  sum_at {t} {s} there starts =
      subst (λ (i : ℕ). SumAt ws i s) (sym (starts t there.marked.same_kind)) there.sum

  pub some_sum_at : SomeTestAt ws kind k → ((t : Test) → kind ≡ test_kind t → at ≡ start_of t) → SomeSum ws at
  some_sum_at some starts = record { sum = some.sum; there = sum_at some.there starts }

-- ---- the words together

pub sum_words : (one : Bool) (u : Sum) → length u ≡ 7 → (w a b d e f g : ℤ) → w ≡ raise one (factor 0 u)
    → a ≡ factor 1 u → b ≡ factor 2 u → d ≡ factor 3 u → e ≡ factor 4 u → f ≡ factor 5 u → g ≡ factor 6 u
    → (w ∷ a ∷ b ∷ d ∷ e ∷ f ∷ g ∷ []) ≡ raised one u
sum_words one u h w a b d e f g p p1 p2 p3 p4 p5 p6 = by one (seven_of u h) p p1 p2 p3 p4 p5 p6
  where
    by : (one : Bool) {u : Sum} → Seven u → w ≡ raise one (factor 0 u) → a ≡ factor 1 u → b ≡ factor 2 u
        → d ≡ factor 3 u → e ≡ factor 4 u → f ≡ factor 5 u → g ≡ factor 6 u
        → (w ∷ a ∷ b ∷ d ∷ e ∷ f ∷ g ∷ []) ≡ raised one u
    by false (seven c a0 b0 d0 e0 f0 g0) p p1 p2 p3 p4 p5 p6 = unfold raised raise in
        ap₂ ◌∷◌ p (ap₂ ◌∷◌ p1 (ap₂ ◌∷◌ p2 (ap₂ ◌∷◌ p3 (ap₂ ◌∷◌ p4 (ap₂ ◌∷◌ p5 (ap₂ ◌∷◌ p6 refl))))))
    by true (seven c a0 b0 d0 e0 f0 g0) p p1 p2 p3 p4 p5 p6 = unfold raised raise one_plus add in
        ap₂ ◌∷◌ p (ap₂ ◌∷◌ (p1 ∙ sym (+ℤ_idl a0)) (ap₂ ◌∷◌ (p2 ∙ sym (+ℤ_idl b0)) (ap₂ ◌∷◌ (p3 ∙ sym (+ℤ_idl d0))
        (ap₂ ◌∷◌ (p4 ∙ sym (+ℤ_idl e0)) (ap₂ ◌∷◌ (p5 ∙ sym (+ℤ_idl f0)) (ap₂ ◌∷◌ (p6 ∙ sym (+ℤ_idl g0)) refl))))))

-- where c comes first and each a behind it
pub words_are : (one : Bool) (u : Sum) → length u ≡ 7 → (l : Sum) → length l ≡ 7
    → get_or l 0 (pos 0) ≡ raise one (factor 0 u)
    → ((v : ℕ) → 1 ≤ v → v < 7 → get_or l v (pos 0) ≡ factor v u) → l ≡ raised one u
words_are one u long l all first each = by (seven_of l all) first each
  where
    by : {l : Sum} → Seven l → get_or l 0 (pos 0) ≡ raise one (factor 0 u)
        → ((v : ℕ) → 1 ≤ v → v < 7 → get_or l v (pos 0) ≡ factor v u) → l ≡ raised one u
    by (seven c a b d e f g) first each =
        sum_words one u long c a b d e f g first (each 1 (omega arith) (omega arith))
        (each 2 (omega arith) (omega arith)) (each 3 (omega arith) (omega arith))
        (each 4 (omega arith) (omega arith)) (each 5 (omega arith) (omega arith)) (each 6 (omega arith) (omega arith))

pub raised_long : (one : Bool) (u : Sum) → length u ≡ 7 → length (raised one u) ≡ 7
raised_long one u h = sym (ap length (sum_words one u h _ _ _ _ _ _ _ refl refl refl refl refl refl refl))

-- ---- the limit

within_more : (c : ℤ) → nat_abs c ≤ limit → within limit (pos 1 +ℤ c) ≡ not (eq_ℤ c (pos limit))
within_more (pos n) h = by (eqb n limit) refl
  where
    by : (b : Bool) → eqb n limit ≡ b → leb (1 + n) limit ≡ not b
    by true e = lt-leb (1 + n) limit (omega (arith, eqb→eq n limit (subst T (sym e) tt)))
    by false e =
        let less : ¬ (n ≡ limit) = λ i. never (sym e ∙ eq-eqb n limit i) in
        le-leb (1 + n) limit (omega (arith, h, less))
within_more (negsuc zero) h = refl
within_more (negsuc (suc n)) h =
    ap (within limit) (one_more (negsuc (suc n)) ∙ below_zero n) ∙ le-leb (suc n) limit (omega arith)

and_true : (b r : Bool) → T r → (b && r) ≡ b
and_true true true h = refl
and_true true false h = absurd h
and_true false r h = refl

module _ (u : Sum) (long : length u ≡ 7) (small : T (all_within limit u)) where
  within_raised : (one : Bool) → all_within limit (raised one u) ≡ not (passes_limit one (factor 0 u))
  unfolding raise
  within_raised false = unfold raised in is_true (all_within limit u) small
  within_raised true =
      ap (all_within limit) (sym (sum_words true u long _ _ _ _ _ _ _ refl refl refl refl refl refl refl))
      ∙ rest (seven_of u long) small ∙ within_more (factor 0 u) (within_at limit u 0 small)
    where
      rest : {u : Sum} → Seven u → T (all_within limit u)
          → all_within limit ((pos 1 +ℤ factor 0 u) ∷ factor 1 u ∷ factor 2 u ∷ factor 3 u
          ∷ factor 4 u ∷ factor 5 u ∷ factor 6 u ∷ [])
          ≡ within limit (pos 1 +ℤ factor 0 u)
      rest (seven c a b d e f g) h = unfold all_within in
          and_true (within limit (pos 1 +ℤ c)) _ ((T_and (within limit c) _).0 h).1

-- the divisor of a test that a table can hold is not over the limit
fair_divisor : (t : Test) → Fair t → divisor_over t ≡ false
fair_divisor positive h = refl
fair_divisor (divisible b k) h = le-ltb limit k (divisor_range k h).1
fair_divisor is_zero h = refl

module _ {ws : List ℤ} {kind k : ℕ} {t : Test} {s : Sum} (there : TestAt ws kind k t s) (minus one : Bool) where
  -- the sum as it is put
  abbrev put_sum : Sum
  put_sum = raised one (turned minus s)

  over_is : over_limit t put_sum ≡ passes_limit one (factor 0 (turned minus s))
  unfolding over_limit
  over_is =
      ap (λ (d : Bool). not (all_within limit put_sum) || d) (fair_divisor t there.fair)
      ∙ ap (λ (w : Bool). not w || false)
      (within_raised (turned minus s) (turned_long minus s ∙ there.sum.long)
      (turned_within minus s there.sum.small) one)
      ∙ clear (passes_limit one (factor 0 (turned minus s)))
    where
      clear : (b : Bool) → (not (not b) || false) ≡ b
      clear true = refl
      clear false = refl

  -- c as it is read, and whether it passes the limit
  module _ {c : ℤ} (fits : SFits w32 c) (first : c ≡ factor 0 (turned minus s)) where
    over_told : {r : Bool} → passes_limit one (to_z w32 (of_z w32 c)) ≡ r → over_limit t put_sum ≡ r
    over_told e = over_is ∙ sym (ap (passes_limit one) (to_z-of_z fits ∙ first)) ∙ e

    pub test_over : passes_limit one (to_z w32 (of_z w32 c)) ≡ true → (vs : List ℤ) (b : State) (ds : List Node)
        → Normalled vs b ds (Literal t put_sum) None
    unfolding Normalled some_literal
    test_over e vs b ds = subst T (sym (over_told e)) tt

    pub test_made : passes_limit one (to_z w32 (of_z w32 c)) ≡ false → (vs : List ℤ) (b : State) (ds : List Node)
        (f : Folded) (l : Sum) → l ≡ put_sum → Gives vs b ds (fold_literal t l) f
        → Normalled vs b ds (Literal t put_sum) (Some f)
    unfolding Normalled some_literal fold
    test_made e vs b ds f l is h =
        let within_limit : T (not (over_limit t put_sum)) = subst (λ (x : Bool). T (not x)) (sym (over_told e)) tt in
        (within_limit, subst (λ (m : Sum). Gives vs b ds (fold_literal t m) f) is h)
