-- A literal at 64 values: what the masks of its test say, and what folding makes of it.
-- Assumes nothing.
use mathlib.Core.Path.{◌≡◌, refl, sym, ap, ap₂, ◌∙◌, subst}
use mathlib.Core.Bool.{Bool, true, false, not, cond, ◌||◌}
use mathlib.Core.List.{List}
use Prim.Native.Nat.{ℕ, ◌+◌, ◌%◌, ◌<◌, ◌≤◌}
use native.Mathlib.Nat.{mod-lt}
use native.Mathlib.Omega.{arith}
use borrow.Author.Tests.{eq-eqb, ne_eqb, not-true, not-false}
use lib.IntN.{ℤ, pos, negsuc, nat_abs, ◌+ℤ◌, ◌-ℤ◌, ◌*ℤ◌}
use lib.ListN.{length, get_or}
use lib.Signed.{mag, lt_z, nat_abs-le}
use mir.Syntax.{w64}
use mir.Val.{SFits}
use mir.Facts.{to_z-of_z}
use Rattle.whole.specs.Divides.{divides}
use Rattle.whole.proofs.Ring.{rr, r2, ring}
use Rattle.rules.specs.Sum.{Sum, factor, add, number, no_factors}
use Rattle.rules.specs.Rule.{Test, positive, divisible, is_zero, Constant, Literal, passes}
use Rattle.rules.specs.Fold.{divisor_one, fold, fold_literal}
use Rattle.rules.specs.Steps.{sum_at}
use Rattle.rules.specs.Calls.{signed}
use Rattle.rules.proofs.Folding.{Open}
use Rattle.tables.proofs.Inversion.{test_kind}
use Rattle.literals.specs.Literal.{start_of, Marked, LiteralAt}
use Rattle.literals.specs.Changes.{Far, becomes, InRange, changed_sum, changed_test, Settles}
use Rattle.std.specs.Prelude.{Option, Some, None}
use Rattle.literals.proofs.Sizes.{read, again}
use Rattle.literals.proofs.Tests.{positive_is, divided_is, undivided_is}
use Rattle.literals.proofs.Literals.{literal_word, literal_start}
use Rattle.literals.proofs.ChangeLaws.{factor_is, kept}
use Rattle.judging.specs.Judging.{bit, flag, Says, put_into}
use Rattle.judging.specs.Masks.{Known}
use Rattle.judging.specs.Shifts.{less, Shifted, Reach, Moves, SomeMoved}
use Rattle.judging.proofs.SaidLaws.{says_value, says_open}
use Rattle.judging.proofs.ShiftLaws.{factor_moved, number_moved, moved_seven}

-- ---- the test at c + f·i

up : (c i : ℤ) → c +ℤ i ≡ c +ℤ pos 1 *ℤ i
up = r2 _ (simp rr (ring refl))

down : (c i : ℤ) → c -ℤ i ≡ c +ℤ negsuc 0 *ℤ i
down = r2 _ (simp rr (ring refl))

module _ {c f : ℤ} (fc : SFits w64 c) (ff : SFits w64 f) (t : Test) (i : ℕ) where
  -- where f is g, and c is read from its bits
  with_factor : {g z : ℤ} → z ≡ read c +ℤ g *ℤ pos i → f ≡ g → passes t z ≡ passes t (c +ℤ f *ℤ pos i)
  with_factor at e = ap (passes t) (at ∙ ap₂ (λ (y g : ℤ). y +ℤ g *ℤ pos i) (to_z-of_z fc) (sym e))

  -- one by one
  pub passes_again : flag (passes t (read c +ℤ read f *ℤ pos i)) ≡ flag (passes t (c +ℤ f *ℤ pos i))
  passes_again = ap flag (with_factor refl (sym (to_z-of_z ff)))

  module _ {kind k : ℕ} (m : Marked kind k t) where
    pub passes_rising : kind ≡ 5 → f ≡ pos 1
        → flag (lt_z (pos 0) (read c +ℤ pos i)) ≡ flag (passes t (c +ℤ f *ℤ pos i))
    passes_rising e one = ap flag (positive_is (read c +ℤ pos i) e t m ∙ with_factor (up (read c) (pos i)) one)

    pub passes_falling : kind ≡ 5 → f ≡ negsuc 0
        → flag (lt_z (pos 0) (read c -ℤ pos i)) ≡ flag (passes t (c +ℤ f *ℤ pos i))
    passes_falling e one = ap flag (positive_is (read c -ℤ pos i) e t m ∙ with_factor (down (read c) (pos i)) one)

    pub passes_divided : kind ≡ 6 → f ≡ pos 1
        → flag (divides k (read c +ℤ pos i)) ≡ flag (passes t (c +ℤ f *ℤ pos i))
    passes_divided e one = ap flag (divided_is (read c +ℤ pos i) e t m ∙ with_factor (up (read c) (pos i)) one)

    pub passes_undivided : kind ≡ 7 → f ≡ pos 1
        → flag (not (divides k (read c +ℤ pos i))) ≡ flag (passes t (c +ℤ f *ℤ pos i))
    passes_undivided e one = ap flag (undivided_is (read c +ℤ pos i) e t m ∙ with_factor (up (read c) (pos i)) one)

-- ---- folding the literal

module _ (t : Test) (z : Sum) where
  -- "Divisor 1 makes kind 6 true and kind 7 false."
  pub one_folds : {b : Bool} {k : ℕ} → t ≡ divisible b k → k ≡ 1 → fold (Literal t z) ≡ Constant b
  unfolding fold fold_literal
  one_folds {b} {k} e f =
      ap (λ (b : Bool). cond b (Constant (passes t (factor 0 z))) (Literal t z))
      (always (no_factors z) (ap divisor_one e ∙ eq-eqb k 1 f))
      ∙ ap Constant (ap (λ (t : Test). passes t (factor 0 z)) e ∙ by b)
    where
      always : (a : Bool) → divisor_one t ≡ true → (a || divisor_one t) ≡ true
      always true e = refl
      always false e = e

      by_one : divides k (factor 0 z) ≡ true
      by_one =
          eq-eqb (nat_abs (factor 0 z) % k) 0
          (let h = mod-lt (nat_abs (factor 0 z)) {m = k} (omega arith) in omega arith)

      by : (b : Bool) → passes (divisible b k) (factor 0 z) ≡ b
      by true = by_one
      by false = ap not by_one

  -- "A literal whose a's are all zero becomes its truth value."
  pub bare_folds : no_factors z ≡ true → fold (Literal t z) ≡ Constant (passes t (factor 0 z))
  unfolding fold fold_literal
  bare_folds e = ap (λ (b : Bool). cond (b || divisor_one t) (Constant (passes t (factor 0 z))) (Literal t z)) e

  pub open_folds : no_factors z ≡ false → divisor_one t ≡ false → Open (fold (Literal t z))
  unfolding fold fold_literal
  open_folds e f =
      subst Open
      (sym (ap₂ (λ (a b : Bool). cond (a || b) (Constant (passes t (factor 0 z))) (Literal t z)) e f)) tt

-- ---- divisor 1

module _ {kind k : ℕ} (t : Test) (m : Marked kind k t) where
  pub divisible_test : (b : Bool) → kind ≡ test_kind (divisible b k) → t ≡ divisible b k
  divisible_test b e = by t m b e
    where
      by : (t : Test) → Marked kind k t → (b : Bool) → kind ≡ test_kind (divisible b k) → t ≡ divisible b k
      by positive m true e = absurd (omega (arith, m.same_kind))
      by positive m false e = absurd (omega (arith, m.same_kind))
      by (divisible true d) m true e = ap (divisible true) (sym m.same_divisor)
      by (divisible true d) m false e = absurd (omega (arith, m.same_kind))
      by (divisible false d) m true e = absurd (omega (arith, m.same_kind))
      by (divisible false d) m false e = ap (divisible false) (sym m.same_divisor)
      by is_zero m true e = absurd (omega (arith, m.same_kind))
      by is_zero m false e = absurd (omega (arith, m.same_kind))

  -- another divisor, or a kind that has none
  pub other_divisor : ¬ (k ≡ 1) → divisor_one t ≡ false
  other_divisor n = by t m
    where
      by : (t : Test) → Marked kind k t → divisor_one t ≡ false
      by positive m = refl
      by (divisible b d) m = ne_eqb d 1 (λ e. n (m.same_divisor ∙ e))
      by is_zero m = refl

  pub no_divisor : ¬ (kind ≡ 6) → ¬ (kind ≡ 7) → divisor_one t ≡ false
  no_divisor n6 n7 = by t m
    where
      by : (t : Test) → Marked kind k t → divisor_one t ≡ false
      by positive m = refl
      by (divisible true d) m = absurd (n6 m.same_kind)
      by (divisible false d) m = absurd (n7 m.same_kind)
      by is_zero m = refl

-- ---- T at x = w + k

module _ {ws : List ℤ} {n x at : ℕ} {t : Test} {s w v : Sum} {f : ℤ} (l : LiteralAt ws n t s) (start : at ≡ start_of t)
    (setting : InRange x) (shifted : Shifted x w v) (fits : SFits w64 f) (term : f ≡ get_or ws (at + x) (pos 0))
    (k : ℕ) where
  abbrev put_in : Sum
  put_in = sum_at x (add w (number (pos k))) s

  factor_read : read f ≡ factor x s
  factor_read = factor_is l start setting.1 fits term

  word : (i : ℕ) → i < 7 → factor i s ≡ get_or ws (at + i) (pos 0)
  word i h = sym (ap (λ (m : ℕ). get_or ws (m + i) (pos 0)) start ∙ literal_word t i l h)

  pub moves : Moves ws at (read f) v put_in
  moves = record {
    seven = moved_seven x k w s shifted.seven l.long setting.1;
    each = λ i low high.
        factor_moved x k w s i low
        ∙ ap₂ (λ (a b : ℤ). a +ℤ b *ℤ factor i (less x w)) (word i high) (sym factor_read)
        ∙ ap (λ (z : Sum). get_or ws (at + i) (pos 0) +ℤ read f *ℤ get_or z i (pos 0)) (sym shifted.is);
  }

  pub number_is : {c : ℤ} → SFits w64 c → c ≡ get_or ws (at + 0) (pos 0) +ℤ read f *ℤ get_or v 0 (pos 0)
      → read c +ℤ read f *ℤ pos k ≡ factor 0 put_in
  number_is {c} g e =
      ap (λ (z : ℤ). z +ℤ read f *ℤ pos k)
      (to_z-of_z g ∙ e
      ∙ ap₂ (λ (a : ℤ) (z : Sum). a +ℤ read f *ℤ get_or z 0 (pos 0)) (sym (word 0 (omega arith))) shifted.is)
      ∙ ap (λ (f : ℤ). factor 0 s +ℤ f *ℤ factor 0 (less x w) +ℤ f *ℤ pos k) factor_read
      ∙ sym (number_moved x k w s setting.0)

  -- a setting is left, or none
  pub varying_says : {r : Bool} {ys ns : ℕ}
      → ((z : Sum) → Moves ws at (read f) v z → r ≡ not (no_factors z)) → r ≡ true
      → divisor_one t ≡ false → (bit ys k ≡ 0) × (bit ns k ≡ 0) → Says ys ns k (Literal t put_in)
  varying_says varies e other bits =
      says_open bits (open_folds t put_in (not-true (no_factors put_in) (sym (varies put_in moves) ∙ e)) other)

  pub settled_says : {r : Bool} {ys ns : ℕ} {c : ℤ}
      → ((z : Sum) → Moves ws at (read f) v z → r ≡ not (no_factors z)) → r ≡ false
      → SFits w64 c → c ≡ get_or ws (at + 0) (pos 0) +ℤ read f *ℤ get_or v 0 (pos 0)
      → Known ys ns (λ i. passes t (read c +ℤ read f *ℤ pos i)) → k < 64 → Says ys ns k (Literal t put_in)
  settled_says {c = c} varies e g is known h =
      says_value (λ i. passes t (read c +ℤ read f *ℤ pos i)) known h (ap (passes t) (number_is g is))
      (bare_folds t put_in (not-false (no_factors put_in) (sym (varies put_in moves) ∙ e)))

-- ---- what the calls ask

module _ {ws : List ℤ} {x : ℕ} {v : Sum} (some : SomeMoved ws x v) {kind at : ℕ}
    (first : get_or ws 0 (pos 0) ≡ signed kind) (starts : (t : Test) → kind ≡ test_kind t → at ≡ start_of t) where
  pub starts_inside : at + 7 ≤ length ws
  starts_inside = (literal_start some.literal.test some.literal.at first starts).1

  pub reach : {f : ℤ} → SFits w64 f → mag f < 2147483648 → Reach ws at (read f) v
  reach {f} fits small = record {
    long = starts_inside;
    small = again w64 fits (nat_abs-le f small);
    shift = some.shift;
  }

-- ---- the far-left body, and the full one

module _ (far : Bool) (x : ℕ) (t : Test) (s : Sum) (u : Sum) where
  far_is : far ≡ true → becomes (put_into far x) u t s ≡ becomes (Far x) u t s
  far_is is = unfold put_into in ap (λ (b : Bool). becomes (put_into b x) u t s) is

  module _ (is : far ≡ true) {r : Option Bool} (settles : Settles (Far x) t s r) where
    pub value_folds : {v : Bool} → r ≡ Some v → fold (becomes (put_into far x) u t s) ≡ Constant v
    unfolding Settles fold
    value_folds e = ap fold (far_is is ∙ subst (Settles (Far x) t s) e settles u)

    pub far_kept : {ys ns k : ℕ} → r ≡ None → Says ys ns k (Literal t (sum_at x u s))
        → Says ys ns k (becomes (put_into far x) u t s)
    unfolding changed_test changed_sum
    far_kept {ys} {ns} {k} e h = subst (Says ys ns k) (sym (far_is is ∙ kept (Far x) t s settles u e)) h

  pub full_kept : {ys ns k : ℕ} → far ≡ false → Says ys ns k (Literal t (sum_at x u s))
      → Says ys ns k (becomes (put_into far x) u t s)
  unfolding becomes put_into
  full_kept {ys} {ns} {k} is h =
      subst (Says ys ns k) (sym (ap (λ (b : Bool). becomes (put_into b x) u t s) is)) h
