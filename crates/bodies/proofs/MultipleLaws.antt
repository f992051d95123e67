-- Least common multiples over literals: of a list that grows at its end, and past a limit.
-- Assumes nothing.
use mathlib.Core.Path.{◌≡◌, refl, sym, ◌∙◌, ap, subst}
use mathlib.Core.Bool.{Bool, not, cond}
use mathlib.Core.List.{List, [], ◌∷◌, ◌++◌, append-nil, append_assoc}
use Prim.Native.Nat.{ℕ, zero, suc, max, ◌+◌, ◌-◌, ◌/◌, ◌<◌, ◌≤◌}
use native.Mathlib.Nat.{mul-le-mul_left}
use native.Mathlib.Omega.{arith}
use lib.Dec.{eqb-suc-zero}
use lib.IntN.{ℤ, pos, negsuc, nat_abs}
use lib.ListN.{get_or}
use Rattle.whole.specs.Integers.{eq_ℤ}
use Rattle.whole.specs.Divides.{Divides}
use Rattle.whole.specs.Multiples.{LeastCommonMultiple, lcms}
use Rattle.whole.specs.Bounded.{BoundedMultiple}
use Rattle.std.proofs.Common.{Option, Some, None}
use Rattle.whole.proofs.Lists.{All, all_append}
use Rattle.whole.proofs.Divisibility.{one_divides, divides_self, divides_trans}
use Rattle.whole.proofs.Multiples.{quotient_exact, quotient_pos, lcm_is, lcm_unique, lcms_pos}
use Rattle.rules.specs.Sum.{Sum, factor}
use Rattle.rules.specs.Rule.{Test, positive, divisible, is_zero, Rule, Constant, Join, Not, Literal, Bind}
use Rattle.rules.specs.Steps.{size_of, divisor_of}
use Rattle.rules.specs.Literals.{gather}
use Rattle.rules.specs.Eliminate.{most_period}
use Rattle.rules.specs.Laws.{Each, InTable, WellFormed}
use Rattle.rules.specs.Calls.{signed}
use Rattle.rules.proofs.Sizes.{before_sum}
use Rattle.rules.proofs.Encoding.{divisor_range}
use Rattle.rules.proofs.CommonFactor.{sizes_positive}
use mathlib.Core.Logic.{◌⊎◌, inl, inr}
use mathlib.Core.Bool.{true, false}
use Rattle.tables.specs.Kinds.{test_kind}
use Rattle.tables.specs.declared.kind.Kind.TheVariants as kind
use Rattle.tables.proofs.WordLaws.{number_of}
use Rattle.bodies.specs.Body.{Bounded}
use Rattle.bodies.specs.Cursor.{literals_of, across, LiteralAt}
use Rattle.bodies.proofs.LiteralWords.{divisor_word, sum_word}
use Rattle.bodies.proofs.CursorLaws.{across_append, gather_across}
use Rattle.bodies.specs.Multiples.{brought}
use Rattle.bodies.proofs.LiteralsLaws.{Passed}

-- ---- of two lists

one_least : (n : ℕ) → LeastCommonMultiple 1 n n
one_least n = record { left = one_divides (pos n); right = divides_self; least = λ m h k. k }

regroup : {a b c d e f : ℕ} → LeastCommonMultiple a b d → LeastCommonMultiple b c e → LeastCommonMultiple a e f
    → LeastCommonMultiple d c f
regroup {f = f} ab bc all = record {
  left = ab.least f all.left (divides_trans bc.left all.right);
  right = divides_trans bc.right all.right;
  least = λ n h k. all.least n (divides_trans ab.left h) (bc.least n (divides_trans ab.right h) k);
}

lcms_append : (k l : List ℕ) → LeastCommonMultiple (lcms k) (lcms l) (lcms (k ++ l))
unfolding lcms
lcms_append [] l = one_least (lcms l)
lcms_append (a ∷ k) l = regroup (lcm_is a (lcms k)) (lcms_append k l) (lcm_is a (lcms (k ++ l)))

lcms_one : (a : ℕ) → a ≡ lcms (a ∷ [])
unfolding lcms
lcms_one a = lcm_unique turned (lcm_is a 1)
  where
    turned : LeastCommonMultiple a 1 a
    turned = record { left = divides_self; right = one_divides (pos a); least = λ n h k. h }

-- a divisor of a positive number is no greater
at_most : (g n : ℕ) → 0 < n → Divides g (pos n) → g ≤ n
at_most g n h d =
    let some : 0 < n / g = quotient_pos h d in
    omega (arith, quotient_exact g n d, mul-le-mul_left g some)

-- ---- what literals bring

-- literals that a table can hold bring positive numbers
abbrev pub Brings : (Test → Sum → List ℕ) → Type 0
Brings f = (t : Test) (s : Sum) → InTable t s → All (λ k. 0 < k) (f t s)

-- literals that a table can hold, as those of a well-formed rule are
abbrev pub Formed : List (Test × Sum) → Type 0
Formed ls = All (λ l. InTable l.0 l.1) ls

formed_literals : (a : Rule) → WellFormed a → Formed (literals_of a)
unfolding All Each literals_of
formed_literals (Constant b) h = tt
formed_literals (Join j a b) h =
    (all_append (λ l. InTable l.0 l.1) (literals_of a) (literals_of b)).1
    (formed_literals a h.0, formed_literals b h.1)
formed_literals (Not a) h = formed_literals a h
formed_literals (Literal t s) h = (h, tt)
formed_literals (Bind q v a) h = formed_literals a h.1

-- the size of a factor, where it is not zero
abbrev size_list : ℤ → List ℕ
size_list z = cond (not (eq_ℤ z (pos 0))) (nat_abs z ∷ []) []

sizes_are : (z : ℤ) → max (nat_abs z) 1 ≡ lcms (size_list z)
unfolding lcms
sizes_are (pos zero) = refl
sizes_are (pos (suc n)) =
    let one : max (suc n) 1 ≡ suc n = omega arith in
    one ∙ lcms_one (suc n) ∙ sym (ap (λ (c : Bool). lcms (cond (not c) (suc n ∷ []) [])) (eqb-suc-zero n))
sizes_are (negsuc n) = let one : max (suc n) 1 ≡ suc n = omega arith in one ∙ lcms_one (suc n)

sizes_over : (x : ℕ) → Brings (size_of x)
sizes_over x t s f = sizes_positive x t s

divisors_over : Brings divisor_of
unfolding All
divisors_over positive s f = tt
divisors_over (divisible b k) s f = ((divisor_range k f.2).0, tt)
divisors_over is_zero s f = tt

pub brought_over : (setting : Option ℕ) → Brings (brought setting)
brought_over None = divisors_over
brought_over (Some x) = sizes_over x

across_positive : (f : Test → Sum → List ℕ) → Brings f → (ls : List (Test × Sum)) → Formed ls
    → All (λ k. 0 < k) (across f ls)
unfolding All across
across_positive f brings [] g = tt
across_positive f brings (l ∷ ls) g =
    (all_append (λ k. 0 < k) (f l.0 l.1) (across f ls)).1
    (brings l.0 l.1 g.0, across_positive f brings ls g.1)

-- ---- what one literal brings, read from its body of w words

module _ {bs : List ℤ} {p end : ℕ} {t : Test} {s : Sum} {ls : List (Test × Sum)} (l : LiteralAt bs p end t s ls) where
  pub factor_word : (w : ℕ) → w ≡ before_sum t + 7 → (x : ℕ) → x ≤ 6 → get_or bs (p + (w - 7) + x) (pos 0) ≡ factor x s
  factor_word w wide x h =
      let place : p + (w - 7) + x ≡ p + before_sum t + x = omega (arith, wide) in
      ap (λ (i : ℕ). get_or bs i (pos 0)) place ∙ sum_word bs p t l.stands x (omega (arith, l.formed.0))

pub brings_size : (x : ℕ) (t : Test) (s : Sum) → max (nat_abs (factor x s)) 1 ≡ lcms (size_of x t s)
unfolding size_of
brings_size x t s = sizes_are (factor x s)

pub brings_divisor : {bs : List ℤ} {p end : ℕ} (t : Test) {s : Sum} {ls : List (Test × Sum)} → LiteralAt bs p end t s ls
    → (test_kind t ≡ kind.Divisible) ⊎ (test_kind t ≡ kind.Indivisible) → (u : ℕ) → get_or bs (p + 1) (pos 0) ≡ signed u
    → u ≡ lcms (divisor_of t s)
unfolding test_kind
brings_divisor positive l (inl e) u word = cc
brings_divisor positive l (inr e) u word = cc
brings_divisor {bs} {p} (divisible b k) l e u word =
    number_of u k (sym word ∙ divisor_word bs p b k l.stands) ∙ lcms_one k
brings_divisor is_zero l (inl e) u word = cc
brings_divisor is_zero l (inr e) u word = cc

pub brings_nothing : (t : Test) (s : Sum) → ¬ (test_kind t ≡ kind.Divisible) → ¬ (test_kind t ≡ kind.Indivisible)
    → 1 ≡ lcms (divisor_of t s)
unfolding test_kind lcms
brings_nothing positive s f g = refl
brings_nothing (divisible true k) s f g = absurd (f refl)
brings_nothing (divisible false k) s f g = absurd (g refl)
brings_nothing is_zero s f g = refl

-- ---- the loop over the literals

-- the multiple of what the literals ls bring
abbrev pub multiple_of : (Test → Sum → List ℕ) → List (Test × Sum) → ℕ
multiple_of f ls = lcms (across f ls)

-- m is that multiple
abbrev pub IsMultiple : (Test → Sum → List ℕ) → ℕ → Passed
IsMultiple f m ls = m ≡ multiple_of f ls

-- and within the limit
abbrev pub Held : (Test → Sum → List ℕ) → ℕ → Passed
Held f m ls = (m ≤ most_period) × IsMultiple f m ls

pub held_none : (f : Test → Sum → List ℕ) → Held f 1 []
unfolding across lcms
held_none f = (omega arith, refl)

-- past the limit, where they are formed
abbrev pub Past : (Test → Sum → List ℕ) → Passed
Past f ls = Formed ls → most_period < multiple_of f ls

module _ (f : Test → Sum → List ℕ) (m n : ℕ) where
  -- the multiple of m, which is that of the literals before, and of n, which this literal brings
  with_next : (t : Test) (s : Sum) (ks : List (Test × Sum)) → IsMultiple f m ks → n ≡ lcms (f t s)
      → LeastCommonMultiple m n (multiple_of f (ks ++ ((t, s) ∷ [])))
  unfolding across
  with_next t s ks e i =
      let before : List ℕ = across f ks in
      let both : ℕ = lcms (before ++ f t s) in
      let all = across_append f ks ((t, s) ∷ [])
      ∙ ap (λ (l : List ℕ). before ++ l) (append-nil (f t s)) in
      subst (λ (l : List ℕ). LeastCommonMultiple m n (lcms l)) (sym all)
      (subst (λ (a : ℕ). LeastCommonMultiple a n both) (sym e)
      (subst (λ (b : ℕ). LeastCommonMultiple (lcms before) b both) (sym i) (lcms_append before (f t s))))

  module _ (r : Option ℕ) (b : BoundedMultiple m n most_period r) where
    pub held_more : (k : ℕ) → r ≡ Some k → (t : Test) (s : Sum) (ks : List (Test × Sum))
        → Held f m ks → n ≡ lcms (f t s) → Held f k (ks ++ ((t, s) ∷ []))
    unfolding BoundedMultiple
    held_more k i t s ks h j =
        let least = subst (BoundedMultiple m n most_period) i b in
        (least.1, lcm_unique least.0 (with_next t s ks h.1 j))

    -- a multiple past the limit stays past it
    pub past : Brings f → r ≡ None → (t : Test) (s : Sum) (ls ks : List (Test × Sum))
        → Held f m ks → n ≡ lcms (f t s) → Past f (ks ++ ((t, s) ∷ ls))
    unfolding BoundedMultiple
    past brings i t s ls ks h j formed =
        let here = ks ++ ((t, s) ∷ []) in
        let over : most_period < multiple_of f here =
        subst (BoundedMultiple m n most_period) i b (multiple_of f here) (with_next t s ks h.1 j) in
        let apart : here ++ ls ≡ ks ++ ((t, s) ∷ ls) = append_assoc ks ((t, s) ∷ []) ls in
        let all = sym (across_append f here ls) ∙ ap (across f) apart in
        let divided : Divides (multiple_of f here) (pos (multiple_of f (ks ++ ((t, s) ∷ ls)))) =
        subst (λ (l : List ℕ). Divides (multiple_of f here) (pos (lcms l))) all
        (lcms_append (across f here) (across f ls)).left in
        let some = lcms_pos (across f (ks ++ ((t, s) ∷ ls))) (across_positive f brings _ formed) in
        omega (arith, over, at_most (multiple_of f here) (multiple_of f (ks ++ ((t, s) ∷ ls))) some divided)

-- what the loop answers is what is gathered
module _ (f : Test → Sum → List ℕ) (a : Rule) where
  pub answer_held : (m : ℕ) (r : Option ℕ) → r ≡ Some m → Held f m (literals_of a) → Bounded (lcms (gather f a)) r
  unfolding Bounded
  answer_held m r i (h, e) =
      let same : m ≡ lcms (gather f a) = e ∙ sym (ap lcms (gather_across f a)) in
      subst (Bounded (lcms (gather f a))) (sym i) (same, subst (λ (k : ℕ). k ≤ most_period) same h)

  pub answer_past : (r : Option ℕ) → r ≡ None → WellFormed a → Past f (literals_of a)
      → Bounded (lcms (gather f a)) r
  unfolding Bounded
  answer_past r i w h =
      subst (Bounded (lcms (gather f a))) (sym i)
      (subst (λ (l : List ℕ). most_period < lcms l) (sym (gather_across f a)) (h (formed_literals a w)))
