-- The fields of a node, from the bits of the words that code reads: each is there, or it is refused by 3.
-- Assumes nothing.
use mathlib.Core.Path.{◌≡◌, refl, sym, ap, ap₂, ◌∙◌, subst}
use mathlib.Core.Bool.{Bool, true, false, ◌&&◌}
use mathlib.Core.List.{List, [], ◌∷◌}
use Prim.Native.Nat.{ℕ, zero, suc, ◌+◌, ◌-◌, ◌<◌, ◌≤◌}
use native.Mathlib.Omega.{arith}
use borrow.Author.Tests.{ltb-true, ltb-false, le-leb, lt-leb}
use lib.Dec.{ltb, leb}
use lib.IntN.{ℤ, pos, nat_abs}
use lib.ListN.{length, get_or, take, drop, length-take, length-drop, drop_of_length-le}
use lib.Seq.{slice, slice-cons, take-add, length-take-le, drop_at, drop-cons, drop-drop}
use Rattle.std.specs.Prelude.{is_some, IfSome}
use Rattle.std.specs.Bool.{then_some}
use Rattle.std.specs.List.{list_all, range_with_len}
use Rattle.whole.specs.Integers.{within}
use Rattle.rules.specs.Sum.{limit, all_within}
use Rattle.rules.specs.Rule.{divisible}
use Rattle.rules.specs.Result.{Result, refused, given, ◌>>=◌, require}
use Rattle.rules.specs.Table.{literal_node, up_to, is_setting, is_divisor}
use Rattle.rules.specs.Calls.{signed}
use Rattle.rules.specs.Decode.{cut, checked, sum_field, sum_of, divisor_and_sum}
use Rattle.rules.proofs.Refusals.{then, stopped}
use Rattle.rules.proofs.Decoding.{checked_forth}
use Rattle.tables.specs.Reads.{Passes, SumAt, NumberAt, DividedAt}
use Rattle.tables.proofs.WordLaws.{signed_low, signed_high}

-- ---- results

-- what is given is turned into something else
pub turned : {A B : Type 0} (x : Result A) (f : A → B) (r : Bool) → Passes x r → Passes (x >>= λ a. given (f a)) r
unfolding Passes
turned x f true h = (f h.0, then _ h.1)
turned x f false h = stopped _ h

-- a test decides
tested : {A : Type 0} (b : Bool) (a : A) → Passes (require b 3 >>= λ u. given a) b
unfolding Passes require ◌>>=◌
tested true a = (a, refl)
tested false a = refl

-- of equal results, with equal verdicts
same : {A : Type 0} {x y : Result A} {r s : Bool} → x ≡ y → r ≡ s → Passes y s → Passes x r
same {x} {y} {r} {s} e f h = subst (Passes x) (sym f) (subst (λ z. Passes z s) (sym e) h)

-- a test that gives something
pub some_if : {A : Type 0} (t : Bool) (x : A) → is_some (then_some t x) ≡ t
some_if true x = refl
some_if false x = refl

pub only_if : {A : Type 0} (t : Bool) (x : A) → IfSome (then_some t x) (λ e. e ≡ x)
only_if true x = refl
only_if false x = tt

-- ---- words within the limit

-- the test of each word from one place up to another, which is n words on
pub all_seen : (W : List ℤ) (from to n : ℕ) → n ≡ to - from → to ≤ length W
    → list_all (λ (i : ℕ). within limit (get_or W i (pos 0))) (range_with_len from n) ≡ all_within limit (slice from to W)
unfolding all_within
all_seen W from to zero e h =
    let short : length (take to W) ≤ from = omega (arith, length-take to W) in
    sym (ap (all_within limit) (drop_of_length-le (take to W) short))
all_seen W from to (suc n) e h =
    let less : from < to = omega arith in
    let next : from + 1 ≡ suc from = omega arith in
    ap (λ (t : Bool). within limit (get_or W from (pos 0)) && t) (all_seen W (from + 1) to n (omega arith) h)
    ∙ ap (λ (k : ℕ). within limit (get_or W from (pos 0)) && all_within limit (slice k to W)) next
    ∙ sym (ap (all_within limit) (slice-cons from to W (pos 0) less h))

-- ---- so many words, and a sum

slice_take : (q m : ℕ) (l : List ℤ) → q ≤ length l → slice q (q + m) l ≡ take m (drop q l)
slice_take q m l h =
    ap (drop q) (take-add q m l) ∙ drop_at (take q l) (take m (drop q l)) q (length-take-le q l h)

pub cut_given : (n m : ℕ) (l : List ℤ) → m ≤ length l → cut n m l ≡ given (take m l, drop m l)
unfolding cut
cut_given n zero l h = refl
cut_given n (suc m) [] h = absurd (omega arith)
cut_given n (suc m) (w ∷ l) h = then _ (cut_given n m l (omega arith))

pub cut_refused : (n m : ℕ) (l : List ℤ) → length l < m → cut n m l ≡ refused n
unfolding cut
cut_refused n zero l h = absurd (omega arith)
cut_refused n (suc m) [] h = refl
cut_refused n (suc m) (w ∷ l) h = stopped _ (cut_refused n m l (omega arith))

-- there are n words
module _ (ws : List ℤ) (q n : ℕ) (as_many : n ≡ length ws) where
  pub no_sum : n < q + 7 → SumAt ws q false
  unfolding SumAt
  no_sum h = stopped _ (cut_refused 3 7 (drop q ws) (omega (arith, length-drop q ws)))

  pub a_sum : q + 7 ≤ n → (r : Bool) → r ≡ all_within limit (slice q (q + 7) ws) → SumAt ws q r
  unfolding SumAt
  a_sum h r e =
      same
      (then _ (cut_given 3 7 (drop q ws) (omega (arith, length-drop q ws))))
      (e ∙ ap (all_within limit) (slice_take q 7 ws (omega arith)))
      (tested (all_within limit (take 7 (drop q ws))) (take 7 (drop q ws), drop 7 (drop q ws)))

-- ---- a number

module _ (ws : List ℤ) (m n : ℕ) (as_many : n ≡ length ws) where
  pub no_number : n < 2 → NumberAt ws m false
  unfolding NumberAt
  no_number h = let short : length ws ≤ 1 = omega arith in ap (checked (up_to m)) (drop_of_length-le ws short)

  -- word 1 has the bits u
  module _ (u : ℕ) (some : 2 ≤ n) (small : m < 2147483648) (e : get_or ws 1 (pos 0) ≡ signed u) where
    ranged : up_to m (signed u) ≡ (leb 1 u && leb u m)
    unfolding up_to
    ranged = by (ltb u 2147483648) refl
      where
        by : (b : Bool) → ltb u 2147483648 ≡ b → up_to m (signed u) ≡ (leb 1 u && leb u m)
        by true t = ap (up_to m) (signed_low u (ltb-true _ _ t))
        by false t =
            let high : 2147483648 ≤ u = ltb-false _ _ t in
            ap (up_to m) (signed_high u high)
            ∙ sym (ap₂ ◌&&◌ (le-leb 1 u (omega arith)) (lt-leb u m (omega arith)))

    pub in_range : (r : Bool) → r ≡ (leb 1 u && leb u m) → NumberAt ws m r
    unfolding NumberAt
    in_range r f =
        let long : 1 < length ws = omega arith in
        same
        (ap (checked (up_to m)) (drop-cons ws 1 (pos 0) long ∙ ap (λ z. z ∷ drop 2 ws) e))
        (f ∙ sym ranged)
        (tested (up_to m (signed u)) (nat_abs (signed u), drop 2 ws))

pub a_setting : (ws : List ℤ) (r : Bool) → NumberAt ws 6 r → Passes (checked is_setting (drop 1 ws)) r
unfolding NumberAt is_setting
a_setting ws r h = h

a_divisor : (ws : List ℤ) (r : Bool) → NumberAt ws limit r → Passes (checked is_divisor (drop 1 ws)) r
unfolding NumberAt is_divisor
a_divisor ws r h = h

-- ---- a divisor and a sum

module _ (ws : List ℤ) (n : Bool) (d : NumberAt ws limit n) where
  pub not_divided : n ≡ false → DividedAt ws false
  unfolding DividedAt
  not_divided e b = stopped _ (a_divisor ws false (subst (NumberAt ws limit) e d))

  pub divided : n ≡ true → (r : Bool) → SumAt ws 2 r → DividedAt ws r
  unfolding DividedAt SumAt
  divided e r s b =
      let (p, f) = a_divisor ws true (subst (NumberAt ws limit) e d) in
      let (g, t) = checked_forth is_divisor (λ n t. t) (drop 1 ws) p f in
      let rest : p.1 ≡ drop 2 ws = sym (ap (drop 1) g) ∙ drop-drop 1 1 ws in
      let test = divisible b p.0 in
      let all : divisor_and_sum b (drop 1 ws) ≡ sum_of test (drop 2 ws) = then _ f ∙ ap (sum_of test) rest in
      same {r = r} all refl (turned (sum_field (drop 2 ws)) (λ c. (literal_node test c.0, c.1)) r s)
