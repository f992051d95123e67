-- Within the limits a rule of the shape is well formed, and a well-formed rule is within them; so of a rule with a part
-- put in for its chosen quantifier only that part can pass them.
-- Assumes nothing.
use mathlib.Core.Path.{◌≡◌, refl, sym, ◌∙◌, ap₂, subst}
use mathlib.Core.Bool.{false, not, ◌||◌, or-false}
use Prim.Native.Nat.{ℕ}
use borrow.Author.Tests.{le-ltb}
use lib.Dec.{T, nltb→le}
use lib.IntN.{pos}
use Rattle.whole.proofs.Tests.{not_or, not_not, not_passed}
use Rattle.rules.specs.Sum.{limit, all_within}
use Rattle.rules.specs.Rule.{Quantifier, Test, positive, divisible, is_zero}
use Rattle.rules.specs.Rule.{Rule, Constant, Join, Not, Literal, Bind}
use Rattle.rules.specs.Table.{is_divisor}
use Rattle.rules.specs.Fold.{fold}
use Rattle.rules.specs.Chosen.{the, chosen, replace}
use Rattle.rules.specs.Literals.{some_literal}
use Rattle.rules.specs.Eliminate.{divisor_over, over_limit}
use Rattle.rules.specs.Laws.{DivisorOf, Each, InTable, WellFormed, PositiveDivisor}
use Rattle.rules.proofs.Encoding.{one_to, divisor_range}
use Rattle.rules.proofs.Folding.{keep_fold}
use Rattle.rules.proofs.Choosing.{Put, here, in_left, in_right, in_not, in_bind, put, put_parts}
use Rattle.rules.proofs.Shapes.{each_by_parts, Shape}

pub fits_formed : (a : Rule) → Each Shape a → T (not (some_literal over_limit a)) → WellFormed a
unfolding Each some_literal over_limit
fits_formed (Constant b) h n = tt
fits_formed (Join j a b) h n =
    let k = not_or (some_literal over_limit a) (some_literal over_limit b) n in
    (fits_formed a h.0 k.0, fits_formed b h.1 k.1)
fits_formed (Not a) h n = fits_formed a h n
fits_formed (Literal t s) h n =
    let k = not_or (not (all_within limit s)) (divisor_over t) n in
    (h.0, not_not (all_within limit s) k.0, divisor t h.1 k.1)
  where
    divisor : (t : Test) → PositiveDivisor t s → T (not (divisor_over t))
        → DivisorOf (λ k. T (is_divisor (pos k))) t
    divisor positive h n = tt
    divisor (divisible b k) h n = unfold is_divisor in (one_to limit k).1 (h, nltb→le limit k n)
    divisor is_zero h n = tt
fits_formed (Bind q v a) h n = (h.0, fits_formed a h.1 n)

pub within_limits : (r : Rule) → WellFormed r → some_literal over_limit r ≡ false
unfolding Each some_literal over_limit
within_limits (Constant b) w = refl
within_limits (Join j a b) w = ap₂ ◌||◌ (within_limits a w.0) (within_limits b w.1)
within_limits (Not a) w = within_limits a w
within_limits (Literal t s) w = ap₂ ◌||◌ (not_passed (all_within limit s) w.1) (divisor t w.2)
  where
    divisor : (t : Test) → DivisorOf (λ k. T (is_divisor (pos k))) t → divisor_over t ≡ false
    divisor positive h = refl
    divisor (divisible b k) h = le-ltb limit k (divisor_range k h).1
    divisor is_zero h = refl
within_limits (Bind q v a) w = within_limits a w.1

pub within_table : (r : Rule) → WellFormed r → T (not (some_literal over_limit r))
within_table r w = subst (λ b. T (not b)) (sym (within_limits r w)) tt

-- ---- a part put in for the chosen quantifier

put_numbers : {q : Quantifier} {x : ℕ} {a new r s : Rule} → Put q x a new r s → WellFormed r
    → some_literal over_limit s ≡ some_literal over_limit new
unfolding Each some_literal
put_numbers (here e) w = refl
put_numbers (in_left {b = b} p e) w = ap₂ ◌||◌ (put_numbers p w.0) (within_limits b w.1) ∙ or-false _
put_numbers (in_right {b = b} p) w = ap₂ ◌||◌ (within_limits b w.0) (put_numbers p w.1)
put_numbers (in_not p) w = put_numbers p w
put_numbers (in_bind p) w = put_numbers p w.1

-- of the literals only those put in can pass the limits
pub replaced_numbers : (new r : Rule) {q : Quantifier} {x : ℕ} {a : Rule} → chosen r ≡ the q x a → WellFormed r
    → some_literal over_limit (replace new r) ≡ some_literal over_limit new
replaced_numbers new r e w = put_numbers (put new r e) w

pub replaced_formed : (new r : Rule) {q : Quantifier} {x : ℕ} {a : Rule} → chosen r ≡ the q x a → WellFormed r
    → Each Shape new → T (not (some_literal over_limit new)) → WellFormed (fold (replace new r))
replaced_formed new r e w shape within = keep_fold WellFormed (each_by_parts InTable) (replace new r)
    (put_parts WellFormed (each_by_parts InTable) (λ h. fits_formed new shape within) (put new r e) w)
