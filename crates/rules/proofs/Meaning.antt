-- The meaning of a rule, part by part; of a quantifier-free rule it is decided by the test `holds`.
-- Assumes nothing.
use mathlib.Core.Path.{subst}
use mathlib.Core.Logic.Iff
use mathlib.Core.Logic.{◌↔◌}
use mathlib.Core.Bool.{Bool, true, false, not}
use Prim.Native.Nat.{ℕ, ◌<◌}
use native.Mathlib.Omega.{arith}
use lib.Dec.{T, ltb→lt, nltb→le}
use lib.IntN.{ℤ, pos}
use Rattle.whole.specs.Divides.{divides}
use Rattle.whole.proofs.Tests.{T_and, T_or, T_no, T_dec, eq_ℤ→eq, eq→eq_ℤ}
use Rattle.whole.proofs.Lists.{⊎-iff}
pub use Rattle.whole.proofs.Lists.{at_equal}
use Rattle.whole.proofs.Divisibility.{divides_test}
use Rattle.rules.specs.Sum.{Choice, with, value, all_within}
use Rattle.rules.specs.Rule.{Junction, and, or, Quantifier, for_some, for_all, Test, positive, divisible, is_zero}
use Rattle.rules.specs.Rule.{Rule, Constant, Join, Not, Literal, Bind, Joined}
use Rattle.rules.specs.Rule.{Whether, Ranges, Passes, Holds, whether, passes}
use Rattle.rules.specs.Chosen.{quantifiers, quantified}
use Rattle.rules.specs.Match.{joined, holds, choice, most_value, matching}
use Rattle.rules.specs.Laws.{Same, QuantifierFree, HoldsDecides, MatchingRight, ForAllKeeps}
use Rattle.rules.proofs.Refusals.{given_inj, required}

-- ---- equal parts, equal wholes

pub joined_iff : (j : Junction) {A B C D : Type 0} → A ↔ C → B ↔ D → Joined j A B ↔ Joined j C D
joined_iff and h k = Iff.and h k
joined_iff or h k = ⊎-iff h k

pub whether_iff : (b : Bool) {A B : Type 0} → A ↔ B → Whether b A ↔ Whether b B
whether_iff true h = h
whether_iff false h = Iff.not h

pub ranges_iff : (q : Quantifier) {A B : ℤ → Type 0} → ((z : ℤ) → A z ↔ B z) → Ranges q A ↔ Ranges q B
ranges_iff for_some h = (λ p. (p.0, (h p.0).0 p.1), λ p. (p.0, (h p.0).1 p.1))
ranges_iff for_all h = (λ f z. (h z).0 (f z), λ f z. (h z).1 (f z))

pub bind_same : (q : Quantifier) (x : ℕ) (a b : Rule) → Same a b → Same (Bind q x a) (Bind q x b)
unfolding Holds
bind_same q x a b h ρ = ranges_iff q (λ z. h (with x z ρ))

pub same_trans : (a b c : Rule) → Same a b → Same b c → Same a c
same_trans a b c h k ρ = Iff.trans (h ρ) (k ρ)

-- ---- no quantifier in a rule, none in its parts

pub join_free : (j : Junction) (a b : Rule) → QuantifierFree (Join j a b) → QuantifierFree a × QuantifierFree b
unfolding quantifiers
join_free j a b e = (omega arith, omega arith)

pub not_free : (a : Rule) → QuantifierFree (Not a) → QuantifierFree a
unfolding quantifiers
not_free a e = e

pub bind_free : {X : Type 0} (q : Quantifier) (v : ℕ) (a : Rule) → QuantifierFree (Bind q v a) → X
unfolding quantifiers
bind_free q v a e = absurd (omega arith)

-- what the test `quantified` says
pub none_quantified : (a : Rule) → T (not (quantified a)) → QuantifierFree a
unfolding quantified
none_quantified a t = omega (arith, nltb→le 0 (quantifiers a) t)

pub some_quantified : (a : Rule) → T (quantified a) → 0 < quantifiers a
unfolding quantified
some_quantified a t = ltb→lt 0 (quantifiers a) t

-- ---- the tests decide

T_joined : (j : Junction) (a b : Bool) → T (joined j a b) ↔ Joined j (T a) (T b)
T_joined and a b = T_and a b
T_joined or a b = T_or a b

pub T_whether : (b c : Bool) → T (whether b c) ↔ Whether b (T c)
T_whether true c = Iff.rfl
T_whether false c = T_no c

pub passes_decides : (t : Test) (z : ℤ) → T (passes t z) ↔ Passes t z
passes_decides positive z = (λ t. record { lt = t }, λ h. h.lt)
passes_decides (divisible b k) z = Iff.trans (T_whether b (divides k z)) (whether_iff b (divides_test k z))
passes_decides is_zero z = (eq_ℤ→eq z (pos 0), eq→eq_ℤ z (pos 0))

pub holds_decides : HoldsDecides
unfolding holds Holds
holds_decides (Constant b) ρ e = Iff.rfl
holds_decides (Join j a b) ρ e =
    let f = join_free j a b e in
    Iff.trans (T_joined j (holds a ρ) (holds b ρ)) (joined_iff j (holds_decides a ρ f.0) (holds_decides b ρ f.1))
holds_decides (Not a) ρ e = Iff.trans (T_no (holds a ρ)) (Iff.not (holds_decides a ρ (not_free a e)))
holds_decides (Literal t s) ρ e = passes_decides t (value s ρ)
holds_decides (Bind q v a) ρ e = bind_free q v a e

pub dec_iff : {A B : Type 0} → A ↔ B → Dec A → Dec B
dec_iff h (yes a) = yes (h.0 a)
dec_iff h (no f) = no (λ b. f (h.1 b))

pub decided : (a : Rule) (ρ : Choice) → QuantifierFree a → Dec (Holds a ρ)
decided a ρ e = dec_iff (holds_decides a ρ e) (T_dec (holds a ρ))

pub matching_right : MatchingRight
unfolding matching
matching_right vs a b e =
    let (q, e₁) = required (not (quantified a)) 10 _ e in
    let (w, e₂) = required (all_within most_value vs) 9 _ e₁ in
    let right = holds_decides a (choice vs) (none_quantified a q) in
    subst (λ (c : Bool). T c ↔ Holds a (choice vs)) (given_inj e₂) right

-- ---- the for-all

pub for_all_keeps : ForAllKeeps
unfolding Holds
for_all_keeps x a e ρ = (
  λ h z. elim (decided a (with x z ρ) e) [ yes k ↦ k | no f ↦ absurd (h (z, f)) ],
  λ h p. p.1 (h p.0),
)
