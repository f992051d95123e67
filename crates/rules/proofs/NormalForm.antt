-- Step 1 keeps the meaning, plainly and under a not, and leaves no not and no T = 0.
-- Assumes nothing.
use mathlib.Core.Path.{◌≡◌, refl}
use mathlib.Core.Logic.Iff
use mathlib.Core.Logic.{◌↔◌, ◌⊎◌, inl, inr}
use mathlib.Core.Bool.{Bool, true, false, not}
use Prim.Native.Nat.{ℕ, zero, suc}
use native.Mathlib.Omega.{arith}
use lib.Dec.{lt→ltb}
use lib.IntN.{ℤ, pos, negsuc, neg_ℤ, ◌+ℤ◌}
use lib.Signed.{◌<ℤ◌}
use Rattle.whole.specs.Divides.{Divides, divides}
use Rattle.whole.proofs.Tests.{T_dec}
use Rattle.whole.proofs.Lists.{⊎-iff}
use Rattle.whole.proofs.Difference.{zz, z1}
use Rattle.whole.proofs.Divisibility.{divides_neg_iff, divides_test}
use Rattle.rules.specs.Sum.{Sum, Choice, factor, negate, value}
use Rattle.rules.specs.Rule.{Junction, and, or, Test, positive, divisible, is_zero}
use Rattle.rules.specs.Rule.{Rule, Constant, Join, Not, Literal, Bind, Joined, Whether, Passes, Holds, whether}
use Rattle.rules.specs.Steps.{by_de_morgan, x_not_negative, normal_literal, normal}
use Rattle.rules.specs.Laws.{QuantifierFree, Normal, NoZero, NormalKeeps}
use Rattle.rules.proofs.Sums.{value_negate, value_one_plus, value_one_minus}
use Rattle.rules.proofs.Meaning.{joined_iff, whether_iff, at_equal, T_whether}
use Rattle.rules.proofs.Meaning.{join_free, not_free, bind_free, dec_iff, decided}

-- ---- nots

twice : {A : Type 0} → Dec A → A ↔ (¬ (¬ A))
twice d = (λ a f. f a, λ f. elim d [ yes a ↦ a | no n ↦ absurd (f n) ])

de_morgan : (plainly : Bool) (j : Junction) (A B : Type 0) → Dec A
    → Joined (by_de_morgan plainly j) (Whether plainly A) (Whether plainly B) ↔ Whether plainly (Joined j A B)
de_morgan true j A B d = Iff.rfl
de_morgan false and A B d = (
  λ s p. elim s [ inl f ↦ f p.0 | inr g ↦ g p.1 ],
  λ n. elim d [ yes a ↦ inr (λ b. n (a, b)) | no f ↦ inl f ],
)
de_morgan false or A B d = (
  λ p s. elim s [ inl a ↦ p.0 a | inr b ↦ p.1 b ],
  λ n. (λ a. n (inl a), λ b. n (inr b)),
)

whether_not : (plainly : Bool) {A : Type 0} → Dec A → Whether (not plainly) A ↔ Whether plainly (¬ A)
whether_not true d = Iff.rfl
whether_not false d = twice d

whether_whether : (plainly b : Bool) {A : Type 0} → Dec A
    → Whether (whether plainly b) A ↔ Whether plainly (Whether b A)
whether_whether true b d = Iff.rfl
whether_whether false true d = Iff.rfl
whether_whether false false d = twice d

-- ---- literals

not_positive : (z : ℤ) → (pos 0 <ℤ (pos 1 +ℤ neg_ℤ z)) ↔ (¬ (pos 0 <ℤ z))
not_positive = z1 _ (simp zz (omega arith))

zero_between : (z : ℤ) → ((pos 0 <ℤ (pos 1 +ℤ neg_ℤ z)) × (pos 0 <ℤ (pos 1 +ℤ z))) ↔ (z ≡ pos 0)
zero_between = z1 _ (simp zz (omega arith))

beside_zero : (z : ℤ) → ((pos 0 <ℤ neg_ℤ z) ⊎ (pos 0 <ℤ z)) ↔ (¬ (z ≡ pos 0))
beside_zero z = (λ s. elim s [ inl h ↦ below z h | inr h ↦ above z h ], λ n. aside z n)
  where
    below : (z : ℤ) → pos 0 <ℤ neg_ℤ z → ¬ (z ≡ pos 0)
    below = z1 _ (simp zz (omega arith))

    above : (z : ℤ) → pos 0 <ℤ z → ¬ (z ≡ pos 0)
    above = z1 _ (simp zz (omega arith))

    aside : (z : ℤ) → ¬ (z ≡ pos 0) → (pos 0 <ℤ neg_ℤ z) ⊎ (pos 0 <ℤ z)
    aside (pos zero) n = absurd (n refl)
    aside (pos (suc k)) n = inr (record { lt = lt→ltb 0 (suc k) (omega arith) })
    aside (negsuc k) n = inl (record { lt = lt→ltb 0 (suc k) (omega arith) })

-- T stays or is negated
pub x_not_negative_ind : (Q : Sum → Type 0) (x : ℕ) (s : Sum) → Q s → Q (negate s) → Q (x_not_negative x s)
unfolding x_not_negative
x_not_negative_ind Q x s stays negated = by_sign (factor x s)
  where
    by_sign : (f : ℤ) → Q (elim f [ pos a ↦ s | negsuc a ↦ negate s ])
    by_sign (pos a) = stays
    by_sign (negsuc a) = negated

x_not_negative_keeps : (x k : ℕ) (s : Sum) (ρ : Choice)
    → Divides k (value (x_not_negative x s) ρ) ↔ Divides k (value s ρ)
x_not_negative_keeps x k s ρ = x_not_negative_ind (λ u. Divides k (value u ρ) ↔ Divides k (value s ρ)) x s
    Iff.rfl (Iff.trans (at_equal (Divides k) (value_negate s ρ)) (divides_neg_iff k (value s ρ)))

literal_keeps : (plainly : Bool) (x : ℕ) (t : Test) (s : Sum) (ρ : Choice)
    → Holds (normal_literal plainly x t s) ρ ↔ Whether plainly (Passes t (value s ρ))
unfolding normal_literal Holds
literal_keeps true x positive s ρ = Iff.rfl
literal_keeps false x positive s ρ = Iff.trans
    (at_equal (Passes positive) (value_one_minus s ρ))
    (not_positive (value s ρ))
literal_keeps true x is_zero s ρ = Iff.trans
    (Iff.and (at_equal (Passes positive) (value_one_minus s ρ)) (at_equal (Passes positive) (value_one_plus s ρ)))
    (zero_between (value s ρ))
literal_keeps false x is_zero s ρ = Iff.trans
    (⊎-iff (at_equal (Passes positive) (value_negate s ρ)) Iff.rfl)
    (beside_zero (value s ρ))
literal_keeps plainly x (divisible b k) s ρ = Iff.trans
    (whether_iff (whether plainly b) (x_not_negative_keeps x k s ρ))
    (whether_whether plainly b (dec_iff (divides_test k (value s ρ)) (T_dec (divides k (value s ρ)))))

-- ---- rules

pub normal_keeps : NormalKeeps
unfolding normal Holds
normal_keeps plainly x (Constant b) e ρ = T_whether plainly b
normal_keeps plainly x (Join j a b) e ρ =
    let f = join_free j a b e in
    Iff.trans
    (joined_iff (by_de_morgan plainly j) (normal_keeps plainly x a f.0 ρ) (normal_keeps plainly x b f.1 ρ))
    (de_morgan plainly j (Holds a ρ) (Holds b ρ) (decided a ρ f.0))
normal_keeps plainly x (Not a) e ρ =
    let f = not_free a e in
    Iff.trans (normal_keeps (not plainly) x a f ρ) (whether_not plainly (decided a ρ f))
normal_keeps plainly x (Literal t s) e ρ = literal_keeps plainly x t s ρ
normal_keeps plainly x (Bind q v a) e ρ = bind_free q v a e

literal_normal : (plainly : Bool) (x : ℕ) (t : Test) (s : Sum) → Normal NoZero (normal_literal plainly x t s)
unfolding normal_literal Normal
literal_normal true x positive s = tt
literal_normal false x positive s = tt
literal_normal true x is_zero s = (tt, tt)
literal_normal false x is_zero s = (tt, tt)
literal_normal plainly x (divisible b k) s = tt

pub normal_normal : (plainly : Bool) (x : ℕ) (a : Rule) → QuantifierFree a → Normal NoZero (normal plainly x a)
unfolding normal Normal
normal_normal plainly x (Constant b) e = tt
normal_normal plainly x (Join j a b) e =
    let f = join_free j a b e in
    (normal_normal plainly x a f.0, normal_normal plainly x b f.1)
normal_normal plainly x (Not a) e = normal_normal (not plainly) x a (not_free a e)
normal_normal plainly x (Literal t s) e = literal_normal plainly x t s
normal_normal plainly x (Bind q v a) e = bind_free q v a e
