-- Folding keeps the meaning, leaves a folded rule, and keeps whatever goes by the parts of a rule.
-- Assumes nothing.
use mathlib.Core.Path.{◌≡◌, refl, sym, ◌∙◌, ap, ap₂, subst}
use mathlib.Core.Logic.Iff
use mathlib.Core.Logic.{◌↔◌, ◌⊎◌, inl, inr}
use mathlib.Core.Bool.{Bool, true, false, not, ◌||◌}
use Prim.Native.Nat.{ℕ, ◌+◌, ◌≤◌}
use native.Mathlib.Omega.{arith}
use lib.Dec.{T, T_not, eqb→eq}
use lib.IntN.{ℤ}
use Rattle.whole.specs.Divides.{Divides}
use Rattle.whole.proofs.Tests.{T_or, T_no, cond_ind}
use Rattle.whole.proofs.Divisibility.{one_divides}
use Rattle.rules.specs.Sum.{Sum, Choice, with, factor, no_factors, value}
use Rattle.rules.specs.Rule.{Junction, and, or, Quantifier, Test, positive, divisible, is_zero}
use Rattle.rules.specs.Rule.{Rule, Constant, Join, Not, Literal, Bind, Joined, Passes, Holds, passes}
use Rattle.rules.specs.Fold.{divisor_one, fold_literal, fold_not, Side, decides}
use Rattle.rules.specs.Fold.{drops, stays, side, fold_sides, fold_join, fold}
use Rattle.rules.specs.Chosen.{quantifiers}
use Rattle.rules.specs.Laws.{QuantifierFree, FoldKeeps}
use Rattle.rules.proofs.Sums.{value_no_factors}
use Rattle.rules.proofs.Meaning.{joined_iff, whether_iff, ranges_iff, at_equal, passes_decides}

-- ---- what folding leaves

-- a literal is settled and becomes a truth value, or it stays
abbrev pub settles : Test → Sum → Bool
settles t s = no_factors s || divisor_one t

pub fold_literal_ind : (Q : Rule → Type 0) (t : Test) (s : Sum)
    → (T (settles t s) → Q (Constant (passes t (factor 0 s)))) → (T (not (settles t s)) → Q (Literal t s))
    → Q (fold_literal t s)
unfolding fold_literal
fold_literal_ind Q t s = cond_ind (settles t s) (Constant (passes t (factor 0 s))) (Literal t s) Q

-- no bare truth value
abbrev pub Open : Rule → Type 0
Open (Constant b) = ⊥
Open (Join j a b) = Unit {0}
Open (Not a) = Unit {0}
Open (Literal t s) = Unit {0}
Open (Bind q v a) = Unit {0}

open_stays : (j : Junction) (a : Rule) → Open a → side j a ≡ stays
unfolding side
open_stays j (Constant b) h = absurd h
open_stays j (Join k a b) h = refl
open_stays j (Not a) h = refl
open_stays j (Literal t s) h = refl
open_stays j (Bind q v a) h = refl

Stays : Side → Type 0
Stays decides = ⊥
Stays drops = ⊥
Stays stays = Unit {0}

stays_open : (j : Junction) (a : Rule) → Stays (side j a) → Open a
unfolding side Stays
stays_open and (Constant true) h = h
stays_open and (Constant false) h = h
stays_open or (Constant true) h = h
stays_open or (Constant false) h = h
stays_open j (Join k a b) h = tt
stays_open j (Not a) h = tt
stays_open j (Literal t s) h = tt
stays_open j (Bind q v a) h = tt

-- of an and or an or a side is left, or both are open and stay
pub fold_join_ind : (Q : Rule → Type 0) (j : Junction) (a b : Rule) → Q a → Q b → (Open a → Open b → Q (Join j a b))
    → Q (fold_join j a b)
unfolding fold_join
fold_join_ind Q j a b left right joined = by_sides (side j a) (side j b) (stays_open j a) (stays_open j b)
  where
    by_sides : (v w : Side) → (Stays v → Open a) → (Stays w → Open b) → Q (fold_sides v w j a b)
    by_sides decides w f g = unfold fold_sides in left
    by_sides drops w f g = unfold fold_sides in right
    by_sides stays decides f g = unfold fold_sides in right
    by_sides stays drops f g = unfold fold_sides in left
    by_sides stays stays f g = unfold fold_sides Stays in joined (f tt) (g tt)

-- of a not a truth value is left, or what is under it is open and it stays
pub fold_not_ind : (Q : Rule → Type 0) (a : Rule) → ((b : Bool) → Q (Constant b)) → (Open a → Q (Not a))
    → Q (fold_not a)
unfolding fold_not
fold_not_ind Q (Constant b) constant kept = constant (not b)
fold_not_ind Q (Join j a b) constant kept = kept tt
fold_not_ind Q (Not a) constant kept = kept tt
fold_not_ind Q (Literal t s) constant kept = kept tt
fold_not_ind Q (Bind q v a) constant kept = kept tt

-- open sides and an open child stay where they are
pub join_open : (j : Junction) (a b : Rule) → Open a → Open b → fold_join j a b ≡ Join j a b
unfolding fold_join fold_sides
join_open j a b h k = ap₂ (λ v w. fold_sides v w j a b) (open_stays j a h) (open_stays j b k)

pub not_open : (a : Rule) → Open a → fold_not a ≡ Not a
unfolding fold_not
not_open (Constant b) h = absurd h
not_open (Join j a b) h = refl
not_open (Not a) h = refl
not_open (Literal t s) h = refl
not_open (Bind q v a) h = refl

-- ---- the meaning

-- divisor 1 asks nothing of a value
any_value : (t : Test) (y z : ℤ) → T (divisor_one t) → Passes t y ↔ Passes t z
any_value positive y z h = absurd h
any_value (divisible b k) y z h = whether_iff b (λ d. one z, λ d. one y)
  where
    one : (w : ℤ) → Divides k w
    one w = subst (λ (m : ℕ). Divides m w) (sym (eqb→eq k 1 h)) (one_divides w)
any_value is_zero y z h = absurd h

literal_keeps : (t : Test) (s : Sum) (ρ : Choice) → Holds (fold_literal t s) ρ ↔ Passes t (value s ρ)
unfolding Holds
literal_keeps t s ρ = fold_literal_ind (λ r. Holds r ρ ↔ Passes t (value s ρ)) t s
    (λ h. Iff.trans (passes_decides t (factor 0 s)) (settled ((T_or (no_factors s) (divisor_one t)).0 h)))
    (λ h. Iff.rfl)
  where
    settled : T (no_factors s) ⊎ T (divisor_one t) → Passes t (factor 0 s) ↔ Passes t (value s ρ)
    settled (inl h) = at_equal (Passes t) (sym (value_no_factors s ρ h))
    settled (inr h) = any_value t (factor 0 s) (value s ρ) h

not_keeps : (a : Rule) (ρ : Choice) → Holds (fold_not a) ρ ↔ (¬ Holds a ρ)
unfolding fold_not Holds
not_keeps (Constant b) ρ = T_no b
not_keeps (Join j a b) ρ = Iff.rfl
not_keeps (Not a) ρ = Iff.rfl
not_keeps (Literal t s) ρ = Iff.rfl
not_keeps (Bind q v a) ρ = Iff.rfl

-- what a side says of its meaning
Tells : Side → Junction → Type 0 → Type 0
Tells decides and A = ¬ A
Tells decides or A = A
Tells drops and A = A
Tells drops or A = ¬ A
Tells stays j A = Unit {0}

side_tells : (j : Junction) (a : Rule) (ρ : Choice) → Tells (side j a) j (Holds a ρ)
unfolding Tells side Holds
side_tells and (Constant true) ρ = tt
side_tells and (Constant false) ρ = λ h. h
side_tells or (Constant true) ρ = tt
side_tells or (Constant false) ρ = λ h. h
side_tells j (Join k a b) ρ = tt
side_tells j (Not a) ρ = tt
side_tells j (Literal t s) ρ = tt
side_tells j (Bind q v a) ρ = tt

module _ (A B : Type 0) where
  left_decides : (j : Junction) → Tells decides j A → A ↔ Joined j A B
  unfolding Tells
  left_decides and n = (λ a. absurd (n a), λ p. p.0)
  left_decides or a = (λ h. inl h, λ s. a)

  left_drops : (j : Junction) → Tells drops j A → B ↔ Joined j A B
  unfolding Tells
  left_drops and a = (λ b. (a, b), λ p. p.1)
  left_drops or n = (λ b. inr b, λ s. elim s [ inl a ↦ absurd (n a) | inr b ↦ b ])

  right_decides : (j : Junction) → Tells decides j B → B ↔ Joined j A B
  unfolding Tells
  right_decides and n = (λ b. absurd (n b), λ p. p.1)
  right_decides or b = (λ h. inr h, λ s. b)

  right_drops : (j : Junction) → Tells drops j B → A ↔ Joined j A B
  unfolding Tells
  right_drops and b = (λ a. (a, b), λ p. p.0)
  right_drops or n = (λ a. inl a, λ s. elim s [ inl a ↦ a | inr b ↦ absurd (n b) ])

sides_keep : (v w : Side) (j : Junction) (a b : Rule) (ρ : Choice)
    → Tells v j (Holds a ρ) → Tells w j (Holds b ρ)
    → Holds (fold_sides v w j a b) ρ ↔ Joined j (Holds a ρ) (Holds b ρ)
unfolding fold_sides Holds
sides_keep decides w j a b ρ h k = left_decides (Holds a ρ) (Holds b ρ) j h
sides_keep drops w j a b ρ h k = left_drops (Holds a ρ) (Holds b ρ) j h
sides_keep stays decides j a b ρ h k = right_decides (Holds a ρ) (Holds b ρ) j k
sides_keep stays drops j a b ρ h k = right_drops (Holds a ρ) (Holds b ρ) j k
sides_keep stays stays j a b ρ h k = Iff.rfl

pub fold_keeps : FoldKeeps
unfolding fold fold_join Holds
fold_keeps (Constant b) ρ = Iff.rfl
fold_keeps (Join j a b) ρ =
    let f : Rule = fold a in
    let g : Rule = fold b in
    Iff.trans
    (sides_keep (side j f) (side j g) j f g ρ (side_tells j f ρ) (side_tells j g ρ))
    (joined_iff j (fold_keeps a ρ) (fold_keeps b ρ))
fold_keeps (Not a) ρ = Iff.trans (not_keeps (fold a) ρ) (Iff.not (fold_keeps a ρ))
fold_keeps (Literal t s) ρ = literal_keeps t s ρ
fold_keeps (Bind q v a) ρ = ranges_iff q (λ z. fold_keeps a (with v z ρ))

-- ---- whatever goes by the parts of a rule is kept

pub record ByParts (Q : Rule → Type 0) : Type 0 where
  pub constant : (b : Bool) → Q (Constant b)
  pub join : (j : Junction) (a b : Rule) → Q a → Q b → Q (Join j a b)
  pub left : (j : Junction) (a b : Rule) → Q (Join j a b) → Q a
  pub right : (j : Junction) (a b : Rule) → Q (Join j a b) → Q b
  pub under_not : (a b : Rule) → (Q a → Q b) → Q (Not a) → Q (Not b)
  pub under_bind : (q : Quantifier) (v : ℕ) (a b : Rule) → (Q a → Q b) → Q (Bind q v a) → Q (Bind q v b)

module _ (Q : Rule → Type 0) (by : ByParts Q) where
  pub keep_fold : (a : Rule) → Q a → Q (fold a)
  unfolding fold
  keep_fold (Constant b) h = h
  keep_fold (Join j a b) h =
      let left : Q (fold a) = keep_fold a (by.left j a b h) in
      let right : Q (fold b) = keep_fold b (by.right j a b h) in
      fold_join_ind Q j (fold a) (fold b) left right (λ o p. by.join j (fold a) (fold b) left right)
  keep_fold (Not a) h =
      fold_not_ind Q (fold a) by.constant (λ o. by.under_not a (fold a) (keep_fold a) h)
  keep_fold (Literal t s) h = fold_literal_ind Q t s (λ c. by.constant (passes t (factor 0 s))) (λ c. h)
  keep_fold (Bind q v a) h = by.under_bind q v a (fold a) (keep_fold a) h

pub free_by_parts : ByParts QuantifierFree
unfolding quantifiers
free_by_parts = record {
  constant = λ b. omega arith;
  join = λ j a b h k. omega arith;
  left = λ j a b h. omega arith;
  right = λ j a b h. omega arith;
  under_not = λ a b f h. f h;
  under_bind = λ q v a b f h. absurd (omega arith);
}

-- ---- folding makes no quantifier

pub fewer_fold : (a : Rule) → quantifiers (fold a) ≤ quantifiers a
unfolding fold quantifiers
fewer_fold (Constant b) = omega arith
fewer_fold (Join j a b) =
    let left = fewer_fold a in
    let right = fewer_fold b in
    fold_join_ind (λ r. quantifiers r ≤ quantifiers a + quantifiers b) j (fold a) (fold b)
    (omega arith) (omega arith) (λ o p. omega arith)
fewer_fold (Not a) = fold_not_ind (λ r. quantifiers r ≤ quantifiers a) (fold a) (λ b. omega arith) (λ o. fewer_fold a)
fewer_fold (Literal t s) = fold_literal_ind (λ r. quantifiers r ≤ 0) t s (λ c. omega arith) (λ c. omega arith)
fewer_fold (Bind q v a) = omega (arith, fewer_fold a)

-- ---- a folded rule

unfoldable pub Folded : Rule → Type 0
Folded (Constant b) = Unit {0}
Folded (Join j a b) = Open a × Open b × Folded a × Folded b
Folded (Not a) = Open a × Folded a
Folded (Literal t s) = T (not (settles t s))
Folded (Bind q v a) = Folded a

pub folded_fold : (a : Rule) → Folded (fold a)
unfolding fold Folded
folded_fold (Constant b) = tt
folded_fold (Join j a b) =
    let left = folded_fold a in
    let right = folded_fold b in
    fold_join_ind Folded j (fold a) (fold b) left right (λ o p. (o, p, left, right))
folded_fold (Not a) = fold_not_ind Folded (fold a) (λ b. tt) (λ o. (o, folded_fold a))
folded_fold (Literal t s) = fold_literal_ind Folded t s (λ c. tt) (λ c. c)
folded_fold (Bind q v a) = folded_fold a

pub fold_folded : (a : Rule) → Folded a → fold a ≡ a
unfolding fold Folded
fold_folded (Constant b) h = refl
fold_folded (Join j a b) h =
    ap₂ (fold_join j) (fold_folded a h.2) (fold_folded b h.3) ∙ join_open j a b h.0 h.1
fold_folded (Not a) h = ap fold_not (fold_folded a h.1) ∙ not_open a h.0
fold_folded (Literal t s) h = fold_literal_ind (λ r. r ≡ Literal t s) t s
    (λ c. absurd (T_not (settles t s) h c)) (λ c. refl)
fold_folded (Bind q v a) h = ap (Bind q v) (fold_folded a h)
