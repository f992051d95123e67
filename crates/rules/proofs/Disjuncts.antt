-- The disjuncts of step 3 as a list: what holds of all of them and of some, how many they are, and what they fold to.
-- Assumes nothing.
use mathlib.Core.Path.{◌≡◌, refl, sym, ◌∙◌, ap, subst}
use mathlib.Core.Logic.Iff
use mathlib.Core.Logic.{◌↔◌, ◌⊎◌, inl, inr}
use mathlib.Core.Bool.{Bool, true, false, cond}
use mathlib.Core.List.{List, [], ◌∷◌, ◌++◌, map}
use Prim.Native.Nat.{ℕ, zero, suc, ◌+◌, ◌*◌, ◌≤◌, ◌<◌}
use native.Mathlib.Nat.{eq-or-lt_of_le}
use native.Mathlib.Omega.{arith}
use lib.Dec.{T}
use lib.IntN.{pos, negsuc}
use lib.ListN.{length, length-append, length-map}
use Rattle.whole.specs.Integers.{eq_ℤ}
use Rattle.whole.proofs.Lists.{All, Any, ⊎-iff, all_of, all_append, all_map, any_append}
use Rattle.whole.proofs.Tests.{T_or, cond_ind}
use Rattle.whole.proofs.Cooper.{UpTo}
use Rattle.rules.specs.Sum.{Sum, Choice, factor, add, number}
use Rattle.rules.specs.Rule.{or, Test, positive, divisible, is_zero}
use Rattle.rules.specs.Rule.{Rule, Constant, Join, Not, Literal, Bind, True, False, Holds}
use Rattle.rules.specs.Fold.{side, fold_sides, fold_join, fold}
use Rattle.rules.specs.Chosen.{quantifiers}
use Rattle.rules.specs.Literals.{some_literal, map_literals}
use Rattle.rules.specs.Steps.{bounds, far_literal, far_left, sum_at, body_at}
use Rattle.rules.specs.Steps.{for_each, disjuncts, any_of, disjunction}
use Rattle.rules.specs.Laws.{QuantifierFree, Each, Normal}
use Rattle.rules.proofs.Folding.{ByParts, free_by_parts}
use Rattle.rules.proofs.OverLiterals.{map_each, map_normal, map_free, made_twice}

-- the disjuncts of one j: the far-left body at j, and the body at b + j for each bound b
abbrev pub fars : ℕ → Rule → ℕ → List Rule
fars x a j = body_at x (number (pos j)) (far_left x a) ∷ []

abbrev pub nears : ℕ → Rule → ℕ → List Rule
nears x a j = map (λ b. body_at x (add b (number (pos j))) a) (bounds x a)

-- ---- the far-left body

-- far to the left a literal becomes a truth value or stays
pub far_literal_ind : (Q : Rule → Type 0) (x : ℕ) (t : Test) (s : Sum) → ((b : Bool) → Q (Constant b)) → Q (Literal t s)
    → Q (far_literal x t s)
unfolding far_literal
far_literal_ind Q x positive s constant stays =
    let otherwise : Rule = cond (eq_ℤ (factor x s) (negsuc 0)) True (Literal positive s) in
    cond_ind (eq_ℤ (factor x s) (pos 1)) False otherwise Q (λ c. constant false)
    (λ c. cond_ind (eq_ℤ (factor x s) (negsuc 0)) True (Literal positive s) Q (λ i. constant true) (λ i. stays))
far_literal_ind Q x (divisible b k) s constant stays = stays
far_literal_ind Q x is_zero s constant stays = stays

-- it asks of its literals what the body does
pub far_normal : (x : ℕ) (Q : Test → Sum → Type 0) (a : Rule) → Normal Q a → Normal Q (far_left x a)
unfolding far_left
far_normal x Q = map_normal (far_literal x) Q Q
    (λ t s h. unfold Normal in far_literal_ind (Normal Q) x t s (λ b. tt) h)

pub far_each : (x : ℕ) (Q : Test → Sum → Type 0) (a : Rule) → Each Q a → Each Q (far_left x a)
unfolding far_left
far_each x Q = map_each (far_literal x) Q Q (λ t s h. unfold Each in far_literal_ind (Each Q) x t s (λ b. tt) h)

pub far_body : (x : ℕ) (u : Sum) (a : Rule)
    → body_at x u (far_left x a) ≡ map_literals (λ t s. body_at x u (far_literal x t s)) a
unfolding body_at far_left
far_body x u a = made_twice (far_literal x) (λ t s. Literal t (sum_at x u s)) a

-- ---- all of them

module _ {A : Type 0} (Q : A → Type 0) where
  pub all_for_each : (from n : ℕ) (f : ℕ → List A) → ((j : ℕ) → All Q (f j)) → All Q (for_each from n f)
  unfolding All for_each
  all_for_each from zero f h = tt
  all_for_each from (suc n) f h =
      (all_append Q (f from) (for_each (suc from) n f)).1 (h from, all_for_each (suc from) n f h)

pub any_of_parts : (Q : Rule → Type 0) → ByParts Q → (ds : List Rule) → All Q ds → Q (any_of ds)
unfolding All any_of
any_of_parts Q by [] h = by.constant false
any_of_parts Q by (a ∷ []) h = h.0
any_of_parts Q by (a ∷ b ∷ l) h = by.join _ a (any_of (b ∷ l)) h.0 (any_of_parts Q by (b ∷ l) h.1)

-- a disjunction is what all its disjuncts are, where that goes by parts
pub disjunction_all : (Q : Rule → Type 0) → ByParts Q → (P x : ℕ) (a : Rule)
    → ((j : ℕ) → Q (body_at x (number (pos j)) (far_left x a)))
    → ((j : ℕ) → All (λ b. Q (body_at x (add b (number (pos j))) a)) (bounds x a))
    → Q (disjunction P x a)
unfolding disjunction disjuncts
disjunction_all Q by P x a far near = any_of_parts Q by (far_ones ++ near_ones)
    ((all_append Q far_ones near_ones).1
    (all_for_each Q 1 P (fars x a) (λ j. unfold All in (far j, tt)), all_for_each Q 1 P (nears x a) each_near))
  where
    far_ones : List Rule
    far_ones = for_each 1 P (fars x a)

    near_ones : List Rule
    near_ones = for_each 1 P (nears x a)

    each_near : (j : ℕ) → All Q (nears x a j)
    each_near j = all_map Q (λ b. body_at x (add b (number (pos j))) a) (bounds x a) (near j)

-- no quantifier comes in
pub disjunction_free : (P x : ℕ) (a : Rule) → QuantifierFree a → QuantifierFree (disjunction P x a)
unfolding far_left body_at
disjunction_free P x a e = disjunction_all QuantifierFree free_by_parts P x a
    (λ j. at (number (pos j)) (far_left x a) far_free)
    (λ j. all_of (λ b. at (add b (number (pos j))) a e) (bounds x a))
  where
    at : (u : Sum) (r : Rule) → QuantifierFree r → QuantifierFree (body_at x u r)
    at u r f = map_free (λ t s. Literal t (sum_at x u s)) (λ t s. unfold quantifiers in refl) r ∙ f

    far_free : QuantifierFree (far_left x a)
    far_free = map_free (far_literal x)
        (λ t s. unfold quantifiers in far_literal_ind QuantifierFree x t s (λ b. refl) refl) a ∙ e

-- ---- some of them

pub any_of_holds : (ds : List Rule) (ρ : Choice) → Holds (any_of ds) ρ ↔ Any (λ d. Holds d ρ) ds
unfolding any_of Any Holds
any_of_holds [] ρ = Iff.rfl
any_of_holds (a ∷ []) ρ = (λ h. inl h, λ h. elim h [ inl k ↦ k | inr k ↦ absurd k ])
any_of_holds (a ∷ b ∷ l) ρ = ⊎-iff Iff.rfl (any_of_holds (b ∷ l) ρ)

abbrev pub From : ℕ → ℕ → (ℕ → Type 0) → Type 0
From from n Q = (j : ℕ) × (from ≤ j) × (j < from + n) × Q j

from_suc : (from n : ℕ) (Q : ℕ → Type 0) → (Q from ⊎ From (suc from) n Q) ↔ From from (suc n) Q
from_suc from n Q = (to, fro)
  where
    to : Q from ⊎ From (suc from) n Q → From from (suc n) Q
    to (inl q) = (from, omega arith, omega arith, q)
    to (inr r) = (r.0, omega (arith, r.1), omega (arith, r.2), r.3)

    fro : From from (suc n) Q → Q from ⊎ From (suc from) n Q
    fro r = elim (eq-or-lt_of_le r.1) [
      | inl e ↦ inl (subst Q (sym e) r.3)
      | inr l ↦ inr (r.0, l, omega (arith, r.2), r.3)
    ]

pub any_for_each : {A : Type 0} (Q : A → Type 0) (from n : ℕ) (f : ℕ → List A)
    → Any Q (for_each from n f) ↔ From from n (λ j. Any Q (f j))
unfolding for_each Any
any_for_each Q from zero f = (λ h. absurd h, λ h. absurd (omega (arith, h.1, h.2)))
any_for_each Q from (suc n) f = Iff.trans (any_append Q (f from) (for_each (suc from) n f))
    (Iff.trans (⊎-iff Iff.rfl (any_for_each Q (suc from) n f)) (from_suc from n (λ j. Any Q (f j))))

pub from_one : (P : ℕ) (Q R : ℕ → Type 0) → ((j : ℕ) → Q j ↔ R j) → From 1 P Q ↔ UpTo P R
from_one P Q R h = (
  λ r. (r.0, r.1, omega (arith, r.2), (h r.0).0 r.3),
  λ r. (r.0, r.1, omega (arith, r.2), (h r.0).1 r.3),
)

pub any_of_some : (p : Test → Sum → Bool) (ds : List Rule)
    → T (some_literal p (any_of ds)) ↔ Any (λ d. T (some_literal p d)) ds
unfolding any_of some_literal Any
any_of_some p [] = Iff.rfl
any_of_some p (a ∷ []) = (λ h. inl h, λ h. elim h [ inl k ↦ k | inr k ↦ absurd k ])
any_of_some p (a ∷ b ∷ l) = Iff.trans (T_or (some_literal p a) (some_literal p (any_of (b ∷ l))))
    (⊎-iff Iff.rfl (any_of_some p (b ∷ l)))

-- ---- how many they are

pub length_for_each : {A : Type 0} (m from n : ℕ) (f : ℕ → List A) → ((j : ℕ) → length (f j) ≡ m)
    → length (for_each from n f) ≡ n * m
unfolding for_each
length_for_each m from zero f h = omega arith
length_for_each m from (suc n) f h =
    omega (arith, length-append (f from) (for_each (suc from) n f), h from, length_for_each m (suc from) n f h)

pub length_disjuncts : (P x : ℕ) (a : Rule) → length (disjuncts P x a) ≡ P + P * length (bounds x a)
unfolding disjuncts
length_disjuncts P x a = omega (
  arith,
  length-append (for_each 1 P (fars x a)) (for_each 1 P (nears x a)),
  length_for_each 1 1 P (fars x a) (λ j. refl),
  length_for_each (length (bounds x a)) 1 P (nears x a)
      (λ j. length-map (bounds x a) (λ b. body_at x (add b (number (pos j))) a)),
)

-- ---- folded one after the other from the right

unfoldable pub fold_any : List Rule → Rule
unfolding fold_join fold
fold_any [] = False
fold_any (d ∷ l) = fold_join or (fold d) (fold_any l)

join_false : (f : Rule) → fold_join or f False ≡ f
unfolding fold_join side fold_sides
join_false (Constant true) = refl
join_false (Constant false) = refl
join_false (Join j a b) = refl
join_false (Not a) = refl
join_false (Literal t s) = refl
join_false (Bind q v a) = refl

join_true : (f : Rule) → fold_join or f True ≡ True
unfolding fold_join side fold_sides
join_true (Constant true) = refl
join_true (Constant false) = refl
join_true (Join j a b) = refl
join_true (Not a) = refl
join_true (Literal t s) = refl
join_true (Bind q v a) = refl

pub fold_any_of : (l : List Rule) → fold (any_of l) ≡ fold_any l
unfolding fold any_of fold_any
fold_any_of [] = refl
fold_any_of (d ∷ []) = sym (join_false (fold d))
fold_any_of (d ∷ e ∷ l) = ap (fold_join or (fold d)) (fold_any_of (e ∷ l))

-- one that is true makes all before it true
pub true_beats : (k l : List Rule) → fold_any l ≡ True → fold_any (k ++ l) ≡ True
unfolding fold_any
true_beats [] l e = e
true_beats (d ∷ k) l e = ap (fold_join or (fold d)) (true_beats k l e) ∙ join_true (fold d)
