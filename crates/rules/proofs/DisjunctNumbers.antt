-- In step 3 the numbers of all disjuncts pass no limit exactly when those at j = 1 and at j = P pass none.
-- Assumes nothing.
-- The operations on sums are linear, so at a j between 1 and P each number lies between those at 1 and at P.
use mathlib.Core.Path.{◌≡◌}
use mathlib.Core.Logic.Iff
use mathlib.Core.Logic.{◌↔◌, ◌⊎◌, inl, inr}
use mathlib.Core.Bool.{Bool, true, false, not, ◌||◌}
use mathlib.Core.List.{List, [], ◌∷◌, ◌++◌}
use Prim.Native.Nat.{ℕ, suc, ◌+◌, ◌≤◌}
use native.Mathlib.Omega.{arith}
use lib.Dec.{T, T_not, leb→le, le→leb}
use lib.IntN.{ℤ, pos, negsuc, nat_abs, ◌+ℤ◌, ◌*ℤ◌}
use lib.Signed.{◌≤ℤ◌, ≤ℤ_refl}
use Rattle.whole.specs.Integers.{within}
use Rattle.whole.proofs.Tests.{T_and, T_or, same_truth}
use Rattle.whole.proofs.Lists.{Any, ⊎-iff, any_imp, any_append, any_map}
use Rattle.whole.proofs.Linear.{U, D, le↓, le↑}
use Rattle.whole.proofs.Integers.{+ℤ_mono, *ℤ_mono, *ℤ_anti}
use Rattle.whole.proofs.Cooper.{UpTo}
use Rattle.rules.specs.Sum.{Sum, factor, add, scale, put, number, limit, all_within}
use Rattle.rules.specs.Rule.{Test, Rule, Constant, Join, Not, Literal, Bind}
use Rattle.rules.specs.Literals.{some_literal, map_literals}
use Rattle.rules.specs.Steps.{bounds, far_left, sum_at, body_at, for_each, disjuncts, disjunction}
use Rattle.rules.specs.Eliminate.{divisor_over, over_limit}
use Rattle.rules.proofs.Disjuncts.{fars, nears, any_for_each, from_one, any_of_some}

-- ---- what is looked at

-- a number of the far-left body at x = j passes the limit
unfoldable pub far_over : ℕ → Rule → ℕ → Bool
unfolding some_literal over_limit body_at far_left
far_over x a j = some_literal over_limit (body_at x (number (pos j)) (far_left x a))

-- a number of the full body at x = b+j does
unfoldable pub full_over : ℕ → Rule → Sum → ℕ → Bool
unfolding some_literal over_limit body_at add
full_over x a b j = some_literal over_limit (body_at x (add b (number (pos j))) a)

-- some bound of a list is as p says
unfoldable pub some_bound : (Sum → Bool) → List Sum → Bool
some_bound p [] = false
some_bound p (b ∷ l) = p b || some_bound p l

-- ---- a number between two others

-- z lies between p and q, whichever is the greater
abbrev Between : ℤ → ℤ → ℤ → Type 0
Between p z q = ((p ≤ℤ z) × (z ≤ℤ q)) ⊎ ((q ≤ℤ z) × (z ≤ℤ p))

between_itself : (z : ℤ) → Between z z z
between_itself z = inl (≤ℤ_refl z, ≤ℤ_refl z)

between_plus : (c p z q : ℤ) → Between p z q → Between (c +ℤ p) (c +ℤ z) (c +ℤ q)
between_plus c p z q (inl h) = inl (+ℤ_mono c p z h.0, +ℤ_mono c z q h.1)
between_plus c p z q (inr h) = inr (+ℤ_mono c q z h.0, +ℤ_mono c z p h.1)

-- a negative factor turns the order round
between_times : (f p z q : ℤ) → Between p z q → Between (f *ℤ p) (f *ℤ z) (f *ℤ q)
between_times (pos m) p z q (inl h) = inl (*ℤ_mono m p z h.0, *ℤ_mono m z q h.1)
between_times (pos m) p z q (inr h) = inr (*ℤ_mono m q z h.0, *ℤ_mono m z p h.1)
between_times (negsuc m) p z q (inl h) = inr (*ℤ_anti m z q h.1, *ℤ_anti m p z h.0)
between_times (negsuc m) p z q (inr h) = inl (*ℤ_anti m z p h.1, *ℤ_anti m q z h.0)

pub size_parts : (z : ℤ) → nat_abs z ≡ U z + D z
size_parts (pos n) = omega arith
size_parts (negsuc n) = omega arith

in_order_within : (n : ℕ) (p z q : ℤ) → p ≤ℤ z → z ≤ℤ q → T (within n p) → T (within n q) → T (within n z)
in_order_within n p (pos k) q g h a b =
    le→leb k n (omega (arith, le↓ (pos k) q h, size_parts q, leb→le (nat_abs q) n b))
in_order_within n p (negsuc k) q g h a b =
    le→leb (suc k) n (omega (arith, le↓ p (negsuc k) g, size_parts p, leb→le (nat_abs p) n a))

between_within : (n : ℕ) (p z q : ℤ) → Between p z q → T (within n p) → T (within n q) → T (within n z)
between_within n p z q (inl h) a b = in_order_within n p z q h.0 h.1 a b
between_within n p z q (inr h) a b = in_order_within n q z p h.0 h.1 b a

-- ---- a sum between two others, word by word

infixr 20 ◌&◌
data Along : Sum → Sum → Sum → Type 0 where
  none : Along [] [] []
  ◌&◌ : {p z q : ℤ} {s t r : Sum} → Between p z q → Along s t r → Along (p ∷ s) (z ∷ t) (q ∷ r)

along_itself : (s : Sum) → Along s s s
along_itself [] = none
along_itself (a ∷ s) = between_itself a & along_itself s

along_number : (p z q : ℤ) → Between p z q → Along (number p) (number z) (number q)
along_number p z q h = h & along_itself _

along_add : (u s t r : Sum) → Along s t r → Along (add u s) (add u t) (add u r)
unfolding add
along_add [] s t r h = h
along_add (c ∷ u) _ _ _ none = along_itself (c ∷ u)
along_add (c ∷ u) (p ∷ s) (z ∷ t) (q ∷ r) (h & hs) = between_plus c p z q h & along_add u s t r hs

along_scale : (f : ℤ) (s t r : Sum) → Along s t r → Along (scale f s) (scale f t) (scale f r)
unfolding scale
along_scale f _ _ _ none = none
along_scale f (p ∷ s) (z ∷ t) (q ∷ r) (h & hs) = between_times f p z q h & along_scale f s t r hs

along_within : (n : ℕ) (s t r : Sum) → Along s t r → T (all_within n s) → T (all_within n r) → T (all_within n t)
unfolding all_within
along_within n _ _ _ none a b = tt
along_within n (p ∷ s) (z ∷ t) (q ∷ r) (h & hs) a b =
    let first = (T_and (within n p) (all_within n s)).0 a in
    let last = (T_and (within n q) (all_within n r)).0 b in
    (T_and (within n z) (all_within n t)).1
    (between_within n p z q h first.0 last.0, along_within n s t r hs first.1 last.1)

-- ---- a body at a sum between two others

-- two tests that pass together make a third pass: where the third fails, one of the two does
one_of : (a b c : Bool) → (T a → T b → T c) → T (not c) → T (not a) ⊎ T (not b)
one_of true true c f h = absurd (T_not c h (f tt tt))
one_of true false c f h = inr tt
one_of false b c f h = inl tt

-- where each side of an or goes to one of two, the or does
either_side : (a b c d e f : Bool) → (T a → T b ⊎ T c) → (T d → T e ⊎ T f) → T (a || d) → T (b || e) ⊎ T (c || f)
either_side a b c d e f g h k = elim ((T_or a d).0 k) [
  | inl t ↦ elim (g t) [ inl y ↦ inl ((T_or b e).1 (inl y)) | inr y ↦ inr ((T_or c f).1 (inl y)) ]
  | inr t ↦ elim (h t) [ inl y ↦ inl ((T_or b e).1 (inr y)) | inr y ↦ inr ((T_or c f).1 (inr y)) ]
]

module _ (x : ℕ) (s t r : Sum) (along : Along s t r) where
  -- some number of the body at x = u passes the limit
  abbrev over_at : Sum → Rule → Bool
  over_at u a = some_literal over_limit (body_at x u a)

  literal_at_ends : (test : Test) (l : Sum) → T (over_limit test (sum_at x t l))
      → T (over_limit test (sum_at x s l)) ⊎ T (over_limit test (sum_at x r l))
  unfolding over_limit sum_at
  literal_at_ends test l = either_side (past t) (past s) (past r) divisor divisor divisor
      (one_of (all_within limit (at s)) (all_within limit (at r)) (all_within limit (at t))
      (along_within limit (at s) (at t) (at r) ends))
      inl
    where
      at : Sum → Sum
      at u = add (put x (pos 0) l) (scale (factor x l) u)

      past : Sum → Bool
      past u = not (all_within limit (at u))

      divisor : Bool
      divisor = divisor_over test

      ends : Along (at s) (at t) (at r)
      ends = along_add (put x (pos 0) l) (scale (factor x l) s) (scale (factor x l) t) (scale (factor x l) r)
          (along_scale (factor x l) s t r along)

  body_at_ends : (a : Rule) → T (over_at t a) → T (over_at s a) ⊎ T (over_at r a)
  unfolding some_literal body_at map_literals
  body_at_ends (Constant b) h = absurd h
  body_at_ends (Join j a b) h =
      either_side (over_at t a) (over_at s a) (over_at r a) (over_at t b) (over_at s b) (over_at r b)
      (body_at_ends a) (body_at_ends b) h
  body_at_ends (Not a) h = body_at_ends a h
  body_at_ends (Literal test l) h = literal_at_ends test l h
  body_at_ends (Bind q v a) h = body_at_ends a h

-- ---- some bound, and some j

some_bound_any : (p : Sum → Bool) (l : List Sum) → T (some_bound p l) ↔ Any (λ b. T (p b)) l
unfolding some_bound Any
some_bound_any p [] = Iff.rfl
some_bound_any p (b ∷ l) = Iff.trans (T_or (p b) (some_bound p l)) (⊎-iff Iff.rfl (some_bound_any p l))

-- some j for some bound is, for some bound, some j
some_j_swap : (P : ℕ) (Q : Sum → ℕ → Type 0) (l : List Sum)
    → UpTo P (λ j. Any (λ b. Q b j) l) ↔ Any (λ b. UpTo P (Q b)) l
unfolding Any
some_j_swap P Q l = (λ h. any_imp (λ b k. (h.0, h.1, h.2, k)) l h.3, back l)
  where
    back : (m : List Sum) → Any (λ b. UpTo P (Q b)) m → UpTo P (λ j. Any (λ b. Q b j) m)
    back [] h = absurd h
    back (b ∷ m) (inl h) = (h.0, h.1, h.2, inl h.3)
    back (b ∷ m) (inr h) = let k = back m h in (k.0, k.1, k.2, inr k.3)

-- ---- the law

module _ (P x : ℕ) (a : Rule) (g : 1 ≤ P) where
  abbrev Over : Rule → Type 0
  Over d = T (some_literal over_limit d)

  -- a test that passes at no j unless at 1 or at P
  abbrev AtEnds : (ℕ → Bool) → Type 0
  AtEnds q = (j : ℕ) → 1 ≤ j → j ≤ P → T (q j) → T (q 1) ⊎ T (q P)

  some_j : (q : ℕ → Bool) → AtEnds q → UpTo P (λ j. T (q j)) ↔ T (q 1 || q P)
  some_j q ends = (
    λ h. (T_or (q 1) (q P)).1 (ends h.0 h.1 h.2 h.3),
    λ h. elim ((T_or (q 1) (q P)).0 h) [ inl k ↦ (1, omega arith, g, k) | inr k ↦ (P, g, omega arith, k) ],
  )

  along_j : (j : ℕ) → 1 ≤ j → j ≤ P → Along (number (pos 1)) (number (pos j)) (number (pos P))
  along_j j from upto =
      along_number (pos 1) (pos j) (pos P) (inl (le↑ (pos 1) (pos j) (omega arith), le↑ (pos j) (pos P) (omega arith)))

  far_at_ends : AtEnds (far_over x a)
  unfolding far_over
  far_at_ends j from upto =
      body_at_ends x (number (pos 1)) (number (pos j)) (number (pos P)) (along_j j from upto) (far_left x a)

  full_at_ends : (b : Sum) → AtEnds (full_over x a b)
  unfolding full_over
  full_at_ends b j from upto = body_at_ends x (above 1) (above j) (above P)
      (along_add b (number (pos 1)) (number (pos j)) (number (pos P)) (along_j j from upto)) a
    where
      above : ℕ → Sum
      above i = add b (number (pos i))

  any_far : Any Over (for_each 1 P (fars x a)) ↔ T (far_over x a 1 || far_over x a P)
  any_far = Iff.trans (any_for_each Over 1 P (fars x a))
      (Iff.trans (from_one P (λ j. Any Over (fars x a j)) (λ j. T (far_over x a j)) one)
      (some_j (far_over x a) far_at_ends))
    where
      one : (j : ℕ) → Any Over (fars x a j) ↔ T (far_over x a j)
      one j = unfold Any far_over in (λ h. elim h [ inl k ↦ k | inr k ↦ absurd k ], λ h. inl h)

  any_full : Any Over (for_each 1 P (nears x a))
      ↔ T (some_bound (λ b. full_over x a b 1 || full_over x a b P) (bounds x a))
  any_full = Iff.trans (any_for_each Over 1 P (nears x a))
      (Iff.trans (from_one P (λ j. Any Over (nears x a j)) (λ j. Any (λ b. T (full_over x a b j)) bs) each)
      (Iff.trans (some_j_swap P (λ b j. T (full_over x a b j)) bs)
      (Iff.trans (any_imp (λ b. (ends b).0) bs, any_imp (λ b. (ends b).1) bs)
      (Iff.symm (some_bound_any (λ b. full_over x a b 1 || full_over x a b P) bs)))))
    where
      bs : List Sum
      bs = bounds x a

      each : (j : ℕ) → Any Over (nears x a j) ↔ Any (λ b. T (full_over x a b j)) bs
      each j = unfold full_over in any_map Over (λ b. body_at x (add b (number (pos j))) a) bs

      ends : (b : Sum) → UpTo P (λ j. T (full_over x a b j)) ↔ T (full_over x a b 1 || full_over x a b P)
      ends b = some_j (full_over x a b) (full_at_ends b)

  -- the disjuncts at j = 1 and at j = P decide
  pub numbers_decide : some_literal over_limit (disjunction P x a)
      ≡ ((far_over x a 1 || far_over x a P) || some_bound (λ b. full_over x a b 1 || full_over x a b P) (bounds x a))
  unfolding disjunction disjuncts
  numbers_decide = same_truth _ _
      (Iff.trans (any_of_some over_limit (for_each 1 P (fars x a) ++ for_each 1 P (nears x a)))
      (Iff.trans (any_append Over (for_each 1 P (fars x a)) (for_each 1 P (nears x a)))
      (Iff.trans (⊎-iff any_far any_full)
      (Iff.symm (T_or (far_over x a 1 || far_over x a P) _)))))
