-- What the steps leave names only settings that were free.
-- Assumes nothing.
use mathlib.Core.Path.{◌≡◌, ◌∙◌, ap, subst}
use mathlib.Core.Logic.{◌⊎◌, inl, inr}
use mathlib.Core.Bool.{Bool, true, false, not, ◌&&◌}
use Prim.Native.Nat.{ℕ, ◌≤◌}
use native.Mathlib.Decide.{ℕ_discrete}
use lib.Dec.{T, T_not, eqb, eqb→eq}
use lib.IntN.{ℤ, pos, negsuc, ◌+ℤ◌, ◌*ℤ◌, *ℤ-zero}
use Rattle.whole.specs.Integers.{eq_ℤ}
use Rattle.whole.proofs.Tests.{T_or, not_or, not_not, eq_ℤ→eq, eq→eq_ℤ}
use Rattle.rules.specs.Sum.{Sum, factor, has, add, scale, negate, put, number, setting, one_plus, one_minus}
use Rattle.rules.specs.Rule.{Test, positive, divisible, is_zero, Rule, Constant, Join, Not, Literal, Bind, Some}
use Rattle.rules.specs.Literals.{some_literal, map_literals}
use Rattle.rules.specs.Steps.{normal_literal, normal}
use Rattle.rules.specs.Steps.{multiplier, sign, scale_literal, scaled, sum_at, disjunction}
use Rattle.rules.specs.Answer.{occurs}
use Rattle.rules.specs.Laws.{QuantifierFree, Each, Normal, NoZero, free}
use Rattle.rules.proofs.Sums.{factor_put, factor_put_other, factor_scale, factor_add, number_factor}
use Rattle.rules.proofs.Folding.{ByParts}
use Rattle.rules.proofs.Meaning.{join_free, not_free, bind_free}
use Rattle.rules.proofs.NormalForm.{x_not_negative_ind}
use Rattle.rules.proofs.OverLiterals.{map_each}
use Rattle.rules.proofs.Shapes.{Substitutes, disjunction_each}

-- ---- sums without v

abbrev pub Off : ℕ → Sum → Type 0
Off v s = factor v s ≡ pos 0

off_scale : (v : ℕ) (k : ℤ) (s : Sum) → Off v s → Off v (scale k s)
off_scale v k s e = factor_scale v k s ∙ ap (λ z. k *ℤ z) e ∙ *ℤ-zero k

off_negate : (v : ℕ) (s : Sum) → Off v s → Off v (negate s)
unfolding negate
off_negate v s e = off_scale v (negsuc 0) s e

off_add : (v : ℕ) (s t : Sum) → Off v s → Off v t → Off v (add s t)
off_add v s t e f = factor_add v s t ∙ ap (λ z. z +ℤ factor v t) e ∙ ap (λ z. pos 0 +ℤ z) f

off_put : (v x : ℕ) (a : ℤ) (s : Sum) → ¬ (v ≡ x) → Off v s → Off v (put x a s)
off_put v x a s n e = factor_put_other v x a s n ∙ e

-- 0 put for x: v is off there if it was, or if it is x
off_put_zero : (v x : ℕ) (s : Sum) → (v ≡ x) ⊎ Off v s → Off v (put x (pos 0) s)
off_put_zero v x s h = elim (ℕ_discrete v x) [
  | yes e ↦ subst (λ (y : ℕ). factor v (put y (pos 0) s) ≡ pos 0) e (factor_put v (pos 0) s)
  | no n ↦ elim h [ inl e ↦ absurd (n e) | inr e ↦ off_put v x (pos 0) s n e ]
]

-- ---- rules in which v is not free

unfoldable pub NotFree : ℕ → Rule → Type 0
NotFree v (Constant b) = Unit {0}
NotFree v (Join j a b) = NotFree v a × NotFree v b
NotFree v (Not a) = NotFree v a
NotFree v (Literal t s) = Off v s
NotFree v (Bind q w a) = (v ≡ w) ⊎ NotFree v a

pub not_free_by_parts : (v : ℕ) → ByParts (NotFree v)
unfolding NotFree
not_free_by_parts v = record {
  constant = λ b. tt;
  join = λ j a b h k. (h, k);
  left = λ j a b h. h.0;
  right = λ j a b h. h.1;
  under_not = λ a b f h. f h;
  under_bind = λ q w a b f h. elim h [ inl e ↦ inl e | inr k ↦ inr (f k) ];
}

-- v is off in every literal
each_not_free : (v : ℕ) (a : Rule) → Each (λ t s. Off v s) a → NotFree v a
unfolding Each NotFree
each_not_free v (Constant b) h = tt
each_not_free v (Join j a b) h = (each_not_free v a h.0, each_not_free v b h.1)
each_not_free v (Not a) h = each_not_free v a h
each_not_free v (Literal t s) h = h
each_not_free v (Bind q w a) h = inr (each_not_free v a h.1)

-- under for some x: v is x, or off in every literal
abbrev OffUnder : ℕ → ℕ → Test → Sum → Type 0
OffUnder v x t s = (v ≡ x) ⊎ Off v s

not_free_each : (v x : ℕ) (Q : Test → Sum → Type 0) (a : Rule) → Normal Q a → (v ≡ x) ⊎ NotFree v a
    → Each (OffUnder v x) a
unfolding Normal NotFree Each
not_free_each v x Q (Constant b) n h = tt
not_free_each v x Q (Join j a b) n h = (
  not_free_each v x Q a n.0 (elim h [ inl e ↦ inl e | inr k ↦ inr k.0 ]),
  not_free_each v x Q b n.1 (elim h [ inl e ↦ inl e | inr k ↦ inr k.1 ]),
)
not_free_each v x Q (Not a) n h = absurd n
not_free_each v x Q (Literal t s) n h = h
not_free_each v x Q (Bind q w a) n h = absurd n

-- ---- step 1

module _ (v : ℕ) (g : 1 ≤ v) where
  literal_frees : (plainly : Bool) (x : ℕ) (t : Test) (s : Sum) → Off v s → NotFree v (normal_literal plainly x t s)
  unfolding normal_literal NotFree one_plus one_minus
  literal_frees true x positive s e = e
  literal_frees false x positive s e =
      off_add v (number (pos 1)) (negate s) (number_factor v (pos 1) g) (off_negate v s e)
  literal_frees true x is_zero s e = (
    off_add v (number (pos 1)) (negate s) (number_factor v (pos 1) g) (off_negate v s e),
    off_add v (number (pos 1)) s (number_factor v (pos 1) g) e,
  )
  literal_frees false x is_zero s e = (off_negate v s e, e)
  literal_frees plainly x (divisible b k) s e = x_not_negative_ind (Off v) x s e (off_negate v s e)

  normal_frees : (plainly : Bool) (x : ℕ) (a : Rule) → NotFree v a → NotFree v (normal plainly x a)
  unfolding normal NotFree
  normal_frees plainly x (Constant b) h = tt
  normal_frees plainly x (Join j a b) h = (normal_frees plainly x a h.0, normal_frees plainly x b h.1)
  normal_frees plainly x (Not a) h = normal_frees (not plainly) x a h
  normal_frees plainly x (Literal t s) h = literal_frees plainly x t s h
  normal_frees plainly x (Bind q w a) h = h

  pub some_normal_frees : (x : ℕ) (a : Rule) → NotFree v (Some x a) → NotFree v (Some x (normal true x a))
  unfolding NotFree
  some_normal_frees x a h = elim h [ inl e ↦ inl e | inr k ↦ inr (normal_frees true x a k) ]

  -- ---- step 2

  scaled_frees : (D x : ℕ) (a : Rule) → ¬ (v ≡ x) → Normal NoZero a → NotFree v a → NotFree v (scaled D x a)
  unfolding scaled NotFree setting
  scaled_frees D x a n z h = (
    each_not_free v (map_literals (scale_literal D x) a) literals,
    off_put v x (pos 1) (number (pos 0)) n (number_factor v (pos 0) g),
  )
    where
      each : (t : Test) (s : Sum) → OffUnder v x t s → Each (λ t s. Off v s) (scale_literal D x t s)
      each t s (inl e) = absurd (n e)
      each t s (inr e) = unfold scale_literal Each in
          let m : ℤ = pos (multiplier D x s) in
          off_put v x (sign (factor x s)) (scale m s) n (off_scale v m s e)

      literals : Each (λ t s. Off v s) (map_literals (scale_literal D x) a)
      literals = map_each (scale_literal D x) (OffUnder v x) (λ t s. Off v s) each a
          (not_free_each v x NoZero a z (inr h))

  pub some_scaled_frees : (D x : ℕ) (a : Rule) → Normal NoZero a
      → NotFree v (Some x a) → NotFree v (Some x (scaled D x a))
  unfolding NotFree
  some_scaled_frees D x a z h = elim (ℕ_discrete v x) [
    | yes e ↦ inl e
    | no n ↦ elim h [ inl e ↦ inl e | inr k ↦ inr (scaled_frees D x a n z k) ]
  ]

  -- ---- step 3

  off_substitutes : (x : ℕ) → Substitutes x (OffUnder v x) (Off v) (λ t s. Off v s)
  unfolding sum_at
  off_substitutes x = record {
    numeral = λ j. number_factor v (pos j) g;
    above = λ b j h. off_add v b (number (pos j)) h (number_factor v (pos j) g);
    bound = λ s h. off_negate v (put x (pos 0) s) (off_put_zero v x s h);
    literal = λ t s u h b.
        off_add v (put x (pos 0) s) (scale (factor x s) u) (off_put_zero v x s h) (off_scale v (factor x s) u b);
  }

  pub disjunction_frees : (Q : Test → Sum → Type 0) (P x : ℕ) (a : Rule) → Normal Q a
      → NotFree v (Some x a) → NotFree v (disjunction P x a)
  unfolding NotFree
  disjunction_frees Q P x a n h = each_not_free v (disjunction P x a)
      (disjunction_each x (OffUnder v x) (Off v) (λ t s. Off v s) (off_substitutes x) P a (not_free_each v x Q a n h))

-- ---- against the definition of free and of occurs

off_by_test : (v : ℕ) (s : Sum) → T (not (has v s)) → Off v s
off_by_test v s h = eq_ℤ→eq (factor v s) (pos 0) (not_not (eq_ℤ (factor v s) (pos 0)) h)

pub not_free_by_test : (v : ℕ) (a : Rule) → T (not (free v a)) → NotFree v a
unfolding free NotFree
not_free_by_test v (Constant b) h = tt
not_free_by_test v (Join j a b) h =
    let k = not_or (free v a) (free v b) h in
    (not_free_by_test v a k.0, not_free_by_test v b k.1)
not_free_by_test v (Not a) h = not_free_by_test v a h
not_free_by_test v (Literal t s) h = off_by_test v s h
not_free_by_test v (Bind q w a) h = bound (eqb v w) (eqb→eq v w) h (not_free_by_test v a)
  where
    bound : (c : Bool) → (T c → v ≡ w) → T (not (not c && free v a)) → (T (not (free v a)) → NotFree v a)
        → (v ≡ w) ⊎ NotFree v a
    bound true e h inside = inl (e tt)
    bound false e h inside = inr (inside h)

pub occurs_not_free : (v : ℕ) (a : Rule) → QuantifierFree a → NotFree v a → ¬ T (occurs v a)
unfolding NotFree occurs some_literal
occurs_not_free v (Constant b) q h t = t
occurs_not_free v (Join j a b) q h t =
    let f = join_free j a b q in
    elim ((T_or (occurs v a) (occurs v b)).0 t) [
      | inl k ↦ occurs_not_free v a f.0 h.0 k
      | inr k ↦ occurs_not_free v b f.1 h.1 k
    ]
occurs_not_free v (Not a) q h t = occurs_not_free v a (not_free a q) h t
occurs_not_free v (Literal t s) q h k = T_not (eq_ℤ (factor v s) (pos 0)) k (eq→eq_ℤ (factor v s) (pos 0) h)
occurs_not_free v (Bind p w a) q h t = bind_free p w a q
