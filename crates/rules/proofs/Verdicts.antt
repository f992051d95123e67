-- Every rule is decided, a closed rule is answered rightly, and the leave-off test is right in both verdicts.
-- Assumes nothing.
use mathlib.Core.Path.{◌≡◌, refl, sym, ◌∙◌, ap, subst, fun_ext}
use mathlib.Core.Logic.Iff
use mathlib.Core.Logic.{◌⊎◌, inl, inr}
use mathlib.Core.Bool.{true, false}
use mathlib.Core.List.{List, [], ◌∷◌}
use Prim.Native.Nat.{ℕ, zero, suc, ◌≤◌}
use native.Mathlib.Omega.{arith}
use lib.Dec.{T, T_not, eqb, eqb→eq, leb}
use lib.IntN.{ℤ, pos, negsuc, nat_abs}
use lib.ListN.{get_or-eq_default}
use Rattle.whole.specs.Integers.{eq_ℤ}
use Rattle.whole.proofs.Tests.{T_and, T_or, cond_ind, eq→eq_ℤ}
use Rattle.whole.proofs.Lists.{All, Any}
use Rattle.rules.specs.Sum.{Sum, Choice, with, factor, all_zero, no_factors}
use Rattle.rules.specs.Rule.{for_some, for_all}
use Rattle.rules.specs.Rule.{Rule, Constant, Join, Not, Literal, Bind, True, False, And, Some, Holds}
use Rattle.rules.specs.Result.{given}
use Rattle.rules.specs.Table.{size, is_setting, all_settings}
use Rattle.rules.specs.Fold.{divisor_one}
use Rattle.rules.specs.Chosen.{quantifiers}
use Rattle.rules.specs.Steps.{normal, common_factor, scaled, period, disjunction}
use Rattle.rules.specs.Eliminate.{eliminate}
use Rattle.rules.specs.LeaveOff.{others, some_of_each, question, leave_off}
use Rattle.rules.specs.Laws.{Same, QuantifierFree, Each, WellFormed, Normal, NoZero}
use Rattle.rules.specs.Laws.{Verdict, ClosedRight, Decided, Matters, MayGo, LeaveOffRight}
use Rattle.rules.proofs.Refusals.{required}
use Rattle.rules.proofs.Meaning.{joined_iff, bind_same, same_trans, join_free, not_free}
use Rattle.rules.proofs.Meaning.{bind_free, dec_iff, decided, for_all_keeps}
use Rattle.rules.proofs.Folding.{settles, Open, Folded}
use Rattle.rules.proofs.NormalForm.{normal_normal}
use Rattle.rules.proofs.Shapes.{Shape, formed_shape, scaled_unit}
use Rattle.rules.proofs.Freedom.{Off, NotFree, not_free_by_test}
use Rattle.rules.proofs.Serving.{Serves, Rebodies, normal_rebodies, scaled_rebodies, disjunction_serves}
use Rattle.rules.proofs.Soundness.{eliminate_follows}

-- ---- an equal rule without quantifiers, by the steps without limits

record Quiet (a : Rule) : Type 0 where
  rule : Rule
  free : QuantifierFree rule
  shape : Each Shape rule
  means : Same rule a

quiet_some : (x : ℕ) (a : Rule) → T (is_setting (pos x)) → QuantifierFree a → Each Shape a → Quiet (Some x a)
quiet_some x a t e h = record {
  rule = disjunction (period c) x c;
  free = serves.1;
  shape = serves.0.shape;
  means = same_trans (disjunction (period c) x c) (Some x c) (Some x a) serves.0.means
      (same_trans (Some x c) (Some x b) (Some x a) second.means first.means);
}
  where
    b : Rule
    b = normal true x a

    first : Rebodies x a b
    first = normal_rebodies x a e h

    n : Normal NoZero b
    n = normal_normal true x a e

    c : Rule
    c = scaled (common_factor x b) x b

    second : Rebodies x b c
    second = scaled_rebodies x b t n first.shape

    serves : Serves for_some x c (disjunction (period c) x c) × QuantifierFree (disjunction (period c) x c)
    serves = disjunction_serves x c t (scaled_unit (common_factor x b) x b n) second.shape

quiet : (a : Rule) → Each Shape a → Quiet a
unfolding Each Holds quantifiers
quiet (Constant b) h = record { rule = Constant b; free = omega arith; shape = tt; means = λ ρ. Iff.rfl }
quiet (Join j a b) h =
    let p = quiet a h.0 in
    let q = quiet b h.1 in
    record {
      rule = Join j p.rule q.rule;
      free = omega (arith, p.free, q.free);
      shape = (p.shape, q.shape);
      means = λ ρ. joined_iff j (p.means ρ) (q.means ρ);
    }
quiet (Not a) h =
    let p = quiet a h in
    record { rule = Not p.rule; free = p.free; shape = p.shape; means = λ ρ. Iff.not (p.means ρ) }
quiet (Literal t s) h = record { rule = Literal t s; free = omega arith; shape = h; means = λ ρ. Iff.rfl }
quiet (Bind for_some x a) h =
    let p = quiet a h.1 in
    let r = quiet_some x p.rule h.0 p.free p.shape in
    let inside = bind_same for_some x p.rule a p.means in
    record {
      rule = r.rule;
      free = r.free;
      shape = r.shape;
      means = same_trans r.rule (Some x p.rule) (Some x a) r.means inside;
    }
quiet (Bind for_all x a) h =
    let p = quiet a h.1 in
    let r = quiet_some x (Not p.rule) h.0 p.free p.shape in
    let inside = bind_same for_all x p.rule a p.means in
    record {
      rule = Not r.rule;
      free = r.free;
      shape = r.shape;
      means = λ ρ. Iff.trans (Iff.not (r.means ρ)) (Iff.trans (for_all_keeps x p.rule p.free ρ) (inside ρ));
    }

pub all_decided : Decided
all_decided a w ρ = let q = quiet a (formed_shape a w) in dec_iff (q.means ρ) (decided q.rule ρ q.free)

-- ---- a folded rule that names nothing is true or false

off_zero : (s : Sum) → ((v : ℕ) → factor v s ≡ pos 0) → T (all_zero s)
unfolding all_zero
off_zero [] h = tt
off_zero (a ∷ s) h = (T_and (eq_ℤ a (pos 0)) (all_zero s)).1 (eq→eq_ℤ a (pos 0) (h 0), off_zero s (λ v. h (suc v)))

off_no_factors : (s : Sum) → ((v : ℕ) → 1 ≤ v → Off v s) → T (no_factors s)
unfolding no_factors
off_no_factors [] h = tt
off_no_factors (c ∷ s) h = off_zero s (λ v. h (suc v) (omega arith))

not_constant : {X : Type 0} (a : Rule) → Open a → (a ≡ True) ⊎ (a ≡ False) → X
not_constant a o (inl e) = absurd (subst Open e o)
not_constant a o (inr e) = absurd (subst Open e o)

-- no setting is free
abbrev AllBound : Rule → Type 0
AllBound a = (v : ℕ) → 1 ≤ v → NotFree v a

closed_constant : (a : Rule) → Folded a → QuantifierFree a → AllBound a → (a ≡ True) ⊎ (a ≡ False)
unfolding Folded NotFree
closed_constant (Constant true) f q n = inl refl
closed_constant (Constant false) f q n = inr refl
closed_constant (Join j a b) f q n =
    not_constant a f.0 (closed_constant a f.2 (join_free j a b q).0 (λ v g. (n v g).0))
closed_constant (Not a) f q n = not_constant a f.0 (closed_constant a f.1 (not_free a q) n)
closed_constant (Literal t s) f q n =
    absurd (T_not (settles t s) f ((T_or (no_factors s) (divisor_one t)).1 (inl (off_no_factors s n))))
closed_constant (Bind p v a) f q n = bind_free p v a q

-- what it is says what the rule that it comes from means
verdict : (a f : Rule) {Yes No : Type 0} → Same f a → (f ≡ True) ⊎ (f ≡ False)
    → (((ρ : Choice) → Holds a ρ) → Yes) → (((ρ : Choice) → ¬ Holds a ρ) → No) → Verdict f Yes No
unfolding Holds
verdict a f m (inl e) to_yes to_no = inl (e, to_yes (λ ρ. (m ρ).0 (subst (λ (r : Rule). Holds r ρ) (sym e) tt)))
verdict a f m (inr e) to_yes to_no = inr (e, to_no (λ ρ h. subst (λ (r : Rule). Holds r ρ) e ((m ρ).1 h)))

eliminated_constant : (room : ℕ) (a f : Rule) → WellFormed a → AllBound a → eliminate room a ≡ given f
    → Same f a × ((f ≡ True) ⊎ (f ≡ False))
eliminated_constant room a f w n e =
    let (s, q) = eliminate_follows room a f w e in
    (s.means, closed_constant f s.folded q (λ v g. s.frees v g (n v g)))

pub closed_right : ClosedRight
closed_right room a f w c e =
    let (m, k) = eliminated_constant room a f w (λ v g. not_free_by_test v a (c v g)) e in
    verdict a f m k (λ h. h) (λ h. h)

-- ---- the question

-- bound settings of a list are not free under them
bound_not_free : (v : ℕ) (ws : List ℕ) (a : Rule) → NotFree v a ⊎ Any (λ w. v ≡ w) ws
    → NotFree v (some_of_each ws a)
unfolding some_of_each NotFree Any
bound_not_free v [] a (inl h) = h
bound_not_free v [] a (inr h) = absurd h
bound_not_free v (w ∷ ws) a (inl h) = inr (bound_not_free v ws a (inl h))
bound_not_free v (w ∷ ws) a (inr (inl e)) = inl e
bound_not_free v (w ∷ ws) a (inr (inr h)) = inr (bound_not_free v ws a (inr h))

-- one of a list is v or among the others
among_others : (u v : ℕ) (ws : List ℕ) → Any (λ w. u ≡ w) ws → (u ≡ v) ⊎ Any (λ w. u ≡ w) (others v ws)
unfolding Any others
among_others u v [] h = absurd h
among_others u v (w ∷ ws) h = cond_ind (eqb w v) (others v ws) (w ∷ others v ws)
    (λ (l : List ℕ). (u ≡ v) ⊎ Any (λ w. u ≡ w) l)
    (λ t. elim h [ inl e ↦ inl (e ∙ eqb→eq w v t) | inr k ↦ among_others u v ws k ])
    (λ t. elim h [ inl e ↦ inr (inl e) | inr k ↦ elim (among_others u v ws k) [ inl e ↦ inl e | inr i ↦ inr (inr i) ] ])

-- a setting is one of six, or beyond every sum
six : (v : ℕ) → 1 ≤ v → Any (λ w. v ≡ w) all_settings ⊎ (7 ≤ v)
unfolding Any
six zero g = absurd (omega arith)
six (suc zero) g = inl (inl refl)
six (suc (suc zero)) g = inl (inr (inl refl))
six (suc (suc (suc zero))) g = inl (inr (inr (inl refl)))
six (suc (suc (suc (suc zero)))) g = inl (inr (inr (inr (inl refl))))
six (suc (suc (suc (suc (suc zero))))) g = inl (inr (inr (inr (inr (inl refl)))))
six (suc (suc (suc (suc (suc (suc zero)))))) g = inl (inr (inr (inr (inr (inr (inl refl))))))
six (suc (suc (suc (suc (suc (suc (suc v))))))) g = inr (omega arith)

beyond : (v : ℕ) (a : Rule) → 7 ≤ v → Each Shape a → NotFree v a
unfolding Each NotFree
beyond v (Constant b) g h = tt
beyond v (Join j a b) g h = (beyond v a g h.0, beyond v b g h.1)
beyond v (Not a) g h = beyond v a g h
beyond v (Literal t s) g h = get_or-eq_default s (pos 0) (subst (λ (n : ℕ). n ≤ v) (sym h.0) g)
beyond v (Bind q w a) g h = inr (beyond v a g h.1)

abbrev sides : ℕ → Rule → Rule
sides v a = And (Some v a) (Some v (Not a))

question_closed : (v : ℕ) (a : Rule) → Each Shape a → AllBound (question v a)
unfolding question NotFree
question_closed v a h u g = bound_not_free u (others v all_settings) (sides v a) (bound (six u g))
  where
    bound : Any (λ w. u ≡ w) all_settings ⊎ (7 ≤ u) → NotFree u (sides v a) ⊎ Any (λ w. u ≡ w) (others v all_settings)
    bound (inl k) = elim (among_others u v all_settings k) [ inl e ↦ inl (inl e, inl e) | inr i ↦ inr i ]
    bound (inr k) = inl (inr (beyond u a k h), inr (beyond u a k h))

others_formed : (v : ℕ) (ws : List ℕ) (a : Rule) → All (λ w. T (is_setting (pos w))) ws → WellFormed a
    → WellFormed (some_of_each (others v ws) a)
unfolding All others some_of_each Each
others_formed v [] a h w = w
others_formed v (u ∷ ws) a h w =
    let rest = others_formed v ws a h.1 w in
    cond_ind (eqb u v) (others v ws) (u ∷ others v ws) (λ (l : List ℕ). WellFormed (some_of_each l a))
    (λ t. rest) (λ t. (h.0, rest))

pub question_formed : (v : ℕ) (a : Rule) → T (is_setting (pos v)) → WellFormed a → WellFormed (question v a)
unfolding question
question_formed v a t w = others_formed v all_settings (sides v a) six_settings (unfold Each in ((t, w), (t, w)))
  where
    six_settings : All (λ w. T (is_setting (pos w))) all_settings
    six_settings = unfold All is_setting in (tt, (tt, (tt, (tt, (tt, (tt, tt))))))

-- ---- what the question asks

some_each_out : (ws : List ℕ) (b : Rule) (ρ : Choice) → Holds (some_of_each ws b) ρ → (σ : Choice) × Holds b σ
unfolding some_of_each Holds
some_each_out [] b ρ h = (ρ, h)
some_each_out (w ∷ ws) b ρ h = some_each_out ws b (with w h.0 ρ) h.1

with_own : (w : ℕ) (ρ : Choice) → with w (ρ w) ρ ≡ ρ
with_own w ρ = fun_ext (λ u.
    cond_ind (eqb u w) (ρ w) (ρ u) (λ z. z ≡ ρ u) (λ t. ap ρ (sym (eqb→eq u w t))) (λ t. refl))

some_each_in : (ws : List ℕ) (b : Rule) (ρ : Choice) → Holds b ρ → Holds (some_of_each ws b) ρ
unfolding some_of_each Holds
some_each_in [] b ρ h = h
some_each_in (w ∷ ws) b ρ h = (ρ w, subst (Holds (some_of_each ws b)) (sym (with_own w ρ)) (some_each_in ws b ρ h))

matters : (v : ℕ) (a : Rule) (ρ : Choice) → Holds (question v a) ρ → Matters v a
unfolding question Holds
matters v a ρ h =
    let (σ, k) = some_each_out (others v all_settings) (sides v a) ρ h in
    (σ, k.0.0, k.1.0, k.0.1, k.1.1)

may_go : (v : ℕ) (a : Rule) → WellFormed a → ((ρ : Choice) → ¬ Holds (question v a) ρ) → MayGo v a
unfolding question Holds
may_go v a w n ρ x y = (alike x y, alike y x)
  where
    alike : (x y : ℤ) → Holds a (with v x ρ) → Holds a (with v y ρ)
    alike x y h = elim (all_decided a w (with v y ρ)) [
      | yes k ↦ k
      | no f ↦ absurd (n ρ (some_each_in (others v all_settings) (sides v a) ρ ((x, h), (y, f))))
    ]

pub natural_setting : (v : ℤ) → T (is_setting v) → T (is_setting (pos (nat_abs v)))
unfolding is_setting
natural_setting (pos v) t = t
natural_setting (negsuc v) t = absurd t

-- leave-off answers by eliminating its question, which is well formed
pub asked : (room : ℕ) (v : ℤ) (a f : Rule) → WellFormed a → leave_off room v a ≡ given f
    → WellFormed (question (nat_abs v) a) × (eliminate room (question (nat_abs v) a) ≡ given f)
unfolding leave_off
asked room v a f w e =
    let (t, after) = required (is_setting v) 8 _ e in
    let (fits, eliminated) = required (leb (size (question (nat_abs v) a)) room) 6 _ after in
    (question_formed (nat_abs v) a (natural_setting v t) w, eliminated)

pub leave_off_right : LeaveOffRight
leave_off_right room v a f w e =
    let u : ℕ = nat_abs v in
    let (formed, eliminated) = asked room v a f w e in
    let closed : AllBound (question u a) = question_closed u a (formed_shape a w) in
    let (means, k) = eliminated_constant room (question u a) f formed closed eliminated in
    verdict (question u a) f means k (λ h. matters u a (λ x. pos 0) (h (λ x. pos 0))) (may_go u a w)
