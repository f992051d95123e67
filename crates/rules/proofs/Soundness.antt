-- Elimination is sound: in each step table the meaning stays and no setting becomes free, and no quantifier remains.
-- Assumes nothing.
use mathlib.Core.Path.{◌≡◌, refl, sym, subst}
use mathlib.Core.Logic.Iff
use mathlib.Core.Bool.{Bool, true, false, not}
use Prim.Native.Nat.{ℕ, zero, suc, ◌+◌, ◌≤◌, ◌<◌}
use native.Mathlib.Omega.{arith}
use lib.Dec.{T, leb, leb→le}
use lib.IntN.{pos}
use Rattle.rules.specs.Rule.{Quantifier, for_some, for_all, Rule, Not, Some}
use Rattle.rules.specs.Result.{Result, given, ◌>>=◌}
use Rattle.rules.specs.Table.{size, is_setting}
use Rattle.rules.specs.Fold.{fold, fold_not}
use Rattle.rules.specs.Chosen.{Chosen, the, quantifiers, quantified, chosen, replace}
use Rattle.rules.specs.Literals.{some_literal}
use Rattle.rules.specs.Steps.{by_some, normal, common_factor, scaled, period, disjunction}
use Rattle.rules.specs.Eliminate.{over_limit, step_table, on_chosen, for_all_step, normal_step, most_period}
use Rattle.rules.specs.Eliminate.{common_step, disjunction_step, round, rounds, eliminate}
use Rattle.rules.specs.Answer.{occurs}
use Rattle.rules.specs.Laws.{Same, QuantifierFree, Each, WellFormed, Normal, NoZero, UnitFactor, free, Sound}
use Rattle.rules.proofs.Refusals.{given_inj, parts, required}
use Rattle.rules.proofs.Meaning.{same_trans, none_quantified, some_quantified}
use Rattle.rules.proofs.Folding.{Open, Folded, folded_fold, fold_keeps, keep_fold, free_by_parts, fewer_fold}
use Rattle.rules.proofs.Choosing.{Put, put, put_body, put_parts, put_each, put_count, put_next, put_fold}
use Rattle.rules.proofs.Choosing.{is_chosen, chosen_of_free, replace_keeps}
use Rattle.rules.proofs.NormalForm.{normal_normal}
use Rattle.rules.proofs.Shapes.{each_by_parts, normal_by_parts, Shape, formed_shape, scaled_unit}
use Rattle.rules.proofs.Limits.{fits_formed}
use Rattle.rules.proofs.Freedom.{NotFree, not_free_by_parts, not_free_by_test, occurs_not_free}
use Rattle.rules.proofs.Serving.{Serves, Rebodies, by_some_serves, normal_rebodies, scaled_rebodies}
use Rattle.rules.proofs.Serving.{disjunction_serves}

-- ---- a step table

pub record Settled (room : ℕ) (t f : Rule) : Type 0 where
  pub is : f ≡ fold t
  pub numbers : T (not (some_literal over_limit t))
  pub fits : size f ≤ room

pub settled : (room : ℕ) (t f : Rule) → step_table room t ≡ given f → Settled room t f
unfolding step_table
settled room t f e =
    let (numbers, after) = required (not (some_literal over_limit t)) 5 _ e in
    let (fits, last) = required (leb (size (fold t)) room) 6 _ after in
    let is : fold t ≡ f = given_inj last in
    let room_enough : size (fold t) ≤ room = leb→le (size (fold t)) room fits in
    record { is = sym is; numbers = numbers; fits = subst (λ (r : Rule). size r ≤ room) is room_enough }

settled_fewer : {room : ℕ} {t f : Rule} → Settled room t f → quantifiers f ≤ quantifiers t
settled_fewer {t = t} d = subst (λ (r : Rule). quantifiers r ≤ quantifiers t) (sym d.is) (fewer_fold t)

-- r comes from r₀ by steps
pub record Follows (room : ℕ) (r₀ r : Rule) : Type 0 where
  pub folded : Folded r
  pub formed : WellFormed r
  pub fits : size r ≤ room
  pub fewer : quantifiers r ≤ quantifiers r₀
  pub means : Same r r₀
  pub frees : (v : ℕ) → 1 ≤ v → NotFree v r₀ → NotFree v r

pub follows_trans : {room : ℕ} {r₀ r f : Rule} → Follows room r₀ r → Follows room r f → Follows room r₀ f
follows_trans {r₀ = r₀} {r = r} {f = f} s n = record {
  folded = n.folded;
  formed = n.formed;
  fits = n.fits;
  fewer = omega (arith, s.fewer, n.fewer);
  means = same_trans f r r₀ n.means s.means;
  frees = λ v g h. n.frees v g (s.frees v g h);
}

-- no step yet
pub follows_none : {room : ℕ} {r : Rule} → Folded r → WellFormed r → size r ≤ room → Follows room r r
follows_none folded formed fits = record {
  folded = folded;
  formed = formed;
  fits = fits;
  fewer = omega arith;
  means = λ ρ. Iff.rfl;
  frees = λ v g h. h;
}

pub follows_itself : {room : ℕ} {r₀ r : Rule} → Follows room r₀ r → Follows room r r
follows_itself s = follows_none s.folded s.formed s.fits

-- a step table follows from what it folds
settled_follows : {room : ℕ} {t f : Rule} → WellFormed t → Settled room t f → Follows room t f
settled_follows {room = room} {t = t} w d = subst (Follows room t) (sym d.is) (record {
  folded = folded_fold t;
  formed = keep_fold WellFormed (each_by_parts _) t w;
  fits = subst (λ (r : Rule). size r ≤ room) d.is d.fits;
  fewer = fewer_fold t;
  means = fold_keeps t;
  frees = λ v g. keep_fold (NotFree v) (not_free_by_parts v) t;
})

module _ (room : ℕ) (r : Rule) {q : Quantifier} {x : ℕ} {a : Rule} (new f : Rule) (e : chosen r ≡ the q x a) where
  put_new : Put q x a new r (replace new r)
  put_new = put new r e

  count_after : Settled room (replace new r) f → suc (quantifiers f) ≤ quantifiers r + quantifiers new
  count_after d = omega (arith, settled_fewer d, put_count put_new)

  advance : WellFormed r → Serves q x a new → Settled room (replace new r) f → Follows room r f
  advance w s d = record {
    folded = after.folded;
    formed = after.formed;
    fits = after.fits;
    fewer = omega (arith, count_after d, s.few);
    means = same_trans f (replace new r) r after.means (replace_keeps new r q x a e s.means);
    frees = λ v g h. after.frees v g (put_parts (NotFree v) (not_free_by_parts v) (s.frees v g) put_new h);
  }
    where
      shape : Each Shape (replace new r)
      shape = put_parts (Each Shape) (each_by_parts Shape) (λ h. s.shape) put_new (formed_shape r w)

      after : Follows room (replace new r) f
      after = settled_follows (fits_formed (replace new r) shape d.numbers) d

  -- where new keeps a quantifier at its place, that is chosen next
  next : {p : Quantifier} {y : ℕ} {c : Rule} → Folded r → Settled room (replace new r) f
      → Open (fold new) → 0 < quantifiers (fold new) → chosen (fold new) ≡ the p y c → chosen f ≡ the p y c
  next {p} {y} {c} folded d opened some k =
      subst (λ (g : Rule). chosen g ≡ the p y c) (sym d.is) (put_next k some (put_fold opened put_new folded))

-- ---- the state between the steps of a round: for some x stands over a

pub record State (room : ℕ) (r₀ r : Rule) (x : ℕ) (a : Rule) : Type 0 where
  pub follows : Follows room r₀ r
  pub at : chosen r ≡ the for_some x a
  pub body : QuantifierFree a
  pub setting : T (is_setting (pos x))
  pub shape : Each Shape a

state : (room : ℕ) (r₀ r : Rule) (x : ℕ) (a : Rule) → Follows room r₀ r → chosen r ≡ the for_some x a
    → State room r₀ r x a
state room r₀ r x a s e =
    let p : Put for_some x a a r (replace a r) = put a r e in
    let h : T (is_setting (pos x)) × Each Shape a = unfold Each in put_each Shape p (formed_shape r s.formed) in
    record { follows = s; at = e; body = put_body p; setting = h.0; shape = h.1 }

rebody : (room : ℕ) (r₀ r f : Rule) (x : ℕ) (a b : Rule) → State room r₀ r x a → Rebodies x a b
    → step_table room (replace (Some x b) r) ≡ given f → State room r₀ f x (fold b)
rebody room r₀ r f x a b s n e = state room r₀ f x (fold b) (follows_trans s.follows after) chosen_next
  where
    d : Settled room (replace (Some x b) r) f
    d = settled room (replace (Some x b) r) f e

    serves : Serves for_some x a (Some x b)
    serves = unfold Each quantifiers in record {
      shape = (s.setting, n.shape);
      means = n.means;
      frees = n.frees;
      few = omega (arith, n.free);
    }

    after : Follows room r f
    after = advance room r (Some x b) f s.at s.follows.formed serves d

    one : quantifiers (Some x (fold b)) ≡ suc (quantifiers (fold b))
    one = unfold quantifiers in refl

    chosen_next : chosen f ≡ the for_some x (fold b)
    chosen_next = unfold fold in next room r (Some x b) f s.at s.follows.folded d tt (omega (arith, one))
        (chosen_of_free for_some x (fold b) (keep_fold QuantifierFree free_by_parts b n.free))

-- ---- the steps

on_the : (r f : Rule) {q : Quantifier} {x : ℕ} {a : Rule} (step : Quantifier → ℕ → Rule → Result Rule)
    → chosen r ≡ the q x a → on_chosen r (chosen r) step ≡ given f → step q x a ≡ given f
unfolding on_chosen
on_the r f step e h = subst (λ (k : Chosen). on_chosen r k step ≡ given f) e h

for_all_state : (room : ℕ) (r f : Rule) (q : Quantifier) (x : ℕ) (a : Rule) → Follows room r r → chosen r ≡ the q x a
    → for_all_step room r ≡ given f → (c : Rule) × State room r f x c
unfolding for_all_step
for_all_state room r f for_some x a s e h =
    let i : r ≡ f = given_inj (on_the r f _ e h) in
    (a, subst (λ (g : Rule). State room r g x a) i (state room r r x a s e))
for_all_state room r f for_all x a s e h = (fold (Not a), state room r f x (fold (Not a)) after chosen_next)
  where
    d : Settled room (replace (by_some x a) r) f
    d = settled room (replace (by_some x a) r) f (on_the r f _ e h)

    p : Put for_all x a (by_some x a) r (replace (by_some x a) r)
    p = put (by_some x a) r e

    serves : Serves for_all x a (by_some x a)
    serves = by_some_serves x a (put_body p) (put_each Shape p (formed_shape r s.formed))

    after : Follows room r f
    after = advance room r (by_some x a) f e s.formed serves d

    chosen_next : chosen f ≡ the for_some x (fold (Not a))
    chosen_next = unfold fold fold_not chosen quantifiers in
        let free = keep_fold QuantifierFree free_by_parts (Not a) (put_body p) in
        next room r (by_some x a) f e s.folded d tt (omega arith)
        (chosen_of_free for_some x (fold_not (fold a)) free)

normal_state : (room : ℕ) (r₀ r f : Rule) (x : ℕ) (a : Rule) → State room r₀ r x a → normal_step room r ≡ given f
    → (b : Rule) × State room r₀ f x b × Normal NoZero b
unfolding normal_step
normal_state room r₀ r f x a s h = (
  fold b,
  rebody room r₀ r f x a b s (normal_rebodies x a s.body s.shape) (on_the r f _ s.at h),
  keep_fold (Normal NoZero) (normal_by_parts NoZero) b (normal_normal true x a s.body),
)
  where
    b : Rule
    b = normal true x a

common_state : (room : ℕ) (r₀ r f : Rule) (x : ℕ) (a : Rule) → State room r₀ r x a → Normal NoZero a
    → common_step room r ≡ given f → (b : Rule) × State room r₀ f x b × Normal (UnitFactor x) b
unfolding common_step
common_state room r₀ r f x a s n h =
    let b : Rule = scaled (common_factor x a) x a in
    let (D_allowed, step) = required (leb (common_factor x a) most_period) 7 _ (on_the r f _ s.at h) in (
      fold b,
      rebody room r₀ r f x a b s (scaled_rebodies x a s.setting n s.shape) step,
      keep_fold (Normal (UnitFactor x)) (normal_by_parts (UnitFactor x)) b (scaled_unit (common_factor x a) x a n),
    )

disjunction_state : (room : ℕ) (r₀ r f : Rule) (x : ℕ) (a : Rule) → State room r₀ r x a → Normal (UnitFactor x) a
    → disjunction_step room r ≡ given f → Follows room r₀ f × (suc (quantifiers f) ≤ quantifiers r₀)
unfolding disjunction_step
disjunction_state room r₀ r f x a s u h =
    (follows_trans s.follows after, omega (arith, count_after room r new f s.at d, serves.1, s.follows.fewer))
  where
    new : Rule
    new = disjunction (period a) x a

    d : Settled room (replace new r) f
    d = settled room (replace new r) f (required (leb (period a) most_period) 7 _ (on_the r f _ s.at h)).1

    serves : Serves for_some x a new × QuantifierFree new
    serves = disjunction_serves x a s.setting u s.shape

    after : Follows room r f
    after = advance room r new f s.at s.follows.formed serves.0 d

-- ---- rounds

pub round_follows : (room : ℕ) (r f : Rule) → Follows room r r → 0 < quantifiers r → round room r ≡ given f
    → Follows room r f × (suc (quantifiers f) ≤ quantifiers r)
unfolding round
round_follows room r f s some e =
    let (q, x, a, at) = is_chosen r some in
    let (r₃, e₃, f_from_r₃) = parts (for_all_step room r >>= normal_step room >>= common_step room) _ e in
    let (r₂, e₂, r₃_from_r₂) = parts (for_all_step room r >>= normal_step room) _ e₃ in
    let (r₁, r₁_from_r, r₂_from_r₁) = parts (for_all_step room r) _ e₂ in
    let (b, s₁) = for_all_state room r r₁ q x a s at r₁_from_r in
    let (c, s₂, n) = normal_state room r r₁ r₂ x b s₁ r₂_from_r₁ in
    let (d, s₃, u) = common_state room r r₂ r₃ x c s₂ n r₃_from_r₂ in
    disjunction_state room r r₃ f x d s₃ u f_from_r₃

-- what elimination of g comes to
abbrev Done : ℕ → Rule → Rule → Type 0
Done room g f = Follows room g f × QuantifierFree f

done : {room : ℕ} {r f : Rule} → Follows room r r → QuantifierFree r → given r ≡ given f → Done room r f
done {room = room} {r = r} s none e = (subst (Follows room r) (given_inj e) s, subst QuantifierFree (given_inj e) none)

rounds_follow : (n room : ℕ) (r f : Rule) → Follows room r r → quantifiers r ≤ n → rounds n room r ≡ given f
    → Done room r f
unfolding rounds
rounds_follow zero room r f s few e = done s (omega arith) e
rounds_follow (suc n) room r f s few e = by_test (quantified r) (some_quantified r) (none_quantified r) e
    (λ g t fewer l. rounds_follow n room g f t fewer l)
  where
    by_test : (c : Bool) → (T c → 0 < quantifiers r) → (T (not c) → QuantifierFree r)
        → (elim c [ false ↦ given r | true ↦ round room r >>= rounds n room ]) ≡ given f
        → ((g : Rule) → Follows room g g → quantifiers g ≤ n → rounds n room g ≡ given f → Done room g f)
        → Done room r f
    by_test false some none e later = done s (none tt) e
    by_test true some none e later =
        let (g, first, others) = parts (round room r) (rounds n room) e in
        let (to_g, one_less) = round_follows room r g s (some tt) first in
        let (to_f, free) = later g (follows_itself to_g) (omega (arith, one_less)) others in
        (follows_trans to_g to_f, free)

pub eliminate_follows : (room : ℕ) (a f : Rule) → WellFormed a → eliminate room a ≡ given f
    → Follows room a f × QuantifierFree f
unfolding eliminate
eliminate_follows room a f w e =
    let (g, first, others) = parts (step_table room a) (λ g. rounds (quantifiers g) room g) e in
    let to_g : Follows room a g = settled_follows w (settled room a g first) in
    let (to_f, free) = rounds_follow (quantifiers g) room g f (follows_itself to_g) (omega arith) others in
    (follows_trans to_g to_f, free)

pub sound : Sound
sound room a f w e =
    let (s, none) = eliminate_follows room a f w e in
    record { none_remains = none; only_free = names s none; means = s.means; formed = s.formed; fits = s.fits }
  where
    names : Follows room a f → QuantifierFree f → (v : ℕ) → 1 ≤ v → T (occurs v f) → T (free v a)
    names s none v g t = by_test (free v a) (not_free_by_test v a)
      where
        by_test : (c : Bool) → (T (not c) → NotFree v a) → T c
        by_test true h = tt
        by_test false h = absurd (occurs_not_free v f none (s.frees v g (h tt)) t)
