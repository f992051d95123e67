-- What the choice of a quantifier and its replacement do to a rule, by one relation: Put.
-- Assumes nothing.
use mathlib.Core.Path.{◌≡◌, refl, sym, ◌∙◌, ap, subst}
use mathlib.Core.Logic.Iff
use mathlib.Core.Bool.{Bool, true, false, not}
use Prim.Native.Nat.{ℕ, suc, ◌+◌, ◌<◌}
use native.Mathlib.Omega.{arith}
use lib.Dec.{T, ltb, lt→ltb}
use Rattle.rules.specs.Sum.{Sum, with}
use Rattle.rules.specs.Rule.{Junction, Quantifier, Test, Rule, Constant, Join, Not, Literal, Bind, Holds}
use Rattle.rules.specs.Fold.{fold, fold_join}
use Rattle.rules.specs.Chosen.{Chosen, nothing, the, quantifiers, quantified, chosen, replace}
use Rattle.rules.specs.Laws.{Same, QuantifierFree, Each, ReplaceKeeps}
use Rattle.rules.proofs.Meaning.{joined_iff, ranges_iff, none_quantified, some_quantified}
use Rattle.rules.proofs.Folding.{ByParts, Open, Folded, fold_folded, join_open, not_open}

-- in r the chosen quantifier is q x over a, and s is r with new in its place
pub data Put (q : Quantifier) (x : ℕ) (a new : Rule) : Rule → Rule → Type 0 where
  here : QuantifierFree a → Put q x a new (Bind q x a) new
  in_left : {j : Junction} {r s b : Rule} → Put q x a new r s → QuantifierFree b
      → Put q x a new (Join j r b) (Join j s b)
  in_right : {j : Junction} {b r s : Rule} → Put q x a new r s → Put q x a new (Join j b r) (Join j b s)
  in_not : {r s : Rule} → Put q x a new r s → Put q x a new (Not r) (Not s)
  in_bind : {p : Quantifier} {v : ℕ} {r s : Rule} → Put q x a new r s → Put q x a new (Bind p v r) (Bind p v s)

-- ---- the definitions give it

abbrev PutChosen : Chosen → Rule → Rule → Rule → Type 0
PutChosen nothing new r s = Unit {0}
PutChosen (the q x a) new r s = Put q x a new r s

-- the first where the test passes, else the second
abbrev chosen_by : Bool → Chosen → Chosen → Chosen
chosen_by c first second = elim c [ true ↦ first | false ↦ second ]

-- what holds of a part holds of the whole
lift : {new part part_after whole after : Rule}
    → ((q : Quantifier) (x : ℕ) (a : Rule) → Put q x a new part part_after → Put q x a new whole after)
    → (k : Chosen) → PutChosen k new part part_after → PutChosen k new whole after
lift f nothing h = tt
lift f (the q x a) h = f q x a h

put_chosen : (new r : Rule) → PutChosen (chosen r) new r (replace new r)
unfolding chosen replace
put_chosen new (Constant b) = tt
put_chosen new (Join j a b) = by_test (quantified b) (none_quantified b) (put_chosen new a) (put_chosen new b)
  where
    after_by : Bool → Rule
    after_by c = elim c [ true ↦ Join j a (replace new b) | false ↦ Join j (replace new a) b ]

    by_test : (c : Bool) → (T (not c) → QuantifierFree b)
        → PutChosen (chosen a) new a (replace new a) → PutChosen (chosen b) new b (replace new b)
        → PutChosen (chosen_by c (chosen b) (chosen a)) new (Join j a b) (after_by c)
    by_test true none left right = lift (λ q x c p. in_right p) (chosen b) right
    by_test false none left right = lift (λ q x c p. in_left p (none tt)) (chosen a) left
put_chosen new (Not a) = lift (λ q x c p. in_not p) (chosen a) (put_chosen new a)
put_chosen new (Literal t s) = tt
put_chosen new (Bind p v a) = by_test (quantified a) (none_quantified a) (put_chosen new a)
  where
    after_by : Bool → Rule
    after_by c = elim c [ true ↦ Bind p v (replace new a) | false ↦ new ]

    by_test : (c : Bool) → (T (not c) → QuantifierFree a)
        → PutChosen (chosen a) new a (replace new a)
        → PutChosen (chosen_by c (chosen a) (the p v a)) new (Bind p v a) (after_by c)
    by_test true none inside = lift (λ q x c k. in_bind k) (chosen a) inside
    by_test false none inside = here (none tt)

pub put : (new r : Rule) {q : Quantifier} {x : ℕ} {a : Rule} → chosen r ≡ the q x a → Put q x a new r (replace new r)
put new r e = subst (λ (k : Chosen). PutChosen k new r (replace new r)) e (put_chosen new r)

-- where there is a quantifier one is chosen
abbrev pub Found : Chosen → Type 0
Found k = (q : Quantifier) × (x : ℕ) × (a : Rule) × (k ≡ the q x a)

pub is_chosen : (r : Rule) → 0 < quantifiers r → Found (chosen r)
unfolding chosen quantifiers
is_chosen (Constant b) h = absurd (omega arith)
is_chosen (Join j a b) h =
    by_test (quantified b) (some_quantified b) (none_quantified b) (is_chosen a) (is_chosen b)
  where
    by_test : (c : Bool) → (T c → 0 < quantifiers b) → (T (not c) → QuantifierFree b)
        → (0 < quantifiers a → Found (chosen a)) → (0 < quantifiers b → Found (chosen b))
        → Found (chosen_by c (chosen b) (chosen a))
    by_test true some none left right = right (some tt)
    by_test false some none left right = left (omega (arith, none tt))
is_chosen (Not a) h = is_chosen a h
is_chosen (Literal t s) h = absurd (omega arith)
is_chosen (Bind p v a) h = by_test (quantified a) (some_quantified a) (is_chosen a)
  where
    by_test : (c : Bool) → (T c → 0 < quantifiers a) → (0 < quantifiers a → Found (chosen a))
        → Found (chosen_by c (chosen a) (the p v a))
    by_test true some inside = inside (some tt)
    by_test false some inside = (p, v, a, refl)

unquantified : (b : Rule) → QuantifierFree b → (m n : Chosen) → chosen_by (quantified b) m n ≡ n
unfolding quantified
unquantified b e m n = ap (λ (i : ℕ). chosen_by (ltb 0 i) m n) e

is_quantified : (b : Rule) → 0 < quantifiers b → (m n : Chosen) → chosen_by (quantified b) m n ≡ m
unfolding quantified
is_quantified b h m n = passed (ltb 0 (quantifiers b)) (lt→ltb 0 (quantifiers b) h)
  where
    passed : (t : Bool) → T t → chosen_by t m n ≡ m
    passed true h = refl
    passed false h = absurd h

-- a quantifier over a quantifier-free body is chosen
pub chosen_of_free : (q : Quantifier) (x : ℕ) (a : Rule) → QuantifierFree a → chosen (Bind q x a) ≡ the q x a
unfolding chosen
chosen_of_free q x a e = unquantified a e (chosen a) (the q x a)

-- ---- what it keeps

module _ {q : Quantifier} {x : ℕ} {a new : Rule} where
  pub put_body : {r s : Rule} → Put q x a new r s → QuantifierFree a
  put_body (here e) = e
  put_body (in_left p e) = put_body p
  put_body (in_right p) = put_body p
  put_body (in_not p) = put_body p
  put_body (in_bind p) = put_body p

  pub put_keeps : {r s : Rule} → Same new (Bind q x a) → Put q x a new r s → Same s r
  unfolding Holds
  put_keeps h (here e) ρ = h ρ
  put_keeps h (in_left {j = j} p e) ρ = joined_iff j (put_keeps h p ρ) Iff.rfl
  put_keeps h (in_right {j = j} p) ρ = joined_iff j Iff.rfl (put_keeps h p ρ)
  put_keeps h (in_not p) ρ = Iff.not (put_keeps h p ρ)
  put_keeps h (in_bind {p = k} {v = v} p) ρ = ranges_iff k (λ z. put_keeps h p (with v z ρ))

  pub put_parts : (Q : Rule → Type 0) → ByParts Q → (Q (Bind q x a) → Q new)
      → {r s : Rule} → Put q x a new r s → Q r → Q s
  put_parts Q by f (here e) h = f h
  put_parts Q by f (in_left {j = j} {r = r} {s = s} {b = b} p e) h =
      by.join j s b (put_parts Q by f p (by.left j r b h)) (by.right j r b h)
  put_parts Q by f (in_right {j = j} {b = b} {r = r} {s = s} p) h =
      by.join j b s (by.left j b r h) (put_parts Q by f p (by.right j b r h))
  put_parts Q by f (in_not {r = r} {s = s} p) h = by.under_not r s (λ k. put_parts Q by f p k) h
  put_parts Q by f (in_bind {p = k} {v = v} {r = r} {s = s} p) h = by.under_bind k v r s (λ i. put_parts Q by f p i) h

  pub put_each : (Q : Test → Sum → Type 0) {r s : Rule} → Put q x a new r s → Each Q r → Each Q (Bind q x a)
  unfolding Each
  put_each Q (here e) h = h
  put_each Q (in_left p e) h = put_each Q p h.0
  put_each Q (in_right p) h = put_each Q p h.1
  put_each Q (in_not p) h = put_each Q p h
  put_each Q (in_bind p) h = put_each Q p h.1

  pub put_some : {r s : Rule} → Put q x a new r s → 0 < quantifiers r
  unfolding quantifiers
  put_some (here e) = omega arith
  put_some (in_left p e) = omega (arith, put_some p)
  put_some (in_right p) = omega (arith, put_some p)
  put_some (in_not p) = put_some p
  put_some (in_bind p) = omega arith

  -- one quantifier goes, and those of new come
  pub put_count : {r s : Rule} → Put q x a new r s → suc (quantifiers s) ≡ quantifiers r + quantifiers new
  unfolding quantifiers
  put_count (here e) = omega arith
  put_count (in_left p e) = omega (arith, put_count p)
  put_count (in_right p) = omega (arith, put_count p)
  put_count (in_not p) = put_count p
  put_count (in_bind p) = omega (arith, put_count p)

  still_quantified : {r s : Rule} → 0 < quantifiers new → Put q x a new r s → 0 < quantifiers s
  still_quantified one p = omega (arith, put_count p, put_some p)

pub replace_keeps : ReplaceKeeps
replace_keeps new r q x a e h = put_keeps h (put new r e)

-- ---- the quantifier of what is put in is chosen next

module _ {q : Quantifier} {x : ℕ} {a new : Rule} {p : Quantifier} {y : ℕ} {c : Rule} where
  pub put_next : {r s : Rule} → chosen new ≡ the p y c → 0 < quantifiers new
      → Put q x a new r s → chosen s ≡ the p y c
  unfolding chosen
  put_next e one (here z) = e
  put_next e one (in_left {s = s} {b = b} k z) = unquantified b z (chosen b) (chosen s) ∙ put_next e one k
  put_next e one (in_right {b = b} {s = s} k) =
      is_quantified s (still_quantified one k) (chosen s) (chosen b) ∙ put_next e one k
  put_next e one (in_not k) = put_next e one k
  put_next e one (in_bind {p = i} {v = v} {s = s} k) =
      is_quantified s (still_quantified one k) (chosen s) (the i v s) ∙ put_next e one k

-- ---- in a folded rule, folding after the replacement is folding what is put in, where that stays open

module _ {q : Quantifier} {x : ℕ} {a new : Rule} where
  put_open : {r s : Rule} → Open new → Put q x a new r s → Open s
  put_open o (here e) = o
  put_open o (in_left p e) = tt
  put_open o (in_right p) = tt
  put_open o (in_not p) = tt
  put_open o (in_bind p) = tt

-- a side that is folded already stays beside what is open
folded_right : (j : Junction) (a b : Rule) → Open a → Open b → Folded b → fold_join j a (fold b) ≡ Join j a b
folded_right j a b open_a open_b h = ap (fold_join j a) (fold_folded b h) ∙ join_open j a b open_a open_b

folded_left : (j : Junction) (a b : Rule) → Open a → Open b → Folded a → fold_join j (fold a) b ≡ Join j a b
folded_left j a b open_a open_b h = ap (λ c. fold_join j c b) (fold_folded a h) ∙ join_open j a b open_a open_b

pub put_fold : {q : Quantifier} {x : ℕ} {a new r s : Rule} → Open (fold new) → Put q x a new r s → Folded r
    → Put q x a (fold new) r (fold s)
unfolding fold Folded
put_fold o (here e) h = here e
put_fold {q = q} {x = x} {a = a} {new = new} o (in_left {j = j} {r = r} {s = s} {b = b} p e) h =
    let k : Put q x a (fold new) r (fold s) = put_fold o p h.2 in
    let stays = folded_right j (fold s) b (put_open o k) h.1 h.3 in
    subst (Put q x a (fold new) (Join j r b)) (sym stays) (in_left k e)
put_fold {q = q} {x = x} {a = a} {new = new} o (in_right {j = j} {b = b} {r = r} {s = s} p) h =
    let k : Put q x a (fold new) r (fold s) = put_fold o p h.3 in
    let stays = folded_left j b (fold s) h.0 (put_open o k) h.2 in
    subst (Put q x a (fold new) (Join j b r)) (sym stays) (in_right k)
put_fold {q = q} {x = x} {a = a} {new = new} o (in_not {r = r} {s = s} p) h =
    let k : Put q x a (fold new) r (fold s) = put_fold o p h.1 in
    subst (Put q x a (fold new) (Not r)) (sym (not_open (fold s) (put_open o k))) (in_not k)
put_fold o (in_bind p) h = in_bind (put_fold o p h)
