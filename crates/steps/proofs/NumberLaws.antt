-- Whether a number is at the limit, or passes it: over the literals of a body, of one that is changed, and over the
-- bounds of step 3.
-- Assumes nothing.
use mathlib.Core.Path.{◌≡◌, refl, sym, ◌∙◌, ap, ap₂, subst}
use mathlib.Core.Bool.{Bool, true, false, ◌||◌}
use mathlib.Core.List.{List, [], ◌∷◌, ◌++◌}
use Prim.Native.Nat.{ℕ, zero, suc, ◌+◌, ◌*◌, ◌<◌, ◌≤◌}
use native.Mathlib.Omega.{arith}
use lib.Dec.{eqb}
use lib.IntN.{ℤ, pos, nat_abs}
use lib.ListN.{length, get_or, drop}
use Rattle.rules.specs.Sum.{Sum, limit, number}
use Rattle.rules.specs.Rule.{Test, Rule, Constant, Join, Not, Literal, Bind}
use Rattle.rules.specs.Literals.{some_literal, map_literals}
use Rattle.rules.specs.Steps.{bounds, far_left, body_at, disjunction}
use Rattle.rules.specs.Eliminate.{over_limit}
use Rattle.rules.specs.Calls.{words}
use Rattle.rules.proofs.Disjuncts.{far_body}
use Rattle.rules.proofs.DisjunctNumbers.{far_over, full_over, some_bound, numbers_decide}
use Rattle.tables.proofs.WordLaws.{words_from, words_length}
use Rattle.tables.proofs.WordLaws.{part}
use Rattle.bodies.specs.Body.{SomeBody, BoundAt, BoundsAt}
use Rattle.bodies.specs.Cursor as cursor
use Rattle.bodies.specs.Cursor.{literals_of}
use Rattle.bodies.proofs.CursorLaws.{literal_inside}
use Rattle.bodies.proofs.LiteralsLaws.{Passed, some_of, some_append, some_gathered}
use Rattle.literals.specs.Literal.{start_of, LiteralAt, SomeLiteral}
use Rattle.literals.specs.Changes.{becomes}
use Rattle.literals.proofs.Literals.{literal_word}
use Rattle.walks.specs.Walk.{changed}
use Rattle.steps.specs.Put.{SomeBound}
use Rattle.steps.specs.Numbers.{at_limit, SomeBounds}
use Rattle.literals.specs.Changes.{Change}
use Rattle.literals.specs.Changes.{Far, Full}
use Rattle.steps.proofs.SumLaws.{above}

-- ---- one of two

pub or_first : {p : Bool} (q : Bool) → p ≡ true → true ≡ (p || q)
or_first q e = sym (ap (λ (b : Bool). b || q) e)

pub or_second : {p q r : Bool} → p ≡ false → r ≡ q → r ≡ (p || q)
or_second {q = q} e f = f ∙ sym (ap (λ (b : Bool). b || q) e)

pub ends_are : {p q r s : Bool} → p ≡ r → q ≡ s → (p || q) ≡ (r || s)
ends_are e f = ap₂ ◌||◌ e f

-- ---- the literal that the loop is at

module _ (l : List ℕ) (p : ℕ) {end : ℕ} where
  -- its body starts the words from place p on
  pub literal_part : {t : Test} {s : Sum} {ls : List (Test × Sum)} (here : cursor.LiteralAt (words l) p end t s ls)
      → LiteralAt (part l p) here.node t s
  literal_part here = record {
    after = here.stands.after;
    begins = words_from l p ∙ here.stands.begins;
    long = here.formed.0;
    fair = here.formed.2;
  }

  module _ (s : cursor.SomeLiteral (words l) p end) where
    pub part_inside : p * 4 ≤ length l
    part_inside = omega (arith, literal_inside s.at, words_length l)

    pub part_fits : p < 16384
    part_fits = omega (arith, literal_inside s.at, s.few)

    pub part_literal : SomeLiteral (part l p)
    part_literal = record { node = s.at.node; test = s.test; sum = s.sum; at = literal_part s.at }

-- ---- over the literals of a body

module _ (p : Test → Sum → Bool) (g : Test → Sum → Rule) where
  -- in a body whose literals are made anew, it is in what is made of one
  some_made : (a : Rule) → some_literal p (map_literals g a) ≡ some_literal (λ t s. some_literal p (g t s)) a
  unfolding some_literal map_literals
  some_made (Constant b) = refl
  some_made (Join j a b) = ap₂ ◌||◌ (some_made a) (some_made b)
  some_made (Not a) = some_made a
  some_made (Literal t s) = refl
  some_made (Bind q v a) = some_made a

module _ (q : Test → Sum → Bool) where
  -- some of these literals is as q says, or none is
  abbrev pub Found : Bool → Passed
  Found b ls = b ≡ some_of q ls

  pub none_yet : Found false []
  unfolding some_of
  none_yet = refl

  pub none_here : (t : Test) (s : Sum) (ks : List (Test × Sum)) → Found false ks → q t s ≡ false
      → Found false (ks ++ ((t, s) ∷ []))
  unfolding some_of
  none_here t s ks e f = or_second (sym e) (or_second f refl) ∙ sym (some_append q ks ((t, s) ∷ []))

  pub one_here : (t : Test) (s : Sum) (ls ks : List (Test × Sum)) → Found false ks → q t s ≡ true
      → Found true (ks ++ ((t, s) ∷ ls))
  unfolding some_of
  one_here t s ls ks e f = or_second (sym e) (or_first _ f) ∙ sym (some_append q ks ((t, s) ∷ ls))

  pub found_body : {b : Bool} (a : Rule) → Found b (literals_of a) → b ≡ some_literal q a
  found_body a e = e ∙ sym (some_gathered q a)

module _ (c : Change) (u : Sum) where
  -- a number of a literal passes the limit, once it is changed
  abbrev pub over_changed : Test → Sum → Bool
  over_changed t s = some_literal over_limit (becomes c u t s)

  pub over_body : {b : Bool} (a : Rule) → Found over_changed b (literals_of a)
      → b ≡ some_literal over_limit (changed c u a)
  unfolding changed
  over_body a e = found_body over_changed a e ∙ sym (some_made over_limit (becomes c u) a)

-- ---- c at the limit

-- the size of the word where T starts
pub limit_decides : {c : ℤ} {ws : List ℤ} {at m : ℕ} → c ≡ get_or ws at (pos 0) → {n : ℕ} {t : Test} {s : Sum}
    → LiteralAt ws n t s → at ≡ start_of t → m ≡ nat_abs c → eqb m limit ≡ at_limit t s
limit_decides {ws = ws} {at = at} here {t = t} l starts size =
    let first : at ≡ start_of t + 0 = omega (arith, starts) in
    ap (λ (k : ℕ). eqb k limit) size
    ∙ ap (λ (z : ℤ). eqb (nat_abs z) limit)
    (here ∙ ap (λ (i : ℕ). get_or ws i (pos 0)) first ∙ literal_word t 0 l (omega arith))

-- ---- the disjuncts of one j

pub far_is : (x j : ℕ) (u : Sum) (a : Rule) → u ≡ number (pos j)
    → some_literal over_limit (changed (Far x) u a) ≡ far_over x a j
unfolding changed becomes far_over
far_is x j u a e =
    ap (some_literal over_limit) (sym (far_body x u a))
    ∙ ap (λ (u : Sum). some_literal over_limit (body_at x u (far_left x a))) e

pub full_is : (x j : ℕ) (u : Sum) (a : Rule) (b : Sum) → u ≡ above b j
    → some_literal over_limit (changed (Full x) u a) ≡ full_over x a b j
unfolding changed becomes full_over body_at
full_is x j u a b e = ap (λ (u : Sum). some_literal over_limit (body_at x u a)) e

-- ---- over the bounds

module _ {bs : List ℤ} {x : ℕ} {places : List ℕ} where
  -- the bound of index i, at the place that is read
  pub bound_here : {us : List Sum} → BoundsAt bs x places (length places) us → (i p : ℕ) → i < length places
      → p ≡ get_or places i 0
      → BoundAt bs x p (get_or us i [])
  bound_here {us} b i p inside e = subst (λ (p : ℕ). BoundAt bs x p (get_or us i [])) (sym e) (b.each i inside)

  module _ {end : ℕ} (s : SomeBounds bs end x places) where
    pub bounds_body : SomeBody bs end
    bounds_body = record { number = s.number; rule = s.rule; body = s.body; few = s.few }

    pub some_bound_here : (1 ≤ x) × (x ≤ 6) → (i p : ℕ) → i < length places → p ≡ get_or places i 0 → SomeBound bs x p
    some_bound_here r i p inside e =
        record { bound = _; at = bound_here s.at i p inside e; few = s.few; setting = r }

module _ (q : Sum → Bool) where
  bound_next : (us : List Sum) (i : ℕ) → i < length us
      → some_bound q (drop i us) ≡ (q (get_or us i []) || some_bound q (drop (suc i) us))
  unfolding some_bound
  bound_next [] i inside = absurd (omega arith)
  bound_next (u ∷ us) zero inside = refl
  bound_next (u ∷ us) (suc i) inside = bound_next us i (omega arith)

  bound_last : (us : List Sum) (i : ℕ) → length us ≤ i → some_bound q (drop i us) ≡ false
  unfolding some_bound
  bound_last [] zero over = refl
  bound_last [] (suc i) over = refl
  bound_last (u ∷ us) zero over = absurd (omega arith)
  bound_last (u ∷ us) (suc i) over = bound_last us i (omega arith)

-- a number passes the limit in the full body at b+1 or at b+P
abbrev pub bound_over : ℕ → ℕ → Rule → Sum → Bool
bound_over P x a b = full_over x a b 1 || full_over x a b P

-- what all bounds tell is what those from index i on tell
abbrev pub Left : ℕ → ℕ → Rule → ℕ → Type 0
Left P x a i = some_bound (bound_over P x a) (bounds x a) ≡ some_bound (bound_over P x a) (drop i (bounds x a))

module _ {bs : List ℤ} {x : ℕ} {places : List ℕ} (P : ℕ) (a : Rule)
    (at : BoundsAt bs x places (length places) (bounds x a))
    (i : ℕ) (left : Left P x a i) where
  pub left_none : i < length places → false ≡ bound_over P x a (get_or (bounds x a) i []) → Left P x a (i + 1)
  left_none inside e =
      let next : suc i ≡ i + 1 = omega arith in
      left ∙ bound_next (bound_over P x a) (bounds x a) i (omega (arith, at.as_many))
      ∙ sym (or_second (sym e) refl)
      ∙ ap (λ (m : ℕ). some_bound (bound_over P x a) (drop m (bounds x a))) next

  pub left_one : i < length places → true ≡ bound_over P x a (get_or (bounds x a) i [])
      → some_bound (bound_over P x a) (bounds x a) ≡ true
  left_one inside e =
      left ∙ bound_next (bound_over P x a) (bounds x a) i (omega (arith, at.as_many)) ∙ sym (or_first _ (sym e))

  pub left_over : length places ≤ i → some_bound (bound_over P x a) (bounds x a) ≡ false
  left_over over = left ∙ bound_last (bound_over P x a) (bounds x a) i (omega (arith, at.as_many))

-- ---- the disjunction

module _ (P x : ℕ) (a : Rule) (g : 1 ≤ P) where
  pub far_decides : true ≡ (far_over x a 1 || far_over x a P) → true ≡ some_literal over_limit (disjunction P x a)
  far_decides e = or_first _ (sym e) ∙ sym (numbers_decide P x a g)

  pub bounds_decide : {r : Bool} → false ≡ (far_over x a 1 || far_over x a P)
      → some_bound (bound_over P x a) (bounds x a) ≡ r → r ≡ some_literal over_limit (disjunction P x a)
  bounds_decide e f = or_second (sym e) (sym f) ∙ sym (numbers_decide P x a g)
