-- The bounds that are kept, in both of their lists: what one more makes of them, and the loop over the literals.
-- Assumes nothing.
use mathlib.Core.Path.{◌≡◌, refl, sym, ◌∙◌, ap, subst}
use mathlib.Core.Bool.{true, false}
use Rattle.std.proofs.Common.{Option, Some, None, MatchOption}
use Rattle.std.specs.List.{AllWithin, HoldsAt}
use Rattle.std.specs.Option.{is_some}
use mathlib.Core.List.{List, [], ◌∷◌, ◌++◌, append-nil}
use Prim.Native.Nat.{ℕ, ◌+◌, ◌<◌}
use native.Mathlib.Decide.{ℕ_discrete}
use native.Mathlib.Omega.{arith}
use lib.IntN.{ℤ}
use lib.ListN.{length, get_or, set, take, length-append, length-set, length-take}
use lib.Seq.{get_or-set_same, get_or-set_other, get_or-take}
use Rattle.rules.specs.Sum.{Sum}
use Rattle.rules.specs.Rule.{Test, Whether}
use Rattle.rules.specs.Literals.{gather}
use Rattle.rules.specs.Steps.{bound_of, once, bounds as bounds_of}
use Rattle.bodies.specs.Body.{SomeBody, WhicheverRule, BoundsAt, RoomForBounds}
use Rattle.bodies.specs.Cursor.{literals_of, across, LiteralAt, WhicheverLiteral, GivesFirst}
use Rattle.bodies.specs.declared.cursor.Literals.{Literals}
use Rattle.bodies.specs.Bounds.{GivesBound, Alike, OfLiteral, none, First, Known, Kept}
use Rattle.bodies.specs.Bounds.{SomeKept, KeptWith}
use Rattle.bodies.specs.declared.bound.Bound.{Bound}
use Rattle.bodies.proofs.CursorLaws.{across_append, gather_across}
use Rattle.bodies.proofs.LiteralsLaws.{Passed, Scanned}
use Rattle.bodies.proofs.OnceLaws.{length_once}
use Rattle.bodies.proofs.BoundLaws.{kept_known, kept_new, one_given}

-- ---- the first that is the same

pub first_is : (bs : List ℤ) (bounds : List Bound) (b : Bound) (r : Option ℕ)
    → MatchOption r (AllWithin (λ c. ¬ Alike bs c.place b.place) bounds 0 (length bounds))
    (λ i. (i < length bounds) × HoldsAt (λ c. Alike bs c.place b.place) bounds i
    × AllWithin (λ c. ¬ Alike bs c.place b.place) bounds 0 i)
    → MatchOption r (¬ Known bs bounds b) (First bs bounds b)
first_is bs bounds b None none_is = λ k. none_is k.0 none (omega arith) k.1 k.2
first_is bs bounds b (Some i) (inside, here, before) =
    (inside, here none, λ j less. before j none (omega arith) less)

pub among : (bs : List ℤ) (bounds : List Bound) (b : Bound) (r : Option ℕ)
    → MatchOption r (¬ Known bs bounds b) (First bs bounds b) → Whether (is_some r) (Known bs bounds b)
among bs bounds b None other = other
among bs bounds b (Some i) (inside, here, before) = (i, inside, here)

-- ---- one more

module _ {bs : List ℤ} {bounds : List Bound} {k : ℕ} {b : Bound} {p : ℕ} {places : List ℕ} (place_is : b.place ≡ p)
    (of : OfLiteral bs b) {x : ℕ} (found : List Sum) (h : Kept bs x bounds places k (once found)) {end : ℕ} {t : Test}
    {s : Sum} {ls : List (Test × Sum)} (l : LiteralAt bs p end t s ls) (g : GivesBound x t s true) where
  abbrev new : List Sum
  new = once (found ++ bound_of x t s)

  -- those among the first k, and their places
  first_k : (i : ℕ) → i < k → get_or (take k bounds) i none ≡ get_or bounds i none
  first_k i less = get_or-take k bounds i none less

  alike_places : (i : ℕ) → i < k
      → (Alike bs (get_or (take k bounds) i none).place b.place) ≡ (Alike bs (get_or places i 0) p)
  alike_places i less =
      ap (λ (q : ℕ). Alike bs q b.place) (ap (λ (c : Bound). c.place) (first_k i less) ∙ h.place_is i less)
      ∙ ap (Alike bs (get_or places i 0)) place_is

  -- a bound that is known
  pub kept_there : Known bs (take k bounds) b → Kept bs x bounds places k new
  kept_there (i, inside, all) =
      let less : i < k = omega (arith, length-take k bounds) in
      record {
        at = kept_known g l found h.at (i, less, subst (λ (A : Type 0). A) (alike_places i less) all);
        held = h.held;
        place_is = h.place_is;
        each = h.each;
      }

  -- and one that is new
  pub kept_behind : ¬ Known bs (take k bounds) b → k < length bounds → k < length places
      → Kept bs x (set bounds k b) (set places k p) (k + 1) new
  kept_behind other room room_for_place = record {
    at = kept_new g l found h.at
        (λ q. other (
          q.0,
          omega (arith, length-take k bounds, q.1),
          subst (λ (A : Type 0). A) (sym (alike_places q.0 q.1)) q.2,
        ))
        room_for_place;
    held = omega (arith, room, length-set bounds k b);
    place_is = λ j m. place_there j m (ℕ_discrete j k);
    each = λ j m. of_there j m (ℕ_discrete j k);
  }
    where
      place_there : (j : ℕ) → j < k + 1 → Dec (j ≡ k)
          → (get_or (set bounds k b) j none).place ≡ get_or (set places k p) j 0
      place_there j m (yes e) =
          ap (λ (i : ℕ). (get_or (set bounds k b) i none).place) e ∙ ap (λ (c : Bound). c.place)
          (get_or-set_same bounds k b none room)
          ∙ place_is ∙ sym (get_or-set_same places k p 0 room_for_place) ∙ sym
          (ap (λ (i : ℕ). get_or (set places k p) i 0) e)
      place_there j m (no f) =
          let less : j < k = omega (arith, m, f) in
          ap (λ (c : Bound). c.place) (get_or-set_other bounds k j b none f) ∙ h.place_is j less
          ∙ sym (get_or-set_other places k j p 0 f)

      of_there : (j : ℕ) → j < k + 1 → Dec (j ≡ k) → OfLiteral bs (get_or (set bounds k b) j none)
      of_there j m (yes e) =
          subst (λ (i : ℕ). OfLiteral bs (get_or (set bounds k b) i none)) (sym e)
          (subst (OfLiteral bs) (sym (get_or-set_same bounds k b none room)) of)
      of_there j m (no f) =
          subst (OfLiteral bs) (sym (get_or-set_other bounds k j b none f)) (h.each j (omega (arith, m, f)))

-- ---- the loop over the literals

-- the bounds of the literals ls are kept
abbrev pub KeptOf : List ℤ → ℕ → List Bound → List ℕ → ℕ → Passed
KeptOf bs x bounds places k ls = Kept bs x bounds places k (once (across (bound_of x) ls))

pub kept_none : (bs : List ℤ) (x : ℕ) (bounds : List Bound) (places : List ℕ) → KeptOf bs x bounds places 0 []
unfolding once across
kept_none bs x bounds places = record {
  at = record { as_many = refl; held = omega arith; each = λ i h. absurd (omega (arith, h)) };
  held = omega arith;
  place_is = λ i h. absurd (omega (arith, h));
  each = λ i h. absurd (omega (arith, h));
}

module _ {bs : List ℤ} {x end : ℕ} {bounds : List Bound} {places : List ℕ} {k : ℕ} where
  pub kept_all : WhicheverRule bs end (λ a. KeptOf bs x bounds places k (literals_of a))
      → WhicheverRule bs end (λ a. BoundsAt bs x places k (bounds_of x a))
  unfolding bounds_of
  kept_all all n a b =
      subst (λ (us : List Sum). BoundsAt bs x places k (once us)) (sym (gather_across (bound_of x) a)) (all n a b).at

  module _ {p : ℕ} (t : Test) (s : Sum) {ls : List (Test × Sum)} (ks : List (Test × Sum))
      (l : LiteralAt bs p end t s ls)
      (kept : KeptOf bs x bounds places k ks) where
    with_this : across (bound_of x) (ks ++ ((t, s) ∷ [])) ≡ across (bound_of x) ks ++ bound_of x t s
    unfolding across
    with_this =
        across_append (bound_of x) ks ((t, s) ∷ [])
        ∙ ap (λ (us : List Sum). across (bound_of x) ks ++ us) (append-nil (bound_of x t s))

    -- the bound of the literal here is kept, or it gives none
    pub kept_this : {new_bounds : List Bound} {new_places : List ℕ} {r : ℕ}
        → KeptWith bs p bounds places k new_bounds new_places r → GivesBound x t s true
        → KeptOf bs x new_bounds new_places r (ks ++ ((t, s) ∷ []))
    kept_this {new_bounds} {new_places} {r} keeps gives =
        subst (λ (us : List Sum). Kept bs x new_bounds new_places r (once us)) (sym with_this)
        (keeps x end t s ls _ l gives kept)

    pub kept_still : GivesBound x t s false → KeptOf bs x bounds places k (ks ++ ((t, s) ∷ []))
    unfolding GivesBound
    kept_still without =
        let same = with_this ∙ ap (λ (us : List Sum). across (bound_of x) ks ++ us) without
        ∙ append-nil (across (bound_of x) ks) in
        subst (λ (us : List Sum). Kept bs x bounds places k (once us)) (sym same) kept

-- there is room for one more, since there is for all that the literals give
module _ {bs : List ℤ} {x end : ℕ} {bounds : List Bound} {places : List ℕ} {k : ℕ} {it after : Literals} {p : ℕ}
    (s : Scanned bs end it (KeptOf bs x bounds places k)) (gave : GivesFirst it (Some p) after) where
  pub kept_asks : SomeBody bs end → RoomForBounds bs end x (length bounds) → RoomForBounds bs end x (length places)
      → WhicheverLiteral bs p end (λ t s ls. GivesBound x t s true) → SomeKept bs p bounds places k
  unfolding across
  kept_asks b enough enough_places gives =
      let r = s b.number b.rule b.body in
      let h = gave bs end r.others r.left in
      let found : List Sum = across (bound_of x) r.passed in
      let this : List Sum = bound_of x h.test h.sum in
      let left : List Sum = across (bound_of x) h.others in
      let whole = r.whole ∙ ap (λ (ms : List (Test × Sum)). r.passed ++ ms) h.first in
      let all = gather_across (bound_of x) b.rule ∙ ap (across (bound_of x)) whole
      ∙ across_append (bound_of x) r.passed ((h.test, h.sum) ∷ h.others) in
      let long : length (gather (bound_of x) b.rule) ≡ length found + (length this + length left) =
      ap length all ∙ length-append found (this ++ left)
      ∙ ap (λ (n : ℕ). length found + n) (length-append this left) in
      let given = gives h.test h.sum h.others h.at in
      let one = one_given x h.test h.sum given in
      let few = length_once found in
      let as_many = r.so_far.at.as_many in
      record {
        setting = x;
        end = end;
        literal = record { test = h.test; sum = h.sum; others = h.others; at = h.at; few = b.few };
        gives = given;
        found = found;
        kept = r.so_far;
        room = omega (arith, as_many, few, long, one, enough b.number b.rule b.body);
        room_for_place = omega (arith, as_many, few, long, one, enough_places b.number b.rule b.body);
      }
