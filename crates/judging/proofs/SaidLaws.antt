-- What two masks say of a rule: of a truth value, of a rule that stays open, and of a join or a not by its parts.
-- Assumes nothing.
use mathlib.Core.Path.{◌≡◌, refl, sym, ap, ap₂, ◌∙◌, subst}
use mathlib.Core.Bool.{Bool, true, false, not}
use Prim.Native.Nat.{ℕ, ◌<◌, ◌≤◌, max, min}
use native.Mathlib.Omega.{arith}
use lib.Bits.{bit_and, bit_or}
use Rattle.rules.specs.Rule.{Junction, and, or, Rule, Constant, Join, Not, Literal, Bind}
use Rattle.rules.specs.Fold.{Side, decides, drops, stays, side, fold, fold_not, fold_join, fold_sides}
use Rattle.rules.proofs.Folding.{Open}
use Rattle.judging.specs.Judging.{bit, flag, settled_as, Says}
use Rattle.judging.specs.Masks.{Known, joint}
use Rattle.judging.proofs.BitLaws.{bit_of_and, bit_of_or, bit_all}

-- ---- what is settled

settled_true : (v : Bool) → flag v ≡ settled_as true (Constant v)
unfolding settled_as
settled_true true = refl
settled_true false = refl

settled_false : (v : Bool) → flag (not v) ≡ settled_as false (Constant v)
unfolding settled_as
settled_false true = refl
settled_false false = refl

pub settled_small : (v : Bool) (r : Rule) → settled_as v r ≤ 1
unfolding settled_as
settled_small true (Constant true) = omega arith
settled_small true (Constant false) = omega arith
settled_small false (Constant true) = omega arith
settled_small false (Constant false) = omega arith
settled_small v (Join j a b) = omega arith
settled_small v (Not a) = omega arith
settled_small v (Literal t s) = omega arith
settled_small v (Bind q w a) = omega arith

pub settled_is : (v : Bool) (r : Rule) → settled_as v r ≡ 1 → r ≡ Constant v
unfolding settled_as
settled_is true (Constant true) e = refl
settled_is true (Constant false) e = absurd (omega arith)
settled_is false (Constant true) e = absurd (omega arith)
settled_is false (Constant false) e = refl
settled_is v (Join j a b) e = absurd (omega arith)
settled_is v (Not a) e = absurd (omega arith)
settled_is v (Literal t s) e = absurd (omega arith)
settled_is v (Bind q w a) e = absurd (omega arith)

pub open_unsettled : (v : Bool) (r : Rule) → Open r → 0 ≡ settled_as v r
unfolding settled_as
open_unsettled v (Constant b) h = absurd h
open_unsettled v (Join j a b) h = refl
open_unsettled v (Not a) h = refl
open_unsettled v (Literal t s) h = refl
open_unsettled v (Bind q w a) h = refl

settled_not : (v : Bool) (r : Rule) → settled_as v (fold_not r) ≡ settled_as (not v) r
unfolding settled_as fold_not
settled_not true (Constant true) = refl
settled_not true (Constant false) = refl
settled_not false (Constant true) = refl
settled_not false (Constant false) = refl
settled_not v (Join j a b) = refl
settled_not v (Not a) = refl
settled_not v (Literal t s) = refl
settled_not v (Bind q w a) = refl

-- ---- a join: one side decides it, or both let it through

-- the truth value that decides an and, and an or
abbrev decider : Junction → Bool
decider and = false
decider or = true

-- what a side is settled as: the value that decides, and the other
abbrev Settled : Side → ℕ → ℕ → Type 0
Settled decides d n = (d ≡ 1) × (n ≡ 0)
Settled drops d n = (d ≡ 0) × (n ≡ 1)
Settled stays d n = (d ≡ 0) × (n ≡ 0)

side_settled : (j : Junction) (r : Rule)
    → Settled (side j r) (settled_as (decider j) r) (settled_as (not (decider j)) r)
unfolding settled_as side
side_settled and (Constant true) = (refl, refl)
side_settled and (Constant false) = (refl, refl)
side_settled or (Constant true) = (refl, refl)
side_settled or (Constant false) = (refl, refl)
side_settled j (Join k a b) = (refl, refl)
side_settled j (Not a) = (refl, refl)
side_settled j (Literal t s) = (refl, refl)
side_settled j (Bind q w a) = (refl, refl)

module _ (j : Junction) (a b : Rule) where
  abbrev d : Rule → ℕ
  d r = settled_as (decider j) r

  abbrev n : Rule → ℕ
  n r = settled_as (not (decider j)) r

  sides_settled : (v w : Side) → Settled v (d a) (n a) → Settled w (d b) (n b)
      → (d (fold_sides v w j a b) ≡ max (d a) (d b)) × (n (fold_sides v w j a b) ≡ min (n a) (n b))
  unfolding fold_sides settled_as
  sides_settled decides w (e, f) q =
      let h = settled_small (decider j) b in (omega arith, omega arith)
  sides_settled drops w (e, f) q =
      let h = settled_small (not (decider j)) b in (omega arith, omega arith)
  sides_settled stays decides (e, f) (g, h) = (omega arith, omega arith)
  sides_settled stays drops (e, f) (g, h) = (omega arith, omega arith)
  sides_settled stays stays (e, f) (g, h) = (omega arith, omega arith)

  -- "An and with a false side is false, one with a true side is its other side; or is the dual."
  pub join_settled : (settled_as (decider j) (fold_join j a b) ≡ max (d a) (d b))
      × (settled_as (not (decider j)) (fold_join j a b) ≡ min (n a) (n b))
  unfolding fold_join
  join_settled = sides_settled (side j a) (side j b) (side_settled j a) (side_settled j b)

-- ---- what masks say

module _ {ys ns k : ℕ} where
  pub says_value : (t : ℕ → Bool) {r : Rule} {v : Bool} → Known ys ns t → k < 64 → t k ≡ v → fold r ≡ Constant v
      → Says ys ns k r
  says_value t {r} {v} m h e f = record {
    is_yes = m.0 k h ∙ ap flag e ∙ settled_true v ∙ ap (settled_as true) (sym f);
    is_no = m.1 k h ∙ ap (λ (b : Bool). flag (not b)) e ∙ settled_false v ∙ ap (settled_as false) (sym f);
  }

  pub says_throughout : {r : Rule} {v : Bool} → fold r ≡ Constant v → Known ys ns (λ i. v) → k < 64 → Says ys ns k r
  says_throughout {v = v} f m h = says_value (λ i. v) m h refl f

  pub says_open : {r : Rule} → (bit ys k ≡ 0) × (bit ns k ≡ 0) → Open (fold r) → Says ys ns k r
  says_open {r} (e, f) h = record {
    is_yes = e ∙ open_unsettled true (fold r) h;
    is_no = f ∙ open_unsettled false (fold r) h;
  }

  -- the opposite
  pub says_not : {a : Rule} → Says ys ns k a → Says ns ys k (Not a)
  unfolding fold
  says_not {a} s = record {
    is_yes = s.is_no ∙ sym (settled_not true (fold a));
    is_no = s.is_yes ∙ sym (settled_not false (fold a));
  }

  -- a side that settles the join
  settled_left : (j : Junction) (a b : Rule) → settled_as (decider j) (fold a) ≡ 1 → Says ys ns k a
      → Says ys ns k (Join j a b)
  unfolding fold fold_join fold_sides side
  settled_left j a b e s = record {
    is_yes = s.is_yes ∙ ap (settled_as true) (sym (same j e));
    is_no = s.is_no ∙ ap (settled_as false) (sym (same j e));
  }
    where
      same : (j : Junction) → settled_as (decider j) (fold a) ≡ 1 → fold_join j (fold a) (fold b) ≡ fold a
      same and e =
          let f = settled_is false (fold a) e in
          ap (λ (r : Rule). fold_join and r (fold b)) f ∙ sym f
      same or e =
          let f = settled_is true (fold a) e in
          ap (λ (r : Rule). fold_join or r (fold b)) f ∙ sym f

  -- which of the two a join is
  as_joint : {t v : Bool} (a b : Rule) → t ≡ v → Says ys ns k (Join (joint v) a b) → Says ys ns k (Join (joint t) a b)
  as_joint a b e s = subst (λ (v : Bool). Says ys ns k (Join (joint v) a b)) (sym e) s

  pub all_false : {t : Bool} → t ≡ true → ns ≡ 18446744073709551615 → (a b : Rule) → k < 64 → Says ys ns k a
      → Says ys ns k (Join (joint t) a b)
  all_false i e a b h s =
      as_joint a b i (settled_left and a b (sym s.is_no ∙ ap (λ (m : ℕ). bit m k) e ∙ bit_all k h) s)

  pub all_true : {t : Bool} → t ≡ false → ys ≡ 18446744073709551615 → (a b : Rule) → k < 64 → Says ys ns k a
      → Says ys ns k (Join (joint t) a b)
  all_true i e a b h s =
      as_joint a b i (settled_left or a b (sym s.is_yes ∙ ap (λ (m : ℕ). bit m k) e ∙ bit_all k h) s)

module _ {ys ns us vs k : ℕ} (a b : Rule) (l : Says ys ns k a) (r : Says us vs k b) where
  pub says_and : {t : Bool} → t ≡ true → Says (bit_and ys us) (bit_or ns vs) k (Join (joint t) a b)
  unfolding fold
  says_and i = as_joint a b i (record {
    is_yes = bit_of_and ys us k ∙ ap₂ min l.is_yes r.is_yes ∙ sym (join_settled and (fold a) (fold b)).1;
    is_no = bit_of_or ns vs k ∙ ap₂ max l.is_no r.is_no ∙ sym (join_settled and (fold a) (fold b)).0;
  })

  pub says_or : {t : Bool} → t ≡ false → Says (bit_or ys us) (bit_and ns vs) k (Join (joint t) a b)
  unfolding fold
  says_or i = as_joint a b i (record {
    is_yes = bit_of_or ys us k ∙ ap₂ max l.is_yes r.is_yes ∙ sym (join_settled or (fold a) (fold b)).0;
    is_no = bit_of_and ns vs k ∙ ap₂ min l.is_no r.is_no ∙ sym (join_settled or (fold a) (fold b)).1;
  })

-- ---- joins of one kind, one after the other

-- a truth value that drops out
pub drops_out : (t : Bool) {ys ns k : ℕ} (r : Rule) → Says ys ns k (Join (joint t) (Constant t) r) → Says ys ns k r
drops_out true {ys} {ns} {k} r s = record {
  is_yes = unfold fold fold_join fold_sides side in s.is_yes;
  is_no = unfold fold fold_join fold_sides side in s.is_no;
}
drops_out false {ys} {ns} {k} r s = record {
  is_yes = unfold fold fold_join fold_sides side in s.is_yes;
  is_no = unfold fold fold_join fold_sides side in s.is_no;
}

module _ (j : Junction) (a b c : Rule) where
  regroup_settled : (v : Bool)
      → settled_as v (fold_join j (fold_join j a b) c) ≡ settled_as v (fold_join j a (fold_join j b c))
  regroup_settled v = by j v
    where
      both : (j : Junction)
          → (settled_as (decider j) (fold_join j (fold_join j a b) c)
          ≡ settled_as (decider j) (fold_join j a (fold_join j b c)))
          × (settled_as (not (decider j)) (fold_join j (fold_join j a b) c)
          ≡ settled_as (not (decider j)) (fold_join j a (fold_join j b c)))
      both j =
          let (d1, n1) = join_settled j (fold_join j a b) c in
          let (d2, n2) = join_settled j a b in
          let (d3, n3) = join_settled j a (fold_join j b c) in
          let (d4, n4) = join_settled j b c in
          (omega arith, omega arith)

      by : (j : Junction) (v : Bool)
          → settled_as v (fold_join j (fold_join j a b) c) ≡ settled_as v (fold_join j a (fold_join j b c))
      by and true = (both and).1
      by and false = (both and).0
      by or true = (both or).0
      by or false = (both or).1

pub regroup : (j : Junction) {ys ns k : ℕ} (a b c : Rule) → Says ys ns k (Join j (Join j a b) c)
    → Says ys ns k (Join j a (Join j b c))
unfolding fold
regroup j a b c s = record {
  is_yes = s.is_yes ∙ regroup_settled j (fold a) (fold b) (fold c) true;
  is_no = s.is_no ∙ regroup_settled j (fold a) (fold b) (fold c) false;
}
