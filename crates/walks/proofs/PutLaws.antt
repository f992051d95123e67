-- The truth value of a literal whose a's are all zero or whose divisor is 1, and the nodes of one that stays.
-- Assumes nothing.
use mathlib.Core.Path.{◌≡◌, refl, sym, ap, ◌∙◌, subst}
use mathlib.Core.Bool.{Bool, true, false, not, ◌&&◌, cond}
use mathlib.Core.List.{List, [], ◌∷◌}
use Prim.Native.Nat.{ℕ, ◌-◌, ◌^◌, ◌<◌, ◌≤◌}
use native.Mathlib.Nat.{mod-zero}
use native.Mathlib.Omega.{arith}
use borrow.Author.Rules.{part_to_end}
use borrow.Author.Tests.{eq-eqb, ne_eqb}
use Rattle.std.specs.List.{list_all}
use lib.Dec.{eqb, leb, le→leb, leb→le}
use lib.IntN.{ℤ, pos, negsuc, nat_abs}
use lib.ListN.{length, take, drop}
use mir.Syntax.{w32, w64}
use mir.Val.{SFits, to_z, of_z}
use mir.Facts.{to_z-of_z}
use Rattle.whole.specs.Divides.{divides}
use Rattle.whole.specs.Integers.{eq_ℤ}
use Rattle.whole.proofs.Tests.{T_and}
use Rattle.rules.specs.Sum.{Sum, factor, limit, all_zero, no_factors}
use Rattle.rules.specs.Rule.{Test, positive, divisible, is_zero, Rule, Constant, Literal, passes}
use Rattle.rules.specs.Table.{Node, literal_node, nodes, is_divisor}
use Rattle.rules.specs.Fold.{fold_literal}
use Rattle.rules.specs.Laws.{DivisorOf}
use Rattle.rules.proofs.Folding.{settles}
use Rattle.builder.specs.Built.{Built}
use Rattle.builder.specs.declared.push.State.{State}
use Rattle.folding.specs.Answers.{Gives}
use Rattle.folding.specs.declared.answers.Folded.TheVariants.{Known, Pushed}
use Rattle.literals.specs.Literal.{Fair, Marked, SomeTest}
use Rattle.literals.proofs.Sizes.{wide_is, size_of}
use Rattle.walks.specs.Literals.{SomeMarked}

-- ---- the a's, which are the words behind c

zeros : (s : Sum) → no_factors s ≡ all_zero (drop 1 s)
unfolding no_factors
zeros [] = refl
zeros (c ∷ s) = refl

all_zeros : (l : List ℤ) → list_all (λ (a : ℤ). eq_ℤ a (pos 0)) l ≡ all_zero l
unfolding all_zero
all_zeros [] = refl
all_zeros (a ∷ l) = ap (λ (b : Bool). eq_ℤ a (pos 0) && b) (all_zeros l)

pub zero_factors : (s : Sum) → length s ≡ 7 → list_all (λ (a : ℤ). eq_ℤ a (pos 0)) (take 6 (drop 1 s)) ≡ no_factors s
zero_factors s seven =
    let six : 6 ≡ length s - 1 = omega arith in
    let behind = ap (λ (n : ℕ). take n (drop 1 s)) six ∙ part_to_end s 1 in
    ap (list_all (λ (a : ℤ). eq_ℤ a (pos 0))) behind ∙ all_zeros (drop 1 s) ∙ sym (zeros s)

-- ---- what the test says of c

module _ {kind k : ℕ} (h : SomeMarked kind k) where
  -- a divisor that is not 0 is one
  pub some_divisor : ¬ (k ≡ 0) → SomeTest kind k
  some_divisor n = record { test = h.test; marked = h.marked; fair = by h.test h.marked h.small }
    where
      by : (t : Test) → Marked kind k t → DivisorOf (λ d. d ≤ limit) t → Fair t
      by positive m e = tt
      by (divisible b d) m e = unfold is_divisor in
          (T_and (leb 1 d) (leb d limit)).1 (le→leb 1 d (omega (arith, m.same_divisor)), le→leb d limit e)
      by is_zero m e = tt

  -- and other kinds than 6 and 7 have none
  pub some_other : ¬ (kind ≡ 6) → ¬ (kind ≡ 7) → SomeTest kind k
  some_other n6 n7 = record { test = h.test; marked = h.marked; fair = by h.test h.marked }
    where
      by : (t : Test) → Marked kind k t → Fair t
      by positive m = tt
      by (divisible true d) m = absurd (n6 m.same_kind)
      by (divisible false d) m = absurd (n7 m.same_kind)
      by is_zero m = tt

  pub divisor_small : ¬ (kind ≡ 5) → ¬ (kind ≡ 10) → k ≤ limit
  divisor_small n5 n10 = by h.test h.marked h.small
    where
      by : (t : Test) → Marked kind k t → DivisorOf (λ d. d ≤ limit) t → k ≤ limit
      by positive m e = absurd (n5 m.same_kind)
      by (divisible b d) m e = omega (arith, m.same_divisor)
      by is_zero m e = absurd (n10 m.same_kind)

-- a test of a table is one
pub some_marked : {kind k : ℕ} {t : Test} → Marked kind k t → Fair t → SomeMarked kind k
some_marked {t = t} m f = record { test = t; marked = m; small = by t f }
  where
    by : (t : Test) → Fair t → DivisorOf (λ d. d ≤ limit) t
    by positive f = tt
    by (divisible b d) f = unfold is_divisor in leb→le d limit ((T_and (leb 1 d) (leb d limit)).0 f).1
    by is_zero f = tt

module _ {c : ℤ} (f : SFits w32 c) where
  pub wide_below : nat_abs (to_z w64 (of_z w64 (to_z w32 (of_z w32 c)))) < 2 ^ 63
  wide_below = rw (wide_is f) (omega (arith, size_of w32 f))

  -- 0 divides 0 alone
  zero_divides : eqb (of_z w32 c) 0 ≡ divides 0 c
  zero_divides = bits c f ∙ sym (ap (λ (n : ℕ). eqb n 0) (mod-zero (nat_abs c)))
    where
      bits : (z : ℤ) → SFits w32 z → eqb (of_z w32 z) 0 ≡ eqb (nat_abs z) 0
      bits (pos n) f = refl
      bits (negsuc n) f =
          ne_eqb (of_z w32 (negsuc n)) 0 (λ e. omega (arith, f.sfits))
          ∙ sym (ne_eqb (nat_abs (negsuc n)) 0 (λ e. omega arith))

  divides_read : {k d : ℕ} → k ≡ 0 → k ≡ d → eqb (of_z w32 c) 0 ≡ divides d c
  divides_read z e = zero_divides ∙ ap (λ (d : ℕ). divides d c) (sym z ∙ e)

  module _ {kind k : ℕ} where
    pub passes_is : {r : Bool}
        → ((t : Test) → Marked kind k t → r ≡ passes t (to_z w64 (of_z w64 (to_z w32 (of_z w32 c)))))
        → (t : Test) → Marked kind k t → r ≡ passes t c
    passes_is e t m = e t m ∙ ap (passes t) (wide_is f)

    pub zero_passes : k ≡ 0 → kind ≡ 6 → (t : Test) → Marked kind k t → eqb (of_z w32 c) 0 ≡ passes t c
    zero_passes z six positive m = absurd (omega (arith, m.same_kind))
    zero_passes z six (divisible true d) m = divides_read z m.same_divisor
    zero_passes z six (divisible false d) m = absurd (omega (arith, m.same_kind))
    zero_passes z six is_zero m = absurd (omega (arith, m.same_kind))

    pub zero_fails : k ≡ 0 → kind ≡ 7 → (t : Test) → Marked kind k t → not (eqb (of_z w32 c) 0) ≡ passes t c
    zero_fails z seven positive m = absurd (omega (arith, m.same_kind))
    zero_fails z seven (divisible true d) m = absurd (omega (arith, m.same_kind))
    zero_fails z seven (divisible false d) m = ap not (divides_read z m.same_divisor)
    zero_fails z seven is_zero m = absurd (omega (arith, m.same_kind))

-- ---- a literal put

module _ (ws : List ℤ) (b : State) (ds : List Node) (s : Sum) (t : Test) where
  pub gives_value : {z : ℤ} {r v : Bool} → SFits w32 z → z ≡ factor 0 s → r ≡ true → r ≡ settles t s
      → v ≡ passes t (to_z w32 (of_z w32 z)) → Built ws b ds
      → Gives ws b ds (fold_literal t s) (Known v)
  unfolding Gives fold_literal
  gives_value {z} f c true_is settled e h = (
    ap (λ (b : Bool). cond b (Constant (passes t (factor 0 s))) (Literal t s)) (sym settled ∙ true_is)
        ∙ ap Constant (sym (e ∙ ap (passes t) (to_z-of_z f ∙ c))),
    h,
  )

  -- d is the state in which the literal is put
  pub gives_literal : {r : Bool} (d : State) → r ≡ false → r ≡ settles t s
      → Built ws d (literal_node t s ∷ ds) → Gives ws b ds (fold_literal t s) (Pushed d)
  unfolding Gives fold_literal nodes
  gives_literal d false_is settled h =
      subst (λ (x : Rule). Gives ws b ds x (Pushed d))
      (ap (λ (b : Bool). cond b (Constant (passes t (factor 0 s))) (Literal t s)) (sym false_is ∙ settled)) (tt, h)

-- the test that a kind and a divisor stand for
module _ {kind k : ℕ} where
  pub positive_test : kind ≡ 5 → (t : Test) → Marked kind k t → t ≡ positive
  positive_test e positive m = refl
  positive_test e (divisible true d) m = absurd (omega (arith, m.same_kind))
  positive_test e (divisible false d) m = absurd (omega (arith, m.same_kind))
  positive_test e is_zero m = absurd (omega (arith, m.same_kind))

  pub zero_test : kind ≡ 10 → (t : Test) → Marked kind k t → t ≡ is_zero
  zero_test e positive m = absurd (omega (arith, m.same_kind))
  zero_test e (divisible true d) m = absurd (omega (arith, m.same_kind))
  zero_test e (divisible false d) m = absurd (omega (arith, m.same_kind))
  zero_test e is_zero m = refl

  pub divisor_test : ¬ (kind ≡ 5) → ¬ (kind ≡ 10) → (t : Test) → Marked kind k t → t ≡ divisible (eqb kind 6) k
  divisor_test n5 n10 positive m = absurd (n5 m.same_kind)
  divisor_test n5 n10 (divisible true d) m =
      sym (ap (λ (b : Bool). divisible b k) (eq-eqb kind 6 m.same_kind) ∙ ap (divisible true) m.same_divisor)
  divisor_test n5 n10 (divisible false d) m =
      sym (ap (λ (b : Bool). divisible b k) (ne_eqb kind 6 (λ e. omega (arith, m.same_kind)))
      ∙ ap (divisible false) m.same_divisor)
  divisor_test n5 n10 is_zero m = absurd (n10 m.same_kind)

  pub yes_test : kind ≡ 6 → (t : Test) → Marked kind k t → t ≡ divisible true k
  yes_test e positive m = absurd (omega (arith, m.same_kind))
  yes_test e (divisible true d) m = ap (divisible true) (sym m.same_divisor)
  yes_test e (divisible false d) m = absurd (omega (arith, m.same_kind))
  yes_test e is_zero m = absurd (omega (arith, m.same_kind))

  pub no_test : ¬ (kind ≡ 5) → ¬ (kind ≡ 10) → ¬ (kind ≡ 6) → (t : Test) → Marked kind k t → t ≡ divisible false k
  no_test n5 n10 n6 positive m = absurd (n5 m.same_kind)
  no_test n5 n10 n6 (divisible true d) m = absurd (n6 m.same_kind)
  no_test n5 n10 n6 (divisible false d) m = ap (divisible false) (sym m.same_divisor)
  no_test n5 n10 n6 is_zero m = absurd (n10 m.same_kind)

-- the literal that was put has its node
pub node_is : (ws : List ℤ) (d : State) (ds : List Node) (s : Sum) (u t : Test) → t ≡ u
    → Built ws d (literal_node u s ∷ ds) → Built ws d (literal_node t s ∷ ds)
node_is ws d ds s u t e h = subst (λ (x : Test). Built ws d (literal_node x s ∷ ds)) (sym e) h
