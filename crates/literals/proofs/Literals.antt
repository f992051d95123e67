-- What stands in the words of a literal: its kind, its divisor and its T.
-- Assumes nothing.
use mathlib.Core.Path.{◌≡◌, sym, ap, ◌∙◌}
use mathlib.Core.Bool.{Bool, true, false}
use mathlib.Core.List.{List}
use Prim.Native.Nat.{ℕ, ◌+◌, ◌^◌, ◌<◌, ◌≤◌}
use native.Mathlib.Omega.{arith}
use borrow.Author.Rules.{sfits_of}
use lib.IntN.{ℤ, pos}
use lib.ListN.{length, get_or, take, drop, length-append}
use lib.Seq.{take_at, get_or-drop, get_or-take}
use lib.Signed.{mag}
use mir.Syntax.{w64}
use mir.Val.{to_z, of_z, hbits}
use mir.Facts.{to_z-of_z}
use Rattle.rules.specs.Sum.{Sum, value}
use Rattle.rules.specs.Rule.{Test, positive, divisible, is_zero, passes}
use Rattle.rules.specs.Table.{body}
use Rattle.rules.specs.Match.{choice}
use Rattle.rules.specs.Laws.{DivisorOf}
use Rattle.rules.specs.Calls.{signed}
use Rattle.tables.proofs.Inversion.{test_kind}
use Rattle.tables.proofs.WordLaws.{number_of}
use Rattle.literals.specs.Literal.{start_of, Marked, SomeTest, LiteralAt, SomeLiteral}

-- ---- the body, word by word

module _ {ws : List ℤ} {n : ℕ} {s : Sum} where
  pub literal_kind : (t : Test) → LiteralAt ws n t s → get_or ws 0 (pos 0) ≡ pos (test_kind t)
  unfolding body
  literal_kind positive l = ap (λ ws. get_or ws 0 (pos 0)) l.begins
  literal_kind (divisible true k) l = ap (λ ws. get_or ws 0 (pos 0)) l.begins
  literal_kind (divisible false k) l = ap (λ ws. get_or ws 0 (pos 0)) l.begins
  literal_kind is_zero l = ap (λ ws. get_or ws 0 (pos 0)) l.begins

  pub literal_divisor : (b : Bool) (k : ℕ) → LiteralAt ws n (divisible b k) s → get_or ws 1 (pos 0) ≡ pos k
  unfolding body
  literal_divisor true k l = ap (λ ws. get_or ws 1 (pos 0)) l.begins
  literal_divisor false k l = ap (λ ws. get_or ws 1 (pos 0)) l.begins

  pub literal_sum : (t : Test) → LiteralAt ws n t s → take 7 (drop (start_of t) ws) ≡ s
  unfolding body
  literal_sum positive l = ap (λ ws. take 7 (drop 1 ws)) l.begins ∙ take_at s l.after 7 l.long
  literal_sum (divisible true k) l = ap (λ ws. take 7 (drop 2 ws)) l.begins ∙ take_at s l.after 7 l.long
  literal_sum (divisible false k) l = ap (λ ws. take 7 (drop 2 ws)) l.begins ∙ take_at s l.after 7 l.long
  literal_sum is_zero l = ap (λ ws. take 7 (drop 1 ws)) l.begins ∙ take_at s l.after 7 l.long

  literal_length : (t : Test) → LiteralAt ws n t s → start_of t + 7 ≤ length ws
  unfolding body
  literal_length positive l = omega (arith, simp length-append at (ap length l.begins), l.long)
  literal_length (divisible true k) l = omega (arith, simp length-append at (ap length l.begins), l.long)
  literal_length (divisible false k) l = omega (arith, simp length-append at (ap length l.begins), l.long)
  literal_length is_zero l = omega (arith, simp length-append at (ap length l.begins), l.long)

  -- the kind, read as bits
  pub kind_read : {kind : ℕ} (t : Test) → LiteralAt ws n t s → get_or ws 0 (pos 0) ≡ signed kind → kind ≡ test_kind t
  kind_read {kind} t l p = number_of kind (test_kind t) (sym p ∙ literal_kind t l)

  -- where T starts, by the kind, and that there is all of it
  pub literal_start : {kind at : ℕ} (t : Test) → LiteralAt ws n t s → get_or ws 0 (pos 0) ≡ signed kind
      → ((t : Test) → kind ≡ test_kind t → at ≡ start_of t) → (at ≡ start_of t) × (at + 7 ≤ length ws)
  literal_start {kind} {at} t l p starts =
      let here : at ≡ start_of t = starts t (kind_read t l p) in
      (here, omega (arith, literal_length t l))

  -- word i of T
  pub literal_word : (t : Test) (i : ℕ) → LiteralAt ws n t s → i < 7
      → get_or ws (start_of t + i) (pos 0) ≡ get_or s i (pos 0)
  literal_word t i l h = sym part ∙ ap (λ (l : List ℤ). get_or l i (pos 0)) (literal_sum t l)
    where
      part : get_or (take 7 (drop (start_of t) ws)) i (pos 0) ≡ get_or ws (start_of t + i) (pos 0)
      part = rw (get_or-take, get_or-drop)

  -- the kind and the divisor
  pub literal_marked : {kind k : ℕ} (t : Test) → LiteralAt ws n t s
      → get_or ws 0 (pos 0) ≡ signed kind → get_or ws 1 (pos 0) ≡ signed k → Marked kind k t
  literal_marked {kind} {k} t l p q = record {
    same_kind = kind_read t l p;
    same_divisor = by t l;
  }
    where
      by : (t : Test) → LiteralAt ws n t s → DivisorOf (λ d. k ≡ d) t
      by positive l = tt
      by (divisible b d) l = number_of k d (sym q ∙ literal_divisor b d l)
      by is_zero l = tt

-- ---- what `holds` has to show of the functions that it calls

module _ {ws : List ℤ} (h : SomeLiteral ws) where
  pub literal_long : 8 ≤ length ws
  literal_long = by h.test h.at
    where
      by : (t : Test) → LiteralAt ws h.node t h.sum → 8 ≤ length ws
      by positive l = literal_length positive l
      by (divisible b k) l = omega (arith, literal_length (divisible b k) l)
      by is_zero l = literal_length is_zero l

  module _ {kind : ℕ} (p : get_or ws 0 (pos 0) ≡ signed kind) where
    pub value_asks : {at : ℕ} → ((t : Test) → kind ≡ test_kind t → at ≡ start_of t) → at + 7 ≤ length ws
    value_asks starts = (literal_start h.test h.at p starts).1

    pub passes_asks : {k : ℕ} → get_or ws 1 (pos 0) ≡ signed k → SomeTest kind k
    passes_asks q = record { test = h.test; marked = literal_marked h.test h.at p q; fair = h.at.fair }

-- z is the value of what stands where T starts, so the test of z is the literal's
pub holds_is : {ws : List ℤ} {n : ℕ} {t : Test} {s : Sum} → LiteralAt ws n t s
    → {kind k at : ℕ} → get_or ws 0 (pos 0) ≡ signed kind → get_or ws 1 (pos 0) ≡ signed k
    → ((t : Test) → kind ≡ test_kind t → at ≡ start_of t)
    → (vs : List ℤ) (z : ℤ) → mag z < 2 ^ hbits w64 → z ≡ value (take 7 (drop at ws)) (choice vs)
    → {r : Bool} → ((t : Test) → Marked kind k t → r ≡ passes t (to_z w64 (of_z w64 z)))
    → r ≡ passes t (value s (choice vs))
holds_is {ws} {n} {t} {s} l p q starts vs z f e tests =
    let m = literal_marked t l p q in
    tests t m
    ∙ ap (passes t)
    (to_z-of_z {w = w64} (sfits_of {z = z} f) ∙ e
    ∙ ap (λ at. value (take 7 (drop at ws)) (choice vs)) (starts t m.same_kind)
    ∙ ap (λ l. value l (choice vs)) (literal_sum t l))
