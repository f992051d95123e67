-- A rule that stands in two parts of a table's bytes, by the kind that its first word is: its shape, where its own parts
-- start, and that they are there.
-- Assumes nothing.
use mathlib.Core.Path.{◌≡◌, refl, sym, ◌∙◌, ap}
use mathlib.Core.Bool.{Bool}
use mathlib.Core.List.{List}
use Prim.Native.Nat.{ℕ, ◌+◌, ◌-◌, ◌*◌, ◌<◌, ◌≤◌}
use native.Mathlib.Omega.{arith}
use borrow.Author.Rules.{part_to_end}
use lib.Dec.{eqb}
use lib.IntN.{ℤ, pos}
use lib.ListN.{length, get_or, take, drop, length-drop}
use Rattle.rules.specs.Sum.{Sum}
use Rattle.rules.specs.Rule.{Junction, Quantifier, Test, Rule, Constant, Join, Not, Literal, Bind}
use Rattle.rules.specs.Table.{count, nodes}
use Rattle.rules.specs.Calls.{signed, words}
use Rattle.rules.proofs.Sizes.{weight}
use Rattle.tables.specs.Standing.{Stands, Few}
use Rattle.tables.proofs.WordLaws.{part, words_from, words_length}
use Rattle.tables.proofs.Standings.{nodes_moved}
use Rattle.tables.proofs.Inversion.{join_kind, test_kind, bind_kind, BodyAt, Shape, shape}
use Rattle.tables.proofs.Inversion.{constant, join, negation, literal, bind}
pub use Rattle.tables.proofs.Standings.{root_there, bind_there, join_there, right_there}

-- ---- parts

-- the bytes of a slice from byte e on
abbrev pub bytes_from : List ℕ → ℕ → List ℕ
bytes_from l e = take (length l - e) (drop e l)

pub bytes_length : (l : List ℕ) (e : ℕ) → length (bytes_from l e) ≡ length l - e
bytes_length l e = ap length (part_to_end l e) ∙ length-drop e l

-- the same parts, otherwise said
pub moved : {es fs bs cs : List ℤ} {n m p q : ℕ} (r : Rule) → es ≡ fs → bs ≡ cs → n ≡ m → p ≡ q → Stands es bs n p r
    → Stands fs cs m q r
moved r = nodes_moved (nodes r)

pub few_moved : {es fs bs cs : List ℤ} {n m p q : ℕ} → es ≡ fs → bs ≡ cs → n ≡ m → p ≡ q → Few es bs n p → Few fs cs m q
few_moved e f g h few = record {
  few_nodes = omega (arith, few.few_nodes, ap length e, g);
  few_words = omega (arith, few.few_words, ap length f, h);
}

pub part_words : (l : List ℕ) (i : ℕ) → length (part l i) ≡ length (words l) - i
part_words l i = ap length (words_from l i) ∙ length-drop i (words l)

-- in bytes a part that leaves a word out is shorter: what falls at a call
pub part_shorter : (l : List ℕ) (i : ℕ) → 0 < i → 0 < length (words l)
    → length (take (length l - i * 4) (drop (i * 4) l)) < length l
part_shorter l i h w = omega (arith, ap length (part_to_end l (i * 4)), length-drop (i * 4) l, words_length l)

pub few_part : (le lb : List ℕ) {n p : ℕ} (i j : ℕ) → i ≤ length (words le) → j ≤ length (words lb)
    → Few (words le) (words lb) n p → Few (part le i) (part lb j) (n + i) (p + j)
few_part le lb i j h g few = record {
  few_nodes = omega (arith, few.few_nodes, part_words le i);
  few_words = omega (arith, few.few_words, part_words lb j);
}

pub stands_part : (le lb : List ℕ) (i j n p : ℕ) (a : Rule)
    → Stands (drop i (words le)) (drop j (words lb)) n p a → Stands (part le i) (part lb j) n p a
stands_part le lb i j n p a = moved a (sym (words_from le i)) (sym (words_from lb j)) refl refl

-- ---- the shape

pub data Parts (le lb : List ℕ) (n p k : ℕ) : Rule → Type 0 where
  a_constant : (b : Bool) → k < 2 → eqb k 1 ≡ b → Parts le lb n p k (Constant b)
  a_join : (j : Junction) (a b : Rule) → k ≡ join_kind j
      → Stands (part le 1) (part lb 2) (n + 1) (p + 2) a
      → Stands (part le (1 + count a)) (part lb (2 + weight a)) (n + (1 + count a)) (p + (2 + weight a)) b
      → Parts le lb n p k (Join j a b)
  a_not : (a : Rule) → k ≡ 4 → Stands (part le 1) (part lb 1) (n + 1) (p + 1) a → Parts le lb n p k (Not a)
  a_literal : (t : Test) (s : Sum) → k ≡ test_kind t → BodyAt (words lb) n t s → Parts le lb n p k (Literal t s)
  a_bind : (q : Quantifier) (v : ℕ) (a : Rule) → k ≡ bind_kind q → get_or (words lb) 1 (pos 0) ≡ pos v
      → Stands (part le 1) (part lb 2) (n + 1) (p + 2) a → Parts le lb n p k (Bind q v a)

pub parts : {le lb : List ℕ} {n p : ℕ} (k : ℕ) → get_or (words lb) 0 (pos 0) ≡ signed k → (a : Rule)
    → Stands (words le) (words lb) n p a → Parts le lb n p k a
parts {le} {lb} {n} {p} k first a s = go a (shape k first a s)
  where
    go : (a : Rule) → Shape (words le) (words lb) n p k a → Parts le lb n p k a
    go a (constant b l e) = a_constant b l e
    go a (join j b c i x) =
        a_join j b c i (stands_part le lb 1 2 (n + 1) (p + 2) b x.left_at)
        (stands_part le lb (1 + count b) (2 + weight b) (n + (1 + count b)) (p + (2 + weight b)) c x.right_at)
    go a (negation b i x) = a_not b i (stands_part le lb 1 1 (n + 1) (p + 1) b x)
    go a (literal t u i x) = a_literal t u i x
    go a (bind q v b i w x) = a_bind q v b i w (stands_part le lb 1 2 (n + 1) (p + 2) b x)
