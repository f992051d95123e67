-- A rule that stands in a table, by the kind that its first word is: its shape, and where its parts stand.
-- Assumes nothing.
use mathlib.Core.Path.{◌≡◌, ◌∙◌, ap}
use mathlib.Core.Bool.{Bool, true, false}
use mathlib.Core.List.{List, [], ◌++◌, append_assoc}
use Prim.Native.Nat.{ℕ, ◌+◌, ◌<◌}
use native.Mathlib.Omega.{arith}
use lib.Dec.{eqb}
use lib.IntN.{ℤ, pos}
use lib.ListN.{get_or, drop}
use Rattle.rules.specs.Sum.{Sum}
use Rattle.rules.specs.Rule.{Junction, Quantifier, for_some, for_all, Test, Rule, Constant, Join, Not, Literal, Bind}
use Rattle.rules.specs.Table.{literal_node, bind_node, body, bodies, count, nodes}
use Rattle.rules.specs.Calls.{signed}
use Rattle.rules.proofs.Sizes.{words, weight}
use Rattle.tables.specs.Standing.{Stands}
pub use Rattle.tables.specs.Standing.{BodyAt}
pub use Rattle.tables.specs.Reads.{join_kind, test_kind, bind_kind}
use Rattle.tables.specs.Reads.{kind_of}
use Rattle.tables.proofs.KindLaws.{root_kind}
use Rattle.tables.proofs.Standings.{body_word, under_not, under_bind, left, right, right_child, right_entry}

-- ---- shapes

-- the sides of a join: the left one is the next node, the right one has its number in word 1 and its place in its entry
pub record SidesAt (es bs : List ℤ) (n p : ℕ) (a b : Rule) : Type 0 where
  pub left_at : Stands (drop 1 es) (drop 2 bs) (n + 1) (p + 2) a
  pub right_at : Stands (drop (1 + count a) es) (drop (2 + weight a) bs) (n + (1 + count a)) (p + (2 + weight a)) b
  pub child : get_or bs 1 (pos 0) ≡ pos (n + (1 + count a))
  pub entry : get_or es (1 + count a) (pos 0) ≡ pos (p + (2 + weight a))

pub data Shape (es bs : List ℤ) (n p k : ℕ) : Rule → Type 0 where
  constant : (b : Bool) → k < 2 → eqb k 1 ≡ b → Shape es bs n p k (Constant b)
  join : (j : Junction) (a b : Rule) → k ≡ join_kind j → SidesAt es bs n p a b → Shape es bs n p k (Join j a b)
  negation : (a : Rule) → k ≡ 4 → Stands (drop 1 es) (drop 1 bs) (n + 1) (p + 1) a → Shape es bs n p k (Not a)
  literal : (t : Test) (s : Sum) → k ≡ test_kind t → BodyAt bs n t s → Shape es bs n p k (Literal t s)
  bind : (q : Quantifier) (v : ℕ) (a : Rule) → k ≡ bind_kind q → get_or bs 1 (pos 0) ≡ pos v
      → Stands (drop 1 es) (drop 2 bs) (n + 1) (p + 2) a → Shape es bs n p k (Bind q v a)

module _ {es bs : List ℤ} {n p : ℕ} where
  -- a quantifier has its setting in word 1
  pub setting_word : (q : Quantifier) (v : ℕ) (a : Rule) → Stands es bs n p (Bind q v a) → get_or bs 1 (pos 0) ≡ pos v
  unfolding nodes words body
  setting_word for_some v a s = body_word (bind_node for_some v) (nodes a) 1 s (omega arith)
  setting_word for_all v a s = body_word (bind_node for_all v) (nodes a) 1 s (omega arith)

  pub body_at : (t : Test) (s : Sum) → Stands es bs n p (Literal t s) → BodyAt bs n t s
  unfolding nodes bodies
  body_at t s m = record {
    after = bodies (n + 1) [] ++ m.bodies_after;
    begins = m.bodies ∙ append_assoc (body n (literal_node t s)) (bodies (n + 1) []) m.bodies_after;
  }

  pub shape : (k : ℕ) → get_or bs 0 (pos 0) ≡ signed k → (a : Rule) → Stands es bs n p a → Shape es bs n p k a
  unfolding nodes kind_of
  shape k e (Constant false) s = let i = root_kind k s e in constant false (omega arith) (ap (λ (x : ℕ). eqb x 1) i)
  shape k e (Constant true) s = let i = root_kind k s e in constant true (omega arith) (ap (λ (x : ℕ). eqb x 1) i)
  shape k e (Join j a b) s = join j a b (root_kind k s e) (record {
    left_at = left j a b s;
    right_at = right j a b s;
    child = right_child j a b s;
    entry = right_entry j a b s;
  })
  shape k e (Not a) s = negation a (root_kind k s e) (under_not a s)
  shape k e (Literal t u) s = literal t u (root_kind k s e) (body_at t u s)
  shape k e (Bind q v a) s = bind q v a (root_kind k s e) (setting_word q v a s) (under_bind q v a s)
