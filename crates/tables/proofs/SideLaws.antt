-- The right side of a join that stands in a table: its number is read, then its place.
-- Assumes nothing.
use mathlib.Core.Path.{◌≡◌, sym, ◌∙◌, ap}
use mathlib.Core.List.{List}
use Prim.Native.Nat.{ℕ, ◌+◌, ◌-◌, ◌<◌, ◌≤◌}
use native.Mathlib.Omega.{arith}
use lib.IntN.{ℤ, pos}
use lib.ListN.{length, get_or}
use Rattle.rules.specs.Rule.{Junction, Rule, Join}
use Rattle.rules.specs.Table.{count}
use Rattle.rules.specs.Calls.{signed}
use Rattle.rules.proofs.Sizes.{weight}
use Rattle.tables.specs.Standing.{Stands, Few, StandingJoin}
use Rattle.tables.proofs.WordLaws.{number_of}
use Rattle.tables.proofs.Standings.{right_child, right_entry, right_there}

pub record JoinAt (es bs : List ℤ) (n p : ℕ) : Type 0 where
  pub some : StandingJoin es bs n p
  pub few : Few es bs n p

-- a join has its own node and those of its sides
module _ {es bs : List ℤ} {n p : ℕ} (join : JoinAt es bs n p) where
  inside : (1 + count join.some.left_side < length es) × (2 + weight join.some.left_side ≤ length bs)
  inside = let s = join.some in right_there s.joint s.left_side s.right_side s.stands

  pub second_word : 1 < length bs
  second_word = omega (arith, inside.1)

-- the number of the right side's node is read
pub record RightNode (es bs : List ℤ) (n p child : ℕ) : Type 0 where
  pub join : JoinAt es bs n p
  pub number : get_or bs 1 (pos 0) ≡ signed child

module _ {es bs : List ℤ} {n p child : ℕ} (right : RightNode es bs n p child) where
  pub child_is : (j : Junction) (a b : Rule) → Stands es bs n p (Join j a b) → child ≡ n + (1 + count a)
  child_is j a b s = number_of child (n + (1 + count a)) (sym right.number ∙ right_child j a b s)

  -- of the join that stands there
  some_child : child ≡ n + (1 + count right.join.some.left_side)
  some_child = let s = right.join.some in child_is s.joint s.left_side s.right_side s.stands

  pub child_behind : n ≤ child
  child_behind = omega (arith, some_child)

  pub child_inside : child - n < length es
  child_inside = omega (arith, some_child, (inside right.join).0)

-- and its place
pub record RightPlace (es bs : List ℤ) (n p child at : ℕ) : Type 0 where
  pub node : RightNode es bs n p child
  pub entry : get_or es (child - n) (pos 0) ≡ signed at

module _ {es bs : List ℤ} {n p child at : ℕ} (right : RightPlace es bs n p child at) where
  pub at_is : (j : Junction) (a b : Rule) → Stands es bs n p (Join j a b) → at ≡ p + (2 + weight a)
  at_is j a b s =
      let skip : child - n ≡ 1 + count a = omega (arith, child_is right.node j a b s) in
      number_of at (p + (2 + weight a))
      (sym right.entry ∙ ap (λ (i : ℕ). get_or es i (pos 0)) skip ∙ right_entry j a b s)

  some_at : at ≡ p + (2 + weight right.node.join.some.left_side)
  some_at = let s = right.node.join.some in at_is s.joint s.left_side s.right_side s.stands

  pub at_behind : p ≤ at
  at_behind = omega (arith, some_at)
