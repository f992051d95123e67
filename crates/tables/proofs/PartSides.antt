-- The sides of an and or an or, as parts of the part in which it stands.
-- Assumes nothing.
use Rattle.std.proofs.Common.{◌≡◌, ℕ, ◌+◌, ◌-◌, ◌<◌, ◌≤◌, pos, length, get_or, drop, sym, ap, subst, ◌∙◌, arith}
use native.Mathlib.Omega.{arith}
use lib.ListN.{length-drop}
use Rattle.rules.specs.Rule.{Junction, Rule, Join}
use Rattle.rules.specs.Table.{most_words, count}
use Rattle.rules.specs.Laws.{Each, WellFormed}
use Rattle.rules.specs.Calls.{signed, words}
use Rattle.rules.proofs.Sizes.{weight}
use Rattle.tables.specs.declared.part.Part.{Part}
use Rattle.tables.specs.Standing.{Stands, Few}
use Rattle.tables.specs.Parts.{RuleIn, JoinIn, Behind, SideIn, StandsIn, StandingJoinIn}
use Rattle.tables.proofs.Parts.{moved}
use Rattle.tables.proofs.Standings.{left, right, right_there}
use Rattle.tables.proofs.SideLaws.{JoinAt, RightNode, RightPlace, second_word, child_is, at_is}

-- what stands behind some nodes of a rule's part is a part of the table again
pub behind_it : {p q : Part} {i j : ℕ} (a : Rule) → Few (words p.entries.now) (words p.bodies.now) p.node p.place
    → Stands (drop i (words p.entries.now)) (drop j (words p.bodies.now)) (p.node + i) (p.place + j) a → WellFormed a
    → 0 < i → i < length (words p.entries.now) → j ≤ length (words p.bodies.now) → Behind p i j q → SideIn p i j a q
behind_it {p} {q} {i} {j} a few stands formed some entries bodies behind =
    let long = ap length behind.entries_are ∙ length-drop i (words p.entries.now) in
    let wide = ap length behind.bodies_are ∙ length-drop j (words p.bodies.now) in
    record {
      at = record {
        stands = moved a (sym behind.entries_are) (sym behind.bodies_are) (sym behind.node_is) (sym behind.place_is) stands;
        few = record {
          few_nodes = omega (arith, few.few_nodes, long, behind.node_is);
          few_words = omega (arith, few.few_words, wide, behind.place_is);
        };
        formed = formed;
      };
      entries_are = behind.entries_are;
      bodies_are = behind.bodies_are;
      node_is = behind.node_is;
      place_is = behind.place_is;
      shorter = omega (arith, long);
    }

-- a join has its own node and those of its sides
pub left_there : {p : Part} → JoinIn p
    → (1 ≤ length (words p.entries.now)) × (2 ≤ length (words p.bodies.now)) × (p.node + 1 ≤ most_words)
    × (p.place + 2 ≤ most_words)
left_there {p} join =
    let there = right_there join.joint join.left_side join.right_side join.at.stands in
    let few = join.at.few in
    (omega (arith, there), omega (arith, there), omega (arith, there, few.few_nodes), omega (arith, there, few.few_words))

module _ {p q : Part} (j : Junction) (a b : Rule) (at : RuleIn p (Join j a b)) where
  pub left_side : Behind p 1 2 q → SideIn p 1 2 a q
  unfolding Each
  left_side behind =
      let there = right_there j a b at.stands in
      behind_it a at.few (left j a b at.stands) at.formed.0 (omega arith) (omega (arith, there)) (omega (arith, there)) behind

  pub right_side : Behind p (1 + count a) (2 + weight a) q → SideIn p (1 + count a) (2 + weight a) b q
  unfolding Each
  right_side behind =
      let there = right_there j a b at.stands in
      behind_it b at.few (right j a b at.stands) at.formed.1 (omega arith) (omega (arith, there)) (omega (arith, there)) behind

-- ---- the right side is found by the number in the join's body, and the place in its entry

-- what finding it asks for
pub join_there : {p : Part} → JoinIn p → StandingJoinIn p
join_there join = (
  record {
    joint = join.joint;
    left_side = join.left_side;
    right_side = join.right_side;
    stands = join.at.stands;
  },
  join.at.few,
)

join_at : (p : Part) → StandingJoinIn p → JoinAt (words p.entries.now) (words p.bodies.now) p.node p.place
join_at p (some, few) = record { some = some; few = few }

abbrev pub NodeIn : Part → ℕ → Type 0
NodeIn p child = RightNode (words p.entries.now) (words p.bodies.now) p.node p.place child

abbrev pub PlaceIn : Part → ℕ → ℕ → Type 0
PlaceIn p child place = RightPlace (words p.entries.now) (words p.bodies.now) p.node p.place child place

pub number_there : (p : Part) → StandingJoinIn p → 1 < length (words p.bodies.now)
number_there p join = second_word (join_at p join)

module _ (p : Part) (join : StandingJoinIn p) (child : ℕ) (read : get_or (words p.bodies.now) 1 (pos 0) ≡ signed child) where
  pub node_in : NodeIn p child
  node_in = record { join = join_at p join; number = read }

  pub place_in : (place : ℕ) → get_or (words p.entries.now) (child - p.node) (pos 0) ≡ signed place
      → PlaceIn p child place
  place_in place at = record { node = node_in; entry = at }

module _ (p : Part) {child place : ℕ} (at : PlaceIn p child place) where
  pub right_asked : (child - p.node ≤ length (words p.entries.now)) × (place - p.place ≤ length (words p.bodies.now))
      × (p.node + (child - p.node) ≤ most_words) × (p.place + (place - p.place) ≤ most_words)
  right_asked =
      let some = at.node.join.some in
      let few = at.node.join.few in
      let there = right_there some.joint some.left_side some.right_side some.stands in
      let number = child_is at.node some.joint some.left_side some.right_side some.stands in
      let placed = at_is at some.joint some.left_side some.right_side some.stands in (
        omega (arith, there, number),
        omega (arith, there, placed),
        omega (arith, there, number, few.few_nodes),
        omega (arith, there, placed, few.few_words),
      )

  pub right_behind : {q : Part} (j : Junction) (a b : Rule)
      → StandsIn p (Join j a b) → Behind p (child - p.node) (place - p.place) q → Behind p (1 + count a) (2 + weight a) q
  right_behind {q} j a b stands behind =
      let number = child_is at.node j a b stands in
      let placed = at_is at j a b stands in
      let nodes : child - p.node ≡ 1 + count a = omega (arith, number) in
      let words : place - p.place ≡ 2 + weight a = omega (arith, placed) in
      subst (λ (i : ℕ). Behind p i (2 + weight a) q) nodes
      (subst (λ (k : ℕ). Behind p (child - p.node) k q) words behind)
