-- Two answers joined: one side is a truth value, or both sides are built.
-- Assumes nothing.
use mathlib.Core.Path.{◌≡◌, sym, ap, ◌∙◌, subst}
use mathlib.Core.Bool.{Bool, true, false}
use mathlib.Core.List.{List, ◌∷◌, ◌++◌, append_assoc}
use Prim.Native.Nat.{ℕ, ◌+◌, ◌-◌, ◌≤◌}
use native.Mathlib.Omega.{arith}
use lib.IntN.{ℤ, pos}
use lib.ListN.{length, length-append}
use Rattle.whole.proofs.Tests.{never}
use Rattle.rules.specs.Rule.{Rule}
use Rattle.rules.specs.Table.{Node, join_node, count, nodes}
use Rattle.rules.specs.Fold.{fold_join}
use Rattle.rules.proofs.Sizes.{total, length_nodes, total_nodes}
use Rattle.rules.proofs.Folding.{Open, join_open}
use Rattle.builder.specs.Built.{Built, Countable, junction}
use Rattle.builder.specs.declared.push.State.{State}
use Rattle.builder.proofs.BuiltLaws.{counts_back, built_few, built_countable}
use Rattle.folding.specs.Answers.{Gives, Sides, SomeSides, after, built_then, settled}
use Rattle.folding.specs.declared.answers.Folded.{Folded}
use Rattle.folding.specs.declared.answers.Folded.TheVariants.{Known, Pushed}
use Rattle.folding.proofs.SettledLaws.{left_known, right_known}
use Rattle.folding.proofs.AnswerLaws.{gives_in}

module _ (ws : List ℤ) (both : Bool) (b : State) (ds : List Node) (x y : Rule) where
  -- what was built before the sides is there after them
  before_right : (right : Folded) → (b.used ≡ total ds) × (b.nodes ≡ length ds)
      → Built ws (after b right) (built_then ds x right) → Built ws b ds
  unfolding after built_then
  before_right (Known v) counted built = built
  before_right (Pushed a) counted built = counts_back ws b a (nodes x) ds counted built

  -- the left side is a truth value: it settles the join, or the join is its right side
  pub settled_left : (right left : Folded) → settled both left ≡ true → Sides ws both b ds x y right left
      → Gives ws b ds (fold_join (junction both) y x) left
  unfolding Gives
  settled_left right (Known v) s h = (
    ap (λ (r : Rule). fold_join (junction both) r x) h.second.0 ∙ left_known both v true s x,
    before_right right h.counted h.second.1,
  )
  settled_left right (Pushed c) s h = never (unfold settled in s)

  right_answers : (right : Folded) (v : Bool) → settled both (Known v) ≡ false → Sides ws both b ds x y right (Known v)
      → Gives ws b ds (fold_join (junction both) y x) right
  unfolding Gives
  right_answers right v s h =
      let right_side = ap (λ (r : Rule). fold_join (junction both) r x) h.second.0 ∙ left_known both v false s x in
      subst (λ (r : Rule). Gives ws b ds r right) (sym right_side)
      (gives_in ws b ds x h.between right h.first h.second.1)

  -- the right side alone is a truth value: the join is its left side
  left_alone : (v : Bool) (c : State) → Sides ws both b ds x y (Known v) (Pushed c)
      → Gives ws b ds (fold_join (junction both) y x) (Pushed c)
  unfolding Gives after built_then
  left_alone v c h =
      let right_is = ap (fold_join (junction both) y) h.first.0 in
      let left_side = right_known both v false h.unsettled y h.second.0 in
      subst (λ (r : Rule). Gives ws b ds r (Pushed c)) (sym (right_is ∙ left_side)) h.second

  -- by the answers as the code has them
  pub dropped_left : (right left : Folded) (v : Bool) → left ≡ Known v → settled both left ≡ false
      → Sides ws both b ds x y right left → Gives ws b ds (fold_join (junction both) y x) right
  dropped_left right left v e s h =
      right_answers right v (sym (ap (settled both) e) ∙ s) (subst (Sides ws both b ds x y right) e h)

  -- the same sides, whose answers are known
  sides_are : (right left f g : Folded) → right ≡ f → left ≡ g → Sides ws both b ds x y right left
      → Sides ws both b ds x y f g
  sides_are right left f g d e h =
      subst (λ (r : Folded). Sides ws both b ds x y r g) d (subst (Sides ws both b ds x y right) e h)

  pub dropped_right : (right left : Folded) (v : Bool) (c : State) → right ≡ Known v → left ≡ Pushed c
      → Sides ws both b ds x y right left → Gives ws b ds (fold_join (junction both) y x) left
  dropped_right right left v c d e h =
      subst (Gives ws b ds (fold_join (junction both) y x)) (sym e)
      (left_alone v c (sides_are right left (Known v) (Pushed c) d e h))

  -- both sides are built
  pub record BothBuilt (a c : State) : Type 0 where
    pub right_open : Open x
    pub left_open : Open y
    pub all : Built ws c (nodes y ++ (nodes x ++ ds))
    pub left_nodes : c.nodes ≡ a.nodes + count y

  pub both_built : (right left : Folded) (a c : State) → right ≡ Pushed a → left ≡ Pushed c
      → Sides ws both b ds x y right left → BothBuilt a c
  unfolding Gives after built_then
  both_built right left a c d e h = pushed (sides_are right left (Pushed a) (Pushed c) d e h)
    where
      pushed : Sides ws both b ds x y (Pushed a) (Pushed c) → BothBuilt a c
      pushed s = record {
        right_open = s.first.0;
        left_open = s.second.0;
        all = s.second.1;
        left_nodes = omega (
          arith,
          s.first.1.counted,
          s.second.1.counted,
          length-append (nodes y) (nodes x ++ ds),
          length_nodes y,
        );
      }

  -- the right side stands behind the join and the nodes of the left side
  pub both_join : (vs : List ℤ) (a c d : State) → BothBuilt a c
      → ((l : List Node) → Built ws c l → Built vs d (join_node (junction both) (pos (c.nodes - a.nodes + 1)) ∷ l))
      → Gives vs b ds (fold_join (junction both) y x) (Pushed d)
  unfolding Gives nodes
  both_join vs a c d h put =
      let distance : c.nodes - a.nodes + 1 ≡ 1 + count y = omega (arith, h.left_nodes) in
      let j = junction both in
      let node = ap (λ (n : ℕ). join_node j (pos n) ∷ nodes y ++ (nodes x ++ ds)) distance in
      let grouped = sym (append_assoc (nodes y) (nodes x) ds) in
      let rest = ap (λ (l : List Node). join_node j (pos (1 + count y)) ∷ l) grouped in
      subst (λ (r : Rule). Gives vs b ds r (Pushed d)) (sym (join_open j y x h.left_open h.right_open))
      (tt, subst (Built vs d) (node ∙ rest) (put _ h.all))

-- what `push::join` asks, where both sides are built: the right one in state a, then the left one in state c
pub record JoinAsks (a c : State) : Type 0 where
  pub behind : a.nodes ≤ c.nodes
  pub countable : Countable c 2
  pub distance : c.nodes - a.nodes + 1 ≤ c.used + 1

pub join_asks : (ws : List ℤ) (both : Bool) (b : State) (right left : Folded) (a c : State) → right ≡ Pushed a
    → left ≡ Pushed c → SomeSides ws both b right left → JoinAsks a c
join_asks ws both b right left a c d e some =
    let ds = some.tail in
    let x = some.x in
    let y = some.y in
    let built = both_built ws both b ds x y right left a c d e some.sides in
    let all = nodes y ++ (nodes x ++ ds) in
    record {
      behind = omega (arith, built.left_nodes);
      countable = built_countable ws c all 2 built.all
          (omega (arith, some.small, total_nodes y (nodes x ++ ds), total_nodes x ds));
      distance = omega (arith, built_few ws c all built.all);
    }
