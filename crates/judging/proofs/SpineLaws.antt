-- Joins of one kind along the right side: where the loop stands, and what was judged before.
-- Assumes nothing.
use mathlib.Core.Path.{◌≡◌, refl, sym, ap, ◌∙◌, subst}
use mathlib.Core.Logic.{◌⊎◌, inl, inr}
use mathlib.Core.Bool.{Bool, true, false}
use Prim.Native.Nat.{ℕ, ◌+◌, ◌<◌, ◌≤◌}
use native.Mathlib.Omega.{arith}
use lib.ListN.{length}
use Rattle.rules.specs.Sum.{Sum}
use Rattle.rules.specs.Rule.{Junction, Rule, Constant, Join}
use Rattle.rules.specs.Table.{count}
use Rattle.rules.specs.Fold.{fold}
use Rattle.rules.specs.Literals.{map_literals}
use Rattle.rules.specs.Calls.{words}
use Rattle.rules.proofs.Sizes.{weight}
use Rattle.tables.specs.Kinds.{join_kind, kind_of}
use Rattle.tables.specs.Parts.{RuleIn, JoinIn, SideIn}
use Rattle.tables.specs.declared.kind.Kind.{Kind}
use Rattle.tables.specs.declared.part.Part.{Part}
use Rattle.judging.specs.Judging.{Says, at_sum}
use Rattle.judging.specs.Masks.{Known, joint}
use Rattle.judging.specs.Shifts.{Shifted}
use Rattle.judging.specs.Walks.{Walking, SomeWalking, Judges, SomeSpine, SameJoin}
use Rattle.judging.specs.declared.answers.Judged.{Judged}
use Rattle.judging.proofs.KindRules.{IsJoin, join_rule}
use Rattle.judging.proofs.SaidLaws.{says_throughout, drops_out, regroup}

abbrev size : Part → ℕ
size p = length (words p.entries.now)

-- ---- where the loop stands

-- of the rule a, `before` says what the sides before make, and the rest stands there
pub record Rest (at : Part) (far : Bool) (x : ℕ) (v : Sum) (and : Bool) (before : Judged) (a : Rule) (w : Sum) (k : ℕ)
    : Type 0 where
  pub prefix : Rule
  pub rest : Rule
  pub said : Says before.yes before.no k prefix
  pub walking : Walking at x v rest
  pub back : (ys ns : ℕ) → Says ys ns k (Join (joint and) prefix (at_sum far x w k rest))
      → Says ys ns k (at_sum far x w k a)

-- the rest stands in the part `at` of the part p, and is shorter, or a join of the kind itself
pub record Along (p : Part) (far : Bool) (x : ℕ) (v : Sum) (and : Bool) (before : Judged) (at : Part) : Type 0 where
  pub some : SomeWalking at x v
  pub rests : (a : Rule) (w : Sum) (k : ℕ) → Walking p x v a → Shifted x w v → k < 64
      → Rest at far x v and before a w k
  pub low : size at ≤ size p
  pub moved : (size at < size p) ⊎ ((a : Rule) → RuleIn at a → kind_of a ≡ join_kind (joint and))

pub begun : (p : Part) (far : Bool) {x : ℕ} {v : Sum} (and : Bool) (before : Judged) → SomeSpine and p x v
    → Known before.yes before.no (λ i. and) → Along p far x v and before p
begun p far {x} {v} and before spine known = record {
  some = spine.some;
  rests = λ a w k h shifted less. record {
    prefix = Constant and;
    rest = a;
    said = says_throughout constant_folds known less;
    walking = h;
    back = λ ys ns s. drops_out and (at_sum far x w k a) s;
  };
  low = omega arith;
  moved = inr spine.root;
}
  where
    constant_folds : fold (Constant and) ≡ Constant and
    constant_folds = unfold fold in refl

module _ {p at : Part} {far : Bool} {x : ℕ} {v : Sum} {and : Bool} {before : Judged}
    (along : Along p far x v and before at) {kind : Kind} (read : (a : Rule) → RuleIn at a → kind ≡ kind_of a)
    {r : Bool} (tells : SameJoin kind and r) where
  -- ---- the rest is no join of the kind: it is the last side

  pub last_shorter : r ≡ false → size at < size p
  last_shorter other = by along.moved
    where
      by : (size at < size p) ⊎ ((a : Rule) → RuleIn at a → kind_of a ≡ join_kind (joint and)) → size at < size p
      by (inl h) = h
      by (inr same) =
          let some = along.some in
          absurd (tells.other other (read some.rule some.walking.at ∙ same some.rule some.walking.at))

  -- ---- the rest is one

  module _ (yes : r ≡ true) where
    sides_of : (a : Rule) → RuleIn at a → IsJoin (joint and) a
    sides_of a there = join_rule kind a (read a there) (joint and) (tells.same yes)

    pub join_in : JoinIn at
    join_in =
        let some = along.some in
        let (y, z, e) = sides_of some.rule some.walking.at in
        record { joint = joint and; left_side = y; right_side = z; at = subst (RuleIn at) e some.walking.at }

    abbrev Left : Part → Type 0
    Left q = (j : Junction) (a b : Rule) → RuleIn at (Join j a b) → SideIn at 1 2 a q

    abbrev Right : Part → Type 0
    Right q = (j : Junction) (a b : Rule) → RuleIn at (Join j a b) → SideIn at (1 + count a) (2 + weight a) b q

    module _ {o : Part} (right : Right o) where
      right_walking : {a : Rule} → Walking at x v a → (j : IsJoin (joint and) a) → Walking o x v j.1
      right_walking h j = record {
        at = (right (joint and) j.0 j.1 (subst (RuleIn at) j.2 h.at)).at;
        setting = h.setting;
        shift = h.shift;
      }

      pub right_shorter : size o < size at
      right_shorter =
          let join = join_in in
          (right join.joint join.left_side join.right_side join.at).shorter

    module _ {q : Part} (left : Left q) where
      left_walking : {a : Rule} → Walking at x v a → (j : IsJoin (joint and) a) → Walking q x v j.0
      left_walking h j = record {
        at = (left (joint and) j.0 j.1 (subst (RuleIn at) j.2 h.at)).at;
        setting = h.setting;
        shift = h.shift;
      }

      pub left_asks : SomeWalking q x v
      left_asks =
          let some = along.some in
          let j = sides_of some.rule some.walking.at in
          record { rule = j.0; walking = left_walking some.walking j }

      pub left_shorter : size q < size p
      left_shorter =
          let join = join_in in
          omega (arith, (left join.joint join.left_side join.right_side join.at).shorter, along.low)

      module _ {judged after : Judged} (says : Judges q far x v judged.yes judged.no)
          (joined : (i : ℕ) (a b : Rule) → Says before.yes before.no i a → Says judged.yes judged.no i b
          → Says after.yes after.no i (Join (joint and) a b)) where
        -- its left side goes to those before, its right side is the rest
        next : (a : Rule) (w : Sum) (k : ℕ) → Walking p x v a → Shifted x w v → k < 64
            → (prefix : Rule) × (whole : Rule) × (join : IsJoin (joint and) whole) × Walking at x v whole
            × Says after.yes after.no k prefix
            × ((ys ns : ℕ) → Says ys ns k (Join (joint and) prefix (at_sum far x w k join.1))
            → Says ys ns k (at_sum far x w k a))
        next a w k h shifted less =
            let r = along.rests a w k h shifted less in
            let j = sides_of r.rest r.walking.at in (
              Join (joint and) r.prefix (at_sum far x w k j.0),
              r.rest,
              j,
              r.walking,
              joined k _ _ r.said (says j.0 w k (left_walking r.walking j) shifted less),
              λ ys ns s. r.back ys ns
                  (subst (λ (y : Rule). Says ys ns k (Join (joint and) r.prefix y)) (join_sum w k j)
                  (regroup (joint and) r.prefix _ _ s)),
            )
          where
            join_sum : {a : Rule} (w : Sum) (i : ℕ) (j : IsJoin (joint and) a)
                → Join (joint and) (at_sum far x w i j.0) (at_sum far x w i j.1) ≡ at_sum far x w i a
            join_sum w i j = unfold at_sum map_literals in ap (at_sum far x w i) (sym j.2)

        -- they settle the join
        pub settled_says : ((i : ℕ) (a b : Rule) → i < 64 → Says after.yes after.no i a
            → Says after.yes after.no i (Join (joint and) a b)) → Judges p far x v after.yes after.no
        settled_says settles a w i h shifted less =
            let (prefix, whole, j, walking, said, back) = next a w i h shifted less in
            back _ _ (settles i _ _ less said)

        module _ {o : Part} (right : Right o) where
          pub onward : Along p far x v and after o
          onward = record {
            some =
                let some = along.some in
                let j = sides_of some.rule some.walking.at in
                record { rule = j.1; walking = right_walking right some.walking j };
            rests = λ a w k h shifted less.
                let (prefix, whole, j, walking, said, back) = next a w k h shifted less in
                record { prefix = prefix; rest = j.1; said = said; walking = right_walking right walking j; back = back };
            low = omega (arith, right_shorter right, along.low);
            moved = inl (omega (arith, right_shorter right, along.low));
          }

-- the last side is judged
pub last_says : {p at : Part} {far : Bool} {x : ℕ} {v : Sum} {and : Bool} {before last : Judged} {ys ns : ℕ}
    → Along p far x v and before at → Judges at far x v last.yes last.no
    → ((i : ℕ) (a b : Rule) → Says before.yes before.no i a → Says last.yes last.no i b
    → Says ys ns i (Join (joint and) a b))
    → Judges p far x v ys ns
last_says along judged joined a w i h shifted less =
    let r = along.rests a w i h shifted less in
    r.back _ _ (joined i _ _ r.said (judged r.rest w i r.walking shifted less))
