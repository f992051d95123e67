-- One more disjunct in front of those that are answered: what the walk asks for it, and how the answers join.
-- Assumes nothing.
use mathlib.Core.Path.{◌≡◌, sym, subst}
use mathlib.Core.Bool.{true, false}
use mathlib.Core.List.{List, ◌∷◌}
use Prim.Native.Nat.{ℕ, ◌≤◌}
use native.Mathlib.Omega.{arith}
use lib.IntN.{ℤ}
use lib.ListN.{length}
use Rattle.rules.specs.Sum.{Sum}
use Rattle.rules.specs.Rule.{or, Rule, False}
use Rattle.rules.specs.Table.{Node, most_words}
use Rattle.rules.specs.Fold.{side, fold_sides, fold_join, fold}
use Rattle.rules.proofs.Disjuncts.{fold_any}
use Rattle.builder.specs.Built.{Built, junction}
use Rattle.builder.specs.declared.push.State.{State}
use Rattle.folding.specs.Answers.{Gives, Sides, SomeSides, after, built_then, settled}
use Rattle.folding.specs.declared.answers.Folded.{Folded}
use Rattle.folding.proofs.AnswerLaws.{built_of, total_then, settled_join, some_sides_of}
use Rattle.walks.specs.Walk.{changed, Ready, SomeRule}
use Rattle.walks.proofs.ChangedLaws.{changed_lighter}
use Rattle.steps.specs.Disjoining.{Disjunct, SomeDisjunct}
use Rattle.literals.specs.Changes.{Change}

-- ---- one more disjunct

module _ {es bs : List ℤ} {n p : ℕ} {c : Change} {u : Sum} {ws : List ℤ} {b : State} {a : Rule} {l : List Rule}
    {ds : List Node} {others : Folded} (d : Disjunct es bs n p c u ws b a l ds others) where
  -- those that are answered are true
  pub disjunct_settled : settled false others ≡ true → Gives ws b ds (fold_any (changed c u a ∷ l)) others
  unfolding fold_any junction
  disjunct_settled e = settled_join ws false b ds (fold_any l) (fold (changed c u a)) others e d.gives

  pub disjunct_ready : (s : State) → s ≡ after b others → Ready es bs n p c u ws s a (built_then ds (fold_any l) others)
  disjunct_ready s e = record {
    at = d.there;
    usable = d.usable;
    numbers = d.numbers;
    building = record {
      built = subst (λ (t : State). Built ws t (built_then ds (fold_any l) others)) (sym e)
          (built_of ws b ds (fold_any l) others d.gives);
      small = omega (arith, d.small, total_then ds (fold_any l) others);
      room = d.room;
    };
  }

  -- the body is answered too, from the state s on, and the words vs are left
  module _ (vs : List ℤ) (s : State) (answered : Folded) (starts : s ≡ after b others)
      (more : settled false others ≡ false)
      (gives : Gives vs s (built_then ds (fold_any l) others) (fold (changed c u a)) answered) where
    pub disjunct_sides : Sides vs false b ds (fold_any l) (fold (changed c u a)) others answered
    disjunct_sides = record {
      counted = d.counted;
      between = ws;
      first = d.gives;
      unsettled = more;
      second = subst (λ (t : State). Gives vs t (built_then ds (fold_any l) others) (fold (changed c u a)) answered)
          starts gives;
    }

    pub disjunct_joins : length vs ≤ most_words → SomeSides vs false b others answered
    disjunct_joins room = some_sides_of vs false b ds (fold_any l) (fold (changed c u a)) others answered disjunct_sides
        (omega (arith, d.small, changed_lighter c u a d.usable d.there.formed)) room

pub some_disjunct_ready : {es bs : List ℤ} {n p : ℕ} {c : Change} {u : Sum} {ws : List ℤ} {b : State} {others : Folded}
    → SomeDisjunct es bs n p c u ws b others → (s : State) → s ≡ after b others → SomeRule (Ready es bs n p c u ws s)
some_disjunct_ready {others = others} some s e = record {
  rule = some.rule;
  tail = built_then some.tail (fold_any some.others) others;
  ready = disjunct_ready some.disjunct s e;
}

-- one that is false changes nothing
pub false_disjunct : (ws : List ℤ) (b : State) (ds : List Node) (d : Rule) (l : List Rule) (f : Folded)
    → fold d ≡ False → Gives ws b ds (fold_any l) f → Gives ws b ds (fold_any (d ∷ l)) f
unfolding fold_any fold_join side fold_sides
false_disjunct ws b ds d l f is_false gives =
    subst (λ (r : Rule). Gives ws b ds (fold_join or r (fold_any l)) f) (sym is_false) gives

-- the join of the new disjunct and of those that are answered
pub disjunct_answered : (vs : List ℤ) (b : State) (ds : List Node) (d : Rule) (l : List Rule) (r : Folded)
    → Gives vs b ds (fold_join (junction false) (fold d) (fold_any l)) r → Gives vs b ds (fold_any (d ∷ l)) r
unfolding fold_any junction
disjunct_answered vs b ds d l r gives = gives
