-- What is built after an answer of a walk that folds, and the answers of the two sides of an and or an or.
-- Assumes nothing.
use mathlib.Core.Path.{◌≡◌, ap, ◌∙◌, subst}
use mathlib.Core.Bool.{Bool, true, false}
use mathlib.Core.List.{List, ◌++◌}
use Prim.Native.Nat.{ℕ, ◌+◌, ◌<◌, ◌≤◌}
use native.Mathlib.Omega.{arith}
use lib.IntN.{ℤ}
use lib.ListN.{length}
use Rattle.whole.proofs.Tests.{never}
use Rattle.rules.specs.Rule.{Rule, Constant}
use Rattle.rules.specs.Table.{Node, most_words, nodes}
use Rattle.rules.specs.Fold.{fold_join}
use Rattle.rules.proofs.Sizes.{weight, total, total_nodes}
use Rattle.rules.proofs.Folding.{Open}
use Rattle.builder.specs.Built.{Built, Building, most_counted, junction}
use Rattle.builder.specs.declared.push.State.{State}
use Rattle.builder.proofs.BuiltLaws.{built_counts}
use Rattle.folding.specs.Answers.{Gives, Sides, SomeSides, after, built_then, settled}
use Rattle.folding.specs.declared.answers.Folded.{Folded}
use Rattle.folding.specs.declared.answers.Folded.TheVariants.{Known, Pushed}
use Rattle.folding.proofs.SettledLaws.{right_settles}

-- ---- what is built after an answer

module _ (ws : List ℤ) (b : State) (ds : List Node) (r : Rule) where
  pub built_of : (f : Folded) → Gives ws b ds r f → Built ws (after b f) (built_then ds r f)
  unfolding Gives after built_then
  built_of (Known v) h = h.1
  built_of (Pushed c) h = h.1

  -- it is the answer in any other buffer too in which that is built
  pub gives_in : (us : List ℤ) (f : Folded) → Gives us b ds r f → Built ws (after b f) (built_then ds r f)
      → Gives ws b ds r f
  unfolding Gives after built_then
  gives_in us (Known v) h built = (h.0, built)
  gives_in us (Pushed c) h built = (h.0, built)

pub total_then : (ds : List Node) (r : Rule) (f : Folded) → total (built_then ds r f) ≤ weight r + total ds
unfolding built_then
total_then ds r (Known v) = omega arith
total_then ds r (Pushed c) = omega (arith, total_nodes r ds)

-- and the rule's words can no longer be counted
pub building_then : {ws vs : List ℤ} {b : State} {ds : List Node} {m n : ℕ} (r : Rule) (f : Folded)
    → Building ws b ds m → Gives vs b ds r f → length vs ≡ length ws → weight r + n ≤ m
    → Building vs (after b f) (built_then ds r f) n
building_then {vs = vs} {b = b} {ds = ds} r f building gives kept fits = record {
  built = built_of vs b ds r f gives;
  small = omega (arith, building.small, total_then ds r f);
  room = omega (arith, building.room, kept);
}

-- an answer whose form is known
pub gives_known : (ws : List ℤ) (b : State) (ds : List Node) (r : Rule) (f : Folded) (v : Bool) → f ≡ Known v
    → Gives ws b ds r f → (r ≡ Constant v) × Built ws b ds
unfolding Gives
gives_known ws b ds r f v e h = subst (Gives ws b ds r) e h

pub gives_pushed : (ws : List ℤ) (b : State) (ds : List Node) (r : Rule) (f : Folded) (c : State) → f ≡ Pushed c
    → Gives ws b ds r f → Open r × Built ws c (nodes r ++ ds)
unfolding Gives
gives_pushed ws b ds r f c e h = subst (Gives ws b ds r) e h

-- ---- the sides of an and or an or

-- where the right side settles, it is the answer, and the left side is not looked at
pub settled_join : (ws : List ℤ) (both : Bool) (b : State) (ds : List Node) (x y : Rule) (f : Folded)
    → settled both f ≡ true → Gives ws b ds x f → Gives ws b ds (fold_join (junction both) y x) f
unfolding Gives
settled_join ws both b ds x y (Known v) s h =
    (ap (fold_join (junction both) y) h.0 ∙ right_settles both v y s, h.1)
settled_join ws both b ds x y (Pushed c) s h = never (unfold settled in s)

-- where it does not, the sides are made from the two answers, whatever the buffers were before
pub sides_of : (ws₀ ws₁ ws₂ : List ℤ) (both : Bool) (b : State) (ds : List Node) (x y : Rule) (right left : Folded)
    → Built ws₀ b ds → Gives ws₁ b ds x right → settled both right ≡ false
    → Gives ws₂ (after b right) (built_then ds x right) y left → Sides ws₂ both b ds x y right left
sides_of ws₀ ws₁ ws₂ both b ds x y right left before first more second = record {
  counted = built_counts ws₀ b ds before;
  between = ws₁;
  first = first;
  unsettled = more;
  second = second;
}

pub some_sides_of : (ws : List ℤ) (both : Bool) (b : State) (ds : List Node) (x y : Rule) (right left : Folded)
    → Sides ws both b ds x y right left → total ds + weight x + weight y + 2 < most_counted → length ws ≤ most_words
    → SomeSides ws both b right left
some_sides_of ws both b ds x y right left sides small room =
    record { x = x; y = y; tail = ds; sides = sides; small = small; room = room }
