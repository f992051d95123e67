-- A rule that stands there: it has no more words than a table, and what folding it as it is asks for and gives.
-- Assumes nothing.
use mathlib.Core.Path.{◌≡◌, refl, sym, subst}
use mathlib.Core.Bool.{not}
use mathlib.Core.List.{List}
use Prim.Native.Nat.{ℕ, ◌+◌, ◌<◌, ◌≤◌}
use native.Mathlib.Omega.{arith}
use lib.Dec.{T}
use lib.IntN.{ℤ, pos}
use lib.ListN.{length}
use Rattle.rules.specs.Sum.{number, all_within}
use Rattle.rules.specs.Rule.{Rule}
use Rattle.rules.specs.Table.{Node, most_words}
use Rattle.rules.specs.Fold.{fold}
use Rattle.rules.specs.Literals.{some_literal, map_literals}
use Rattle.rules.specs.Eliminate.{over_limit}
use Rattle.rules.specs.Calls.{words}
use Rattle.rules.proofs.Sizes.{weight, total}
use Rattle.rules.proofs.OverLiterals.{same_body}
use Rattle.rules.proofs.Limits.{within_table}
use Rattle.tables.proofs.WordLaws.{words_length}
use Rattle.tables.proofs.Standings.{inside_bodies}
use Rattle.builder.specs.Built.{Built, most_counted}
use Rattle.builder.specs.declared.push.State.{State}
use Rattle.folding.specs.Answers.{Gives}
use Rattle.folding.specs.declared.answers.Folded.{Folded}
use Rattle.literals.specs.Changes.{becomes, Fair, Usable}
use Rattle.walks.specs.Walk.{changed, Ready}
use Rattle.tables.specs.Standing.{RuleAt}
use Rattle.literals.specs.Changes.{Change}
use Rattle.literals.specs.Changes.{Same}

pub table_words : {es bs : List ℤ} {n p : ℕ} {r : Rule} → RuleAt es bs n p r → weight r ≤ most_words
table_words {r = r} there = omega (arith, inside_bodies r there.stands, there.few.few_words)

-- a buffer that keeps its length keeps its room
pub same_room : (l m : List ℕ) → length m ≡ length l → length (words l) ≤ most_words → length (words m) ≤ most_words
same_room l m kept room = omega (arith, room, words_length m, words_length l, kept)

-- a change that puts in no sum can be made
pub zeros_usable : (c : Change) → Fair c → Usable c (number (pos 0))
unfolding all_within
zeros_usable c fair = record { seven = refl; small = tt; fair = fair }

-- ---- folded as it is

pub unchanged : (r : Rule) → changed Same (number (pos 0)) r ≡ r
unfolding changed map_literals becomes
unchanged r = same_body r

module _ {es bs : List ℤ} {n p : ℕ} {ws : List ℤ} {b : State} {r : Rule} {ds : List Node} (there : RuleAt es bs n p r)
    (built : Built ws b ds) (small : total ds + weight r + 1 < most_counted) (room : length ws ≤ most_words) where
  pub same_ready : Ready es bs n p Same (number (pos 0)) ws b r ds
  unfolding Fair
  same_ready = record {
    at = there;
    usable = zeros_usable Same tt;
    numbers = subst (λ (s : Rule). T (not (some_literal over_limit s))) (sym (unchanged r))
        (within_table r there.formed);
    building = record { built = built; small = omega (arith, small); room = room };
  }

  pub same_gives : (vs : List ℤ) (f : Folded)
      → ((s : Rule) (l : List Node) → Ready es bs n p Same (number (pos 0)) ws b s l
      → Gives vs b l (fold (changed Same (number (pos 0)) s)) f)
      → Gives vs b ds (fold r) f
  same_gives vs f walk = subst (λ (s : Rule). Gives vs b ds (fold s) f) (unchanged r) (walk r ds same_ready)
