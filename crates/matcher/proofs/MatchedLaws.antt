-- What matching answers of a table that passed the check: 10, then 9, then whether its rule holds.
-- Assumes nothing.
use Rattle.std.proofs.Common.{◌≡◌, Bool, true, false, not, ℕ, ◌+◌, List, refl, sym, ap, ap₂, subst, ◌∙◌, Err, arith, length-drop}
use Rattle.std.proofs.Common.{Option, Some, None}
use Rattle.std.specs.Option.{is_some}
use lib.Dec.{T}
use lib.IntN.{ℤ}
use borrow.Author.Tests.{lt-ltb, le-ltb}
use Rattle.rules.specs.Sum.{all_within}
use Rattle.rules.specs.Rule.{Rule}
use Rattle.rules.specs.Result.{Result, refused, given, ◌>>=◌, require}
use Rattle.rules.specs.Chosen.{quantifiers, quantified}
use Rattle.rules.specs.Match.{most_value, choice, holds, matching}
use Rattle.rules.specs.Calls.{words, rule_of}
use Rattle.rules.proofs.Refusals.{then}
use Rattle.rules.proofs.Meaning.{none_quantified}
use Rattle.tables.specs.declared.refusal.Refusal.{Refusal}
use Rattle.tables.specs.declared.quantifiers.Spot.{Spot}
use Rattle.tables.specs.Refusals.{number_of}
use Rattle.tables.specs.Checks.{Judged, Verdict}
use Rattle.tables.specs.Last.{LastAt}
use Rattle.tables.proofs.Passed.{TableOf, table_formed, table_stands, table_most, table_inside}
use Rattle.matcher.specs.Matching.{Matchable}
use Rattle.matcher.specs.Outcome.{matching_of}

-- a table that the check refuses
pub table_refused : (l : List ℕ) (vs : List ℤ) (k : Refusal) → Verdict (rule_of l) (Err k)
    → refused (number_of k) ≡ matching_of l vs
unfolding matching_of Verdict Judged
table_refused l vs k h = sym (ap (λ (x : Result Rule). x >>= matching vs) h)

-- what is found tells whether the rule has a quantifier
pub quantified_by : (a : Rule) (f : Option Spot) → LastAt a f → is_some f ≡ quantified a
unfolding LastAt quantified
quantified_by a None e = sym (le-ltb 0 (quantifiers a) (omega arith))
quantified_by a (Some s) e = sym (lt-ltb 0 (quantifiers a) e.0)

module _ {l : List ℕ} {n : ℕ} {r : Rule} (t : TableOf l n r) where
  -- a rule without quantifiers is matched
  pub matchable : quantified r ≡ false → Matchable (words l) 0 (n + 1) r
  matchable e = record {
    at = record {
      stands = table_stands t;
      few = record {
        few_nodes = omega (arith, length-drop 1 (words l), table_most t, table_inside t);
        few_words = omega (arith, length-drop (n + 1) (words l), table_most t, table_inside t);
      };
      formed = table_formed t;
    };
    free = none_quantified r (subst (λ (b : Bool). T (not b)) (sym e) tt);
  }

  module _ (vs : List ℤ) where
    matching_by : (q w : Bool) → quantified r ≡ q → all_within most_value vs ≡ w
        → matching_of l vs ≡ (require (not q) 10 >>= λ u. require w 9 >>= λ v. given (holds r (choice vs)))
    unfolding matching_of matching
    matching_by q w e f =
        then (matching vs) t.decodes
        ∙ ap₂ (λ (q w : Bool). require (not q) 10 >>= λ u. require w 9 >>= λ v. given (holds r (choice vs))) e f

    pub not_matched : quantified r ≡ true → refused 10 ≡ matching_of l vs
    unfolding require ◌>>=◌
    not_matched e = sym (matching_by true (all_within most_value vs) e refl)

    pub not_ranged : quantified r ≡ false → all_within most_value vs ≡ false → refused 9 ≡ matching_of l vs
    unfolding require ◌>>=◌
    not_ranged e f = sym (matching_by false false e f)

    pub matched : quantified r ≡ false → all_within most_value vs ≡ true → given (holds r (choice vs)) ≡ matching_of l vs
    unfolding require ◌>>=◌
    matched e f = sym (matching_by false true e f)
