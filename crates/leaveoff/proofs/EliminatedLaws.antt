-- What elimination's outcome says: it is one, and its table means what the rule does.
-- Assumes nothing.
use mathlib.Core.Path.{◌≡◌, refl, sym, ◌∙◌, ap, subst}
use mathlib.Core.List.{List, ◌++◌}
use mathlib.Core.Logic.{inl, inr}
use Prim.Native.Nat.{ℕ, ◌*◌, ◌≤◌}
use native.Mathlib.Omega.{arith}
use lib.IntN.{ℤ}
use lib.ListN.{length, take}
use lib.Seq.{take-append_seam}
use Rattle.rules.specs.Rule.{Rule}
use Rattle.rules.specs.Result.{Result, refused, given}
use Rattle.rules.specs.Table.{most_words, encode, size}
use Rattle.rules.specs.Eliminate.{eliminate}
use Rattle.rules.specs.Answer.{verdict_of, table_answer}
use Rattle.rules.specs.Laws.{WellFormed}
use Rattle.rules.specs.Calls.{bytes_of, rule_of, room, Outcome, table_bytes, outcome, eliminated}
use Rattle.rules.proofs.Refusals.{then, parts}
use Rattle.rules.proofs.Numbers.{By, by_more}
use Rattle.rules.proofs.Bytes.{length_bytes, rule_back, rule_forth}
use Rattle.rules.proofs.Soundness.{sound}
use Rattle.rules.proofs.Verdicts.{closed_right}
use Rattle.tables.specs.Checks.{Verdict}
use Rattle.tables.specs.declared.refusal.Refusal.{Refusal}
use Rattle.std.specs.Prelude.{Err}
use Rattle.tables.proofs.Passed.{TableOf}
use Rattle.elimination.specs.Stepping.{Stepped}
use Rattle.leaveoff.specs.Outcome.{answer_of, outcome_of, steps_of, Means, Eliminates, Fits}
use Rattle.leaveoff.specs.declared.answer.Answer as declared
use Rattle.leaveoff.proofs.StepNumbers.{steps_by}
use Rattle.leaveoff.proofs.FirstLaws.{check_refused}
use Rattle.leaveoff.proofs.LentLaws.{room_there, Gives, outcome_once, answer_fits}

-- ---- the table that is answered

pub steps_are : {l : List ℕ} {n : ℕ} {r : Rule} (m : ℕ) → TableOf l n r → steps_of l m ≡ eliminate m r
unfolding steps_of
steps_are m t = then (eliminate m) t.decodes

-- the check's refusal is elimination's
pub steps_refused : (l : List ℕ) (m : ℕ) (e : Refusal) (ts : List ℤ) → Verdict (rule_of l) (Err e)
    → Stepped (steps_of l m) (Err e) ts
unfolding steps_of
steps_refused l m e ts h = check_refused l (eliminate m) e ts h

-- what elimination answers of a rule that the bytes decode to
record Answered (table : List ℕ) (r : ℕ) (f : Rule) : Type 0 where
  rule : Rule
  decodes : rule_of table ≡ given rule
  formed : WellFormed rule
  steps : eliminate r rule ≡ given f

answered : (table : List ℕ) (r : ℕ) (f : Rule) → steps_of table r ≡ given f → Answered table r f
unfolding steps_of
answered table r f e =
    let (a, d, s) = parts (rule_of table) (eliminate r) e in
    record { rule = a; decodes = d; formed = (rule_forth table a d).0; steps = s }

pub steps_give : (table : List ℕ) (r : ℕ) → Gives r (steps_of table r)
steps_give table r f e =
    let a = answered table r f e in
    let s = sound r a.rule f a.formed a.steps in
    record { formed = s.formed; fits = s.fits }

-- ---- the outcome

-- any two outcomes that the promise admits are equal
pub eliminated_once : (table : List ℕ) (out work : ℕ) (a b : declared.Answer) (o p w v : List ℕ)
    → outcome_of a o w ≡ eliminated table out work → outcome_of b p v ≡ eliminated table out work
    → (a ≡ b) × (o ≡ p) × (w ≡ v)
eliminated_once table out work = outcome_once (eliminated table out work)

pub eliminated_fits : (table : List ℕ) (out work : ℕ) → Fits (eliminated table out work).answer
unfolding eliminated steps_of outcome
eliminated_fits table out work =
    let r = room out work in
    answer_fits r (steps_of table r) (room_there out work r refl).2
    (by_more 7 8 (steps_of table r) (omega arith) (steps_by table r)) (steps_give table r)

-- ---- what it says

-- the table is there, and decodes to its rule
left_there : (f : Rule) (zeros : List ℕ) → WellFormed f → size f ≤ most_words
    → rule_of (take (size f * 4) (bytes_of (encode f) ++ zeros)) ≡ given f
unfolding size
left_there f zeros formed fits =
    let bytes = bytes_of (encode f) in
    let long : length (encode f) * 4 ≡ length bytes = omega (arith, length_bytes (encode f)) in
    ap rule_of (ap (λ (n : ℕ). take n (bytes ++ zeros)) long ∙ take-append_seam bytes zeros) ∙ rule_back f formed fits

module _ (table : List ℕ) (out work : ℕ) where
  answered_means : (f : Rule) → steps_of table (room out work) ≡ given f → (zeros : List ℕ)
      → Means table (bytes_of (encode f) ++ zeros) (table_answer (given f))
  unfolding table_answer verdict_of
  answered_means f e zeros =
      let a = answered table (room out work) f e in
      let s = sound (room out work) a.rule f a.formed a.steps in
      let most = (room_there out work (room out work) refl).2 in
      record {
        rule = a.rule;
        result = f;
        decodes = a.decodes;
        left_there = left_there f zeros s.formed (omega (arith, s.fits, most));
        none_remains = s.none_remains;
        only_free = s.only_free;
        means = s.means;
        closed_right = λ closed. elim (closed_right (room out work) a.rule f a.formed closed a.steps) [
          | inl h ↦ inl (ap verdict_of h.0, h.1)
          | inr h ↦ inr (ap verdict_of h.0, h.1)
        ];
      }

  eliminates : let o = eliminated table out work in Eliminates table o.output o.answer
  unfolding Eliminates eliminated steps_of outcome table_answer table_bytes By
  eliminates = go (steps_of table (room out work)) refl (steps_by table (room out work))
    where
      go : (x : Result Rule) → steps_of table (room out work) ≡ x → By 7 x
          → Eliminates table (outcome out work x).output (outcome out work x).answer
      go (refused n) e b z = absurd (omega (arith, b.0, z))
      go (given f) e b z = answered_means f e _

  -- what ends with the outcome of the steps is elimination's outcome, and says this
  pub eliminates_so : {a : declared.Answer} {o w : List ℕ}
      → outcome_of a o w ≡ outcome out work (steps_of table (room out work))
      → (outcome_of a o w ≡ eliminated table out work) × Eliminates table o (answer_of a)
  unfolding eliminated steps_of
  eliminates_so e = (e, subst (λ (x : Outcome). Eliminates table x.output x.answer) (sym e) eliminates)
