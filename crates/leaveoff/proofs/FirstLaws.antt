-- From the check to the rounds: its refusal, the first step table, and what the rounds ask and leave.
-- Assumes nothing.
use mathlib.Core.Path.{◌≡◌, sym, ◌∙◌, subst}
use mathlib.Core.List.{List}
use Prim.Native.Nat.{ℕ}
use native.Mathlib.Omega.{arith}
use lib.IntN.{ℤ, pos}
use lib.ListN.{length, get_or}
use Rattle.rules.specs.Rule.{Rule}
use Rattle.rules.specs.Result.{Result, given, ◌>>=◌}
use Rattle.rules.specs.Table.{count}
use Rattle.rules.specs.Chosen.{quantifiers}
use Rattle.rules.specs.Eliminate.{step_table, rounds, eliminate}
use Rattle.rules.specs.Laws.{InTable, WellFormed}
use Rattle.rules.specs.Calls.{signed, rule_of}
use Rattle.rules.proofs.Refusals.{then, stopped}
use Rattle.rules.proofs.Folding.{Folded, keep_fold, folded_fold}
use Rattle.rules.proofs.Shapes.{each_by_parts}
use Rattle.rules.proofs.Soundness.{settled, follows_none}
use Rattle.rules.proofs.Rounds.{quantifiers_few, rounds_enough}
use Rattle.tables.specs.Checks.{Verdict}
use Rattle.tables.specs.declared.refusal.Refusal.{Refusal}
use Rattle.std.specs.Prelude.{⊤, Ok, Err}
use Rattle.tables.proofs.WordLaws.{number_of}
use Rattle.tables.proofs.Standings.{count_there}
use Rattle.elimination.specs.Stepping.{Answer, StepReady, Stepped, FirstReady}
use Rattle.elimination.proofs.StepLaws.{answered, refusal}
use Rattle.elimination.proofs.RoundLaws.{ended}

-- ---- the check

-- its refusal is the call's, whatever would follow
pub check_refused : (l : List ℕ) (call : Rule → Result Rule) (e : Refusal) (ts : List ℤ) → Verdict (rule_of l) (Err e)
    → Stepped (rule_of l >>= call) (Err e) ts
unfolding Verdict
check_refused l call e ts h = refusal ts e (stopped call h)

-- ---- the first step table of the rule r

module _ (room : ℕ) (r : Rule) where
  -- it is refused
  pub first_refused : (e : Refusal) (ts : List ℤ) → Stepped (step_table room r) (Err e) ts
      → Stepped (eliminate room r) (Err e) ts
  unfolding eliminate
  first_refused e ts s = ended (step_table room r) (λ f. rounds (quantifiers f) room f) e ts s

  -- it is there, and ready for the rounds
  pub record First (us vs : List ℤ) : Type 0 where
    pub rule : Rule
    pub is : step_table room r ≡ given rule
    pub ready : StepReady us vs room rule

  pub first_ready : {u : ⊤} {ts ws : List ℤ} (us vs : List ℤ) → WellFormed r → Stepped (step_table room r) (Ok u) us
      → FirstReady ts ws room → length us ≡ length ts → length vs ≡ length ws → First us vs
  unfolding Stepped
  first_ready us vs formed (f, e, at) k same_table same_work =
      let is = settled room r f e in
      record {
        rule = f;
        is = e;
        ready = record {
          has = record {
            table = at;
            formed = subst WellFormed (sym is.is) (keep_fold WellFormed (each_by_parts InTable) r formed);
            few = omega (arith, same_table, k.table_room, k.most);
          };
          folded = subst Folded (sym is.is) (folded_fold r);
          fits = is.fits;
          table_room = same_table ∙ k.table_room;
          work_room = same_work ∙ k.work_room;
        };
      }

  -- the rounds make of it what elimination makes
  pub rounds_stepped : {f : Rule} (n : Answer) (ts : List ℤ) → step_table room r ≡ given f
      → Stepped (rounds (quantifiers f) room f) n ts → Stepped (eliminate room r) n ts
  unfolding eliminate
  rounds_stepped n ts e s = answered ts n (then (λ f. rounds (quantifiers f) room f) e) s

-- ---- the rounds

-- word 0 has the number of nodes; there are no more quantifiers, and more rounds change nothing
pub rounds_for_all : {ts ws : List ℤ} {room : ℕ} {f : Rule} → StepReady ts ws room f → (n : ℕ)
    → get_or ts 0 (pos 0) ≡ signed n → (k : Answer) (us : List ℤ) → Stepped (rounds n room f) k us
    → Stepped (rounds (quantifiers f) room f) k us
rounds_for_all {room = room} {f = f} ready n e k us s =
    let counted : n ≡ count f = number_of n (count f) (sym e ∙ count_there ready.has.table) in
    let start = follows_none ready.folded ready.has.formed ready.fits in
    answered us k (sym (rounds_enough n room f start (omega (arith, quantifiers_few f)))) s
