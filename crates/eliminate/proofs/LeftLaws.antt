-- What elimination leaves: its answer, and its table where the output buffer begins.
-- Assumes nothing.
use mathlib.Core.Path.{◌≡◌, refl, sym, ◌∙◌, ap}
use mathlib.Core.List.{List, ◌++◌}
use Prim.Native.Nat.{ℕ, ◌*◌}
use native.Mathlib.Omega.{arith}
use lib.Dec.{T}
use lib.IntN.{ℤ}
use lib.ListN.{length, take, drop, take-append-drop}
use lib.Seq.{take_at}
use Rattle.rules.specs.Sum.{limit, all_within}
use Rattle.rules.specs.Rule.{Rule}
use Rattle.rules.specs.Result.{Result, refused, given}
use Rattle.rules.specs.Table.{most_words, encode}
use Rattle.rules.specs.Eliminate.{eliminate}
use Rattle.rules.specs.Calls.{words, bytes_of, rule_of, room, Outcome, table_bytes, outcome, eliminated}
use Rattle.rules.proofs.Refusals.{parts}
use Rattle.rules.proofs.Bytes.{bytes_back, length_bytes, encode_within, rule_forth}
use Rattle.rules.proofs.Soundness.{sound}
use Rattle.tables.proofs.WordLaws.{words_take}
use Rattle.leaveoff.specs.Outcome.{answer_of, outcome_of, steps_of}
use Rattle.leaveoff.specs.declared.answer.Answer as declared
use Rattle.leaveoff.proofs.StepNumbers.{steps_by}
use Rattle.eliminate.specs.Printed.{TableIn, LeftBy}

-- bytes that begin with those of some words
begins : (o zeros : List ℕ) (ws : List ℤ) → T (all_within limit ws) → o ≡ bytes_of ws ++ zeros
    → words o ≡ ws ++ drop (length ws) (words o)
begins o zeros ws t h =
    let n : ℕ = length ws in
    let front : take (n * 4) o ≡ bytes_of ws =
    ap (take (n * 4)) h ∙ take_at (bytes_of ws) zeros (n * 4) (omega (arith, length_bytes ws)) in
    sym (take-append-drop n (words o))
    ∙ ap (λ (vs : List ℤ). vs ++ drop n (words o)) (sym (words_take o n) ∙ ap words front ∙ bytes_back ws t)

table_left : (table : List ℕ) (x : Result Rule) → steps_of table most_words ≡ x → (o zeros : List ℕ)
    → o ≡ table_bytes x ++ zeros → TableIn (words o) x
unfolding TableIn table_bytes steps_of
table_left table (refused n) e o zeros h = tt
table_left table (given f) e o zeros h =
    let (a, d, s) = parts (rule_of table) (eliminate most_words) e in
    let found = sound most_words a f (rule_forth table a d).0 s in
    record {
      table = record {
        after = drop (length (encode f)) (words o);
        begins = begins o zeros (encode f) (encode_within f found.formed found.fits) h;
      };
      formed = found.formed;
      most = found.fits;
    }

pub left_so : (table : List ℕ) (out work : ℕ) → out ≡ 65536 → work ≡ 65536 → (a : declared.Answer) (o w : List ℕ)
    → outcome_of a o w ≡ eliminated table out work → LeftBy (steps_of table most_words) (answer_of a) (words o)
unfolding eliminated steps_of outcome
left_so table out work e f a o w h =
    let all : room out work ≡ most_words = omega (arith, e, f) in
    let here : outcome_of a o w ≡ outcome out work (steps_of table most_words) =
    h ∙ ap (λ (k : ℕ). outcome out work (steps_of table k)) all in
    record {
      answered = ap (λ (x : Outcome). x.answer) here;
      numbered = steps_by table most_words;
      table = table_left table (steps_of table most_words) refl o _ (ap (λ (x : Outcome). x.output) here);
    }
