-- What a call that makes a table leaves in lent memory: its outcome, that it is one, and its 64 bits.
-- Assumes nothing.
use mathlib.Core.Path.{◌≡◌, refl, sym, ◌∙◌, ap, ap₂, subst}
use mathlib.Core.Bool.{Bool, true, false, cond}
use mathlib.Core.List.{List, ◌++◌, append_assoc}
use Prim.Native.Nat.{ℕ, ◌*◌, ◌-◌, ◌<◌, ◌≤◌}
use native.Mathlib.Omega.{arith}
use lib.IntN.{ℤ}
use lib.ListN.{length, take, drop, replicate, length-append, length-take, length-drop, take-append-drop}
use lib.Seq.{take-append_seam}
use Rattle.rules.specs.Rule.{Rule, Constant, Join, Not, Literal, Bind}
use Rattle.rules.specs.Result.{Result, refused, given}
use Rattle.rules.specs.Table.{most_words, encode, size}
use Rattle.rules.specs.Answer.{Answer, refusal, verdict_of, occurs, bits_of, settings_of, table_answer}
use Rattle.rules.specs.Laws.{WellFormed}
use Rattle.rules.specs.Calls.{words, bytes_of, room, Outcome, table_bytes, outcome}
use Rattle.rules.proofs.Numbers.{By}
use Rattle.std.specs.Prelude.{⊤, Ok, Err}
use Rattle.tables.specs.Refusals.{number_of}
use Rattle.tables.specs.declared.refusal.Refusal.{Refusal}
use Rattle.tables.specs.Standing.{TableAt}
use Rattle.tables.proofs.WordLaws.{words_length, words_take}
use Rattle.elimination.specs.Stepping.{Answer as Steps, Stepped, FirstReady}
use Rattle.leaveoff.specs.Outcome.{answer_of, outcome_of, packed, unpacked, Fits, Leaves}
use Rattle.leaveoff.specs.Result.{Held, Ended}
use Rattle.leaveoff.specs.declared.answer.Answer as declared
use Rattle.leaveoff.proofs.OutcomeLaws.{packed_back}

-- ---- the lent parts

-- both buffers have the room
pub room_there : (out work r : ℕ) → r ≡ room out work → (r * 4 ≤ out) × (r * 4 ≤ work) × (r ≤ most_words)
room_there out work r e = (omega (arith, e), omega (arith, e), omega (arith, e))

pub part_length : (l : List ℕ) (n : ℕ) → n ≤ length l → n ≡ length (take n l)
part_length l n h = omega (arith, h, length-take n l)

part_words : (l : List ℕ) (r : ℕ) → r * 4 ≤ length l → length (words (take (r * 4) l)) ≡ r
part_words l r h = omega (arith, words_length (take (r * 4) l), part_length l (r * 4) h)

pub parts_ready : (out work : List ℕ) (r : ℕ) → r ≡ room (length out) (length work)
    → FirstReady (words (take (r * 4) out)) (words (take (r * 4) work)) r
parts_ready out work r e =
    let (in_out, in_work, most) = room_there (length out) (length work) r e in
    record { table_room = part_words out r in_out; work_room = part_words work r in_work; most = most }

-- a part, as it comes back, leaves the buffer as long as it was
pub whole_length : (l p : List ℕ) (n : ℕ) → length p ≡ length (take n l) → length (p ++ drop n l) ≡ length l
whole_length l p n e = omega (arith, e, length-append p (drop n l), length-drop n l, length-take n l)

-- and a table in it is one in the buffer
whole_table : (l m : List ℕ) (r : ℕ) {f : Rule} → length l ≡ r * 4 → TableAt (words l) f → TableAt (words (l ++ m)) f
whole_table l m r {f} e t =
    let front : take (r * 4) (l ++ m) ≡ l =
    ap (λ (n : ℕ). take n (l ++ m)) (sym e) ∙ take-append_seam l m in
    let first : words l ≡ take r (words (l ++ m)) = ap words (sym front) ∙ words_take (l ++ m) r in
    let ws = words (l ++ m) in
    record {
      after = t.after ++ drop r ws;
      begins = sym (take-append-drop r ws) ∙ ap (λ (us : List ℤ). us ++ drop r ws) (sym first ∙ t.begins)
          ∙ append_assoc (encode f) t.after (drop r ws);
    }

-- ---- the end of a call in the room r

-- what it gives is a table's rule, and fits
pub record InRoom (r : ℕ) (f : Rule) : Type 0 where
  pub formed : WellFormed f
  pub fits : size f ≤ r

abbrev pub Gives : ℕ → Result Rule → Type 0
Gives r x = (f : Rule) → x ≡ given f → InRoom r f

-- the steps left p of the part of l that has the room
pub part_ended : (x : Result Rule) (n : Steps) (r : ℕ) (l p : List ℕ) → Gives r x → r ≤ most_words
    → r * 4 ≤ length l → length p ≡ length (take (r * 4) l) → Stepped x n (words p)
    → Ended x n (words (p ++ drop (r * 4) l))
unfolding Stepped Ended
part_ended x (Err e) r l p fit most inside same s = s
part_ended x (Ok u) r l p fit most inside same (f, e, at) =
    let in_room = fit f e in (
      f,
      e,
      record {
        table = whole_table p (drop (r * 4) l) r (same ∙ sym (part_length l (r * 4) inside)) at;
        formed = in_room.formed;
        most = omega (arith, in_room.fits, most);
      },
    )

pub end_given : (x : Result Rule) {n : Steps} {u : ⊤} (ts : List ℤ) → n ≡ Ok u → Ended x n ts
    → (f : Rule) × (x ≡ given f) × Held ts f
unfolding Ended
end_given x ts is e = subst (λ (n : Steps). Ended x n ts) is e

pub end_refused : (x : Result Rule) {n : Steps} {e : Refusal} (ts : List ℤ) → n ≡ Err e → Ended x n ts
    → x ≡ refused (number_of e)
unfolding Ended
end_refused x ts is h = subst (λ (n : Steps). Ended x n ts) is h

-- ---- the outcome

fields_are : {a b : Answer} {o p w v : List ℕ} → a ≡ b → o ≡ p → w ≡ v
    → ◌≡◌ {A = Outcome} (record { answer = a; output = o; work = w }) (record { answer = b; output = p; work = v })
fields_are {b = b} {o} {w = w} e f g =
    ap (λ (y : Answer). record { answer = y; output = o; work = w }) e
    ∙ ap₂ (λ (y z : List ℕ). record { answer = b; output = y; work = z }) f g

module _ (out work : ℕ) {x : Result Rule} {a : declared.Answer} {o w : List ℕ} where
  pub refused_outcome : {k : ℕ} → x ≡ refused k → answer_of a ≡ refusal k → o ≡ replicate out 0 → w ≡ replicate work 0
      → outcome_of a o w ≡ outcome out work x
  unfolding outcome table_answer table_bytes
  refused_outcome e f g h =
      let all : out ≡ out - 0 = omega arith in
      fields_are f (g ∙ ap (λ (n : ℕ). replicate n 0) all) h ∙ ap (outcome out work) (sym e)

  pub given_outcome : {f : Rule} → x ≡ given f → answer_of a ≡ table_answer (given f)
      → o ≡ bytes_of (encode f) ++ replicate (out - length (bytes_of (encode f))) 0 → w ≡ replicate work 0
      → outcome_of a o w ≡ outcome out work x
  unfolding outcome table_bytes
  given_outcome e f g h = fields_are f g h ∙ ap (outcome out work) (sym e)

-- the outcome in the lengths that were lent, and the room that they have
pub outcome_in : {it : Outcome} (x : ℕ → Result Rule) {o w out work n : ℕ} → it ≡ outcome o w (x n) → o ≡ out
    → w ≡ work → n ≡ room out work → it ≡ outcome out work (x (room out work))
outcome_in x {o} {w} {out} {work} {n} e f g h =
    e ∙ ap₂ (λ (k l : ℕ). outcome k l (x n)) f g ∙ ap (λ (r : ℕ). outcome out work (x r)) h

-- any two outcomes that a promise admits are equal
pub outcome_once : (it : Outcome) (a b : declared.Answer) (o p w v : List ℕ) → outcome_of a o w ≡ it
    → outcome_of b p v ≡ it → (a ≡ b) × (o ≡ p) × (w ≡ v)
outcome_once it a b o p w v e f =
    let same = e ∙ sym f in (
      ap (λ (x : Outcome). back x.answer) same,
      ap (λ (x : Outcome). x.output) same,
      ap (λ (x : Outcome). x.work) same,
    )
  where
    back : Answer → declared.Answer
    back a = record { number = a.number; verdict = a.verdict; words = a.words; settings = a.settings }

-- ---- packed

verdict_small : (f : Rule) → verdict_of f < 4
unfolding verdict_of
verdict_small (Constant true) = omega arith
verdict_small (Constant false) = omega arith
verdict_small (Join j a b) = omega arith
verdict_small (Not a) = omega arith
verdict_small (Literal t s) = omega arith
verdict_small (Bind q v a) = omega arith

settings_small : (f : Rule) → settings_of f < 64
unfolding settings_of bits_of
settings_small f =
    omega (
      arith,
      bit (occurs 1 f) 1,
      bit (occurs 2 f) 2,
      bit (occurs 3 f) 4,
      bit (occurs 4 f) 8,
      bit (occurs 5 f) 16,
      bit (occurs 6 f) 32,
    )
  where
    bit : (b : Bool) (n : ℕ) → cond b n 0 ≤ n
    bit true n = omega arith
    bit false n = omega arith

-- an answer by a number of at most 8, and of a table within the room, lies within its bits
pub answer_fits : (r : ℕ) (x : Result Rule) → r ≤ most_words → By 8 x → Gives r x → Fits (table_answer x)
unfolding table_answer By
answer_fits r (refused n) most by fit = record {
  number_fits = omega (arith, by.1);
  verdict_fits = omega arith;
  words_fits = omega arith;
  settings_fits = omega arith;
}
answer_fits r (given f) most by fit = record {
  number_fits = omega arith;
  verdict_fits = verdict_small f;
  words_fits = omega (arith, (fit f refl).fits, most);
  settings_fits = settings_small f;
}

-- what the 64 bits and the lent bytes say, and a clause P of the answer
module _ (it : Outcome) {a : declared.Answer} {o w : List ℕ} (fits : Fits it.answer)
    (e : outcome_of a o w ≡ it) where
  pub fits_so : Fits (answer_of a)
  fits_so = subst (λ (x : Outcome). Fits x.answer) (sym e) fits

  pub packed_so : {n : ℕ} (P : Answer → Type 0) → P (answer_of a) → n ≡ packed (answer_of a)
      → Leaves it n o w × P (unpacked n)
  packed_so P p i =
      let back = ap unpacked i ∙ packed_back (answer_of a) fits_so in (
        (
          i ∙ ap (λ (x : Outcome). packed x.answer) e,
          ap (λ (x : Outcome). x.output) e,
          ap (λ (x : Outcome). x.work) e,
        ),
        subst P (sym back) p,
      )
