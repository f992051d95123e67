-- The lines that are put are those that are due.
-- Assumes nothing.
use mathlib.Core.Path.{◌≡◌, refl, sym, ◌∙◌, ap}
use mathlib.Core.List.{List, [], ◌++◌, append-nil}
use Prim.Native.Nat.{ℕ, ◌+◌, ◌*◌, ◌-◌, ◌≤◌}
use native.Mathlib.Omega.{arith}
use lib.IntN.{ℤ, pos}
use lib.ListN.{length, get_or, take, drop}
use lib.Seq.{take_at}
use Rattle.rules.specs.Rule.{Rule}
use Rattle.rules.specs.Result.{Result, refused, given}
use Rattle.rules.specs.Table.{most_words, count, nodes, bodies, size}
use Rattle.rules.specs.Answer.{Answer, table_answer}
use Rattle.rules.specs.Calls.{signed, words}
use Rattle.rules.proofs.Numbers.{By}
use Rattle.rules.proofs.Encoding.{AllGood, good_nodes}
use Rattle.rules.proofs.Sizes.{length_nodes, length_bodies, weight, weight_is, size_is}
use Rattle.tables.specs.Checks.{ListedAs, Listed}
use Rattle.tables.proofs.WordLaws.{number_of, words_length, words_between}
use Rattle.tables.proofs.Standings.{count_there, size_there, bodies_there}
use Rattle.leaveoff.specs.Result.{Held}
use Rattle.text.specs.Lines.{lines}
use Rattle.text.specs.Placed.{Puts}
use Rattle.text.specs.declared.lent.Text.{Text}
use Rattle.text.proofs.PlacedLaws.{puts_then, puts_as}
use Rattle.eliminate.specs.Printed.{answer_line, node_lines, printed, TableIn, LeftBy}

-- ---- a refusal has no other line

pub refused_put : (x : Result Rule) {a : Answer} {ws : List ℤ} → LeftBy x a ws → ¬ (a.number ≡ 0)
    → {t u : Text} → Puts t (answer_line a) u → Puts t (printed x) u
unfolding printed node_lines table_answer
refused_put (refused n) {a} left some f =
    puts_as f (ap answer_line left.answered ∙ sym (append-nil (answer_line (table_answer (refused n)))))
refused_put (given r) left some f = absurd (some (ap (λ (b : Answer). b.number) left.answered))

-- ---- a table

-- the table of r begins these bytes: n is how many nodes it has, w how many words
pub record TableRead (l : List ℕ) (n w : ℕ) (r : Rule) : Type 0 where
  pub held : Held (words l) r
  pub counted : n ≡ count r
  pub long : w ≡ size r

-- where the answer's number is 0 there is one
pub table_left : (x : Result Rule) {a : Answer} {ws : List ℤ} → LeftBy x a ws → a.number ≡ 0
    → (r : Rule) × (x ≡ given r) × (a.words ≡ size r) × Held ws r
unfolding By TableIn table_answer
table_left (refused n) left zero =
    absurd (omega (arith, left.numbered.0, ap (λ (b : Answer). b.number) left.answered, zero))
table_left (given r) left zero = (r, refl, ap (λ (b : Answer). b.words) left.answered, left.table)

pub table_read : (x : Result Rule) {a : Answer} (l : List ℕ) → LeftBy x a (words l) → a.number ≡ 0 → (n : ℕ)
    → get_or (words l) 0 (pos 0) ≡ signed n → (r : Rule) × (x ≡ given r) × TableRead l n a.words r
table_read x l left zero n e =
    let (r, is, long, held) = table_left x left zero in
    (r, is, record { held = held; counted = number_of n (count r) (sym e ∙ count_there held.table); long = long })

module _ {l : List ℕ} {n w : ℕ} {r : Rule} (t : TableRead l n w r) where
  -- the bodies lie behind the entries, and end with the table
  pub inside : (n + 1 ≤ w) × (w ≤ most_words) × (w * 4 ≤ length l)
  inside =
      let fits = size_there t.held.table in (
        omega (arith, t.counted, t.long, size_is r),
        omega (arith, t.long, t.held.most),
        omega (arith, t.long, fits, words_length l),
      )

  bodies_are : words (take (w * 4 - (n + 1) * 4) (drop ((n + 1) * 4) l)) ≡ bodies 0 (nodes r)
  bodies_are =
      let k : ℕ = weight r in
      let all : w ≡ n + 1 + k = omega (arith, t.counted, t.long, size_is r) in
      let same : n + 1 ≡ count r + 1 = omega (arith, t.counted) in
      ap (λ (m : ℕ). words (take (m * 4 - (n + 1) * 4) (drop ((n + 1) * 4) l))) all ∙ words_between l (n + 1) k
      ∙ ap (λ (m : ℕ). take k (drop m (words l))) same ∙ ap (take k) (bodies_there t.held.table)
      ∙ take_at (bodies 0 (nodes r)) t.held.table.after k (length_bodies 0 (nodes r) ∙ weight_is r)

  pub listed_as : ListedAs (words (take (w * 4 - (n + 1) * 4) (drop ((n + 1) * 4) l))) 0 n (nodes r)
  listed_as = record {
    bodies_are = bodies_are;
    long = omega (arith, length_nodes r, t.counted);
    good = rw (append-nil (nodes r)) at ((good_nodes r []).1 (t.held.formed, unfold AllGood in tt));
  }

  pub listed : Listed (words (take (w * 4 - (n + 1) * 4) (drop ((n + 1) * 4) l))) 0 n
  listed = record { nodes = nodes r; listed = listed_as }

  -- with the nodes they are all words but the first
  pub counts : n + length (words (take (w * 4 - (n + 1) * 4) (drop ((n + 1) * 4) l))) + 1 ≡ w
  counts =
      omega (arith, ap length bodies_are, length_bodies 0 (nodes r), weight_is r, t.counted, t.long, size_is r)

-- its lines follow the first
pub table_put : {x : Result Rule} {a : Answer} {ws : List ℤ} → LeftBy x a ws → {r : Rule} → x ≡ given r
    → {t u v : Text} → Puts t (answer_line a) u → Puts u (lines 0 (nodes r)) v → Puts t (printed x) v
unfolding printed node_lines
table_put {x} left {r} e f g =
    puts_as (puts_then f g) (ap (λ (b : Answer). answer_line b ++ lines 0 (nodes r)) left.answered
    ∙ ap (λ (y : Result Rule). answer_line (table_answer x) ++ node_lines y) (sym e))
