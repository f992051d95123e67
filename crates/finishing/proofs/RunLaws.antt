-- Nodes put into a table one after the other: their room; none, one, one run behind another, and all of a table.
-- Assumes nothing.
use mathlib.Core.Path.{◌≡◌, refl, sym, ap, ap₂, ◌∙◌, subst}
use mathlib.Core.List.{List, [], ◌∷◌, ◌++◌, append_assoc, append-nil}
use Prim.Native.Nat.{ℕ, suc, ◌+◌, ◌<◌, ◌≤◌}
use native.Mathlib.Nat.{add-zero}
use native.Mathlib.Omega.{arith}
use lib.IntN.{ℤ, pos}
use lib.ListN.{length, set, take, drop, length-set, length-drop, take-append-drop, drop_of_length-le}
use lib.Seq.{sets, length-sets, sets-eq, set-append_left, length-take-le}
use Rattle.rules.specs.Rule.{Rule}
use Rattle.rules.specs.Table.{Node, most_words, body, count, nodes, starts, bodies, table, encode, size}
use Rattle.rules.proofs.Sizes.{words, weight, total, length_body, length_nodes, length_starts, size_is}
use Rattle.tables.specs.Standing.{TableAt}
use Rattle.tables.proofs.Standings.{starts_append, bodies_append}
use Rattle.finishing.specs.Placing.{Free, Run}

pub total_append : (ds es : List Node) → total (ds ++ es) ≡ total ds + total es
unfolding total
total_append [] es = omega arith
total_append (d ∷ ds) es = omega (arith, total_append ds es)

-- what has room has room for a part of it
pub free_part : {ts us : List ℤ} {i to m w : ℕ} (j p k x : ℕ) → Free ts i to m w → length us ≡ length ts
    → j + k ≤ i + m → to ≤ p → p + x ≤ to + w → Free us j p k x
free_part j p k x free same nodes behind words = record {
  entries = omega (arith, free.entries, nodes, behind);
  bodies = omega (arith, free.bodies, same, words);
  most = omega (arith, free.most, words);
}

-- ---- stores one after the other

sets_append : (l : List ℤ) (i : ℕ) (xs ys : List ℤ) → sets l i (xs ++ ys) ≡ sets (sets l i xs) (i + length xs) ys
sets_append l i [] ys = ap (λ (k : ℕ). sets l k ys) (sym (add-zero i))
sets_append l i (x ∷ xs) ys =
    let next : suc i + length xs ≡ i + suc (length xs) = omega arith in
    sets_append (set l i x) (suc i) xs ys ∙ ap (λ (k : ℕ). sets (sets (set l i x) (suc i) xs) k ys) next

sets_left : (l m : List ℤ) (i : ℕ) (xs : List ℤ) → i + length xs ≤ length l → sets (l ++ m) i xs ≡ sets l i xs ++ m
sets_left l m i [] h = refl
sets_left l m i (x ∷ xs) h =
    ap (λ (k : List ℤ). sets k (suc i) xs) (set-append_left l m i x (omega arith))
    ∙ sets_left (set l i x) m (suc i) xs (omega (arith, length-set l i x))

-- ---- none, and one

pub run_none : (ts : List ℤ) (i to : ℕ) → Run ts ts i to []
unfolding total starts bodies
run_none ts i to = record { begins = ap (λ (k : ℕ). take k ts) (add-zero to) ∙ sym (append-nil (take to ts)) }

-- the words x of node i stand behind what was there, and its entry says where
pub record Stored (ts vs : List ℤ) (i to : ℕ) (x : List ℤ) : Type 0 where
  pub begins : take (to + length x) vs ≡ set (take to ts) (i + 1) (pos to) ++ x

pub run_one : {ts vs : List ℤ} {i to : ℕ} {x : List ℤ} (d : Node) → body i d ≡ x → Stored ts vs i to x
    → Run ts vs i to (d ∷ [])
unfolding total starts bodies
run_one {ts} {vs} {i} {to} {x} d e s =
    let long : words d + 0 ≡ length x = omega (arith, ap length e, length_body i d) in
    record {
      begins = ap (λ (k : ℕ). take (to + k) vs) long ∙ s.begins
          ∙ ap (λ (l : List ℤ). set (take to ts) (i + 1) (pos to) ++ l) (sym (append-nil (body i d) ∙ e));
    }

-- ---- one run behind another

both_runs : {ts us vs : List ℤ} {i to : ℕ} (ds es : List Node) → i + (length ds + length es) < to → to ≤ length ts
    → Run ts us i to ds → Run us vs (i + length ds) (to + total ds) es → Run ts vs i to (ds ++ es)
both_runs {ts} {us} {vs} {i} {to} ds es room inside r s =
    let j = i + length ds in
    let p = to + total ds in
    let first = sets (take to ts) (i + 1) (starts to ds) in
    let second = starts p es in
    let long : length first ≡ to =
    length-sets (take to ts) (i + 1) (starts to ds) ∙ length-take-le to ts inside in
    let within : j + 1 + length second ≤ length first = omega (arith, long, length_starts p es, room) in
    let where_second : i + 1 + length (starts to ds) ≡ j + 1 = omega (arith, length_starts to ds) in
    let entries : sets (take to ts) (i + 1) (starts to (ds ++ es)) ≡ sets first (j + 1) second =
    ap (sets (take to ts) (i + 1)) (starts_append to ds es)
    ∙ sets_append (take to ts) (i + 1) (starts to ds) second
    ∙ ap (λ (k : ℕ). sets first k second) where_second in
    let all : to + total (ds ++ es) ≡ p + total es = omega (arith, total_append ds es) in
    record {
      begins = ap (λ (k : ℕ). take k vs) all ∙ s.begins
          ∙ ap (λ (l : List ℤ). sets l (j + 1) second ++ bodies j es) r.begins
          ∙ ap (λ (l : List ℤ). l ++ bodies j es) (sets_left first (bodies i ds) (j + 1) second within)
          ∙ append_assoc (sets first (j + 1) second) (bodies i ds) (bodies j es)
          ∙ ap₂ ◌++◌ (sym entries) (sym (bodies_append i ds es));
    }

pub run_then : {ts us vs : List ℤ} {i to j p : ℕ} (ds es : List Node) → j ≡ i + length ds → p ≡ to + total ds
    → i + (length ds + length es) < to → to ≤ length ts → Run ts us i to ds → Run us vs j p es
    → Run ts vs i to (ds ++ es)
run_then {us = us} {vs} {i} {to} {j} ds es e f room inside r s =
    both_runs ds es room inside r
    (subst (λ (k : ℕ). Run us vs k (to + total ds) es) e (subst (λ (k : ℕ). Run us vs j k es) f s))

-- ---- all of a table

first_word : (ts : List ℤ) (n : ℕ) → 0 < length ts → take (n + 1) (set ts 0 (pos n)) ≡ pos n ∷ take n (drop 1 ts)
first_word [] n h = absurd (omega arith)
first_word (t ∷ ts) n h = ap (λ (m : ℕ). take m (pos n ∷ ts)) (let next : n + 1 ≡ suc n = omega arith in next)

table_is : (n : ℕ) (ds : List Node) → length ds ≡ n → pos n ∷ starts (n + 1) ds ++ bodies 0 ds ≡ table ds
unfolding table
table_is n ds e = ap (λ (m : ℕ). pos m ∷ starts (m + 1) ds ++ bodies 0 ds) (sym e)

all_entries : (n : ℕ) (l s : List ℤ) → length l ≡ length s → sets (pos n ∷ l) 1 s ≡ pos n ∷ s
all_entries n l s e =
    let none = drop_of_length-le (pos n ∷ l) {i = 1 + length s} (omega (arith, e)) in
    sets-eq s (pos n ∷ l) 1 (omega (arith, e))
    ∙ ap (λ (r : List ℤ). pos n ∷ s ++ r) none ∙ ap (λ (r : List ℤ). pos n ∷ r) (append-nil s)

-- a table that has room has it behind its count
pub table_free : {ts : List ℤ} {n : ℕ} (r : Rule) → n ≡ count r → size r ≤ length ts → size r ≤ most_words
    → Free ts 0 (n + 1) (count r) (weight r)
table_free r counted room most = record {
  entries = omega (arith, counted);
  bodies = omega (arith, counted, room, size_is r);
  most = omega (arith, counted, most, size_is r);
}

-- the count is put, which makes ts of us, then all nodes
pub run_table : (us : List ℤ) {ts vs : List ℤ} (n : ℕ) (r : Rule) → n ≡ count r → n + 1 ≤ length us
    → ts ≡ set us 0 (pos n) → Run ts vs 0 (n + 1) (nodes r) → TableAt vs r
unfolding encode
run_table us {ts} {vs} n r counted inside put run =
    let ds = nodes r in
    let entries = take n (drop 1 us) in
    let as_many : length ds ≡ n = length_nodes r ∙ sym counted in
    let there : n ≤ length (drop 1 us) = omega (arith, inside, length-drop 1 us) in
    let long : length entries ≡ length (starts (n + 1) ds) =
    length-take-le n (drop 1 us) there ∙ sym (length_starts (n + 1) ds ∙ as_many) in
    let contents = ap (λ (l : List ℤ). sets l 1 (starts (n + 1) ds))
    (ap (take (n + 1)) put ∙ first_word us n (omega (arith, inside)))
    ∙ all_entries n entries (starts (n + 1) ds) long in
    let whole = run.begins ∙ ap (λ (l : List ℤ). l ++ bodies 0 ds) contents ∙ table_is n ds as_many in
    let end : ℕ = n + 1 + total ds in
    record {
      after = drop end vs;
      begins = sym (take-append-drop end vs) ∙ ap (λ (l : List ℤ). l ++ drop end vs) whole;
    }
