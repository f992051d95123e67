-- The verdict on a table's bytes, for each way out of the check: 1 by the first word, the refusal of a node, and by the
-- tree 4 or a rule.
-- Assumes nothing.
use mathlib.Core.Path.{◌≡◌, refl, sym, ◌∙◌, ap, subst}
use mathlib.Core.Bool.{◌&&◌}
use mathlib.Core.Logic.{◌⊎◌, inl, inr}
use mathlib.Core.List.{List, [], ◌∷◌, ◌++◌, append-nil}
use Prim.Native.Nat.{ℕ, suc, ◌+◌, ◌-◌, ◌%◌, ◌<◌, ◌≤◌}
use native.Mathlib.Omega.{arith}
use native.Mathlib.Numerals.{add-one}
use lib.Dec.{T, leb, le→leb, leb→le, eqb, eqb→eq}
use lib.IntN.{ℤ, pos, negsuc}
use lib.ListN.{length, get_or, take, drop, length-append}
use Rattle.whole.proofs.Tests.{T_and, T_dec}
use Rattle.rules.specs.Rule.{Rule}
use Rattle.rules.specs.Result.{Result, refused, given, ◌>>=◌}
use Rattle.rules.specs.Table.{Node, most_words, count, nodes}
use Rattle.rules.specs.Decode.{read, trees, only_tree, decode}
use Rattle.rules.specs.Calls.{signed, words, rule_of}
use Rattle.rules.proofs.Refusals.{then, stopped, passed, failed}
use Rattle.rules.proofs.Sizes.{length_nodes}
use Rattle.rules.proofs.Trees.{tree_given, tree_refused, count_unique}
use Rattle.tables.specs.Checks.{TreeOf, ListedAs, Listed, TreeAt, Judged, rest, Verdict}
use Rattle.std.proofs.Common.{Option, None}
use Rattle.tables.specs.declared.extent.Extent.{Extent}
use Rattle.tables.proofs.Extents.{ends}
use Rattle.std.proofs.Common.{Result as Answer, Ok, Err}
use Rattle.tables.specs.declared.refusal.Refusal.{Refusal}
use Rattle.tables.specs.declared.refusal.Refusal.TheVariants as refusal
use Rattle.tables.specs.Refusals.{number_of as refusal_number}
use Rattle.tables.proofs.RefusalLaws.{refusal_unique}
use Rattle.tables.proofs.WordLaws.{part, words_from, number_of, signed_low}
use Rattle.tables.proofs.Fields.{cut_given, cut_refused}
use Rattle.tables.proofs.NodeSteps.{were_read}

-- any two verdicts on the same bytes are equal
pub verdict_unique : (x : Result Rule) (v w : Answer ℕ Refusal) → Verdict x v → Verdict x w → v ≡ w
unfolding Verdict
verdict_unique x (Ok n) (Ok m) (r, e, c) (s, f, d) = ap Ok (let same : r ≡ s = cc in c ∙ ap count same ∙ sym d)
verdict_unique x (Ok n) (Err k) (r, e, c) f = cc
verdict_unique x (Err k) (Ok n) e (r, f, c) = cc
verdict_unique x (Err k) (Err j) e f =
    ap Err (refusal_unique k j (let same : refusal_number k ≡ refusal_number j = cc in same))

-- ---- 1: "byte length no multiple of 4, no words, over 16,384 words, n below 1, or n+1 over the length"

pub verdict_odd : (l : List ℕ) → ¬ (length l % 4 ≡ 0) → Verdict (rule_of l) (Err refusal.Length)
unfolding Verdict refusal_number rule_of
verdict_odd l f = stopped _ (failed (eqb (length l % 4) 0) 1 (λ t. f (eqb→eq (length l % 4) 0 t)))

whole_words : (l : List ℕ) → length l % 4 ≡ 0 → rule_of l ≡ decode (words l)
unfolding rule_of
whole_words l e = then _ (passed (eqb (length l % 4) 0) 1 (subst (λ (m : ℕ). T (eqb m 0)) (sym e) tt))

-- the tests of the first word fail
test_first : (k : ℕ) (ws : List ℤ) → ¬ T (leb (suc (length ws)) most_words && leb 1 k) → decode (pos k ∷ ws) ≡ refused 1
unfolding decode
test_first k ws f = stopped _ (failed (leb (suc (length ws)) most_words && leb 1 k) 1 f)

-- or pass
tests : (k : ℕ) (ws : List ℤ) → T (leb (suc (length ws)) most_words && leb 1 k)
    → (suc (length ws) ≤ most_words) × (1 ≤ k)
tests k ws t =
    let (few, some) = (T_and (leb (suc (length ws)) most_words) (leb 1 k)).0 t in
    (leb→le (suc (length ws)) most_words few, leb→le 1 k some)

too_long : (w : ℤ) (ws : List ℤ) → most_words < suc (length ws) → decode (w ∷ ws) ≡ refused 1
too_long (negsuc k) ws h = unfold decode in refl
too_long (pos k) ws h = test_first k ws (λ t. absurd (omega (arith, (tests k ws t).0)))

-- no words, or too many
pub verdict_size : (l : List ℕ) → length l % 4 ≡ 0 → (length (words l) ≡ 0) ⊎ (most_words < length (words l))
    → Verdict (rule_of l) (Err refusal.Length)
unfolding Verdict refusal_number
verdict_size l e h = whole_words l e ∙ go (words l) h
  where
    go : (W : List ℤ) → (length W ≡ 0) ⊎ (most_words < length W) → decode W ≡ refused 1
    go [] h = unfold decode in refl
    go (w ∷ ws) (inl h) = absurd (omega arith)
    go (w ∷ ws) (inr h) = too_long w ws h

decode_count : (w : ℤ) (ws : List ℤ) (n : ℕ) → w ≡ signed n → (n < 1) ⊎ (length ws < n) → decode (w ∷ ws) ≡ refused 1
unfolding decode
decode_count (negsuc k) ws n e h = refl
decode_count (pos k) ws n e h = go (T_dec (leb (suc (length ws)) most_words && leb 1 k)) h
  where
    same : n ≡ k
    same = number_of n k (sym e)

    go : Dec (T (leb (suc (length ws)) most_words && leb 1 k)) → (n < 1) ⊎ (length ws < n)
        → decode (pos k ∷ ws) ≡ refused 1
    go (no f) h = test_first k ws f
    go (yes t) (inl h) = absurd (omega (arith, same, (tests k ws t).1))
    go (yes t) (inr h) =
        then _ (passed (leb (suc (length ws)) most_words && leb 1 k) 1 t)
        ∙ stopped _ (cut_refused 1 k ws (omega (arith, same)))

-- n below 1, or n + 1 over the length
pub verdict_count : (l : List ℕ) (n : ℕ) → length l % 4 ≡ 0 → get_or (words l) 0 (pos 0) ≡ signed n → 0 < length (words l)
    → (n < 1) ⊎ (length (words l) ≤ n) → Verdict (rule_of l) (Err refusal.Length)
unfolding Verdict refusal_number
verdict_count l n e f s h = whole_words l e ∙ go (words l) f s h
  where
    go : (W : List ℤ) → get_or W 0 (pos 0) ≡ signed n → 0 < length W → (n < 1) ⊎ (length W ≤ n) → decode W ≡ refused 1
    go [] f s h = absurd (omega arith)
    go (w ∷ ws) f s (inl h) = decode_count w ws n f (inl h)
    go (w ∷ ws) f s (inr h) = decode_count w ws n f (inr (omega arith))

-- ---- where it is not 1, n nodes are due

pub record Sized (l : List ℕ) (n : ℕ) : Type 0 where
  pub whole : length l % 4 ≡ 0
  pub first : get_or (words l) 0 (pos 0) ≡ signed n
  pub some : 1 ≤ n
  pub inside : n < length (words l)
  pub most : length (words l) ≤ most_words

-- the tree of the nodes, or 4
tree_of : List Node → Result Rule
tree_of ds = trees ds >>= only_tree

decode_is : (n : ℕ) (ws : List ℤ) → 1 ≤ n → n ≤ length ws → suc (length ws) ≤ most_words
    → decode (pos n ∷ ws) ≡ (rest (pos n ∷ ws) n 0 (n + 1) >>= tree_of)
unfolding decode tree_of
decode_is n ws h l m =
    let small : T (leb (suc (length ws)) most_words) = le→leb (suc (length ws)) most_words m in
    let both = (T_and (leb (suc (length ws)) most_words) (leb 1 n)).1 (small, le→leb 1 n h) in
    then _ (passed (leb (suc (length ws)) most_words && leb 1 n) 1 both)
    ∙ then _ (cut_given 1 n ws l)
    ∙ ap (λ (r : Result (List Node)). r >>= tree_of) (sym whole)
  where
    all : n - 0 ≡ n
    all = omega arith

    whole : rest (pos n ∷ ws) n 0 (n + 1) ≡ read 0 (take n ws) (n + 1) (drop n ws)
    whole = ap (λ (k : ℕ). read 0 (take k ws) (n + 1) (drop (n + 1) (pos n ∷ ws))) all
        ∙ ap (λ (k : ℕ). read 0 (take n ws) (n + 1) (drop k (pos n ∷ ws))) (add-one n)

rule_is : (l : List ℕ) (n : ℕ) → Sized l n → rule_of l ≡ (rest (words l) n 0 (n + 1) >>= tree_of)
rule_is l n s = whole_words l s.whole ∙ go (words l) s.first s.inside s.most
  where
    go : (W : List ℤ) → get_or W 0 (pos 0) ≡ signed n → n < length W → length W ≤ most_words
        → decode W ≡ (rest W n 0 (n + 1) >>= tree_of)
    go [] f h m = absurd (omega arith)
    go (w ∷ ws) f h m =
        let e : w ≡ pos n = f ∙ signed_low n (omega arith) in
        subst (λ (v : ℤ). decode (v ∷ ws) ≡ (rest (v ∷ ws) n 0 (n + 1) >>= tree_of)) (sym e)
        (decode_is n ws s.some (omega arith) m)

-- a node's refusal is the table's
pub verdict_nodes : (l : List ℕ) (n : ℕ) {k : Refusal} {v : Answer ℕ Refusal} → Sized l n → v ≡ Err k
    → Judged length (rest (words l) n 0 (n + 1)) v → Verdict (rule_of l) (Err k)
unfolding Verdict
verdict_nodes l n s e h = rule_is l n s ∙ stopped tree_of (subst (Judged length (rest (words l) n 0 (n + 1))) e h)

-- ---- where the nodes were read

pub record NodesRead (l : List ℕ) (n : ℕ) : Type 0 where
  pub sized : Sized l n
  pub nodes : List Node
  pub reads : rest (words l) n 0 (n + 1) ≡ given nodes

pub nodes_read : (l : List ℕ) (n m : ℕ) {v : Answer ℕ Refusal} → Sized l n → v ≡ Ok m
    → Judged length (rest (words l) n 0 (n + 1)) v → NodesRead l n
unfolding Judged
nodes_read l n m s e h =
    let (ds, i, c) = subst (Judged length (rest (words l) n 0 (n + 1))) e h in
    record { sized = s; nodes = ds; reads = i }

module _ {l : List ℕ} {n : ℕ} (read : NodesRead l n) where
  listed_as : ListedAs (part l (n + 1)) 0 n read.nodes
  listed_as =
      let L = were_read (words l) n read.sized.inside read.reads in
      record { bodies_are = words_from l (n + 1) ∙ L.bodies_are; long = L.long; good = L.good }

  pub nodes_listed : Listed (part l (n + 1)) 0 n
  nodes_listed = record { nodes = read.nodes; listed = listed_as }

  read_whole : rule_of l ≡ tree_of read.nodes
  read_whole = rule_is l n read.sized ∙ then tree_of read.reads

  tree : {v w : Option Extent} → v ≡ w → TreeAt (part l (n + 1)) 0 n v → TreeOf read.nodes w
  unfolding TreeAt
  tree e t = subst (TreeOf read.nodes) e (t read.nodes listed_as)

  no_rule : ((r : Rule) → ¬ (read.nodes ≡ nodes r)) → Verdict (rule_of l) (Err refusal.Tree)
  unfolding tree_of Verdict refusal_number
  no_rule h = read_whole ∙ tree_refused read.nodes h

  pub verdict_broken : {v : Option Extent} → v ≡ None → TreeAt (part l (n + 1)) 0 n v → Verdict (rule_of l) (Err refusal.Tree)
  unfolding TreeOf
  verdict_broken e t = no_rule (λ r k. tree e t r [] (k ∙ sym (append-nil (nodes r))))

  -- "the root's subtree is the whole table"
  pub verdict_left : {v : Option Extent} (m q : ℕ) → v ≡ ends m q → TreeAt (part l (n + 1)) 0 n v → ¬ (m ≡ n)
      → Verdict (rule_of l) (Err refusal.Tree)
  unfolding TreeOf
  verdict_left m q e t other =
      let (r, f, whole, c, w) = tree e t in
      no_rule (λ s k.
      let same : count r ≡ count s = count_unique r s f [] (sym whole ∙ k ∙ sym (append-nil (nodes s))) in
      other (c ∙ same ∙ sym (length_nodes s) ∙ ap length (sym k) ∙ listed_as.long))

  pub verdict_rule : {v : Option Extent} (m q : ℕ) → v ≡ ends m q → TreeAt (part l (n + 1)) 0 n v → m ≡ n
      → Verdict (rule_of l) (Ok n)
  unfolding TreeOf Verdict tree_of
  verdict_rule m q e t i =
      let (r, f, whole, c, w) = tree e t in
      let all = ap length whole ∙ length-append (nodes r) f in
      let none : f ≡ [] = no_length f (omega (arith, all, length_nodes r, listed_as.long)) in
      let alone = whole ∙ ap (λ (g : List Node). nodes r ++ g) none ∙ append-nil (nodes r) in
      (r, read_whole ∙ ap (λ (g : List Node). trees g >>= only_tree) alone ∙ tree_given r, sym i ∙ c)
    where
      no_length : (g : List Node) → length g ≡ 0 → g ≡ []
      no_length [] h = refl
      no_length (d ∷ g) h = absurd (omega arith)
