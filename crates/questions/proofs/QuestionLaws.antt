-- The question on a rule: the bodies of its own nodes, its two sides, its nodes all together, its size.
-- Assumes nothing.
use mathlib.Core.Path.{◌≡◌, refl, sym, ap, ◌∙◌, subst}
use mathlib.Core.List.{List, [], ◌∷◌, ◌++◌, append_assoc}
use Prim.Native.Nat.{ℕ, ◌+◌, ◌*◌, ◌<◌, ◌≤◌}
use native.Mathlib.Omega.{arith}
use lib.Dec.{T}
use lib.IntN.{ℤ, pos}
use lib.ListN.{length, length-append}
use Rattle.rules.specs.Rule.{Rule, Not, And, Some, and, for_some}
use Rattle.rules.specs.Table.{join_node, not_node, bind_node}
use Rattle.rules.specs.Table.{most_words, body, count, nodes, size, is_setting, all_settings}
use Rattle.rules.specs.LeaveOff.{others, question}
use Rattle.rules.specs.Calls.{words}
use Rattle.rules.proofs.Sizes.{words as words_of, weight, total, length_nodes, weight_is, size_is}
use Rattle.tables.specs.Kinds.{number_of}
use Rattle.tables.specs.declared.kind.Kind.TheVariants as kind
use Rattle.tables.proofs.Passed.{TableOf, table_words}
use Rattle.finishing.specs.Placing.{Free, Run}
use Rattle.finishing.proofs.RunLaws.{total_append, free_part, table_free, run_then}
use Rattle.questions.proofs.OtherLaws.{five, somes, somes_many, each_nodes, each_counts}

-- ---- the bodies of its own nodes

pub some_body : (i v : ℕ) → body i (bind_node for_some v) ≡ pos (number_of kind.ForSome) ∷ pos v ∷ []
unfolding body number_of
some_body i v = refl

pub not_body : (i : ℕ) → body i not_node ≡ pos (number_of kind.Not) ∷ []
unfolding body number_of
not_body i = refl

-- the right child of the and, node 5, is the first node behind its left side
pub and_body : (n v : ℕ) (a : Rule) → n ≡ count a
    → body 5 (join_node and (pos (1 + count (Some v a)))) ≡ pos (number_of kind.And) ∷ pos (n + 7) ∷ []
unfolding body count number_of
and_body n v a e =
    let right : 5 + (1 + (1 + count a)) ≡ n + 7 = omega (arith, e) in
    ap (λ (m : ℕ). pos 2 ∷ pos m ∷ []) right

-- ---- its two sides

module _ {ts us vs : List ℤ} {i to : ℕ} (v : ℕ) (a : Rule) (inside : to ≤ length ts)
    (some : Run ts us i to (bind_node for_some v ∷ [])) where
  pub holds_run : (p : ℕ) → i + count (Some v a) < to → Run us vs (i + 1) (to + 2) (nodes a) → p ≡ to + 2 + weight a
      → Run ts vs i to (nodes (Some v a)) × (p ≡ to + weight (Some v a))
  unfolding count nodes weight total words_of
  holds_run p room r e = (
    run_then (bind_node for_some v ∷ []) (nodes a) (omega arith) (omega arith)
        (omega (arith, length_nodes a)) inside some r,
    omega (arith, e),
  )

  pub fails_run : {xs : List ℤ} → i + count (Some v (Not a)) < to → Run us xs (i + 1) (to + 2) (not_node ∷ [])
      → Run xs vs (i + 2) (to + 3) (nodes a) → Run ts vs i to (nodes (Some v (Not a)))
  unfolding count nodes total words_of
  fails_run room n r =
      let some_not = run_then (bind_node for_some v ∷ []) (not_node ∷ []) (omega arith) (omega arith) (omega arith)
      inside some n in
      run_then (bind_node for_some v ∷ not_node ∷ []) (nodes a) (omega arith) (omega arith)
      (omega (arith, length_nodes a)) inside some_not r

-- ---- the whole

module _ (v : ℕ) (setting : T (is_setting (pos v))) (a : Rule) where
  -- the and, and its two sides
  abbrev both : Rule
  both = And (Some v a) (Some v (Not a))

  question_nodes : nodes (question v a)
      ≡ somes (others v all_settings)
      ++ (join_node and (pos (1 + count (Some v a))) ∷ nodes (Some v a) ++ nodes (Some v (Not a)))
  unfolding question nodes
  question_nodes = each_nodes (others v all_settings) both

  pub question_count : count (question v a) ≡ count a * 2 + 9
  unfolding question count
  question_count = omega (arith, (each_counts (others v all_settings) both).0, five v setting)

  question_weight : weight (question v a) ≡ weight a * 2 + 17
  unfolding question weight
  question_weight = omega (arith, (each_counts (others v all_settings) both).1, five v setting)

  pub question_size : (l : List ℕ) (n : ℕ) → TableOf l n a → length (words l) * 2 + 25 ≡ size (question v a)
  unfolding size
  question_size l n t =
      let table_size : length (words l) ≡ size a = ap length (table_words t) in
      omega (arith, size_is (question v a), question_count, question_weight, table_size, size_is a)

  -- its room behind the count: an entry for each of its nodes, and their bodies
  pub question_free : {ts : List ℤ} {n : ℕ} → n ≡ count a → size (question v a) ≤ length ts → length ts ≤ most_words
      → Free ts 0 (n * 2 + 9 + 1) (n * 2 + 9) (weight a * 2 + 17)
  question_free {ts} {n} counted fits most =
      let many : n * 2 + 9 ≡ count (question v a) = omega (arith, question_count, counted) in
      let free = table_free {ts = ts} (question v a) many fits (omega (arith, fits, most)) in
      free_part _ _ _ _ free refl (omega (arith, many)) (omega arith) (omega (arith, question_weight))

  -- its nodes, m of them
  pub question_run : {ts us xs ys vs : List ℤ} (n m p : ℕ) → n ≡ count a → m ≡ n * 2 + 9 → m + 1 ≤ length ts
      → Run ts us 0 (m + 1) (somes (others v all_settings))
      → Run us xs 5 (m + 11) (join_node and (pos (1 + count (Some v a))) ∷ [])
      → Run xs ys 6 (m + 13) (nodes (Some v a)) → p ≡ m + 13 + weight (Some v a)
      → Run ys vs (n + 7) p (nodes (Some v (Not a))) → Run ts vs 0 (m + 1) (nodes (question v a))
  unfolding count total words_of
  question_run {ts} {vs = vs} n m p counted room inside outer conjoined holds e fails =
      let os = somes (others v all_settings) in
      let conjunction = join_node and (pos (1 + count (Some v a))) ∷ [] in
      let left = nodes (Some v a) in
      let right = nodes (Some v (Not a)) in
      let (as_many, heavy) = somes_many (others v all_settings) in
      let long_left = length_nodes (Some v a) in
      let long_right = length_nodes (Some v (Not a)) in
      let first : length (os ++ conjunction) ≡ 6 =
      omega (arith, length-append os conjunction, as_many, five v setting) in
      let heavy_first : total (os ++ conjunction) ≡ 12 =
      omega (arith, total_append os conjunction, heavy, five v setting) in
      let second : length ((os ++ conjunction) ++ left) ≡ n + 7 =
      omega (arith, length-append (os ++ conjunction) left, first, long_left, counted) in
      let heavy_second : total ((os ++ conjunction) ++ left) ≡ 12 + weight (Some v a) =
      omega (arith, total_append (os ++ conjunction) left, heavy_first, weight_is (Some v a)) in
      let to_and = run_then os conjunction (omega (arith, as_many, five v setting))
      (omega (arith, heavy, five v setting)) (omega (arith, as_many, five v setting, room)) inside outer conjoined in
      let to_left = run_then (os ++ conjunction) left (omega (arith, first)) (omega (arith, heavy_first))
      (omega (arith, first, long_left, counted, room)) inside to_and holds in
      let to_right = run_then ((os ++ conjunction) ++ left) right (omega (arith, second))
      (omega (arith, heavy_second, e)) (omega (arith, second, long_right, counted, room)) inside to_left fails in
      let grouped = append_assoc (os ++ conjunction) left right ∙ append_assoc os conjunction (left ++ right) in
      subst (Run ts vs 0 (m + 1)) (grouped ∙ sym question_nodes) to_right
