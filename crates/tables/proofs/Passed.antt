-- What the check of a table tells its caller: the rule's words, and where they stand.
-- Assumes nothing.
use mathlib.Core.Path.{◌≡◌, sym, ◌∙◌, ap, subst}
use mathlib.Core.List.{List, [], append-nil}
use Prim.Native.Nat.{ℕ, ◌+◌, ◌≤◌, ◌<◌, ◌%◌}
use native.Mathlib.Omega.{arith}
use lib.Dec.{eqb}
use lib.ListN.{length, drop, length-drop}
use Rattle.rules.specs.Rule.{Rule}
use Rattle.rules.specs.Result.{given}
use Rattle.rules.specs.Table.{most_words, count, nodes, bodies, encode, size}
use Rattle.rules.specs.Laws.{WellFormed}
use Rattle.rules.specs.Calls.{words, rule_of}
use Rattle.rules.proofs.Refusals.{given_inj, required}
use Rattle.rules.proofs.Sizes.{length_nodes, count_pos}
use Rattle.rules.proofs.Encoding.{AllGood, good_nodes}
use Rattle.rules.proofs.Decoding.{encode_decode}
use Rattle.rules.proofs.Bytes.{rule_forth}
use Rattle.tables.specs.Standing.{Stands, TableAt}
use Rattle.tables.specs.Checks.{Verdict}
use Rattle.std.proofs.Common.{Result as Answer, Ok}
use Rattle.tables.specs.declared.refusal.Refusal.{Refusal}
use Rattle.tables.proofs.Standings.{bodies_there, stands_there, inside_entries}

-- the bytes are the table of the rule r, of n nodes
pub record TableOf (l : List ℕ) (n : ℕ) (r : Rule) : Type 0 where
  pub decodes : rule_of l ≡ given r
  pub counted : n ≡ count r

pub passed : (l : List ℕ) (n : ℕ) {v : Answer ℕ Refusal} → v ≡ Ok n → Verdict (rule_of l) v → (r : Rule) × TableOf l n r
unfolding Verdict
passed l n e h =
    let (r, d, c) = subst (Verdict (rule_of l)) e h in
    (r, record { decodes = d; counted = c })

pub verdict_table : {l : List ℕ} {n : ℕ} {r : Rule} → Verdict (rule_of l) (Ok n) → rule_of l ≡ given r
    → TableOf l n r
unfolding Verdict
verdict_table (s, decodes, counted) e = record {
  decodes = e;
  counted = counted ∙ ap count (given_inj (sym decodes ∙ e));
}

module _ {l : List ℕ} {n : ℕ} {r : Rule} (t : TableOf l n r) where
  pub table_words : words l ≡ encode r
  unfolding rule_of
  table_words = (encode_decode (words l) r (required (eqb (length l % 4) 0) 1 _ t.decodes).1).0

  pub table_formed : WellFormed r
  table_formed = (rule_forth l r t.decodes).0

  pub table_most : length (words l) ≤ most_words
  unfolding size
  table_most = omega (arith, ap length table_words, (rule_forth l r t.decodes).1)

  pub table_at : TableAt (words l) r
  table_at = record { after = []; begins = table_words ∙ sym (append-nil (encode r)) }

  -- the rule stands behind the first word, with its bodies behind the entries
  pub table_stands : Stands (drop 1 (words l)) (drop (n + 1) (words l)) 0 (n + 1) r
  table_stands =
      subst (λ (k : ℕ). Stands (drop 1 (words l)) (drop (k + 1) (words l)) 0 (k + 1) r) (sym t.counted)
      (stands_there table_at)

  pub table_inside : n < length (words l)
  table_inside = omega (arith, inside_entries r table_stands, t.counted, count_pos r, length-drop 1 (words l))

  pub table_bodies : drop (n + 1) (words l) ≡ bodies 0 (nodes r)
  unfolding table_at
  table_bodies =
      ap (λ (k : ℕ). drop (k + 1) (words l)) t.counted ∙ bodies_there table_at ∙ append-nil (bodies 0 (nodes r))

  pub table_long : length (nodes r) ≡ n
  table_long = length_nodes r ∙ sym t.counted

  pub table_good : AllGood (nodes r)
  unfolding AllGood
  table_good = subst AllGood (append-nil (nodes r)) ((good_nodes r []).1 (table_formed, tt))
