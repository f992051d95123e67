-- A table at the start of a lent buffer's words: its rule is a part of it, and is all there.
-- Assumes nothing.
use mathlib.Core.Path.{◌≡◌, sym, ◌∙◌, ap}
use mathlib.Core.List.{List}
use Prim.Native.Nat.{ℕ, ◌+◌, ◌<◌, ◌≤◌}
use native.Mathlib.Omega.{arith}
use lib.IntN.{ℤ, pos}
use lib.ListN.{length, get_or, drop, length-drop}
use Rattle.rules.specs.Rule.{Rule}
use Rattle.rules.specs.Table.{most_words, count}
use Rattle.rules.specs.Calls.{signed, words}
use Rattle.rules.proofs.Sizes.{weight, size_is}
use Rattle.tables.specs.Parts.{RuleIn, PartOf}
use Rattle.tables.specs.declared.part.Part.{Part}
use Rattle.tables.proofs.WordLaws.{number_of}
use Rattle.tables.proofs.Standings.{count_there, size_there, stands_there}
use Rattle.tables.proofs.Parts.{moved}
use Rattle.bodies.specs.Body.{BodyOf}
use Rattle.elimination.specs.Stepping.{HasTable, WholeIn}

module _ {ts : List ℤ} {r : Rule} (has : HasTable ts r) where
  pub words_there : 1 + count r + weight r ≤ length ts
  words_there = omega (arith, size_there has.table, size_is r)

  pub word_there : 0 < length ts
  word_there = omega (arith, words_there)

  -- word 0 is the count
  pub counted : (n : ℕ) → get_or ts 0 (pos 0) ≡ signed n → n ≡ count r
  counted n e = number_of n (count r) (sym e ∙ count_there has.table)

  pub whole_inside : (n : ℕ) → n ≡ count r → (n + 1 ≤ length ts) × (n + 1 ≤ most_words)
  whole_inside n e = (omega (arith, e, words_there), omega (arith, e, words_there, has.few))

  -- the part behind it is the rule
  pub whole_in : (n : ℕ) {q : Part} → n ≡ count r → PartOf ts 0 (n + 1) q → WholeIn ts r q
  whole_in n {q} e part = record { at = at; part = same }
    where
      at_place : n + 1 ≡ count r + 1
      at_place = omega (arith, e)

      same : PartOf ts 0 (count r + 1) q
      same = record {
        entries_are = part.entries_are;
        bodies_are = part.bodies_are ∙ ap (λ (m : ℕ). drop m ts) at_place;
        node_is = part.node_is;
        place_is = part.place_is ∙ at_place;
      }

      at : RuleIn q r
      at = record {
        stands = moved r (sym same.entries_are) (sym same.bodies_are) (sym same.node_is) (sym same.place_is)
            (stands_there has.table);
        few = record {
          few_nodes = omega (arith, ap length same.entries_are, length-drop 1 ts, same.node_is, has.few);
          few_words = omega (
            arith,
            ap length same.bodies_are,
            length-drop (count r + 1) ts,
            same.place_is,
            has.few,
            words_there,
          );
        };
        formed = has.formed;
      }

module _ {ts : List ℤ} {r : Rule} {q : Part} (w : WholeIn ts r q) where
  pub whole_body : (end : ℕ) → end ≡ weight r → BodyOf (words q.bodies.now) end q.node r
  whole_body end e = record {
    bodied = record { after = w.at.stands.bodies_after; begins = w.at.stands.bodies };
    formed = w.at.formed;
    ends = e;
  }
