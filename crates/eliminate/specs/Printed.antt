-- What the program prints: "a line with answer number, verdict, words and settings, then on success a line per node".
-- Assumes nothing.
use Rattle.std.specs.Prelude.{◌≡◌, List, [], ◌∷◌, ◌++◌, ℕ, ℤ, pos}
use Rattle.rules.specs.Rule.{Rule}
use Rattle.rules.specs.Result.{Result, refused, given}
use Rattle.rules.specs.Table.{most_words, nodes}
use Rattle.rules.specs.Answer.{Answer, table_answer}
use Rattle.rules.proofs.Numbers.{By}
use Rattle.leaveoff.specs.Outcome.{steps_of}
use Rattle.leaveoff.specs.Result.{Held}
use Rattle.text.specs.Lines.{line, lines}

abbrev pub answer_line : Answer → List ℕ
answer_line a = line (pos a.number) (pos a.verdict ∷ pos a.words ∷ pos a.settings ∷ [])

unfoldable pub node_lines : Result Rule → List ℕ
unfolding lines nodes
node_lines (refused n) = []
node_lines (given r) = lines 0 (nodes r)

-- of a rule, or of a refusal
unfoldable pub printed : Result Rule → List ℕ
unfolding line node_lines table_answer
printed x = answer_line (table_answer x) ++ node_lines x

-- of the bytes that were read: "lends 16,384 words for output and as many for work"
unfoldable pub printed_of : List ℕ → List ℕ
unfolding printed steps_of
printed_of table = printed (steps_of table most_words)

-- ---- what elimination leaves

-- the words of the result's table stand in the output buffer
unfoldable pub TableIn : List ℤ → Result Rule → Type 0
TableIn ws (refused n) = Unit {0}
TableIn ws (given r) = Held ws r

-- the answer and the output buffer are those of x
pub record LeftBy (x : Result Rule) (a : Answer) (ws : List ℤ) : Type 0 where
  pub answered : a ≡ table_answer x
  pub numbered : By 7 x
  pub table : TableIn ws x

pub record SomeLeft (a : Answer) (ws : List ℤ) : Type 0 where
  pub result : Result Rule
  pub left : LeftBy result a ws
