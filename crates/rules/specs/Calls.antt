-- The three calls on "byte slices of little-endian 32-bit words": each one's whole outcome,
-- which is the answer and every lent byte afterwards.
-- Assumes nothing.
use Rattle.std.specs.Prelude.{cond, List, [], ◌∷◌, ◌++◌, ℕ, ◌+◌, ◌*◌, ◌-◌, ◌/◌, ◌%◌, min, eqb, ltb, ℤ, pos, negsuc, length, replicate}
use Rattle.rules.specs.Rule.{Rule}
use Rattle.rules.specs.Result.{Result, refused, given, ◌>>=◌, require}
use Rattle.rules.specs.Table.{most_words, encode}
use Rattle.rules.specs.Decode.{decode}
use Rattle.rules.specs.Eliminate.{eliminate}
use Rattle.rules.specs.LeaveOff.{leave_off}
use Rattle.rules.specs.Match.{matching}
use Rattle.rules.specs.Answer.{Answer, table_answer, match_answer}

-- ---- words and bytes

-- the word with these 32 bits, and the bits of a word
abbrev pub signed : ℕ → ℤ
signed n = cond (ltb n 2147483648) (pos n) (negsuc (4294967295 - n))

abbrev pub bits : ℤ → ℕ
bits (pos n) = n
bits (negsuc n) = 4294967295 - n

-- the words of bytes, the low byte first; up to three bytes at the end are of none
unfoldable pub words : List ℕ → List ℤ
words [] = []
words (a ∷ []) = []
words (a ∷ b ∷ []) = []
words (a ∷ b ∷ c ∷ []) = []
words (a ∷ b ∷ c ∷ d ∷ l) = signed (a + 256 * (b + 256 * (c + 256 * d))) ∷ words l

unfoldable pub bytes_of : List ℤ → List ℕ
bytes_of [] = []
bytes_of (w ∷ ws) = bits w % 256 ∷ bits w / 256 % 256 ∷ bits w / 65536 % 256 ∷ bits w / 16777216 % 256 ∷ bytes_of ws

-- "byte length no multiple of 4" (1), then the table's own checks
unfoldable pub rule_of : List ℕ → Result Rule
unfolding words decode require ◌>>=◌
rule_of table = do
  _ ← require (eqb (length table % 4) 0) 1
  decode (words table)

-- ---- what a call that makes a table leaves

-- "The room is the shorter of the two lent lengths in whole words, at most 16,384"
abbrev pub room : ℕ → ℕ → ℕ
room out work = min (min (out / 4) (work / 4)) most_words

pub record Outcome : Type 0 where
  pub answer : Answer
  pub output : List ℕ
  pub work : List ℕ

unfoldable pub table_bytes : Result Rule → List ℕ
unfolding encode bytes_of
table_bytes (refused n) = []
table_bytes (given r) = bytes_of (encode r)

-- "An answered call leaves the table at the start of the output buffer, zeros after it, and zeros
-- in the whole work buffer; a refused one leaves zeros in both."
unfoldable pub outcome : ℕ → ℕ → Result Rule → Outcome
unfolding table_answer table_bytes
outcome out work r =
    let bs = table_bytes r in
    record { answer = table_answer r; output = bs ++ replicate (out - length bs) 0; work = replicate work 0 }

-- ---- the calls, on a table's bytes and the lent lengths in bytes

unfoldable pub eliminated : List ℕ → ℕ → ℕ → Outcome
unfolding rule_of eliminate outcome ◌>>=◌
eliminated table out work = outcome out work (rule_of table >>= eliminate (room out work))

unfoldable pub left_off : List ℕ → ℤ → ℕ → ℕ → Outcome
unfolding rule_of leave_off outcome ◌>>=◌
left_off table v out work = outcome out work (rule_of table >>= leave_off (room out work) v)

unfoldable pub matched : List ℕ → ℤ → ℤ → ℤ → ℤ → ℤ → ℤ → Answer
unfolding rule_of matching match_answer ◌>>=◌
matched table s1 s2 s3 s4 s5 s6 = match_answer (rule_of table >>= matching (s1 ∷ s2 ∷ s3 ∷ s4 ∷ s5 ∷ s6 ∷ []))
