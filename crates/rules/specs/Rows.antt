-- Rows: a row is a whole call on bytes beside everything that it leaves, and one test says whether a row is right.
-- Assumes nothing.
use Rattle.std.specs.Prelude.{Bool, true, false, ◌&&◌, ℕ, ◌*◌, pred, eqb, ℤ, pos, negsuc, ◌+ℤ◌, ◌-ℤ◌, ◌*ℤ◌, length, take, replicate}
use mathlib.Core.List.{List, [], ◌∷◌, ◌++◌, map, zip_with}
use Rattle.rules.specs.Sum.{Sum}
use Rattle.rules.specs.Rule.{positive, divisible, is_zero, Rule, Literal, Some}
use Rattle.rules.specs.Result.{Result, refused, given, ◌>>=◌}
use Rattle.rules.specs.Table.{encode}
use Rattle.rules.specs.Chosen.{nothing, the, chosen}
use Rattle.rules.specs.Steps.{common_factor, period}
use Rattle.rules.specs.Eliminate.{step_table, for_all_step, normal_step, common_step}
use Rattle.rules.specs.Answer.{Answer}
use Rattle.rules.specs.Calls.{Outcome, bytes_of, eliminated, left_off, matched}

-- ---- what a row says

-- the table's bytes with the two lent lengths in bytes, or with the six values
pub data Call : Type 0 where
  elimination : List ℕ → ℕ → ℕ → Call
  leave_off_test : ℤ → List ℕ → ℕ → ℕ → Call
  matching_of : List ℕ → ℤ → ℤ → ℤ → ℤ → ℤ → ℤ → Call

-- the verdict, the settings and the words of the table; or the number
pub data Expected : Type 0 where
  answers : ℕ → ℕ → List ℤ → Expected
  refuses : ℕ → Expected

infix 68 ◌gives◌
-- a call gives what is expected; the first round of a rule meets this D and this P
pub data Row : Type 0 where
  ◌gives◌ : Call → Expected → Row
  meets : Rule → ℕ → ℕ → Row

-- ---- the test of a call

-- an answer's number, verdict, words and settings
abbrev pub four : Answer → List ℕ
four a = a.number ∷ a.verdict ∷ a.words ∷ a.settings ∷ []

-- "A refusal has zeros in all three."
abbrev pub four_expected : Expected → List ℕ
four_expected (answers v s t) = 0 ∷ v ∷ length t ∷ s ∷ []
four_expected (refuses n) = n ∷ 0 ∷ 0 ∷ 0 ∷ []

abbrev pub table_expected : Expected → List ℤ
table_expected (answers v s t) = t
table_expected (refuses n) = []

unfoldable pub same_numbers : List ℕ → List ℕ → Bool
same_numbers [] [] = true
same_numbers [] (b ∷ m) = false
same_numbers (a ∷ l) [] = false
same_numbers (a ∷ l) (b ∷ m) = elim (eqb a b) [ true ↦ same_numbers l m | false ↦ false ]

-- n bytes: these, then zeros
abbrev pub filled : ℕ → List ℕ → List ℕ
filled n bs = take n (bs ++ replicate n 0)

unfoldable pub leaves : Outcome → ℕ → ℕ → Expected → Bool
unfolding same_numbers bytes_of
leaves o out work e =
    same_numbers (four o.answer) (four_expected e) &&
    same_numbers o.output (filled out (bytes_of (table_expected e))) &&
    same_numbers o.work (filled work [])

unfoldable pub as_expected : Call → Expected → Bool
unfolding eliminated left_off matched leaves same_numbers
as_expected (elimination t out work) e = leaves (eliminated t out work) out work e
as_expected (leave_off_test v t out work) e = leaves (left_off t v out work) out work e
as_expected (matching_of t a b c d f g) e = same_numbers (four (matched t a b c d f g)) (four_expected e)

-- ---- the test of D and P

-- a number that is read off the chosen quantifier's setting and body
unfoldable pub of_chosen : (ℕ → Rule → ℕ) → Result Rule → ℕ
unfolding chosen
of_chosen f (refused n) = 0
of_chosen f (given r) = elim (chosen r) [ nothing ↦ 0 | the q x a ↦ f x a ]

-- words of room enough for most rows
abbrev pub plenty : ℕ
plenty = 128

unfoldable pub D_and_P : Rule → List ℕ
unfolding of_chosen step_table for_all_step normal_step common_step common_factor period ◌>>=◌
D_and_P r =
    let after_1 = step_table plenty r >>= for_all_step plenty >>= normal_step plenty in
    of_chosen common_factor after_1 ∷ of_chosen (λ x a. period a) (after_1 >>= common_step plenty) ∷ []

-- ---- the one test over all rows (zip_with stands in the sums that rows are written with)

unfoldable pub right : Row → Bool
unfolding as_expected D_and_P same_numbers zip_with
right (c gives e) = as_expected c e
right (meets r D P) = same_numbers (D_and_P r) (D ∷ P ∷ [])

unfoldable pub all_right : List Row → Bool
unfolding right
all_right [] = true
all_right (r ∷ rs) = elim (right r) [ true ↦ all_right rs | false ↦ false ]

-- ---- short words for rows

abbrev pub minus : ℕ → ℤ
minus n = negsuc (pred n)

abbrev pub words : List ℕ → List ℤ
words ns = map pos ns

-- "x is s1", "y is s2 and z is s3"
abbrev pub x : Sum
x = words (0 ∷ 1 ∷ 0 ∷ 0 ∷ 0 ∷ 0 ∷ 0 ∷ [])

abbrev pub y : Sum
y = words (0 ∷ 0 ∷ 1 ∷ 0 ∷ 0 ∷ 0 ∷ 0 ∷ [])

abbrev pub z : Sum
z = words (0 ∷ 0 ∷ 0 ∷ 1 ∷ 0 ∷ 0 ∷ 0 ∷ [])

-- sums of them and of numbers: num 9 less 3 times x
infixl 71 ◌plus◌ ◌less◌
infix 72 ◌times◌
abbrev pub num : ℕ → Sum
num n = words (n ∷ 0 ∷ 0 ∷ 0 ∷ 0 ∷ 0 ∷ 0 ∷ [])

abbrev pub ◌plus◌ : Sum → Sum → Sum
◌plus◌ s t = zip_with (λ a b. a +ℤ b) s t

abbrev pub ◌less◌ : Sum → Sum → Sum
◌less◌ s t = zip_with (λ a b. a -ℤ b) s t

abbrev pub ◌times◌ : ℕ → Sum → Sum
◌times◌ k s = map (λ a. pos k *ℤ a) s

-- literals
infix 70 ◌divides◌ ◌divides_not◌
abbrev pub Positive : Sum → Rule
Positive s = Literal positive s

abbrev pub ◌divides◌ : ℕ → Sum → Rule
◌divides◌ k s = Literal (divisible true k) s

abbrev pub ◌divides_not◌ : ℕ → Sum → Rule
◌divides_not◌ k s = Literal (divisible false k) s

abbrev pub IsZero : Sum → Rule
IsZero s = Literal is_zero s

-- calls on a rule, with n words in both buffers
abbrev pub eliminating : ℕ → Rule → Call
eliminating n r = elimination (bytes_of (encode r)) (4 * n) (4 * n)

abbrev pub leaving_off : ℕ → ℕ → Rule → Call
leaving_off n v r = leave_off_test (pos v) (bytes_of (encode r)) (4 * n) (4 * n)

-- "for some s1 stands in front"
abbrev pub some_x : Rule → Call
some_x a = eliminating plenty (Some 1 a)

-- elimination of these words, in room 3
abbrev pub reading : List ℤ → Call
reading ws = elimination (bytes_of ws) 12 13

-- what is left: true, false, or an open rule with these settings
abbrev pub to_true : Expected
to_true = answers 1 0 (words (1 ∷ 2 ∷ 1 ∷ []))

abbrev pub to_false : Expected
to_false = answers 2 0 (words (1 ∷ 2 ∷ 0 ∷ []))

abbrev pub to : ℕ → Rule → Expected
to settings r = answers 3 settings (encode r)
