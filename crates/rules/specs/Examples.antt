-- The examples of the paper that are marked P, as one tabled statement: antt computes each call and compares.
-- Assumes nothing.
use Rattle.std.specs.Prelude.{List, [], ◌∷◌, ◌++◌, ℕ, T, ℤ}
use Rattle.rules.specs.Rule.{Rule, Not, And, Or, Some, All}
use Rattle.rules.specs.Calls.{bytes_of}
use Rattle.rules.specs.Rows.{Call, elimination, answers, refuses, Row, ◌gives◌, meets, plenty, all_right}
use Rattle.rules.specs.Rows.{minus, words, x, num, ◌less◌, ◌times◌, Positive, ◌divides◌, ◌divides_not◌}
use Rattle.rules.specs.Rows.{eliminating, leaving_off, some_x, reading, to_true, to_false}

-- the first example: 2·s1 = s2 for some s1, and 2 divides s2
abbrev pub doubled : List ℤ
doubled = words (2 ∷ 3 ∷ 5 ∷ 8 ∷ 1 ∷ 10 ∷ 0 ∷ 2 ∷ []) ++ minus 1 ∷ words (0 ∷ 0 ∷ 0 ∷ 0 ∷ [])

abbrev pub even : List ℤ
even = words (1 ∷ 2 ∷ 6 ∷ 2 ∷ 0 ∷ 0 ∷ 1 ∷ 0 ∷ 0 ∷ 0 ∷ 0 ∷ [])

-- its elimination with these lent lengths
abbrev pub doubling : ℕ → ℕ → Call
doubling out work = elimination (bytes_of doubled) out work

-- the second: 3x+1 < 10 is 0 < 9−3x, and 7x−6 > 7 is 0 < 7x−13
abbrev pub second : Rule
second = And (Or (Positive (num 9 less 3 times x)) (Positive (7 times x less num 13))) (2 divides x)

pub examples : List Row
examples =
    -- "for some s1, 2·s1 = s2. Table 2,3,5,8,1,10,0,2,−1,0,0,0,0 becomes 1,2,6,2,0,0,1,0,0,0,0: 2 divides s2.
    -- Room 38 answers"
    doubling 152 152 gives answers 3 2 even ∷
    -- "37 gives 6."
    doubling 148 148 gives refuses 6 ∷
    -- "(3x+1 < 10 or 7x−6 > 7) and 2 divides x: true."
    some_x second gives to_true ∷
    -- "D = 21, P = 42 (000)."
    meets (Some 1 second) 21 42 ∷
    -- "2 does not divide x and 4 divides x: false."
    some_x (And (2 divides_not x) (4 divides x)) gives to_false ∷
    -- "0 < x and 0 < 3−x and 2 divides x: true."
    some_x (And (And (Positive x) (Positive (num 3 less x))) (2 divides x)) gives to_true ∷
    -- "for all s1, 0 < s1: false."
    eliminating plenty (All 1 (Positive x)) gives to_false ∷
    -- "4097 divides x: 7."
    some_x (4097 divides x) gives refuses 7 ∷
    -- "for some s1, not 0 < s1 − 2,147,483,646: true."
    some_x (Not (Positive (x less num 2147483646))) gives to_true ∷
    -- "with 2,147,483,647: 5."
    some_x (Not (Positive (x less num 2147483647))) gives refuses 5 ∷
    -- "table 1,2,1: itself."
    reading (words (1 ∷ 2 ∷ 1 ∷ [])) gives answers 1 0 (words (1 ∷ 2 ∷ 1 ∷ [])) ∷
    -- "no words: 1."
    reading [] gives refuses 1 ∷
    -- "leave-off of setting 2 on 0 < s1: verdict 2"
    leaving_off plenty 2 (Positive x) gives to_false ∷
    -- "of setting 1: verdict 1."
    leaving_off plenty 1 (Positive x) gives to_true ∷
    []

pub examples_right : T (all_right examples)
unfolding all_right examples
examples_right = tt
