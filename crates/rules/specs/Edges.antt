-- Edges: a second table over the same test, for what the laws leave free: forms, orders, limits and refusals.
-- Assumes nothing.
use Rattle.std.specs.Prelude.{List, [], ◌∷◌, ◌++◌, ℕ, T, ℤ, pos, replicate}
use Rattle.rules.specs.Rule.{Rule, True, False, Not, And, Or, Some, All}
use Rattle.rules.specs.Table.{encode}
use Rattle.rules.specs.Calls.{bytes_of}
use Rattle.rules.specs.Rows.{Call, elimination, leave_off_test, matching_of, answers, refuses, Row, ◌gives◌}
use Rattle.rules.specs.Rows.{plenty, all_right, minus, words}
use Rattle.rules.specs.Rows.{x, y, z, num, ◌plus◌, ◌less◌, ◌times◌, Positive, ◌divides◌, ◌divides_not◌, IsZero}
use Rattle.rules.specs.Rows.{eliminating, leaving_off, some_x, reading, to_true, to_false, to}
use Rattle.rules.specs.Examples.{even, doubling}

-- the word that is below every range, and a table that would be answered
abbrev pub lowest : ℤ
lowest = minus 2147483648

abbrev pub true_bytes : List ℕ
true_bytes = bytes_of (words (1 ∷ 2 ∷ 1 ∷ []))

-- ---- reading

pub reading_rows : List Row
reading_rows =
    -- one, two or three bytes over: the length is no multiple of 4
    elimination (true_bytes ++ 0 ∷ []) 13 12 gives refuses 1 ∷
    elimination (true_bytes ++ 0 ∷ 0 ∷ []) 12 13 gives refuses 1 ∷
    elimination (true_bytes ++ 0 ∷ 0 ∷ 0 ∷ []) 12 12 gives refuses 1 ∷
    -- n below 1
    reading (words (0 ∷ 2 ∷ 1 ∷ [])) gives refuses 1 ∷
    reading (minus 1 ∷ words (2 ∷ 1 ∷ [])) gives refuses 1 ∷
    reading (lowest ∷ words (2 ∷ 1 ∷ [])) gives refuses 1 ∷
    -- n+1 over the length; where it is the length, the entry is right and the body past the end
    reading (words (2 ∷ 3 ∷ [])) gives refuses 1 ∷
    reading (words (1 ∷ 2 ∷ [])) gives refuses 3 ∷
    -- a contents entry is not the right place
    reading (words (1 ∷ 3 ∷ 1 ∷ [])) gives refuses 2 ∷
    reading (pos 1 ∷ minus 2 ∷ pos 1 ∷ []) gives refuses 2 ∷
    reading (pos 1 ∷ lowest ∷ pos 1 ∷ []) gives refuses 2 ∷
    reading (words (2 ∷ 3 ∷ 5 ∷ 4 ∷ 1 ∷ [])) gives refuses 2 ∷
    -- a word after the last body
    reading (words (1 ∷ 2 ∷ 1 ∷ 0 ∷ [])) gives refuses 2 ∷
    -- unknown kind
    reading (words (1 ∷ 2 ∷ 11 ∷ [])) gives refuses 3 ∷
    reading (pos 1 ∷ pos 2 ∷ minus 1 ∷ []) gives refuses 3 ∷
    reading (pos 1 ∷ pos 2 ∷ lowest ∷ []) gives refuses 3 ∷
    -- a body past the end by its last field
    reading (words (1 ∷ 2 ∷ 2 ∷ [])) gives refuses 3 ∷
    reading (words (1 ∷ 2 ∷ 5 ∷ 0 ∷ 0 ∷ 0 ∷ 0 ∷ 0 ∷ 0 ∷ [])) gives refuses 3 ∷
    -- settings are 1 to 6
    eliminating 6 (Some 0 True) gives refuses 3 ∷
    eliminating 6 (All 7 True) gives refuses 3 ∷
    reading (words (2 ∷ 3 ∷ 5 ∷ 8 ∷ []) ++ minus 1 ∷ pos 1 ∷ []) gives refuses 3 ∷
    reading (words (2 ∷ 3 ∷ 5 ∷ 8 ∷ []) ++ lowest ∷ pos 1 ∷ []) gives refuses 3 ∷
    -- k is at least 1
    eliminating 11 (0 divides y) gives refuses 3 ∷
    reading (words (1 ∷ 2 ∷ 6 ∷ []) ++ minus 1 ∷ y) gives refuses 3 ∷
    reading (words (1 ∷ 2 ∷ 7 ∷ []) ++ lowest ∷ y) gives refuses 3 ∷
    -- c and the a's lie within ±2,147,483,647
    eliminating 10 (Positive (y less num 2147483648)) gives refuses 3 ∷
    eliminating 10 (IsZero (words (1 ∷ 1 ∷ 1 ∷ 1 ∷ 1 ∷ 1 ∷ []) ++ lowest ∷ [])) gives refuses 3 ∷
    eliminating 10 (Positive (y less num 2147483647)) gives to 2 (Positive (y less num 2147483647)) ∷
    -- an entry (2) is looked at before its body (3), and a body (3) before the next entry (2)
    reading (words (1 ∷ 3 ∷ 11 ∷ [])) gives refuses 2 ∷
    reading (words (2 ∷ 3 ∷ 9 ∷ 11 ∷ 1 ∷ [])) gives refuses 3 ∷
    -- the end (2) before the tree (4)
    reading (words (2 ∷ 3 ∷ 4 ∷ 1 ∷ 1 ∷ 1 ∷ [])) gives refuses 2 ∷
    -- a child is missing
    reading (words (1 ∷ 2 ∷ 4 ∷ [])) gives refuses 4 ∷
    reading (words (1 ∷ 2 ∷ 8 ∷ 1 ∷ [])) gives refuses 4 ∷
    reading (words (1 ∷ 2 ∷ 2 ∷ 1 ∷ [])) gives refuses 4 ∷
    reading (words (2 ∷ 3 ∷ 5 ∷ 3 ∷ 2 ∷ 1 ∷ [])) gives refuses 4 ∷
    -- a node is left over
    reading (words (2 ∷ 3 ∷ 4 ∷ 1 ∷ 1 ∷ [])) gives refuses 4 ∷
    -- the right child of and true false is 2, and any other number there is 4
    reading (words (3 ∷ 4 ∷ 6 ∷ 7 ∷ 2 ∷ 2 ∷ 1 ∷ 0 ∷ [])) gives to_false ∷
    reading (words (3 ∷ 4 ∷ 6 ∷ 7 ∷ 2 ∷ 1 ∷ 1 ∷ 0 ∷ [])) gives refuses 4 ∷
    reading (words (3 ∷ 4 ∷ 6 ∷ 7 ∷ 2 ∷ 3 ∷ 1 ∷ 0 ∷ [])) gives refuses 4 ∷
    reading (words (3 ∷ 4 ∷ 6 ∷ 7 ∷ 2 ∷ []) ++ lowest ∷ words (1 ∷ 0 ∷ [])) gives refuses 4 ∷
    []

-- ---- folding

-- 5 + s1 + 2·s3 + 3·s6
abbrev pub of_1_3_6 : Rule
of_1_3_6 = Positive (words (5 ∷ 1 ∷ 0 ∷ 2 ∷ 0 ∷ 0 ∷ 3 ∷ []))

pub folding_rows : List Row
folding_rows =
    -- the input need only fit folded, but that it must
    eliminating 3 (And True True) gives to_true ∷
    elimination true_bytes 11 12 gives refuses 6 ∷
    -- a literal whose a's are all zero becomes its truth value
    eliminating 3 (And (And (Positive (num 1)) (IsZero (num 0))) (4 divides num 0)) gives to_true ∷
    eliminating 3 (Or (Positive (num 0)) (Or (IsZero (num 1)) (4 divides (num 0 less num 6)))) gives to_false ∷
    -- "Divisor 1 makes kind 6 true and kind 7 false."
    eliminating 11 (1 divides y) gives to_true ∷
    eliminating 11 (1 divides_not y) gives to_false ∷
    -- not of a truth value, and a side that is one
    eliminating 3 (Not False) gives to_true ∷
    eliminating 10 (And True (Or (Positive y) False)) gives to 2 (Positive y) ∷
    eliminating 10 (Or False (And (Positive y) True)) gives to 2 (Positive y) ∷
    eliminating 3 (Or (Positive y) (Not (And (Positive y) False))) gives to_true ∷
    -- "Nothing else changes": two nots, T = 0 and equal sides stay
    eliminating 14 (Not (Not (Positive y))) gives to 2 (Not (Not (Positive y))) ∷
    eliminating 22 (Or (IsZero y) (IsZero y)) gives to 2 (Or (IsZero y) (IsZero y)) ∷
    -- a quantifier over a constant stays, and goes through the steps
    eliminating 6 (Some 1 True) gives to_true ∷
    eliminating 5 (Some 1 True) gives refuses 6 ∷
    -- bit v−1 stands for setting v
    eliminating 10 of_1_3_6 gives to 37 of_1_3_6 ∷
    []

-- ---- the steps

-- literals that come twice
abbrev pub even-−y : Rule
even-−y = 2 divides (num 0 less y)

abbrev pub z_below_y : Rule
z_below_y = Positive (num 1 plus y less z)

abbrev pub y_below_z : Rule
y_below_z = Positive (num 1 plus z less y)

-- an open far-left body, and the bounds y and z
abbrev pub two_bounds : Rule
two_bounds = Or (2 divides x plus z) (And (Positive (x less y)) (Positive (x less z)))

-- its far-left body at x = j, its full body at x = y + j and at x = z + j, folded
abbrev pub far_at : ℕ → Rule
far_at j = 2 divides num j plus z

abbrev pub at_y+ : ℕ → Rule
at_y+ j = Or (2 divides num j plus y plus z) (Positive (num j plus y less z))

abbrev pub at_z+ : ℕ → Rule
at_z+ j = Or (2 divides num j plus 2 times z) (Positive (num j plus z less y))

abbrev pub two_bounds_gone : Rule
two_bounds_gone = Or (far_at 1) (Or (far_at 2) (Or (at_y+ 1) (Or (at_z+ 1) (Or (at_y+ 2) (at_z+ 2)))))

pub step_rows : List Row
step_rows =
    -- two nots cancel; not of 0 < T is 0 < 1−T; kinds 6 and 7 trade places
    some_x (Not (Not (Positive y))) gives to 2 (Positive y) ∷
    some_x (Not (Positive y)) gives to 2 (Positive (num 1 less y)) ∷
    some_x (Not (2 divides y)) gives to 2 (Or (2 divides_not y) (2 divides_not y)) ∷
    -- not of and is or, not of or is and
    some_x (Not (And (Positive y) (Positive z))) gives to 6 (Or (Positive (num 1 less y)) (Positive (num 1 less z))) ∷
    some_x (Not (Or (Positive y) (Positive z))) gives to 6 (And (Positive (num 1 less y)) (Positive (num 1 less z))) ∷
    -- T = 0 is 0 < 1−T and 0 < 1+T, not of T = 0 is 0 < −T or 0 < T, in this order
    some_x (IsZero y) gives to 2 (And (Positive (num 1 less y)) (Positive (num 1 plus y))) ∷
    some_x (Not (IsZero y)) gives to 2 (Or (Positive (num 0 less y)) (Positive y)) ∷
    -- a divisibility literal whose x factor is negative has T negated, another has not
    some_x (2 divides y less x) gives to 2 (Or (2 divides num 1 less y) (2 divides num 2 less y)) ∷
    some_x even-−y gives to 2 (Or even-−y even-−y) ∷
    -- outside the chosen body two nots and T = 0 stay
    eliminating plenty (And (Not (Not (IsZero y))) (Some 1 (Positive x))) gives to 2 (Not (Not (IsZero y))) ∷
    -- 2x = y and 2 divides x: the divisor is scaled too, and D divides x stands on the right
    some_x (And (IsZero (2 times x less y)) (2 divides x)) gives to 2 (And (4 divides y) (2 divides y)) ∷
    -- the far-left body counts beside bounds
    some_x (Or (And (Positive (x less num 5)) (Positive (num 3 less x))) (Positive (num 0 less x))) gives to_true ∷
    -- the bounds y, z, y: each once, in order of first place
    some_x (And (And (Positive (x less y)) (Positive (x less z))) (Positive (x less y)))
    gives to 6 (Or z_below_y (And y_below_z y_below_z)) ∷
    -- far-left before bounds, j outside and bounds inside, or nested to the right
    some_x two_bounds gives to 6 two_bounds_gone ∷
    -- P counts the divisors of literals without x
    some_x (3 divides y) gives to 2 (Or (3 divides y) (Or (3 divides y) (3 divides y))) ∷
    -- a setting bound twice belongs to the inner quantifier
    some_x (And (Positive x) (Some 1 (IsZero x))) gives to_true ∷
    eliminating plenty (And (Positive x) (Some 1 (IsZero x))) gives to 1 (Positive x) ∷
    []

-- ---- limits, and their order

-- 5 in step 1; 7 by D; 5 in step 2 beside any other factor than 1
abbrev pub one_minus_5 : Rule
one_minus_5 = Positive (x less num 2147483647)

abbrev pub factor_7 : Rule
factor_7 = Positive (4097 times x)

abbrev pub scaled_5 : Rule
scaled_5 = Positive (num 2147483647 plus x)

pub limit_rows : List Row
limit_rows =
    -- the quantifier with the greatest node number is taken: the left one would meet 5
    eliminating plenty (And (Some 1 (Not one_minus_5)) (Some 1 factor_7)) gives refuses 7 ∷
    -- numbers (5) come before size (6)
    eliminating 13 (Some 1 (IsZero (x less num 2147483647))) gives refuses 5 ∷
    -- a divisor that passes the limit: step 2 makes it 2·2,147,483,647
    some_x (And (Positive (2 times x)) (2147483647 divides x)) gives refuses 5 ∷
    -- a factor that passes the limit: step 2 doubles that of y
    some_x (And (Positive (x plus 2147483647 times y)) (Positive (2 times x))) gives refuses 5 ∷
    -- b+j is no literal: the bound is 2,147,483,647
    some_x one_minus_5 gives to_true ∷
    -- the numbers of a literal that folding removes, and of a disjunct beside a true one
    some_x (And one_minus_5 (Positive (num 0 less x))) gives refuses 5 ∷
    some_x (Or one_minus_5 (Positive (num 0 less x))) gives refuses 5 ∷
    -- a D of 4,096 is allowed: step 2's numbers pass the limit
    some_x (And (Positive (4096 times x)) scaled_5) gives refuses 5 ∷
    -- D is looked at after step 1's own numbers and size
    some_x (And factor_7 (Not one_minus_5)) gives refuses 5 ∷
    eliminating 24 (Some 1 (IsZero (4097 times x))) gives refuses 6 ∷
    eliminating 25 (Some 1 (IsZero (4097 times x))) gives refuses 7 ∷
    -- P is looked at after step 2's own numbers and size
    some_x (And (4097 divides x) (And scaled_5 (Positive (2 times x)))) gives refuses 5 ∷
    eliminating 26 (Some 1 (4097 divides 2 times x)) gives refuses 6 ∷
    eliminating 27 (Some 1 (4097 divides 2 times x)) gives refuses 7 ∷
    -- step 2's size is after folding: with D = 1 the joined 1 divides x is gone
    eliminating 13 (Some 1 (Positive x)) gives to_true ∷
    -- not, for some, not is a step table of its own
    eliminating 17 (All 1 (Positive x)) gives to_false ∷
    eliminating 16 (All 1 (Positive x)) gives refuses 6 ∷
    -- the open disjuncts pass the room, and a later one is true
    eliminating 39 (Some 1 (Or (And (8 divides_not x) (8 divides x plus y)) (Positive x))) gives to_true ∷
    -- the room is the shorter length of the two; odd bytes count for nothing in it and are zeroed
    doubling 152 148 gives refuses 6 ∷
    doubling 148 152 gives refuses 6 ∷
    doubling 152 151 gives refuses 6 ∷
    doubling 151 152 gives refuses 6 ∷
    doubling 155 153 gives answers 3 2 even ∷
    doubling 0 0 gives refuses 6 ∷
    []

-- ---- the leave-off test

-- s3 meets 7 by D, and s2 meets 5 in step 2
abbrev pub z_7_y_5 : Rule
z_7_y_5 = And (Positive (4097 times z)) (And (Positive (num 2147483647 plus 2 times y)) (Positive (3 times y)))

pub leave_off_rows : List Row
leave_off_rows =
    -- the setting is looked at after the table's own checks and before the room
    leaving_off 0 0 (Positive x) gives refuses 8 ∷
    leaving_off plenty 7 (Positive x) gives refuses 8 ∷
    leave_off_test (minus 1) true_bytes 200 200 gives refuses 8 ∷
    leave_off_test lowest true_bytes 12 12 gives refuses 8 ∷
    leave_off_test (pos 7) (bytes_of (words (1 ∷ 2 ∷ 4 ∷ []))) 12 12 gives refuses 4 ∷
    leaving_off plenty 6 (Positive x) gives to_false ∷
    -- the question must fit the room before folding: it has 55 words
    leaving_off 55 1 (Or True (Positive x)) gives to_false ∷
    leaving_off 54 1 (Or True (Positive x)) gives refuses 6 ∷
    -- the other settings rise from the outside: s3 goes before s2
    leaving_off plenty 1 z_7_y_5 gives refuses 7 ∷
    -- not F stands on the right and goes first: F would meet 7
    leaving_off plenty 1 (And factor_7 one_minus_5) gives refuses 5 ∷
    []

-- ---- matching

-- matching with these values for s1 and s6
abbrev pub matching_ends : Rule → ℤ → ℤ → Call
matching_ends r a f = matching_of (bytes_of (encode r)) a (pos 0) (pos 0) (pos 0) (pos 0) f

-- 16,909,060 − s1 = 0 as bytes; s1 + 10·s2 + .. + 100,000·s6 = 654,321; a quantifier and a not without a child
abbrev pub written : List ℕ
written = bytes_of (words (1 ∷ 2 ∷ 10 ∷ [])) ++ 4 ∷ 3 ∷ 2 ∷ 1 ∷ 255 ∷ 255 ∷ 255 ∷ 255 ∷ replicate 20 0

abbrev pub digits : List ℕ
digits = bytes_of (encode (IsZero (minus 654321 ∷ words (1 ∷ 10 ∷ 100 ∷ 1000 ∷ 10000 ∷ 100000 ∷ []))))

abbrev pub childless : List ℕ
childless = bytes_of (words (2 ∷ 3 ∷ 5 ∷ 8 ∷ 1 ∷ 4 ∷ []))

pub matching_rows : List Row
matching_rows =
    -- "byte slices of little-endian 32-bit words", signed
    matching_of written (pos 16909060) (pos 0) (pos 0) (pos 0) (pos 0) (pos 0) gives answers 1 0 [] ∷
    -- "s1 first"
    matching_of digits (pos 1) (pos 2) (pos 3) (pos 4) (pos 5) (pos 6) gives answers 1 0 [] ∷
    matching_ends (Positive x) (pos 0) (pos 1) gives answers 2 0 [] ∷
    -- "4 does not divide −6"
    matching_ends (4 divides num 0 less num 6) (pos 0) (pos 0) gives answers 2 0 [] ∷
    -- values within ±500,000,000
    matching_ends (Positive x) (pos 500000000) (minus 500000000) gives answers 1 0 [] ∷
    matching_ends (Positive x) (pos 500000001) (pos 0) gives refuses 9 ∷
    matching_ends (Positive x) (pos 1) (minus 500000001) gives refuses 9 ∷
    matching_ends True lowest (pos 0) gives refuses 9 ∷
    -- 10 before 9, judged on the table as given
    matching_ends (Some 1 (Positive x)) (pos 500000001) (pos 0) gives refuses 10 ∷
    matching_ends (Or True (All 1 (Positive x))) (pos 0) (pos 0) gives refuses 10 ∷
    -- the table's own checks before both
    matching_of childless lowest (pos 0) (pos 0) (pos 0) (pos 0) (pos 0) gives refuses 4 ∷
    []

-- ---- rows that take a second or two

pub long_rows : List Row
long_rows =
    -- "4096 divides x: true.": a P of 4,096 is allowed
    eliminating 14 (Some 1 (4096 divides x)) gives to_true ∷
    -- over 16,384 words are not read: it would be 2
    elimination (true_bytes ++ replicate 65528 0) 12 12 gives refuses 1 ∷
    -- 16,384 words are: the word after the last body is met
    elimination (true_bytes ++ replicate 65524 0) 12 12 gives refuses 2 ∷
    -- the room is at most 16,384 words: 16,391 are needed
    elimination (bytes_of (encode (Some 1 (1261 divides x plus y)))) 65564 65566 gives refuses 6 ∷
    []

pub edges : List Row
unfolding reading_rows folding_rows step_rows limit_rows leave_off_rows matching_rows long_rows
edges = reading_rows ++ folding_rows ++ step_rows ++ limit_rows ++ leave_off_rows ++ matching_rows ++ long_rows

pub edges_right : T (all_right edges)
unfolding all_right edges
edges_right = tt
