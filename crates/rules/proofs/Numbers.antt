-- The numbers of refusals: a table is refused by 1 to 4, and matching by 1 to 10.
-- Assumes nothing.
use mathlib.Core.Bool.{Bool, true, false, not, ◌&&◌}
use mathlib.Core.List.{List, [], ◌∷◌}
use Prim.Native.Nat.{ℕ, zero, suc, ◌+◌, ◌%◌, ◌≤◌}
use native.Mathlib.Omega.{arith}
use lib.Dec.{eqb, leb}
use lib.IntN.{ℤ, pos, negsuc}
use lib.ListN.{length, get_or}
use Rattle.whole.specs.Integers.{eq_ℤ}
use Rattle.rules.specs.Sum.{limit, all_within}
use Rattle.rules.specs.Rule.{Junction, and, or, Quantifier, for_some, for_all, Test, positive, is_zero}
use Rattle.rules.specs.Result.{Result, refused, given, ◌>>=◌, require}
use Rattle.rules.specs.Table.{Node, constant_node, not_node, most_words, width, is_setting, is_divisor}
use Rattle.rules.specs.Decode.{Field, cut, word, checked, sum_field, nothing_more, right_child, sum_of}
use Rattle.rules.specs.Decode.{divisor_and_sum, setting_of, kinds, node, read, trees, only_tree, decode}
use Rattle.rules.specs.Chosen.{quantified}
use Rattle.rules.specs.Match.{most_value, matching}
use Rattle.rules.specs.Calls.{words, rule_of}
use Rattle.rules.proofs.Refusals.{RefusedAs, then_as, test_as, as_imp}
use Rattle.rules.proofs.Trees.{tree_four}

abbrev pub OneTo : ℕ → ℕ → Type 0
OneTo m n = (1 ≤ n) × (n ≤ m)

-- if it refuses, then by 1 to m
unfoldable pub By : {A : Type 0} → ℕ → Result A → Type 0
By m x = RefusedAs (OneTo m) x

pub by_then : {A B : Type 0} (m : ℕ) (x : Result A) (f : A → Result B) → By m x → ((a : A) → By m (f a))
    → By m (x >>= f)
unfolding By
by_then m = then_as (OneTo m)

-- a test, and what follows where it is passed
pub by_test : {B : Type 0} (m : ℕ) (b : Bool) (n : ℕ) → 1 ≤ n → n ≤ m → (f : Unit {0} → Result B) → By m (f tt)
    → By m (require b n >>= f)
unfolding By
by_test m b n h l f = test_as (OneTo m) b n f (h, l)

pub by_more : {A : Type 0} (m n : ℕ) (x : Result A) → m ≤ n → By m x → By n x
unfolding By
by_more m n x h = as_imp (λ k i. (i.0, omega (arith, i.1))) x

-- ---- fields

abbrev Fair : {A : Type 0} → Field A → Type 0
Fair f = (ws : List ℤ) → By 4 (f ws)

cut_fair : (k : ℕ) → 1 ≤ k → k ≤ 4 → (n : ℕ) → Fair (cut k n)
unfolding By cut
cut_fair k h l zero ws = tt
cut_fair k h l (suc n) [] = (h, l)
cut_fair k h l (suc n) (w ∷ ws) = by_then 4 (cut k n ws) (λ p. given (w ∷ p.0, p.1)) (cut_fair k h l n ws) (λ p. tt)

checked_fair : (test : ℤ → Bool) → Fair (checked test)
unfolding By checked word ◌>>=◌
checked_fair test [] = (omega arith, omega arith)
checked_fair test (w ∷ ws) = by_test 4 (test w) 3 (omega arith) (omega arith) _ tt

sum_field_fair : Fair sum_field
unfolding By sum_field
sum_field_fair ws =
    by_then 4 (cut 3 7 ws) _ (cut_fair 3 (omega arith) (omega arith) 7 ws)
    (λ p. by_test 4 (all_within limit p.0) 3 (omega arith) (omega arith) _ tt)

-- ---- nodes

nothing_fair : (d : Node) → Fair (nothing_more d)
unfolding By nothing_more
nothing_fair d ws = tt

right_fair : (i : ℕ) (j : Junction) → Fair (right_child i j)
unfolding By right_child word ◌>>=◌
right_fair i j [] = (omega arith, omega arith)
right_fair i j (w ∷ ws) = tt

sum_fair : (t : Test) → Fair (sum_of t)
unfolding By sum_of
sum_fair t ws = by_then 4 (sum_field ws) _ (sum_field_fair ws) (λ p. tt)

divisor_fair : (b : Bool) → Fair (divisor_and_sum b)
unfolding divisor_and_sum
divisor_fair b ws = by_then 4 (checked is_divisor ws) _ (checked_fair is_divisor ws) (λ p. sum_fair _ p.1)

setting_fair : (q : Quantifier) → Fair (setting_of q)
unfolding By setting_of
setting_fair q ws = by_then 4 (checked is_setting ws) _ (checked_fair is_setting ws) (λ p. tt)

infixr 20 ◌&◌
data AllFair : List (Field Node) → Type 0 where
  none : AllFair []
  ◌&◌ : {f : Field Node} {fs : List (Field Node)} → Fair f → AllFair fs → AllFair (f ∷ fs)

one_fair : (fs : List (Field Node)) → AllFair fs → (k : ℕ) → Fair (get_or fs k (λ vs. refused 3))
unfolding By
one_fair [] none k ws = (omega arith, omega arith)
one_fair (f ∷ fs) (h & hs) zero ws = h ws
one_fair (f ∷ fs) (h & hs) (suc k) ws = one_fair fs hs k ws

kinds_fair : (i : ℕ) → AllFair (kinds i)
unfolding kinds
kinds_fair i =
    nothing_fair (constant_node false) &
    nothing_fair (constant_node true) &
    right_fair i and &
    right_fair i or &
    nothing_fair not_node &
    sum_fair positive &
    divisor_fair true &
    divisor_fair false &
    setting_fair for_some &
    setting_fair for_all &
    sum_fair is_zero &
    none

node_fair : (i : ℕ) → Fair (node i)
unfolding By node
node_fair i [] = (omega arith, omega arith)
node_fair i (pos k ∷ ws) = one_fair (kinds i) (kinds_fair i) k ws
node_fair i (negsuc k ∷ ws) = (omega arith, omega arith)

-- ---- tables

read_by : (i : ℕ) (es : List ℤ) (p : ℕ) (ws : List ℤ) → By 4 (read i es p ws)
unfolding By read
read_by i [] p [] = tt
read_by i [] p (w ∷ ws) = (omega arith, omega arith)
read_by i (e ∷ es) p ws =
    by_test 4 (eq_ℤ e (pos p)) 2 (omega arith) (omega arith) _
    (by_then 4 (node i ws) _ (node_fair i ws)
    (λ d. by_then 4 (read (i + 1) es (p + width d.0) d.1) _ (read_by (i + 1) es (p + width d.0) d.1)
    (λ ds. tt)))

tree_by : (ds : List Node) → By 4 (trees ds >>= only_tree)
unfolding By
tree_by ds = as_imp (λ n e. (omega arith, omega arith)) (trees ds >>= only_tree) (tree_four ds)

decode_by : (ws : List ℤ) → By 4 (decode ws)
unfolding By decode
decode_by [] = (omega arith, omega arith)
decode_by (negsuc n ∷ ws) = (omega arith, omega arith)
decode_by (pos n ∷ ws) =
    by_test 4 (leb (suc (length ws)) most_words && leb 1 n) 1 (omega arith) (omega arith) _
    (by_then 4 (cut 1 n ws) _ (cut_fair 1 (omega arith) (omega arith) n ws)
    (λ p. by_then 4 (read 0 p.0 (n + 1) p.1) _ (read_by 0 p.0 (n + 1) p.1)
    tree_by))

pub rule_of_by : (l : List ℕ) → By 4 (rule_of l)
unfolding rule_of
rule_of_by l =
    by_test 4 (eqb (length l % 4) 0) 1 (omega arith) (omega arith) _ (decode_by (words l))

-- ---- matching

pub matching_by : (l : List ℕ) (vs : List ℤ) → By 10 (rule_of l >>= matching vs)
unfolding By matching
matching_by l vs =
    by_then 10 (rule_of l) (matching vs) (by_more 4 10 (rule_of l) (omega arith) (rule_of_by l))
    (λ r. by_test 10 (not (quantified r)) 10 (omega arith) (omega arith) _
    (by_test 10 (all_within most_value vs) 9 (omega arith) (omega arith) _ tt))
