-- What reading a field and a node answers, against the definitions of Decode.
-- Assumes nothing.
use Rattle.std.specs.Prelude.{◌≡◌, Bool, true, false, List, [], ◌∷◌, ℕ, ◌+◌, ◌≤◌, ℤ, length, get_or, drop, Ok, Err}
use Rattle.std.specs.Prelude.{Result as Answer}
use Rattle.rules.specs.Rule.{Junction, and, or, Quantifier, for_some, for_all, Test, positive, divisible, is_zero}
use Rattle.rules.specs.Result.{Result, refused, given}
use Rattle.rules.specs.Table.{Node, constant_node, join_node, not_node, literal_node, bind_node, width, up_to}
use Rattle.rules.specs.Decode.{checked, sum_field, divisor_and_sum, kinds, node}
use Rattle.tables.specs.declared.reading.Node.{Node as ReadNode}
use Rattle.tables.specs.declared.refusal.Refusal.{Refusal}
use Rattle.tables.specs.Refusals.{number_of}
use Rattle.tables.specs.Kinds.{number_of as kind_number}

-- ---- fields

-- something is given; or it is refused by 3
unfoldable pub Passes : {A : Type 0} → Result A → Bool → Type 0
Passes {A} x true = (a : A) × (x ≡ given a)
Passes x false = x ≡ refused 3

-- c, a1..a6 from word q on
unfoldable pub SumAt : List ℤ → ℕ → Bool → Type 0
unfolding Passes sum_field
SumAt ws q r = Passes (sum_field (drop q ws)) r

-- a number from 1 to m: for 6 it is a setting, for the limit a divisor
unfoldable pub NumberAt : List ℤ → ℕ → Bool → Type 0
unfolding Passes checked up_to
NumberAt ws m r = Passes (checked (up_to m) (drop 1 ws)) r

-- a divisor as word 1, and a sum behind it
unfoldable pub DividedAt : List ℤ → Bool → Type 0
unfolding Passes divisor_and_sum
DividedAt ws r = (b : Bool) → Passes (divisor_and_sum b (drop 1 ws)) r

-- ---- kinds

-- the words of a body by its kind, 0 first
abbrev pub widths : List ℕ
widths = 1 ∷ 1 ∷ 2 ∷ 2 ∷ 1 ∷ 8 ∷ 9 ∷ 9 ∷ 2 ∷ 2 ∷ 8 ∷ []

-- how many children its node has
abbrev pub arities : List ℕ
arities = 0 ∷ 0 ∷ 2 ∷ 2 ∷ 1 ∷ 0 ∷ 0 ∷ 0 ∷ 1 ∷ 1 ∷ 0 ∷ []

-- the kind of an and or an or, of a literal by its test, of a quantifier; and so of a node
abbrev pub join_kind : Junction → ℕ
join_kind and = 2
join_kind or = 3

abbrev pub test_kind : Test → ℕ
test_kind positive = 5
test_kind (divisible true k) = 6
test_kind (divisible false k) = 7
test_kind is_zero = 10

abbrev pub bind_kind : Quantifier → ℕ
bind_kind for_some = 8
bind_kind for_all = 9

unfoldable pub kind_of : Node → ℕ
kind_of (constant_node false) = 0
kind_of (constant_node true) = 1
kind_of (join_node j right) = join_kind j
kind_of not_node = 4
kind_of (literal_node t s) = test_kind t
kind_of (bind_node q v) = bind_kind q

-- ---- nodes

-- what follows kind k, whatever number the node has
unfoldable pub FieldsAt : List ℤ → ℕ → Bool → Type 0
unfolding Passes kinds
FieldsAt ws k r = (i : ℕ) → Passes (get_or (kinds i) k (λ vs. refused 3) (drop 1 ws)) r

-- as node i, the words ws at place p begin with the body of a node of kind k, which ends at place next
pub record NodeRead (ws : List ℤ) (p i k next : ℕ) : Type 0 where
  pub it : Node
  pub reads : node i ws ≡ given (it, drop (width it) ws)
  pub ends : next ≡ p + width it
  pub inside : width it ≤ length ws
  pub kind_is : k ≡ kind_of it

-- the node whose body starts ws at place p; or the refusal. The number that the node has makes no difference
unfoldable pub NodeAt : List ℤ → ℕ → Answer (ReadNode × ℕ) Refusal → Type 0
unfolding node
NodeAt ws p (Ok (k, next)) = (i : ℕ) → NodeRead ws p i (kind_number k.kind) next
NodeAt ws p (Err n) = (i : ℕ) → node i ws ≡ refused (number_of n)
