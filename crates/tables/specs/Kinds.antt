-- The paper's number of each kind, and the kind of a rule's root.
-- Assumes nothing.
use Rattle.std.specs.Prelude.{◌≡◌, true, false, List, ℕ, ◌<◌, ℤ, pos, length, get_or, Ok, Err}
use Rattle.std.specs.Prelude.{Result as Answer}
use Rattle.rules.specs.Rule.{Junction, and, or, Quantifier, for_some, for_all, Test, positive, divisible, is_zero}
use Rattle.rules.specs.Rule.{Rule, Constant, Join, Literal, Bind}
use Rattle.rules.specs.Rule as rule
use Rattle.tables.specs.declared.refusal.Refusal.{Refusal}
use Rattle.tables.specs.declared.refusal.Refusal.TheVariants as refusal
use Rattle.tables.specs.declared.kind.Kind.{Kind}
use Rattle.tables.specs.declared.kind.Kind.TheVariants.{False, True, And, Or, Not, Positive, Divisible, Indivisible}
use Rattle.tables.specs.declared.kind.Kind.TheVariants.{ForSome, ForAll, Zero}

unfoldable pub number_of : Kind → ℕ
number_of False = 0
number_of True = 1
number_of And = 2
number_of Or = 3
number_of Not = 4
number_of Positive = 5
number_of Divisible = 6
number_of Indivisible = 7
number_of ForSome = 8
number_of ForAll = 9
number_of Zero = 10

-- word i is the number of a kind
pub record Kinded (ws : List ℤ) (i : ℕ) : Type 0 where
  pub there : i < length ws
  pub kind : Kind
  pub numbered : get_or ws i (pos 0) ≡ pos (number_of kind)

-- the kind of a number; or no kind has it, and it is refused by 3
unfoldable pub KindFrom : ℕ → Answer Kind Refusal → Type 0
KindFrom n (Ok k) = n ≡ number_of k
KindFrom n (Err r) = ((k : Kind) → ¬ (n ≡ number_of k)) × (r ≡ refusal.Node)

-- ---- the kind of a rule's root

unfoldable pub join_kind : Junction → Kind
join_kind and = And
join_kind or = Or

unfoldable pub test_kind : Test → Kind
test_kind positive = Positive
test_kind (divisible true k) = Divisible
test_kind (divisible false k) = Indivisible
test_kind is_zero = Zero

unfoldable pub bind_kind : Quantifier → Kind
bind_kind for_some = ForSome
bind_kind for_all = ForAll

unfoldable pub kind_of : Rule → Kind
unfolding join_kind test_kind bind_kind
kind_of (Constant false) = False
kind_of (Constant true) = True
kind_of (Join j a b) = join_kind j
kind_of (rule.Not a) = Not
kind_of (Literal t s) = test_kind t
kind_of (Bind q v a) = bind_kind q
