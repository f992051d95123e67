-- What is proved of the definitions, each law as a readable type; its proof in proofs/ has the law's name in small
-- letters.
-- Assumes nothing.
use Rattle.std.specs.Prelude.{◌≡◌, ◌↔◌, ◌⊎◌, Bool, false, not, ◌&&◌, ◌||◌, List, ℕ, ◌≤◌, ◌<◌, T, eqb, ℤ, pos, nat_abs, length}
use Rattle.whole.specs.Divides.{Divides}
use Rattle.rules.specs.Sum.{Sum, Choice, with, factor, has, limit, all_within}
use Rattle.rules.specs.Rule.{Quantifier, Test, positive, divisible, is_zero}
use Rattle.rules.specs.Rule.{Rule, Constant, Join, Not, Literal, Bind, True, False, Some, All, Whether, Holds}
use Rattle.rules.specs.Result.{given}
use Rattle.rules.specs.Table.{most_words, encode, size, is_setting, is_divisor}
use Rattle.rules.specs.Decode.{decode}
use Rattle.rules.specs.Fold.{fold}
use Rattle.rules.specs.Chosen.{the, chosen, quantifiers, replace}
use Rattle.rules.specs.Steps.{by_some, normal, common_factor, scaled, period, disjunction}
use Rattle.rules.specs.Eliminate.{eliminate}
use Rattle.rules.specs.LeaveOff.{leave_off}
use Rattle.rules.specs.Match.{holds, choice, matching}
use Rattle.rules.specs.Answer.{occurs}
use Rattle.rules.specs.Calls.{Outcome, eliminated, left_off}

-- ---- words that the laws use

-- two rules hold at the same choices
abbrev pub Same : Rule → Rule → Type 0
Same a b = (ρ : Choice) → Holds a ρ ↔ Holds b ρ

abbrev pub QuantifierFree : Rule → Type 0
QuantifierFree a = quantifiers a ≡ 0

-- the divisor of a test, where it has one, is as Q says
abbrev pub DivisorOf : (ℕ → Type 0) → Test → Type 0
DivisorOf Q positive = Unit {0}
DivisorOf Q (divisible b k) = Q k
DivisorOf Q is_zero = Unit {0}

abbrev pub PositiveDivisor : Test → Sum → Type 0
PositiveDivisor t s = DivisorOf (λ k. 0 < k) t

-- every quantifier's setting is 1 to 6, and every literal is as Q says
unfoldable pub Each : (Test → Sum → Type 0) → Rule → Type 0
Each Q (Constant b) = Unit {0}
Each Q (Join j a b) = Each Q a × Each Q b
Each Q (Not a) = Each Q a
Each Q (Literal t s) = Q t s
Each Q (Bind q v a) = T (is_setting (pos v)) × Each Q a

-- seven words within the limit, a divisor from 1 to the limit: what a table can hold
abbrev pub InTable : Test → Sum → Type 0
InTable t s = (length s ≡ 7) × T (all_within limit s) × DivisorOf (λ k. T (is_divisor (pos k))) t

abbrev pub WellFormed : Rule → Type 0
WellFormed a = Each InTable a

-- no not and no quantifier, and every literal is as Q says
unfoldable pub Normal : (Test → Sum → Type 0) → Rule → Type 0
Normal Q (Constant b) = Unit {0}
Normal Q (Join j a b) = Normal Q a × Normal Q b
Normal Q (Not a) = ⊥
Normal Q (Literal t s) = Q t s
Normal Q (Bind q v a) = ⊥

-- what step 1 leaves: no T = 0
abbrev pub NoZero : Test → Sum → Type 0
NoZero positive s = Unit {0}
NoZero (divisible b k) s = Unit {0}
NoZero is_zero s = ⊥

-- what step 2 leaves: in 0 < T the factor of x is 1, −1 or 0
abbrev pub UnitFactor : ℕ → Test → Sum → Type 0
UnitFactor x positive s = nat_abs (factor x s) ≤ 1
UnitFactor x (divisible b k) s = Unit {0}
UnitFactor x is_zero s = ⊥

-- P is a multiple of the divisor of a literal that has x
abbrev pub Periodic : ℕ → ℕ → Test → Sum → Type 0
Periodic P x positive s = Unit {0}
Periodic P x (divisible b k) s = (factor x s ≡ pos 0) ⊎ Divides k (pos P)
Periodic P x is_zero s = Unit {0}

-- ---- tables

abbrev pub DecodeEncode : Type 0
DecodeEncode = (r : Rule) → WellFormed r → size r ≤ most_words → decode (encode r) ≡ given r

abbrev pub EncodeDecode : Type 0
EncodeDecode = (ws : List ℤ) (r : Rule) → decode ws ≡ given r → (ws ≡ encode r) × WellFormed r

-- ---- folding, matching and the steps keep meaning

abbrev pub FoldKeeps : Type 0
FoldKeeps = (a : Rule) → Same (fold a) a

abbrev pub HoldsDecides : Type 0
HoldsDecides = (a : Rule) (ρ : Choice) → QuantifierFree a → T (holds a ρ) ↔ Holds a ρ

abbrev pub MatchingRight : Type 0
MatchingRight = (vs : List ℤ) (a : Rule) (b : Bool) → matching vs a ≡ given b → T b ↔ Holds a (choice vs)

-- what has the meaning of the chosen quantifier may take its place
abbrev pub ReplaceKeeps : Type 0
ReplaceKeeps = (new r : Rule) (q : Quantifier) (x : ℕ) (a : Rule)
    → chosen r ≡ the q x a → Same new (Bind q x a) → Same (replace new r) r

abbrev pub ForAllKeeps : Type 0
ForAllKeeps = (x : ℕ) (a : Rule) → QuantifierFree a → Same (by_some x a) (All x a)

abbrev pub NormalKeeps : Type 0
NormalKeeps = (plainly : Bool) (x : ℕ) (a : Rule) → QuantifierFree a
    → (ρ : Choice) → Holds (normal plainly x a) ρ ↔ Whether plainly (Holds a ρ)

abbrev pub CommonFactorKeeps : Type 0
CommonFactorKeeps = (x : ℕ) (a : Rule) → 1 ≤ x → Normal NoZero a
    → Same (Some x (scaled (common_factor x a) x a)) (Some x a)

-- Cooper's theorem, over any positive multiple P of the divisors that stand with x
abbrev pub CooperTheorem : Type 0
CooperTheorem = (P x : ℕ) (a : Rule) → 1 ≤ x → 0 < P → Normal (UnitFactor x) a → Normal (Periodic P x) a
    → Same (disjunction P x a) (Some x a)

abbrev pub DisjunctionKeeps : Type 0
DisjunctionKeeps = (x : ℕ) (a : Rule) → 1 ≤ x → Normal (UnitFactor x) a → Each PositiveDivisor a
    → Same (disjunction (period a) x a) (Some x a)

-- ---- elimination is sound

-- "is free where no quantifier around that literal binds it"
unfoldable pub free : ℕ → Rule → Bool
free v (Constant b) = false
free v (Join j a b) = free v a || free v b
free v (Not a) = free v a
free v (Literal t s) = has v s
free v (Bind q w a) = not (eqb v w) && free v a

pub record Eliminated (room : ℕ) (a f : Rule) : Type 0 where
  pub none_remains : QuantifierFree f
  pub only_free : (v : ℕ) → 1 ≤ v → T (occurs v f) → T (free v a)
  pub means : Same f a
  pub formed : WellFormed f
  pub fits : size f ≤ room

abbrev pub Sound : Type 0
Sound = (room : ℕ) (a f : Rule) → WellFormed a → eliminate room a ≡ given f → Eliminated room a f

-- a rule in which nothing is free is answered true or false, rightly
abbrev pub Closed : Rule → Type 0
Closed a = (v : ℕ) → 1 ≤ v → T (not (free v a))

abbrev pub Verdict : Rule → Type 0 → Type 0 → Type 0
Verdict f Yes No = ((f ≡ True) × Yes) ⊎ ((f ≡ False) × No)

abbrev pub ClosedRight : Type 0
ClosedRight = (room : ℕ) (a f : Rule) → WellFormed a → Closed a → eliminate room a ≡ given f
    → Verdict f ((ρ : Choice) → Holds a ρ) ((ρ : Choice) → ¬ Holds a ρ)

-- ---- every rule is decided, by the steps without limits

abbrev pub Decided : Type 0
Decided = (a : Rule) → WellFormed a → (ρ : Choice) → Dec (Holds a ρ)

-- ---- the leave-off test is right in both verdicts

-- two choices that differ in v alone are treated differently
abbrev pub Matters : ℕ → Rule → Type 0
Matters v a = (ρ : Choice) × (x : ℤ) × (y : ℤ) × Holds a (with v x ρ) × (¬ Holds a (with v y ρ))

-- no two such choices are
abbrev pub MayGo : ℕ → Rule → Type 0
MayGo v a = (ρ : Choice) (x y : ℤ) → Holds a (with v x ρ) ↔ Holds a (with v y ρ)

abbrev pub LeaveOffRight : Type 0
LeaveOffRight = (room : ℕ) (v : ℤ) (a f : Rule) → WellFormed a → leave_off room v a ≡ given f
    → Verdict f (Matters (nat_abs v) a) (MayGo (nat_abs v) a)

-- ---- the outcome of a call fills the lent buffers exactly

abbrev pub Fills : ℕ → ℕ → Outcome → Type 0
Fills out work o = (length o.output ≡ out) × (length o.work ≡ work)

abbrev pub EliminatedFills : Type 0
EliminatedFills = (table : List ℕ) (out work : ℕ) → Fills out work (eliminated table out work)

abbrev pub LeftOffFills : Type 0
LeftOffFills = (table : List ℕ) (v : ℤ) (out work : ℕ) → Fills out work (left_off table v out work)
