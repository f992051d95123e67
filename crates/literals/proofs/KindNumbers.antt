-- The kind of a literal, read as a kind and as its number.
-- Assumes nothing.
use Rattle.std.proofs.Common.{◌≡◌, ◌<◌, List, ℕ, ℤ, pos, length, get_or, true, false, refl, ◌∙◌, arith}
use Rattle.rules.specs.Sum.{Sum}
use Rattle.rules.specs.Rule.{Test, positive, divisible, is_zero}
use Rattle.rules.specs.Calls.{signed}
use Rattle.tables.specs.Kinds.{number_of, Kinded, test_kind}
use Rattle.tables.specs.Reads as reads
use Rattle.tables.specs.declared.kind.Kind.{Kind}
use Rattle.tables.specs.declared.kind.Kind.TheVariants as kind
use Rattle.tables.proofs.RootKinds.{same_kind}
use Rattle.literals.specs.Literal.{LiteralAt, SomeLiteral}
use Rattle.literals.proofs.Literals.{literal_kind, literal_long, kind_read}

-- no two kinds have one number
pub other_number : (k l : Kind) → ¬ (k ≡ l) → ¬ (number_of k ≡ number_of l)
other_number k l n e = n (same_kind k l e)

pub number_signed : (k : Kind) → pos (number_of k) ≡ signed (number_of k)
unfolding number_of
number_signed kind.False = refl
number_signed kind.True = refl
number_signed kind.And = refl
number_signed kind.Or = refl
number_signed kind.Not = refl
number_signed kind.Positive = refl
number_signed kind.Divisible = refl
number_signed kind.Indivisible = refl
number_signed kind.ForSome = refl
number_signed kind.ForAll = refl
number_signed kind.Zero = refl

-- the number as it is read elsewhere
pub read_signed : (ws : List ℤ) (k : Kind) → get_or ws 0 (pos 0) ≡ pos (number_of k)
    → get_or ws 0 (pos 0) ≡ signed (number_of k)
read_signed ws k e = e ∙ number_signed k

test_number : (t : Test) → reads.test_kind t ≡ number_of (test_kind t)
unfolding number_of test_kind
test_number positive = refl
test_number (divisible true k) = refl
test_number (divisible false k) = refl
test_number is_zero = refl

-- the kind that is read is the literal's
pub kind_is : {ws : List ℤ} {n : ℕ} {t : Test} {s : Sum} (k : Kind) → LiteralAt ws n t s
    → get_or ws 0 (pos 0) ≡ pos (number_of k) → number_of k ≡ reads.test_kind t
kind_is {ws} {t = t} k l e = kind_read t l (read_signed ws k e)

pub literal_kinded : {ws : List ℤ} → SomeLiteral ws → Kinded ws 0
literal_kinded {ws} h =
    let long : 0 < length ws = omega (arith, literal_long h) in
    record {
      there = long;
      kind = test_kind h.test;
      numbered = literal_kind h.test h.at ∙ cc (test_number h.test);
    }
