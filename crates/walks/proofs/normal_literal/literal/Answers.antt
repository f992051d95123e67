-- `normal_literal::literal` meets its contract: one or two tests are put, by the kind.
-- Assumes nothing.
use mathlib.Core.Path.{ap}
use native.Mathlib.Omega.{arith}
use borrow.Author.Rules.{sfits_of}
use Rattle.rules.specs.Calls.{words}
use Rattle.tables.specs.Kinds.{number_of}
use Rattle.tables.specs.declared.kind.Kind.TheVariants as kind
use Rattle.literals.proofs.KindNumbers.{read_signed, other_number, literal_kinded}
use Rattle.walks.proofs.LiteralLaws.{LiteralRead, literal_there, literal_words, positive_asks, positive_made}
use Rattle.walks.proofs.LiteralLaws.{some_zero, zero_put, divided_factor, divided_asks, divided_made}
use Rattle.walks.proofs.normal_literal.literal.Goals as goal
use Rattle.walks.proofs.normal_literal.literal.Goals.{After-natural-k, In_default}

pub at-kind-requires : goal.at-kind-requires
at-kind-requires c = literal_kinded (literal_there c.requires)

pub natural-k-requires : goal.natural-k-requires
natural-k-requires c = omega (arith, literal_words c.requires)

-- the kind and the divisor are read
read : (c : After-natural-k)
    → LiteralRead (words c.args.bodies.now) (number_of c.at-kind.result) c.natural-k.result
read c = record {
  kind_word = read_signed (words c.args.bodies.now) _ c.at-kind.ensures;
  divisor_word = c.natural-k.ensures.1;
}

pub test-requires : goal.test-requires
unfolding number_of
test-requires c =
    positive_asks (read (goal.at.test-requires c).After-natural-k) (ap number_of c.in-Positive.is) c.requires

pub returns-in-Positive : goal.returns-in-Positive
unfolding number_of
returns-in-Positive c =
    positive_made (read (goal.at.returns-in-Positive c).After-natural-k) (ap number_of c.in-Positive.is) _ _ _
    c.test.ensures

pub zero-requires : goal.zero-requires
unfolding number_of
zero-requires c = some_zero (read (goal.at.zero-requires c).After-natural-k) (ap number_of c.in-Zero.is) c.requires

pub returns-in-Zero : goal.returns-in-Zero
unfolding number_of
returns-in-Zero c =
    zero_put (read (goal.at.returns-in-Zero c).After-natural-k) (ap number_of c.in-Zero.is) _ _ _ c.zero.ensures

pub factor-minus-requires : goal.factor-minus-requires
unfolding number_of
factor-minus-requires c =
    divided_factor (read (goal.at.factor-minus-requires c).After-natural-k)
    (other_number _ kind.Positive c.in_default.not-Positive) (other_number _ kind.Zero c.in_default.not-Zero) c.requires

pub test-requires-in_default : goal.test-requires-in_default
unfolding number_of
test-requires-in_default c =
    divided_asks (read (goal.at.test-requires-in_default c).After-natural-k)
    (other_number _ kind.Positive c.in_default.not-Positive) (other_number _ kind.Zero c.in_default.not-Zero)
    c.args.plainly c.traded.ensures c.requires

pub returns-in_default : goal.returns-in_default
unfolding number_of
returns-in_default c =
    divided_made (read (goal.at.returns-in_default c).After-natural-k)
    (other_number _ kind.Positive c.in_default.not-Positive) (other_number _ kind.Zero c.in_default.not-Zero)
    c.args.plainly c.traded.ensures _ _ (sfits_of {z = c.factor-minus.result} c.factor-minus.type_inv)
    c.factor-minus.ensures c.test-in_default.ensures
