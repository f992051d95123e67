-- `put::put` meets its contract: a truth value is answered, any other literal is put by its kind.
-- Assumes nothing.
use borrow.Author.Rules.{rules}
use lib.IntN.{pos}
use lib.ListN.{length, get_or}
use mathlib.Core.Path.{◌≡◌, refl, ap}
use Prim.Native.Nat.{◌+◌}
use native.Mathlib.Omega.{arith}
use mir.Syntax.{w32}
use mir.Val.{SFits}
use Rattle.tables.specs.Kinds.{number_of}
use Rattle.tables.specs.declared.kind.Kind.TheVariants as kind
use Rattle.rules.specs.Sum.{Sum}
use Rattle.builder.specs.Built.{compared, Countable}
use Rattle.builder.specs.declared.push.State.{State}
use Rattle.literals.proofs.KindNumbers.{other_number}
use Rattle.walks.proofs.PutLaws.{divisor_small, gives_value, gives_literal, node_is}
use Rattle.walks.proofs.PutLaws.{positive_test, zero_test, yes_test, no_test}
use Rattle.walks.proofs.put.put.Goals as goal

-- seven words of a sum, a divisor and a kind
nine : (s : Sum) (b : State) → length s ≡ 7 → Countable b 9 → Countable b (2 + length s)
nine s b seven room = record { words = omega (arith, seven, room.words); nodes = room.nodes }

pub returns-then-settles : goal.returns-then-settles
returns-then-settles c t ds m h =
    let fits : SFits w32 (get_or c.args.sum.now 0 (pos 0)) = search rules in
    gives_value _ _ ds _ t fits refl c.if-settles.true (c.settles.ensures t m) (c.truth.ensures t m) h

pub returns-in-Positive : goal.returns-in-Positive
unfolding compared number_of
returns-in-Positive c t ds m h =
    gives_literal _ _ ds _ t _ c.if-settles.false (c.settles.ensures t m)
    (node_is _ _ ds _ _ t (positive_test (ap number_of c.in-Positive.is) t m) (c.compared.ensures ds h))

pub returns-in-Zero : goal.returns-in-Zero
unfolding compared number_of
returns-in-Zero c t ds m h =
    gives_literal _ _ ds _ t _ c.if-settles.false (c.settles.ensures t m)
    (node_is _ _ ds _ _ t (zero_test (ap number_of c.in-Zero.is) t m) (c.compared-in-Zero.ensures ds h))

pub divided-requires : goal.divided-requires
unfolding number_of
divided-requires c =
    let six : number_of c.args.kind ≡ 6 = ap number_of c.in-Divisible.is in
    let pre = c.requires in
    (nine c.args.sum.now c.args.b pre.seven pre.countable, divisor_small c.requires.some (λ e. omega arith) (λ e. omega arith))

pub returns-in-Divisible : goal.returns-in-Divisible
unfolding number_of
returns-in-Divisible c t ds m h =
    gives_literal _ _ ds _ t _ c.if-settles.false (c.settles.ensures t m)
    (node_is _ _ ds _ _ t (yes_test (ap number_of c.in-Divisible.is) t m) (c.divided.ensures ds h))

pub divided-requires-in_default : goal.divided-requires-in_default
unfolding number_of
divided-requires-in_default c = (
  nine c.args.sum.now c.args.b c.requires.seven c.requires.countable,
  divisor_small c.requires.some (other_number _ kind.Positive c.in_default.not-Positive)
      (other_number _ kind.Zero c.in_default.not-Zero),
)

pub returns-in_default : goal.returns-in_default
unfolding number_of
returns-in_default c t ds m h =
    let n5 = other_number _ kind.Positive c.in_default.not-Positive in
    let n10 = other_number _ kind.Zero c.in_default.not-Zero in
    let n6 = other_number _ kind.Divisible c.in_default.not-Divisible in
    gives_literal _ _ ds _ t _ c.if-settles.false (c.settles.ensures t m)
    (node_is _ _ ds _ _ t (no_test n5 n10 n6 t m) (c.divided-in_default.ensures ds h))
