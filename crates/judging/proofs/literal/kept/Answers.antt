-- `literal::kept` meets its contract: divisor 1, a setting that is left, or a number for each k.
-- Assumes nothing.
use native.Mathlib.Omega.{arith}
use borrow.Author.Rules.{sfits_of}
use lib.IntN.{pos, ◌+ℤ◌, ◌*ℤ◌}
use lib.Signed.{nat_abs-le}
use mir.Syntax.{w64}
use Rattle.rules.specs.Rule.{passes}
use Rattle.tables.proofs.WordLaws.{words_length}
use Rattle.literals.proofs.Sizes.{again}
use Rattle.literals.proofs.Sizes as sizes
use Rattle.rules.specs.Calls.{words}
use Rattle.literals.proofs.KindNumbers.{literal_kinded, read_signed}
use Rattle.literals.proofs.Literals.{literal_long, literal_marked, passes_asks}
use Rattle.judging.proofs.SaidLaws.{says_throughout}
use Rattle.judging.proofs.LiteralLaws.{starts_inside, reach, varying_says, settled_says}
use Rattle.judging.proofs.literal.kept.Goals as goal

pub at-kind-requires : goal.at-kind-requires
at-kind-requires c = literal_kinded c.requires.literal

pub natural-k-requires : goal.natural-k-requires
natural-k-requires c = omega (arith, literal_long c.requires.literal)

pub returns-in-Some : goal.returns-in-Some
returns-in-Some c = λ n t s w k l shifted h.
    let first = read_signed (words c.args.b.now) c.at-kind.result c.at-kind.ensures in
    says_throughout (c.in-Some.ensures t (literal_marked t l first c.natural-k.ensures.1) _) c.known.ensures h

pub overflow_add-start : goal.overflow_add-start
overflow_add-start c =
    omega (
      arith,
      words_length c.args.b.now,
      c.requires.setting.1,
      starts_inside c.requires (read_signed (words c.args.b.now) c.at-kind.result c.at-kind.ensures) c.start-start.ensures,
    )

pub term-f-requires : goal.term-f-requires
term-f-requires c =
    omega (arith, c.requires.setting.1, starts_inside c.requires (read_signed (words c.args.b.now) c.at-kind.result c.at-kind.ensures) c.start-start.ensures)

pub varies-requires : goal.varies-requires
varies-requires c =
    reach c.requires (read_signed (words c.args.b.now) c.at-kind.result c.at-kind.ensures) c.start-start.ensures (sfits_of {z = c.term-f.result} c.term-f.type_inv)
    c.term-f.ensures.1

pub returns-then-varies : goal.returns-then-varies
returns-then-varies c = λ n t s w k l shifted h.
    let marked = literal_marked t l (read_signed (words c.args.b.now) c.at-kind.result c.at-kind.ensures) c.natural-k.ensures.1 in
    varying_says l (c.start-start.ensures t marked.same_kind) c.requires.setting shifted
    (sfits_of {z = c.term-f.result} c.term-f.type_inv) c.term-f.ensures.0 k c.varies.ensures
    c.if-varies.true (c.in_default.ensures t marked) (c.neither.ensures k)

pub moved-requires : goal.moved-requires
moved-requires c = (
  reach c.requires (read_signed (words c.args.b.now) c.at-kind.result c.at-kind.ensures) c.start-start.ensures
      (sfits_of {z = c.term-f.result} c.term-f.type_inv) c.term-f.ensures.1,
  omega arith,
)

pub passing-requires : goal.passing-requires
passing-requires c = (
  passes_asks c.requires.literal (read_signed (words c.args.b.now) c.at-kind.result c.at-kind.ensures) c.natural-k.ensures.1,
  again w64 (sfits_of {z = c.moved.result} c.moved.type_inv) c.moved.ensures.1,
  again w64 (sfits_of {z = c.term-f.result} c.term-f.type_inv)
      (nat_abs-le c.term-f.result c.term-f.ensures.1),
)

pub returns : goal.returns
returns c = λ n t s w k l shifted h.
    let marked = literal_marked t l (read_signed (words c.args.b.now) c.at-kind.result c.at-kind.ensures) c.natural-k.ensures.1 in
    settled_says l (c.start-start.ensures t marked.same_kind) c.requires.setting shifted
    (sfits_of {z = c.term-f.result} c.term-f.type_inv) c.term-f.ensures.0 k c.varies.ensures
    c.if-varies.false (sfits_of {z = c.moved.result} c.moved.type_inv) c.moved.ensures.0
    (c.settled.ensures
    (λ i. passes t (sizes.read c.moved.result +ℤ sizes.read c.term-f.result *ℤ pos i))
    (c.passing.ensures t marked))
    h
