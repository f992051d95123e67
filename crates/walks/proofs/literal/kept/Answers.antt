-- `literal::kept` meets its contract: the kind stays, the divisor and the words are the changed ones.
-- Assumes nothing.
use Rattle.literals.proofs.KindNumbers.{read_signed, literal_kinded}
use Rattle.walks.proofs.LeafLaws.{puttable, gives_changed, marked}
use Rattle.literals.specs.Changes.{change_of}
use Rattle.rules.specs.Calls.{words}
use Rattle.walks.proofs.literal.kept.Goals as goal

pub at-kind-requires : goal.at-kind-requires
at-kind-requires c = literal_kinded c.requires.some

pub sum-sum-requires : goal.sum-sum-requires
sum-sum-requires c =
    let some = c.requires in
    record { literal = some.some; usable = some.usable; within = some.within }

pub put-requires : goal.put-requires
put-requires c =
    let some = c.requires in
    puttable some (read_signed (words c.args.bodies.now) _ c.at-kind.ensures) (c.divisor-k.ensures _ _ _ some.some.at)
    (c.sum-sum.ensures _ _ _ some.some.at)

pub returns : goal.returns
returns c = λ n t s ds l built.
    let change = change_of c.args.change in
    gives_changed _ _ ds _ _ (c.sum-sum.ensures n t s l)
    (c.put.ensures _ ds
    (marked change l (read_signed (words c.args.bodies.now) _ c.at-kind.ensures) (c.divisor-k.ensures n t s l)) built)
