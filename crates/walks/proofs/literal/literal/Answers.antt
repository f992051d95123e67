-- `literal::literal` meets its contract: a truth value of the far-left body, or the literal that is kept.
-- Assumes nothing.
use Rattle.walks.proofs.LeafLaws.{some_kept, gives_known, gives_kept}
use Rattle.walks.proofs.literal.literal.Goals as goal

pub kept-requires : goal.kept-requires
kept-requires c =
    let some = c.requires in
    some_kept some (c.far.ensures _ _ _ some.some.at) c.in-None.is

pub returns-in-Some : goal.returns-in-Some
returns-in-Some c = λ n t s ds l built.
    gives_known _ _ ds _ t s _ (c.far.ensures n t s l) c.in-Some.is built

pub returns-in-None : goal.returns-in-None
returns-in-None c = λ n t s ds l built.
    gives_kept _ _ ds _ t s _ _ (c.far.ensures n t s l) c.in-None.is
    (c.kept.ensures n t s ds l built)
