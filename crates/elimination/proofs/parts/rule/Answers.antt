-- `parts::rule` meets its contract: the part behind word 0, whose bodies stand behind as many entries as word 0 says.
-- Assumes nothing.
use Rattle.elimination.proofs.TableLaws.{word_there, counted, whole_inside, whole_in}
use Rattle.elimination.proofs.parts.rule.Goals as goal

pub natural-requires : goal.natural-requires
natural-requires c = word_there c.requires.has

pub at-requires : goal.at-requires
at-requires c =
    let has = c.requires.has in
    (word_there has, (whole_inside has _ (counted has _ c.natural.ensures.1)).0, has.few)

pub returns : goal.returns
returns c = λ r has. whole_in has _ (counted has _ c.natural.ensures.1) c.at.ensures
