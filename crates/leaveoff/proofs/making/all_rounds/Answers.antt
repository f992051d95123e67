-- `making::all_rounds` meets its contract: word 0 is the number of nodes, and so many rounds are enough.
-- Assumes nothing.
use Rattle.elimination.proofs.TableLaws.{word_there}
use Rattle.leaveoff.proofs.FirstLaws.{rounds_for_all}
use Rattle.leaveoff.proofs.making.all_rounds.Goals as goal

pub natural-most-requires : goal.natural-most-requires
natural-most-requires c = word_there c.requires.ready.has

pub rounds-requires : goal.rounds-requires
rounds-requires c = c.requires

pub returns : goal.returns
returns c = λ f ready.
    rounds_for_all ready c.natural-most.result c.natural-most.ensures.1 _ _
    (c.rounds.ensures f ready)
