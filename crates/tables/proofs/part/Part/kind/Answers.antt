-- `Part::kind` meets its contract: a rule's bodies begin with the number of its root's kind.
-- Assumes nothing.
use Rattle.tables.proofs.RootKinds.{root_kinded, root_read}
use Rattle.tables.proofs.part.Part.kind.Goals as goal

pub at-requires : goal.at-requires
at-requires c = root_kinded c.requires.rule c.requires.at.stands

pub returns : goal.returns
returns c = λ a at. root_read _ a at.stands c.at.ensures
