-- `rebuild::first_here` meets its contract: the table's rule, folded, is closed in its own place.
-- Assumes nothing.
use mathlib.Core.Path.{sym}
use Rattle.rules.specs.Rule.{Rule}
use Rattle.rules.specs.Fold.{fold}
use Rattle.rules.specs.Calls.{words}
use Rattle.tables.proofs.WordLaws.{same_words}
use Rattle.elimination.specs.Stepping.{InPlace, Closing}
use Rattle.elimination.proofs.StepLaws.{answered}
use Rattle.elimination.proofs.RebuildLaws.{here_folding, here_ready, fold_closing, first_sized}
use Rattle.elimination.proofs.rebuild.first_here.Goals.{After-folded-folded}
use Rattle.elimination.proofs.rebuild.first_here.Goals as goal

-- it is closed
closing : (c : After-folded-folded) (r : Rule) → InPlace (words c.args.table.now) (words c.args.work.now) c.args.room r
    → Closing (words c.args.table.now) (words c.folded-folded.new.work) c.args.room c.folded-folded.result (fold r)
closing c r k =
    fold_closing _ _ k.has (here_ready k) (same_words _ _ c.folded-folded.auto.work)
    (c.folded-folded.ensures r (here_folding k))

pub folded-folded-requires : goal.folded-folded-requires
folded-folded-requires c =
    record { rule = _; folding = here_folding c.requires.ready }

pub closed-requires : goal.closed-requires
closed-requires c =
    record { rule = _; closing = closing (goal.at.closed-requires c).After-folded-folded _ c.requires.ready }

pub returns : goal.returns
returns c = λ r k.
    answered _ _ (sym (first_sized c.args.room r k.has.formed))
    (c.closed.ensures (fold r) (closing (goal.at.returns c).After-folded-folded r k))
