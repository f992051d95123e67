-- `rebuild::first` meets its contract: the input's rule, folded, is closed.
-- Assumes nothing.
use mathlib.Core.Path.{◌≡◌, sym}
use Rattle.rules.specs.Rule.{Rule}
use Rattle.rules.specs.Result.{given}
use Rattle.rules.specs.Fold.{fold}
use Rattle.rules.specs.Calls.{words, rule_of}
use Rattle.tables.proofs.WordLaws.{same_words}
use Rattle.elimination.specs.Stepping.{Closing}
use Rattle.elimination.proofs.StepLaws.{answered}
use Rattle.elimination.proofs.RebuildLaws.{input_folding, fold_closing, first_sized}
use Rattle.elimination.proofs.rebuild.first.Goals.{After-folded-folded}
use Rattle.elimination.proofs.rebuild.first.Goals as goal

-- it is closed
closing : (c : After-folded-folded) (r : Rule) → rule_of c.args.input.now ≡ given r
    → Closing (words c.args.table.now) (words c.folded-folded.new.work) c.args.room c.folded-folded.result (fold r)
closing c r decodes =
    let k = input_folding _ decodes c.requires.1 in
    fold_closing _ _ k.has c.requires.1 (same_words _ _ c.folded-folded.auto.work) (c.folded-folded.ensures r k)

pub folded-folded-requires : goal.folded-folded-requires
folded-folded-requires c = record { rule = _; folding = input_folding _ c.requires.0.decodes c.requires.1 }

pub closed-requires : goal.closed-requires
closed-requires c =
    record { rule = _; closing = closing (goal.at.closed-requires c).After-folded-folded _ c.requires.0.decodes }

pub returns : goal.returns
returns c = λ r decodes.
    let formed = (input_folding _ decodes c.requires.1).has.formed in
    answered _ _ (sym (first_sized c.args.room r formed))
    (c.closed.ensures (fold r) (closing (goal.at.returns c).After-folded-folded r decodes))
