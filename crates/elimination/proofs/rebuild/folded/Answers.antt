-- `rebuild::folded` meets its contract: the walk that folds, with nothing changed, answers the rule, folded.
-- Assumes nothing.
use Rattle.elimination.proofs.RebuildLaws.{fold_asks, fold_gives}
use Rattle.elimination.proofs.rebuild.folded.Goals as goal

pub rule-requires : goal.rule-requires
rule-requires c = record { rule = _; has = c.requires.folding.has }

pub fold-requires : goal.fold-requires
fold-requires c =
    let k = c.requires.folding in
    record { rule = _; tail = _; ready = fold_asks k (c.rule.ensures _ k.has) c.start.ensures }

pub returns : goal.returns
returns c = λ r k.
    fold_gives _ c.start.result r _ (c.fold.ensures r _ (fold_asks k (c.rule.ensures r k.has) c.start.ensures))
