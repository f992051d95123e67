-- `rebuild::rebuilt` meets its contract: the walk around the chosen quantifier answers the new rule, which is closed.
-- Assumes nothing.
use Prim.Native.Nat.{ℕ}
use Rattle.rules.specs.Rule.{Quantifier, Rule}
use Rattle.rules.specs.Fold.{fold}
use Rattle.rules.specs.Chosen.{replace}
use Rattle.rules.specs.Calls.{words}
use Rattle.tables.proofs.WordLaws.{same_words}
use Rattle.steps.specs.Making.{new_of}
use Rattle.elimination.specs.Stepping.{Rebuilding, Closing}
use Rattle.elimination.proofs.RebuildLaws.{around_asks, rebuilt_closing}
use Rattle.elimination.proofs.rebuild.rebuilt.Goals.{After-around-folded}
use Rattle.elimination.proofs.rebuild.rebuilt.Goals as goal

-- what the walk answers is closed
closing : (c : After-around-folded) (r : Rule) (q : Quantifier) (x : ℕ) (a : Rule)
    → Rebuilding (words c.args.table.now) (words c.args.work.now) c.args.room c.args.chosen c.args.step r q x a
    → Closing (words c.args.table.now) (words c.around-folded.new.out) c.args.room c.around-folded.result
    (fold (replace (new_of c.args.step x a) r))
closing c r q x a k =
    let w = c.rule.ensures r k.ready.has in
    rebuilt_closing k c.start.result _ _ (same_words _ _ c.around-folded.auto.out)
    (c.around-folded.ensures r q x a _ (around_asks w k c.start.ensures))

pub rule-requires : goal.rule-requires
rule-requires c = record { rule = _; has = c.requires.rebuilding.ready.has }

pub around-folded-requires : goal.around-folded-requires
around-folded-requires c =
    let k = c.requires.rebuilding in
    record {
      rule = _;
      quantifier = _;
      setting = _;
      body = _;
      tail = _;
      around = around_asks (c.rule.ensures _ k.ready.has) k c.start.ensures;
    }

pub closed-requires : goal.closed-requires
closed-requires c =
    let built = (goal.at.closed-requires c).After-around-folded in
    record { rule = _; closing = closing built _ _ _ _ c.requires.rebuilding }

pub returns : goal.returns
returns c = λ r q x a k. c.closed.ensures _ (closing (goal.at.returns c).After-around-folded r q x a k)
