-- `reading::within_limit` meets its contract: of 32 bits the lowest number alone lies outside.
-- Assumes nothing.
use Rattle.std.proofs.Common.{ℕ, ◌-◌, pos, get_or, refl, ◌∙◌}
use Rattle.std.proofs.lemmas.Iterator.{YieldsList-from_range}
use Rattle.std.proofs.lemmas.Iterator.Search.{all_from_yields_List}
use borrow.Author.Tests.{tests}
use borrow.Author.Rules.{rules}
use Rattle.whole.specs.Integers.{within}
use Rattle.rules.specs.Sum.{limit}
use Rattle.rules.specs.Calls.{words}
use Rattle.tables.proofs.Fields.{all_seen}
use Rattle.tables.proofs.reading.within_limit.Goals as goal

pub returns : goal.returns
returns c =
    all_from_yields_List (λ (i : ℕ). within limit (get_or (words c.args.b.now) i (pos 0))) _ _ _ c.all.ensures.ran
    (YieldsList-from_range c.args.from c.args.to (c.args.to - c.args.from) refl refl)
    (λ x b q k. search (rules, tests))
    ∙ all_seen _ _ _ _ refl c.requires
