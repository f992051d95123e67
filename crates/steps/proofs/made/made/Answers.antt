-- `made::made` meets its contract: the setting is read, and the body stands behind the quantifier's two words.
-- Assumes nothing.
use Rattle.steps.proofs.StepLaws.{word_there, body_asks, fair_making, read_gives}
use Rattle.steps.proofs.made.made.Goals as goal

pub natural-x-requires : goal.natural-x-requires
natural-x-requires c = word_there c.args.part c.requires.making

pub behind-requires : goal.behind-requires
behind-requires c = body_asks c.args.part c.requires.making

pub of_body-requires : goal.of_body-requires
of_body-requires c =
    let some = c.requires in record {
      rule = some.body;
      tail = some.tail;
      fair_making = fair_making c.args.part some.making _ c.natural-x.ensures.1 c.behind.ensures;
    }

pub returns : goal.returns
returns c =
    let word = c.natural-x.ensures.1 in
    λ q x a ds m. read_gives c.args.part m _ word c.behind.ensures _ _
    (c.of_body.ensures a ds (fair_making c.args.part m _ word c.behind.ensures))
