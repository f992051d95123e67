-- `step::normal_over` meets its contract: where no c is at the limit no number passes it, else the normal form tells.
-- Assumes nothing.
use mathlib.Core.Path.{sym, ◌∙◌}
use mathlib.Core.Bool.{true}
use mathlib.Core.List.{[]}
use Rattle.elimination.proofs.PlacedLaws.{placed, the_place, some_chosen, formed, the_body, some_body}
use Rattle.elimination.proofs.NormalLaws.{normal_asks, passes}
use Rattle.elimination.proofs.NormalNumbers.{normal_far}
use Rattle.elimination.proofs.step.normal_over.Goals as goal

pub body-body-requires : goal.body-body-requires
body-body-requires c = some_chosen (the_place c.requires.1)

pub some_at_limit-requires : goal.some_at_limit-requires
some_at_limit-requires c = let p = the_place c.requires.1 in some_body p (c.body-body.ensures _ _ _ _ p.there)

pub returns-then-not-some_at_limit : goal.returns-then-not-some_at_limit
returns-then-not-some_at_limit c = λ room r ready at.
    let p = placed ready at in
    let body = the_body p (c.body-body.ensures _ _ _ _ p.there) in
    let far = sym (c.some_at_limit.ensures _ _ body) ∙ c.if-not-some_at_limit.true in
    sym (normal_far true _ _ (formed p) far)

pub plain-requires : goal.plain-requires
plain-requires c =
    let p = the_place c.requires.1 in
    record {
      rule = p.body;
      tail = [];
      ready = normal_asks p (c.body-body.ensures _ _ _ _ p.there) _ c.start.ensures;
    }

pub returns : goal.returns
returns c = λ room r ready at.
    let p = placed ready at in
    passes _ _ _ _ _ (c.plain.ensures _ _ (normal_asks p (c.body-body.ensures _ _ _ _ p.there) _ c.start.ensures))
    c.is_none.ensures
