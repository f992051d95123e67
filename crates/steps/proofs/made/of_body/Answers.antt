-- `made::of_body` meets its contract: each step's own function does.
-- Assumes nothing.
use Rattle.steps.proofs.StepLaws.{some_known, known_gives, factor_fair, some_disjoining, disjunction_gives}
use Rattle.steps.proofs.StepLaws.{truth_gives}
use Rattle.steps.proofs.made.of_body.Goals as goal

pub by_some-requires : goal.by_some-requires
by_some-requires c = some_known _ _ c.in-ForAll.is c.requires

pub normalled-requires : goal.normalled-requires
normalled-requires c = some_known _ _ c.in-NormalForm.is c.requires

pub scaled-requires : goal.scaled-requires
scaled-requires c =
    let is = c.in-CommonFactor.is in
    let (from, to) = factor_fair _ _ is c.requires in (some_known _ _ is c.requires, from, to)

pub disjunction-requires : goal.disjunction-requires
disjunction-requires c = some_disjoining _ _ _ c.in-Disjunction.is c.requires

pub returns-in-ForAll : goal.returns-in-ForAll
returns-in-ForAll c = λ a ds m. known_gives _ _ c.in-ForAll.is m _ _ (λ k. c.by_some.ensures a ds k.making)

pub returns-in-NormalForm : goal.returns-in-NormalForm
returns-in-NormalForm c = λ a ds m.
    known_gives _ _ c.in-NormalForm.is m _ _ (λ k. c.normalled.ensures a ds k.making)

pub returns-in-CommonFactor : goal.returns-in-CommonFactor
returns-in-CommonFactor c = λ a ds m.
    known_gives _ _ c.in-CommonFactor.is m _ _ (λ k. c.scaled.ensures a ds k.making)

pub returns-in-Disjunction : goal.returns-in-Disjunction
returns-in-Disjunction c = λ a ds m.
    known_gives _ _ c.in-Disjunction.is m _ _ (λ k. disjunction_gives k _ _ (c.disjunction.ensures a ds))

pub returns-in-Truth : goal.returns-in-Truth
returns-in-Truth c = λ a ds m. known_gives _ _ c.in-Truth.is m _ _ (truth_gives _)
