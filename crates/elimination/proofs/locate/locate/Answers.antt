-- `locate::locate` meets its contract: the search found none, or the chosen quantifier, whose words are read.
-- Assumes nothing.
use native.Mathlib.Omega.{arith}
use Rattle.rules.specs.Rule.{Rule}
use Rattle.rules.specs.Calls.{words}
use Rattle.elimination.specs.Stepping.{HasTable}
use Rattle.elimination.proofs.TableLaws.{word_there, counted}
use Rattle.elimination.proofs.LocateLaws.{body_there, kinded, kind_read, found_none, Somewhere, found_there, locates}
use Rattle.elimination.proofs.locate.locate.Goals.{In_ok-node}
use Rattle.elimination.proofs.locate.locate.Goals as goal

-- where it is
somewhere : (c : In_ok-node) (r : Rule) → HasTable (words c.args.table.now) r
    → Somewhere (words c.args.table.now) r c.in_ok-node.field-0.node c.in_ok-node.field-0.place
somewhere c r has =
    found_there has (c.in_ok-node.ensures r has.table (counted has _ c.natural.ensures.1))

the_place : (c : In_ok-node)
    → Somewhere (words c.args.table.now) c.requires.rule c.in_ok-node.field-0.node c.in_ok-node.field-0.place
the_place c = somewhere c c.requires.rule c.requires.has

pub natural-requires : goal.natural-requires
natural-requires c = word_there c.requires.has

pub last-requires : goal.last-requires
last-requires c =
    let has = c.requires.has in
    (_, has.table, counted has _ c.natural.ensures.1)

pub returns-in_err-node : goal.returns-in_err-node
returns-in_err-node c = λ r has.
    rw c.from_residual.ensures (found_none r (c.in_err-node.ensures r has.table (counted has _ c.natural.ensures.1)))

pub body-requires : goal.body-requires
body-requires c =
    let w = the_place (goal.at.body-requires c).In_ok-node in
    record { rule = _; quantifier = _; setting = _; body = _; there = w.there }

pub extent-extent-requires : goal.extent-extent-requires
extent-extent-requires c =
    let w = the_place (goal.at.extent-extent-requires c).In_ok-node in
    record { rule = _; at = (c.body.ensures _ _ _ _ w.there).at }

pub at-requires : goal.at-requires
at-requires c = kinded (the_place (goal.at.at-requires c).In_ok-node).there

pub overflow_add-place : goal.overflow_add-place
overflow_add-place c =
    let k = (the_place (goal.at.overflow_add-place c).In_ok-node).there in
    omega (arith, body_there k, k.has.few)

pub natural-requires-2 : goal.natural-requires-2
natural-requires-2 c = omega (arith, body_there (the_place (goal.at.natural-requires-2 c).In_ok-node).there)

pub returns : goal.returns
returns c = λ r has.
    let w = somewhere (goal.at.returns c).In_ok-node r has in
    let some = c.for_some.ensures w.quantifier (kind_read w.there c.at.result c.at.ensures) in
    let long = c.extent-extent.ensures w.body (c.body.ensures _ _ _ _ w.there).at in
    locates c.natural-2.result c.extent-extent.result.words w some c.natural-2.ensures.1 long.1
