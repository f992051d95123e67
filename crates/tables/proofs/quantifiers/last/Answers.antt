-- `quantifiers::last` meets its contract: the last quantifier is among the nodes that the search has not come to.
-- Assumes nothing.
use Rattle.std.proofs.Common.{◌≡◌, ℕ, ◌+◌, ◌-◌, arith, sym, ap, ◌∙◌, subst, get_or, pos}
use Rattle.rules.specs.Calls.{words, signed}
use Rattle.tables.proofs.LastLaws.{Sought, search_begins, entry_inside, body_kinded}
use Rattle.tables.proofs.LastLaws.{one_found, search_on, none_found}
use Rattle.tables.proofs.quantifiers.last.Goals as goal
use Rattle.tables.proofs.quantifiers.last.Goals.{After-natural-place}

-- the entry that is read is that of node i − 1
entry : (c : After-natural-place) → get_or (words c.args.t.now) c.loop-i.i (pos 0) ≡ signed c.natural-place.result
entry c =
    let same : c.loop-i.i ≡ c.loop-i.i - 1 + 1 = omega arith in
    ap (λ (k : ℕ). get_or (words c.args.t.now) k (pos 0)) same ∙ c.natural-place.ensures.1

pub loop-i-init : goal.loop-i-init
loop-i-init c = λ r at e. search_begins e

pub natural-place-requires : goal.natural-place-requires
natural-place-requires c =
    let (r, at, e) = c.requires in
    omega (arith, entry_inside at (c.loop-i.invariant r at e) c.loop-i-test.true)

pub at-requires : goal.at-requires
at-requires c =
    let (r, at, e) = c.requires in
    body_kinded at (c.loop-i.invariant r at e) c.loop-i-test.true _ (entry (goal.at.at-requires c).After-natural-place)

pub returns-then-binds : goal.returns-then-binds
returns-then-binds c = λ r at e.
    one_found at (c.loop-i.invariant r at e) c.loop-i-test.true _
    (entry (goal.at.returns-then-binds c).After-natural-place)
    _ c.at.ensures _ (omega arith) (sym c.binds.ensures ∙ c.if-binds.true)

pub loop-i-preserved : goal.loop-i-preserved
loop-i-preserved c = λ r at e.
    search_on at (c.loop-i.invariant r at e) c.loop-i-test.true _
    (entry (goal.at.loop-i-preserved c).After-natural-place)
    _ c.at.ensures _ (omega arith) (sym c.binds.ensures ∙ c.if-binds.false)

pub returns : goal.returns
returns c = λ r at e. none_found (subst (λ (i : ℕ). Sought i r) (omega arith) (c.loop-i.invariant r at e))
