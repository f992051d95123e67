-- `rounds::rounds` meets its contract: the rounds that are left, from the rule that the last one gave, are all of them.
-- Assumes nothing.
use mathlib.Core.Path.{◌≡◌}
use Prim.Native.Nat.{suc, ◌+◌, ◌-◌}
use native.Mathlib.Omega.{arith}
use Rattle.std.proofs.lemmas.Result.{err_from_is_err_and}
use Rattle.tables.proofs.WordLaws.{same_words}
use Rattle.elimination.proofs.StepLaws.{nowhere}
use Rattle.elimination.proofs.RoundLaws.{there, going_first, going_located, going_table, rounds_over, rounds_end}
use Rattle.elimination.proofs.RoundLaws.{round_ended, going_on}
use Rattle.elimination.proofs.rounds.rounds.Goals.{In-loop}
use Rattle.elimination.proofs.rounds.rounds.Goals as goal

-- a round is left, and so many after it
one_left : (c : In-loop) → c.args.most - c.loop.counter ≡ suc (c.args.most - (c.loop.counter + 1))
one_left c = omega (arith, c.loop-test.true)

pub loop-init : goal.loop-init
loop-init c = λ r ready. going_first _ r (let e : c.args.most ≡ c.args.most - 0 = omega arith in e) ready

pub locate-requires : goal.locate-requires
locate-requires c = going_table (c.loop.invariant c.requires.rule c.requires.ready)

pub returns-in_default : goal.returns-in_default
returns-in_default c = λ r ready.
    let going = c.loop.invariant r ready in
    rounds_end going _ (one_left (goal.at.returns-in_default c).In-loop)
    (nowhere going.rule (c.in_default.ensures going.rule going.ready.has))

pub round-requires : goal.round-requires
round-requires c =
    let going = c.loop.invariant c.requires.rule c.requires.ready in
    going_located going (there going.rule (c.in-Some.ensures going.rule going.ready.has))

pub returns-in_err-round : goal.returns-in_err-round
returns-in_err-round c = λ r ready.
    let going = c.loop.invariant r ready in
    let at = there going.rule (c.in-Some.ensures going.rule going.ready.has) in
    let p = err_from_is_err_and c.from_residual.result c.from_residual.ensures.1 in
    rw (p.1, p.2) (round_ended going _ (one_left (goal.at.returns-in_err-round c).In-loop) at _ _
    (c.in_err-round.ensures going.rule going.ready at))

pub loop-preserved : goal.loop-preserved
loop-preserved c = λ r ready.
    let going = c.loop.invariant r ready in
    let at = there going.rule (c.in-Some.ensures going.rule going.ready.has) in
    going_on going _ (one_left (goal.at.loop-preserved c).In-loop) at _ _
    (c.in_ok-round.ensures going.rule going.ready at)
    (same_words _ _ c.round.auto.table) (same_words _ _ c.round.auto.work)

pub returns : goal.returns
returns c = λ r ready. rounds_over (c.loop.invariant r ready) (omega (arith, c.loop-test.false))
