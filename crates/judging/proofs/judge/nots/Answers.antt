-- `judge::nots` meets its contract: so far as they were passed, there are nots.
-- Assumes nothing.
use mathlib.Core.Path.{ap, ◌∙◌}
use native.Mathlib.Omega.{arith}
use Rattle.rules.specs.Calls.{signed}
use Rattle.tables.specs.Kinds.{number_of}
use Rattle.tables.specs.declared.kind.Kind.TheVariants.{Not}
use Rattle.literals.proofs.KindNumbers.{number_signed, other_number}
use Rattle.judging.proofs.NotLaws.{nots_kinded, more_nots, no_more_nots, nots_inside}
use Rattle.judging.proofs.judge.nots.Goals as goal

pub at-requires : goal.at-requires
at-requires c =
    let some = c.requires in
    nots_kinded _ some.rule (c.loop-n.invariant _ _ _ some.rule some.stands) some.stands

pub overflow_add-n : goal.overflow_add-n
overflow_add-n c =
    let some = c.requires in
    omega (
      arith,
      (nots_inside some.rule some.stands).1,
      c.loop-n.invariant _ _ _ some.rule some.stands,
      some.few,
    )

pub loop-n-smaller : goal.loop-n-smaller
loop-n-smaller c =
    let some = c.requires in
    omega (arith, (nots_inside some.rule some.stands).1, c.loop-n.invariant _ _ _ some.rule some.stands)

pub loop-n-preserved : goal.loop-n-preserved
unfolding number_of
loop-n-preserved c = λ es m p a s.
    more_nots _ a (c.loop-n.invariant es m p a s)
    (c.at.ensures ∙ number_signed c.at.result ∙ ap signed (ap number_of c.in-Not.is)) s

pub returns : goal.returns
unfolding number_of
returns c = λ es m p a s.
    no_more_nots _ a (c.loop-n.invariant es m p a s) (c.at.ensures ∙ number_signed c.at.result)
    (other_number c.at.result Not c.in_default.not-Not) s
