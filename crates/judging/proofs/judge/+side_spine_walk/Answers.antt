-- `judge::side`, `judge::walk` and `judge::spine`, which call each other, meet their contracts.
-- Assumes nothing.
use mathlib.Core.Path.{sym, ◌∙◌}
use native.Mathlib.Omega.{arith}
use Rattle.judging.proofs.KindRules.{constant_rule, joined_kind, one_of_literals}
use Rattle.judging.proofs.WalkLaws.{constant_says, literal_asks, literal_says}
use Rattle.judging.proofs.NotLaws.{nots_run, behind_asks, under_asks, under_shorter, run_says}
use Rattle.judging.proofs.SpineLaws.{begun, join_in, left_asks, left_shorter, settled_says, right_shorter, onward}
use Rattle.judging.proofs.SpineLaws.{last_says}
use Rattle.judging.proofs.judge.+side_spine_walk.Goals as goal

-- ---- a side

pub side-judge-requires : goal.side-judge-requires
side-judge-requires t c =
    literal_asks (λ a at. one_of_literals c.kind.result a (c.kind.ensures a at) c.in-Positive.is) c.requires

pub side-returns-in-Positive : goal.side-returns-in-Positive
side-returns-in-Positive t c =
    literal_says c.args.put.far (λ a at. one_of_literals c.kind.result a (c.kind.ensures a at) c.in-Positive.is)
    c.judge.ensures

-- ---- the joins of one kind

pub spine-loop-rest-init : goal.spine-loop-rest-init
spine-loop-rest-init t c =
    begun c.args.part c.args.put.far c.args.and c.known-before.result c.requires c.known-before.ensures

pub spine-left-requires : goal.spine-left-requires
spine-left-requires t c = join_in c.loop-rest.invariant c.kind.ensures c.is_join.ensures c.loop-rest-test.true

pub spine-side-requires : goal.spine-side-requires
spine-side-requires t c =
    let along = c.loop-rest.invariant in
    let yes = c.loop-rest-test.true in (
      omega (arith, c.decreases, left_shorter along c.kind.ensures c.is_join.ensures yes c.left.ensures),
      left_asks along c.kind.ensures c.is_join.ensures yes c.left.ensures,
    )

pub spine-returns-then-settles : goal.spine-returns-then-settles
spine-returns-then-settles t c =
    settled_says c.loop-rest.invariant c.kind.ensures c.is_join.ensures c.loop-rest-test.true c.left.ensures
    c.side.ensures c.joined-before.ensures (c.settles.ensures c.if-settles.true)

pub spine-right-rest-requires : goal.spine-right-rest-requires
spine-right-rest-requires t c =
    join_in c.loop-rest.invariant c.kind.ensures c.is_join.ensures c.loop-rest-test.true

pub spine-loop-rest-smaller : goal.spine-loop-rest-smaller
spine-loop-rest-smaller t c =
    right_shorter c.loop-rest.invariant c.kind.ensures c.is_join.ensures c.loop-rest-test.true c.right-rest.ensures

pub spine-loop-rest-preserved : goal.spine-loop-rest-preserved
spine-loop-rest-preserved t c =
    onward c.loop-rest.invariant c.kind.ensures c.is_join.ensures c.loop-rest-test.true c.left.ensures
    c.side.ensures c.joined-before.ensures c.right-rest.ensures

pub spine-returns : goal.spine-returns
spine-returns t c = last_says c.loop-rest.invariant c.side-2.ensures c.joined.ensures

-- ---- the walk

pub walk-returns-in-False : goal.walk-returns-in-False
walk-returns-in-False t c =
    constant_says c.args.put.far c.is_true.result
    (λ a at. constant_rule c.kind-kind.result a (c.kind-kind.ensures a at) c.is_true.ensures.no c.is_true.ensures.yes
    c.in-False.is)
    c.known.ensures

pub walk-spine-requires : goal.walk-spine-requires
walk-spine-requires t c = (
  omega (arith, c.decreases),
  record {
    some = c.requires;
    root = λ a at.
        sym (c.kind-kind.ensures a at) ∙ joined_kind c.is_and.ensures.yes c.is_and.ensures.no c.in-And.is;
  },
)

pub walk-behind-requires : goal.walk-behind-requires
walk-behind-requires t c =
    behind_asks (nots_run c.kind-kind.result c.requires c.kind-kind.ensures c.in-Not.is c.nots-n.ensures)

pub walk-walk-requires : goal.walk-walk-requires
walk-walk-requires t c =
    let run = nots_run c.kind-kind.result c.requires c.kind-kind.ensures c.in-Not.is c.nots-n.ensures in
    (omega (arith, c.decreases, under_shorter run c.behind.ensures), under_asks run c.behind.ensures)

pub walk-returns-in-Not : goal.walk-returns-in-Not
walk-returns-in-Not t c =
    let run = nots_run c.kind-kind.result c.requires c.kind-kind.ensures c.in-Not.is c.nots-n.ensures in
    run_says run c.behind.ensures c.args.put.far c.walk.result c.turned.result c.walk.ensures c.turned.ensures
