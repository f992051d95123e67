-- `normal::plain` and `normal::under` meet their contracts: by the kind a constant, a run of nots, under which they
-- call themselves or each other, a literal, or a join of which both sides are walked.
-- Assumes nothing.
use mathlib.Core.Path.{sym, ap, ◌∙◌}
use mathlib.Core.Bool.{Bool, true, false, not}
use Prim.Native.Nat.{ℕ}
use native.Mathlib.Omega.{arith}
use Rattle.walks.proofs.PartLaws.{of_kind, constant_kind, join_kind}
use Rattle.walks.proofs.NormalLaws.{call, Joined, RightMade, some_rule, constant_made, literal_asks, literal_made}
use Rattle.walks.proofs.NormalLaws.{join_there, right_side_asks, right_shorter, join_right_over, left_side_asks}
use Rattle.walks.proofs.NormalLaws.{left_shorter, join_left_over, both_asks, join_both}
use Rattle.walks.proofs.NotsLaws.{Passed, not_asks, run_shorter, inner_asks, odd_made, even_made}
use Rattle.walks.proofs.normal.+plain_under.Goals as goal
use Rattle.walks.proofs.normal.+plain_under.Goals.{plain-After-is_and-both, plain-After-after}
use Rattle.walks.proofs.normal.+plain_under.Goals.{under-After-is_and-both, under-After-after}

-- ---- plain

pub plain-kind-kind-requires : goal.plain-kind-kind-requires
plain-kind-kind-requires t c = some_rule (call c.args.part c.args.x c.args.out.now c.args.b) c.requires

pub plain-returns-in-False : goal.plain-returns-in-False
plain-returns-in-False t c =
    constant_made {q = call c.args.part c.args.x c.args.out.now c.args.b}
    (record { some = c.requires; kind_is = c.kind-kind.ensures }) c.is_true.result true
    (constant_kind c.in-False.is c.is_true.ensures.yes c.is_true.ensures.no)

-- a run of nots
pub plain-under_nots-odd-requires : goal.plain-under_nots-odd-requires
plain-under_nots-odd-requires t c =
    not_asks {q = call c.args.part c.args.x c.args.out.now c.args.b}
    (record { some = c.requires; kind_is = λ a at. sym c.in-Not.is ∙ c.kind-kind.ensures a at })

pub plain-under-requires : goal.plain-under-requires
plain-under-requires t c =
    let passed : Passed (call c.args.part c.args.x c.args.out.now c.args.b) c.under_nots-odd.result.0
    c.under_nots-odd.result.1 = record { some = c.requires; found = c.under_nots-odd.ensures } in
    (omega (arith, c.decreases, run_shorter passed), inner_asks passed)

pub plain-returns-then-odd : goal.plain-returns-then-odd
plain-returns-then-odd t c =
    odd_made {q = call c.args.part c.args.x c.args.out.now c.args.b}
    (record { some = c.requires; found = c.under_nots-odd.ensures }) true _ _ c.if-odd.true c.under.ensures

pub plain-plain-requires : goal.plain-plain-requires
plain-plain-requires t c =
    let passed : Passed (call c.args.part c.args.x c.args.out.now c.args.b) c.under_nots-odd.result.0
    c.under_nots-odd.result.1 = record { some = c.requires; found = c.under_nots-odd.ensures } in
    (omega (arith, c.decreases, run_shorter passed), inner_asks passed)

pub plain-returns-in-Not : goal.plain-returns-in-Not
plain-returns-in-Not t c =
    even_made {q = call c.args.part c.args.x c.args.out.now c.args.b}
    (record { some = c.requires; found = c.under_nots-odd.ensures }) true _ _ c.if-odd.false c.plain.ensures

-- a literal
pub plain-literal-requires : goal.plain-literal-requires
plain-literal-requires t c =
    literal_asks {q = call c.args.part c.args.x c.args.out.now c.args.b}
    (record { some = c.requires; kind_is = c.kind-kind.ensures }) c.in_default.not-False c.in_default.not-True
    c.in_default.not-And c.in_default.not-Or c.in_default.not-Not

pub plain-returns-in_default : goal.plain-returns-in_default
plain-returns-in_default t c =
    literal_made {q = call c.args.part c.args.x c.args.out.now c.args.b}
    (record { some = c.requires; kind_is = c.kind-kind.ensures }) c.in_default.not-False c.in_default.not-True
    c.in_default.not-And c.in_default.not-Or c.in_default.not-Not true _ _ c.literal.ensures

-- a join
plain_joined : (t : ℕ) (c : plain-After-is_and-both t)
    → Joined (call c.args.part c.args.x c.args.out.now c.args.b) true c.is_and-both.result
plain_joined t c = record {
  some = c.requires;
  joins = λ a at. join_kind c.in-And.is c.is_and-both.ensures.yes c.is_and-both.ensures.no a
      (of_kind a (c.kind-kind.ensures a at));
}

pub plain-right-requires : goal.plain-right-requires
plain-right-requires t c = join_there (plain_joined t c)

pub plain-plain-requires-2 : goal.plain-plain-requires-2
plain-plain-requires-2 t c =
    let j = plain_joined t (goal.at.plain-plain-requires-2 t c).After-is_and-both in
    (omega (arith, c.decreases, right_shorter j c.right.ensures), right_side_asks j c.right.ensures)

pub plain-returns-in_err-right : goal.plain-returns-in_err-right
plain-returns-in_err-right t c = rw c.from_residual.ensures
    (join_right_over (record {
      join = plain_joined t (goal.at.plain-returns-in_err-right t c).After-is_and-both;
      found = c.right.ensures;
      answer = c.plain-2.ensures;
      kept = c.plain-2.auto.out;
    }) c.in_err-right.was)

pub plain-left-requires : goal.plain-left-requires
plain-left-requires t c = join_there (plain_joined t (goal.at.plain-left-requires t c).After-is_and-both)

-- its right side is put
plain_made : (t : ℕ) (c : plain-After-after t)
    → RightMade (call c.args.part c.args.x c.args.out.now c.args.b) true c.is_and-both.result c.right.result
    c.plain-2.new.out c.plain-2.result c.in_ok-right.right c.after.result
plain_made t c = record {
  right = record {
    join = plain_joined t (goal.at.plain-plain-requires-3 t c).After-is_and-both;
    found = c.right.ensures;
    answer = c.plain-2.ensures;
    kept = c.plain-2.auto.out;
  };
  made = c.in_ok-right.was;
  state = c.after.ensures;
}

pub plain-plain-requires-3 : goal.plain-plain-requires-3
plain-plain-requires-3 t c =
    let made = plain_made t c in
    (omega (arith, c.decreases, left_shorter made.right.join c.left.ensures), left_side_asks made c.left.ensures)

pub plain-returns-in_err-left : goal.plain-returns-in_err-left
plain-returns-in_err-left t c = rw c.from_residual-in_err-left.ensures
    (join_left_over (record {
      right = plain_made t (goal.at.plain-returns-in_err-left t c).After-after;
      found = c.left.ensures;
      answer = c.plain-3.ensures;
      kept = c.plain-3.auto.out;
    }) c.in_err-left.was)

pub plain-both-requires : goal.plain-both-requires
plain-both-requires t c =
    both_asks (record {
      right = plain_made t (goal.at.plain-both-requires t c).After-after;
      found = c.left.ensures;
      answer = c.plain-3.ensures;
      kept = c.plain-3.auto.out;
    }) c.in_ok-left.was

pub plain-returns : goal.plain-returns
plain-returns t c =
    join_both (record {
      right = plain_made t (goal.at.plain-returns t c).After-after;
      found = c.left.ensures;
      answer = c.plain-3.ensures;
      kept = c.plain-3.auto.out;
    }) c.in_ok-left.was _ _ c.both.ensures

-- ---- under

pub under-kind-kind-requires : goal.under-kind-kind-requires
under-kind-kind-requires t c = some_rule (call c.args.part c.args.x c.args.out.now c.args.b) c.requires

pub under-returns-in-False : goal.under-returns-in-False
under-returns-in-False t c =
    constant_made {q = call c.args.part c.args.x c.args.out.now c.args.b}
    (record { some = c.requires; kind_is = c.kind-kind.ensures }) c.is_true.result false
    (constant_kind c.in-False.is c.is_true.ensures.yes c.is_true.ensures.no)

-- a run of nots
pub under-under_nots-odd-requires : goal.under-under_nots-odd-requires
under-under_nots-odd-requires t c =
    not_asks {q = call c.args.part c.args.x c.args.out.now c.args.b}
    (record { some = c.requires; kind_is = λ a at. sym c.in-Not.is ∙ c.kind-kind.ensures a at })

pub under-plain-requires : goal.under-plain-requires
under-plain-requires t c =
    let passed : Passed (call c.args.part c.args.x c.args.out.now c.args.b) c.under_nots-odd.result.0
    c.under_nots-odd.result.1 = record { some = c.requires; found = c.under_nots-odd.ensures } in
    (omega (arith, c.decreases, run_shorter passed), inner_asks passed)

pub under-returns-then-odd : goal.under-returns-then-odd
under-returns-then-odd t c =
    odd_made {q = call c.args.part c.args.x c.args.out.now c.args.b}
    (record { some = c.requires; found = c.under_nots-odd.ensures }) false _ _ c.if-odd.true c.plain.ensures

pub under-under-requires : goal.under-under-requires
under-under-requires t c =
    let passed : Passed (call c.args.part c.args.x c.args.out.now c.args.b) c.under_nots-odd.result.0
    c.under_nots-odd.result.1 = record { some = c.requires; found = c.under_nots-odd.ensures } in
    (omega (arith, c.decreases, run_shorter passed), inner_asks passed)

pub under-returns-in-Not : goal.under-returns-in-Not
under-returns-in-Not t c =
    even_made {q = call c.args.part c.args.x c.args.out.now c.args.b}
    (record { some = c.requires; found = c.under_nots-odd.ensures }) false _ _ c.if-odd.false c.under.ensures

-- a literal
pub under-literal-requires : goal.under-literal-requires
under-literal-requires t c =
    literal_asks {q = call c.args.part c.args.x c.args.out.now c.args.b}
    (record { some = c.requires; kind_is = c.kind-kind.ensures }) c.in_default.not-False c.in_default.not-True
    c.in_default.not-And c.in_default.not-Or c.in_default.not-Not

pub under-returns-in_default : goal.under-returns-in_default
under-returns-in_default t c =
    literal_made {q = call c.args.part c.args.x c.args.out.now c.args.b}
    (record { some = c.requires; kind_is = c.kind-kind.ensures }) c.in_default.not-False c.in_default.not-True
    c.in_default.not-And c.in_default.not-Or c.in_default.not-Not false _ _ c.literal.ensures

-- a join, which is exchanged for the other
under_joined : (t : ℕ) (c : under-After-is_and-both t)
    → Joined (call c.args.part c.args.x c.args.out.now c.args.b) false (not c.is_and-both.result)
under_joined t c = record {
  some = c.requires;
  joins = λ a at. join_kind c.in-And.is (λ e. ap (λ (b : Bool). not (not b)) (c.is_and-both.ensures.yes e))
      (λ e. ap (λ (b : Bool). not (not b)) (c.is_and-both.ensures.no e)) a (of_kind a (c.kind-kind.ensures a at));
}

pub under-right-requires : goal.under-right-requires
under-right-requires t c = join_there (under_joined t c)

pub under-under-requires-2 : goal.under-under-requires-2
under-under-requires-2 t c =
    let j = under_joined t (goal.at.under-under-requires-2 t c).After-is_and-both in
    (omega (arith, c.decreases, right_shorter j c.right.ensures), right_side_asks j c.right.ensures)

pub under-returns-in_err-right : goal.under-returns-in_err-right
under-returns-in_err-right t c = rw c.from_residual.ensures
    (join_right_over (record {
      join = under_joined t (goal.at.under-returns-in_err-right t c).After-is_and-both;
      found = c.right.ensures;
      answer = c.under-2.ensures;
      kept = c.under-2.auto.out;
    }) c.in_err-right.was)

pub under-left-requires : goal.under-left-requires
under-left-requires t c = join_there (under_joined t (goal.at.under-left-requires t c).After-is_and-both)

-- its right side is put
under_made : (t : ℕ) (c : under-After-after t)
    → RightMade (call c.args.part c.args.x c.args.out.now c.args.b) false (not c.is_and-both.result) c.right.result
    c.under-2.new.out c.under-2.result c.in_ok-right.right c.after.result
under_made t c = record {
  right = record {
    join = under_joined t (goal.at.under-under-requires-3 t c).After-is_and-both;
    found = c.right.ensures;
    answer = c.under-2.ensures;
    kept = c.under-2.auto.out;
  };
  made = c.in_ok-right.was;
  state = c.after.ensures;
}

pub under-under-requires-3 : goal.under-under-requires-3
under-under-requires-3 t c =
    let made = under_made t c in
    (omega (arith, c.decreases, left_shorter made.right.join c.left.ensures), left_side_asks made c.left.ensures)

pub under-returns-in_err-left : goal.under-returns-in_err-left
under-returns-in_err-left t c = rw c.from_residual-in_err-left.ensures
    (join_left_over (record {
      right = under_made t (goal.at.under-returns-in_err-left t c).After-after;
      found = c.left.ensures;
      answer = c.under-3.ensures;
      kept = c.under-3.auto.out;
    }) c.in_err-left.was)

pub under-both-requires : goal.under-both-requires
under-both-requires t c =
    both_asks (record {
      right = under_made t (goal.at.under-both-requires t c).After-after;
      found = c.left.ensures;
      answer = c.under-3.ensures;
      kept = c.under-3.auto.out;
    }) c.in_ok-left.was

pub under-returns : goal.under-returns
under-returns t c =
    join_both (record {
      right = under_made t (goal.at.under-returns t c).After-after;
      found = c.left.ensures;
      answer = c.under-3.ensures;
      kept = c.under-3.auto.out;
    }) c.in_ok-left.was _ _ c.both.ensures
