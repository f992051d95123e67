-- `fold::chained`, `fold::core` and `fold::fold`, which call each other, meet their contracts.
-- Assumes nothing.
use mathlib.Core.Path.{sym, ◌∙◌}
use Prim.Native.Nat.{ℕ}
use native.Mathlib.Omega.{arith}
use Rattle.walks.proofs.PartLaws.{of_kind, constant_kind, join_kind, chain_asks, behind_asks, inner_short}
use Rattle.walks.proofs.FoldLaws.{call, Joined, RightAnswered, some_rule, constant_gives}
use Rattle.walks.proofs.FoldLaws.{literal_asks, literal_gives, join_there, right_side_asks, right_shorter}
use Rattle.walks.proofs.FoldLaws.{settled_gives, left_side_asks, left_shorter, joined_asks, joined_gives}
use Rattle.walks.proofs.FoldChainLaws.{core_here, folds_core, Linked, chain_there, core_asks, wrapped_asks, wrapped_gives}
use Rattle.walks.proofs.fold.+chained_core_fold.Goals as goal
use Rattle.walks.proofs.fold.+chained_core_fold.Goals.{core-After-is_and-both, core-Else-settles}

-- ---- the core

pub core-kind-kind-requires : goal.core-kind-kind-requires
core-kind-kind-requires t c = some_rule (call c.args.part c.args.change c.args.out.now c.args.b) c.requires

pub core-returns-in-False : goal.core-returns-in-False
core-returns-in-False t c =
    constant_gives {q = call c.args.part c.args.change c.args.out.now c.args.b}
    (record { some = c.requires; kind_is = c.kind-kind.ensures }) c.is_true.result
    (constant_kind c.in-False.is c.is_true.ensures.yes c.is_true.ensures.no)

pub core-literal-requires : goal.core-literal-requires
core-literal-requires t c =
    literal_asks {q = call c.args.part c.args.change c.args.out.now c.args.b}
    (record { some = c.requires; kind_is = c.kind-kind.ensures }) c.in_default.not-False c.in_default.not-True
    c.in_default.not-And c.in_default.not-Or

pub core-returns-in_default : goal.core-returns-in_default
core-returns-in_default t c =
    literal_gives {q = call c.args.part c.args.change c.args.out.now c.args.b}
    (record { some = c.requires; kind_is = c.kind-kind.ensures }) c.in_default.not-False c.in_default.not-True
    c.in_default.not-And c.in_default.not-Or _ _ c.literal.ensures

-- it is a join
joined : (t : ℕ) (c : core-After-is_and-both t)
    → Joined (call c.args.part c.args.change c.args.out.now c.args.b) c.is_and-both.result
joined t c = record {
  some = c.requires;
  joins = λ a at. join_kind c.in-And.is c.is_and-both.ensures.yes c.is_and-both.ensures.no a
      (of_kind a (c.kind-kind.ensures a at));
}

pub core-right-requires : goal.core-right-requires
core-right-requires t c = join_there (joined t c)

pub core-fold-right-requires : goal.core-fold-right-requires
core-fold-right-requires t c =
    let j = joined t (goal.at.core-fold-right-requires t c).After-is_and-both in
    (omega (arith, c.decreases, right_shorter j c.right.ensures), right_side_asks j c.right.ensures)

pub core-returns-then-settles : goal.core-returns-then-settles
core-returns-then-settles t c =
    settled_gives (record {
      join = joined t (goal.at.core-returns-then-settles t c).After-is_and-both;
      found = c.right.ensures;
      answered = c.fold-right.ensures;
      kept = c.fold-right.auto.out;
    }) (sym c.settles.ensures ∙ c.if-settles.true)

-- the right side is answered, and does not settle it
right : (t : ℕ) (c : core-Else-settles t)
    → RightAnswered (call c.args.part c.args.change c.args.out.now c.args.b) c.is_and-both.result c.right.result
    c.fold-right.new.out c.fold-right.result
right t c = record {
  join = joined t (goal.at.core-left-requires t c).After-is_and-both;
  found = c.right.ensures;
  answered = c.fold-right.ensures;
  kept = c.fold-right.auto.out;
}

pub core-left-requires : goal.core-left-requires
core-left-requires t c = join_there (right t c).join

pub core-fold-left-requires : goal.core-fold-left-requires
core-fold-left-requires t c =
    let r = right t (goal.at.core-fold-left-requires t c).Else-settles in
    (omega (arith, c.decreases, left_shorter r.join c.left.ensures), left_side_asks r c.after.ensures c.left.ensures)

pub core-joined-requires : goal.core-joined-requires
core-joined-requires t c =
    joined_asks (record {
      first = right t (goal.at.core-joined-requires t c).Else-settles;
      unsettled = sym c.settles.ensures ∙ c.if-settles.false;
      state = c.after.ensures;
      found = c.left.ensures;
      answered = c.fold-left.ensures;
      kept = c.fold-left.auto.out;
    })

pub core-returns : goal.core-returns
core-returns t c =
    joined_gives (record {
      first = right t (goal.at.core-returns t c).Else-settles;
      unsettled = sym c.settles.ensures ∙ c.if-settles.false;
      state = c.after.ensures;
      found = c.left.ensures;
      answered = c.fold-left.ensures;
      kept = c.fold-left.auto.out;
    }) _ _ c.joined.ensures

-- ---- past a chain

pub chained-chain-links-requires : goal.chained-chain-links-requires
chained-chain-links-requires t c = (chain_asks c.args.part c.requires.ready.at, omega arith)

pub chained-behind-requires : goal.chained-behind-requires
chained-behind-requires t c =
    behind_asks (chain_there {q = call c.args.part c.args.change c.args.out.now c.args.b}
    (record { some = c.requires; found = c.chain-links.ensures }))

pub chained-core-inner-requires : goal.chained-core-inner-requires
chained-core-inner-requires t c =
    let node : Linked (call c.args.part c.args.change c.args.out.now c.args.b) c.chain-links.result
    = record { some = c.requires; found = c.chain-links.ensures } in
    (omega (arith, c.decreases, inner_short (chain_there node) c.behind.ensures), core_asks node c.behind.ensures)

pub chained-wrapped-requires : goal.chained-wrapped-requires
chained-wrapped-requires t c =
    wrapped_asks {q = call c.args.part c.args.change c.args.out.now c.args.b} (record {
      linked = record { some = c.requires; found = c.chain-links.ensures };
      behind = c.behind.ensures;
      answered = c.core-inner.ensures;
    })

pub chained-returns : goal.chained-returns
chained-returns t c =
    wrapped_gives {q = call c.args.part c.args.change c.args.out.now c.args.b} (record {
      linked = record { some = c.requires; found = c.chain-links.ensures };
      behind = c.behind.ensures;
      answered = c.core-inner.ensures;
    }) _ _ c.wrapped.ensures

-- ---- without one, and with one

pub fold-kind-requires : goal.fold-kind-requires
fold-kind-requires t c = record { rule = c.requires.rule; at = c.requires.ready.at }

pub fold-core-requires : goal.fold-core-requires
fold-core-requires t c = (
  omega (arith, c.decreases),
  core_here (call c.args.part c.args.change c.args.out.now c.args.b) c.kind.ensures
      (sym c.link.ensures ∙ c.if-link-eq0.true) c.requires,
)

pub fold-returns-then-link-eq0 : goal.fold-returns-then-link-eq0
fold-returns-then-link-eq0 t c =
    folds_core (call c.args.part c.args.change c.args.out.now c.args.b) c.kind.ensures
    (sym c.link.ensures ∙ c.if-link-eq0.true) _ _ c.core.ensures

pub fold-chained-requires : goal.fold-chained-requires
fold-chained-requires t c = (omega (arith, c.decreases), c.requires)
