-- `around::around` and `around::within`, which call each other, meet their contracts.
-- Assumes nothing.
use mathlib.Core.Path.{sym, ◌∙◌}
use mathlib.Core.Bool.{Bool, true, false}
use Prim.Native.Nat.{ℕ}
use native.Mathlib.Omega.{arith}
use Rattle.steps.proofs.AroundLaws.{call, made_asks, made_gives}
use Rattle.steps.proofs.AroundJoin.{Joined, RightFound, Beside, tells_by, some_rule, join_there}
use Rattle.steps.proofs.AroundJoin.{left_shorter, right_shorter, right_around_asks, right_fold_asks}
use Rattle.steps.proofs.AroundSides.{RightAnswered, right_rebuilt, right_folded, settled_gives, only}
use Rattle.steps.proofs.AroundSides.{left_fold_asks, left_around_asks, left_rebuilt, left_folded, right_as, both_as}
use Rattle.steps.proofs.AroundSides.{joined_asks, joined_gives}
use Rattle.steps.proofs.AroundChain.{Linked, chain_asks, behind_asks, inner_short}
use Rattle.steps.proofs.AroundChain.{within_asks, wrapped_asks, wrapped_gives}
use Rattle.steps.proofs.around.+around_within.Goals as goal
use Rattle.steps.proofs.around.+around_within.Goals.{within-After-is_and-both}
use Rattle.steps.proofs.around.+around_within.Goals.{within-After-settles}
use Rattle.steps.proofs.around.+around_within.Goals.{within-then-chosen-side, within-else-chosen-side}
use Rattle.steps.proofs.around.+around_within.Goals.{within-then-chosen-side-2, within-else-chosen-side-2}

-- ---- past a chain

pub around-chain-links-requires : goal.around-chain-links-requires
around-chain-links-requires t c =
    chain_asks (call c.args.part c.args.chosen c.args.step c.args.out.now c.args.b) c.requires

pub around-behind-requires : goal.around-behind-requires
around-behind-requires t c =
    behind_asks {c = call c.args.part c.args.chosen c.args.step c.args.out.now c.args.b}
    (record { some = c.requires; found = c.chain-links.ensures })

pub around-within-inner-requires : goal.around-within-inner-requires
around-within-inner-requires t c =
    let node : Linked (call c.args.part c.args.chosen c.args.step c.args.out.now c.args.b) c.chain-links.result
    = record { some = c.requires; found = c.chain-links.ensures } in
    (omega (arith, c.decreases, inner_short node c.behind.ensures), within_asks node c.behind.ensures)

pub around-wrapped-requires : goal.around-wrapped-requires
around-wrapped-requires t c =
    wrapped_asks {c = call c.args.part c.args.chosen c.args.step c.args.out.now c.args.b} (record {
      linked = record { some = c.requires; found = c.chain-links.ensures };
      behind = c.behind.ensures;
      answered = c.within-inner.ensures;
    })

pub around-returns : goal.around-returns
around-returns t c =
    wrapped_gives {c = call c.args.part c.args.chosen c.args.step c.args.out.now c.args.b} (record {
      linked = record { some = c.requires; found = c.chain-links.ensures };
      behind = c.behind.ensures;
      answered = c.within-inner.ensures;
    }) _ _ c.wrapped.ensures

-- ---- at the chosen quantifier

pub within-made-requires : goal.within-made-requires
within-made-requires t c =
    made_asks (call c.args.part c.args.chosen c.args.step c.args.out.now c.args.b) c.if-part-chosen.true c.requires

pub within-returns-then-part-chosen : goal.within-returns-then-part-chosen
within-returns-then-part-chosen t c =
    made_gives (call c.args.part c.args.chosen c.args.step c.args.out.now c.args.b) c.if-part-chosen.true _ _
    c.made.ensures

-- ---- at an and or an or

pub within-kind-requires : goal.within-kind-requires
within-kind-requires t c =
    some_rule (call c.args.part c.args.chosen c.args.step c.args.out.now c.args.b) c.requires

joined : (t : ℕ) (c : within-After-is_and-both t)
    → Joined (call c.args.part c.args.chosen c.args.step c.args.out.now c.args.b) c.is_and-both.result
joined t c = record {
  bare = c.requires;
  apart = c.if-part-chosen.false;
  tells = tells_by (call c.args.part c.args.chosen c.args.step c.args.out.now c.args.b) c.kind.ensures
      c.is_and-both.ensures.yes c.is_and-both.ensures.no;
}

pub within-right-side-requires : goal.within-right-side-requires
within-right-side-requires t c = join_there (joined t c)

pub within-fold-right-requires : goal.within-fold-right-requires
within-fold-right-requires t c =
    right_fold_asks (record {
      join = joined t (goal.at.within-fold-right-requires t c).After-is_and-both;
      found = c.right-side.ensures;
    })

pub within-around-right-requires : goal.within-around-right-requires
within-around-right-requires t c =
    let found : RightFound
    (call c.args.part c.args.chosen c.args.step c.args.out.now c.args.b) c.is_and-both.result c.right-side.result
    = record {
      join = joined t (goal.at.within-around-right-requires t c).After-is_and-both;
      found = c.right-side.ensures;
    } in
    (omega (arith, c.decreases, right_shorter found), right_around_asks found c.if-chosen-side.false)

-- the right side is answered, which has the quantifier (e) or has it not
right : (t : ℕ) (c : within-After-settles t)
    → Joined (call c.args.part c.args.chosen c.args.step c.args.out.now c.args.b) c.is_and-both.result → (e : Bool)
    → Beside e (call c.args.part c.args.chosen c.args.step c.args.out.now c.args.b) c.right-side.result
    → RightAnswered e (call c.args.part c.args.chosen c.args.step c.args.out.now c.args.b) c.is_and-both.result
    c.right-side.result c.if-chosen-side.out c.if-chosen-side.right
right t c j e beside =
    let found : RightFound
    (call c.args.part c.args.chosen c.args.step c.args.out.now c.args.b) c.is_and-both.result c.right-side.result
    = record { join = j; found = c.right-side.ensures } in
    elim c.if-chosen-side.branch [
      | within-then-chosen-side w ↦ right_as w.out-is w.right-is
          (only false e w.if-chosen-side.true beside
          (right_folded found w.if-chosen-side.true w.fold-right.ensures w.fold-right.auto.out))
      | within-else-chosen-side w ↦ right_as w.out-is w.right-is
          (only true e w.if-chosen-side.false beside
          (right_rebuilt found w.if-chosen-side.false w.around-right.ensures w.around-right.auto.out))
    ]

pub within-returns-then-settles : goal.within-returns-then-settles
within-returns-then-settles t c =
    let j = joined t (goal.at.within-returns-then-settles t c).After-is_and-both in
    let at = (goal.at.within-returns-then-settles t c).After-settles in
    let settled = sym c.settles.ensures ∙ c.if-settles.true in
    elim c.if-chosen-side.branch [
      | within-then-chosen-side w ↦ settled_gives (right t at j false w.if-chosen-side.true) settled
      | within-else-chosen-side w ↦ settled_gives (right t at j true w.if-chosen-side.false) settled
    ]

pub within-left-requires : goal.within-left-requires
within-left-requires t c = join_there (joined t (goal.at.within-left-requires t c).After-is_and-both)

pub within-left-requires-else-chosen-side-2 : goal.within-left-requires-else-chosen-side-2
within-left-requires-else-chosen-side-2 t c =
    join_there (joined t (goal.at.within-left-requires-else-chosen-side-2 t c).After-is_and-both)

pub within-around-left-requires : goal.within-around-left-requires
within-around-left-requires t c =
    let j = joined t (goal.at.within-around-left-requires t c).After-is_and-both in
    let at = (goal.at.within-around-left-requires t c).After-settles in (
      omega (arith, c.decreases, left_shorter j c.left.ensures),
      left_around_asks (right t at j false c.if-chosen-side-2.true) c.after-c.ensures c.left.ensures,
    )

pub within-fold-left-requires : goal.within-fold-left-requires
within-fold-left-requires t c =
    let j = joined t (goal.at.within-fold-left-requires t c).After-is_and-both in
    let at = (goal.at.within-fold-left-requires t c).After-settles in
    left_fold_asks (right t at j true c.if-chosen-side-2.false) c.after-c.ensures
    c.left-else-chosen-side-2.ensures

pub within-joined-requires : goal.within-joined-requires
within-joined-requires t c =
    let j = joined t (goal.at.within-joined-requires t c).After-is_and-both in
    let at = (goal.at.within-joined-requires t c).After-settles in
    let unsettled = sym c.settles.ensures ∙ c.if-settles.false in
    elim c.if-chosen-side-2.branch [
      | within-then-chosen-side-2 w ↦ joined_asks (both_as w.out-is w.left-is
          (left_rebuilt (right t at j false w.if-chosen-side-2.true) unsettled c.after-c.ensures w.left.ensures
          w.around-left.ensures w.around-left.auto.out))
      | within-else-chosen-side-2 w ↦ joined_asks (both_as w.out-is w.left-is
          (left_folded (right t at j true w.if-chosen-side-2.false) unsettled c.after-c.ensures
          w.left-else-chosen-side-2.ensures w.fold-left.ensures w.fold-left.auto.out))
    ]

pub within-returns : goal.within-returns
within-returns t c =
    let j = joined t (goal.at.within-returns t c).After-is_and-both in
    let at = (goal.at.within-returns t c).After-settles in
    let unsettled = sym c.settles.ensures ∙ c.if-settles.false in
    elim c.if-chosen-side-2.branch [
      | within-then-chosen-side-2 w ↦ joined_gives (both_as w.out-is w.left-is
          (left_rebuilt (right t at j false w.if-chosen-side-2.true) unsettled c.after-c.ensures w.left.ensures
          w.around-left.ensures w.around-left.auto.out)) _ _ c.joined.ensures
      | within-else-chosen-side-2 w ↦ joined_gives (both_as w.out-is w.left-is
          (left_folded (right t at j true w.if-chosen-side-2.false) unsettled c.after-c.ensures
          w.left-else-chosen-side-2.ensures w.fold-left.ensures w.fold-left.auto.out)) _ _ c.joined.ensures
    ]
