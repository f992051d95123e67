-- `chain::chain` meets its contract: the nodes gone down so far are a chain, whatever rule stands there.
-- Assumes nothing.
use mathlib.Core.Path.{◌≡◌, refl, subst}
use mathlib.Core.Logic.{inl, inr}
use Prim.Native.Nat.{ℕ}
use native.Mathlib.Omega.{arith}
use Rattle.rules.specs.Calls.{words}
use Rattle.walks.proofs.DownLaws.{Reached, link_few, reached_none, reached_inside, next_kinded}
use Rattle.walks.proofs.DownLaws.{reached_ends, reached_more, reached_end}
use Rattle.walks.proofs.chain.chain.Goals as goal

pub loop-nodes-init : goal.loop-nodes-init
loop-nodes-init c = reached_none _

pub at-requires : goal.at-requires
at-requires c = next_kinded _ _ _ c.loop-nodes.invariant c.requires.0

pub returns-then-width-eq0 : goal.returns-then-width-eq0
returns-then-width-eq0 c =
    let reached = c.loop-nodes.invariant in
    reached_ends _ _ _ reached _ (omega arith)
    (λ es n p a s. inr (reached_end _ _ _ reached _ c.at.ensures c.link-width.ensures c.if-width-eq0.true es n p a s))

pub overflow_add-words : goal.overflow_add-words
overflow_add-words c =
    let inside = reached_inside _ _ _ c.loop-nodes.invariant c.requires.0 in
    omega (arith, inside, link_few c.at.result, c.link-width.ensures)

pub loop-nodes-preserved : goal.loop-nodes-preserved
loop-nodes-preserved c =
    reached_more _ _ _ c.loop-nodes.invariant _ c.at.ensures c.link-width.ensures c.if-width-eq0.false

pub returns : goal.returns
returns c =
    let all : c.loop-nodes.nodes ≡ c.args.most = omega arith in
    let loop = c.loop-nodes in
    let reached = subst (λ (k : ℕ). Reached (words c.args.bodies.now) k loop.words) all loop.invariant in
    reached_ends _ _ _ reached _ (omega arith) (λ es n p a s. inl refl)
