-- The walk that folds a rule in a table, past a chain: what it knows of a call once the chain is found, and once what
-- stands under it is answered.
-- Assumes nothing.
use mathlib.Core.Path.{◌≡◌, sym, subst}
use mathlib.Core.Bool.{Bool, not}
use mathlib.Core.List.{List}
use Prim.Native.Nat.{ℕ}
use native.Mathlib.Omega.{arith}
use lib.Dec.{T}
use Rattle.rules.specs.Rule.{Rule}
use Rattle.rules.specs.Table.{Node}
use Rattle.rules.specs.Eliminate.{over_limit}
use Rattle.rules.specs.Calls.{words}
use Rattle.tables.specs.Kinds.{kind_of}
use Rattle.tables.specs.Parts.{Behind, RuleIn}
use Rattle.tables.specs.declared.extent.Extent.{Extent}
use Rattle.tables.specs.declared.kind.Kind.{Kind}
use Rattle.tables.specs.declared.part.Part.{Part}
use Rattle.builder.proofs.BuiltLaws.{building_less}
use Rattle.folding.specs.Answers.{Gives}
use Rattle.folding.specs.declared.answers.Folded.{Folded}
use Rattle.literals.specs.Changes.{change_of, put_of, becomes}
use Rattle.walks.specs.Chain.{link_words, below, wrap, WrappingIn, SomeWrapping}
use Rattle.walks.specs.Walk.{changed, SomeRule}
use Rattle.walks.proofs.ChainLaws.{chain_weight, below_formed, wrap_fold, over_below}
use Rattle.walks.proofs.ChangedLaws.{changed_lighter}
use Rattle.walks.proofs.PartLaws.{FindsChain, ChainIn, chain_in, bare_below, inner_here}
use Rattle.walks.proofs.DownLaws.{unlinked}
use Rattle.walks.proofs.FoldLaws.{Call, ReadyFor, CoreFor, made, Folds, FoldsCore, call_on}

-- ---- there is none

module _ (q : Call) {k : Kind} (kind_is : (a : Rule) → RuleIn q.part a → k ≡ kind_of a) (bare : link_words k ≡ 0) where
  core_for : {a : Rule} {ds : List Node} → ReadyFor q a ds → CoreFor q a ds
  core_for {a} ready = record { ready = ready; bare = unlinked a (kind_is a ready.at) bare }

  pub core_here : SomeRule (ReadyFor q) → SomeRule (CoreFor q)
  core_here some = record { rule = some.rule; tail = some.tail; ready = core_for some.ready }

  pub folds_core : (l : List ℕ) (r : Folded) → FoldsCore q l r → Folds q l r
  folds_core l r promise a ds ready = promise a ds (core_for ready)

-- ---- a chain is found, and the part r is what stands behind it

pub record Linked (q : Call) (links : Extent) : Type 0 where
  pub some : SomeRule (ReadyFor q)
  pub found : FindsChain q.part links

module _ {q : Call} {links : Extent} (node : Linked q links) where
  chain_for : {a : Rule} {ds : List Node} → ReadyFor q a ds → ChainIn q.part links a
  chain_for {a} ready = chain_in q.part node.found a ready.at

  -- the chain of the call
  pub chain_there : ChainIn q.part links node.some.rule
  chain_there = chain_for node.some.ready

  module _ {r : Part} (behind : Behind q.part links.nodes links.words r) where
    core_ready : {a : Rule} {ds : List Node} → ReadyFor q a ds → CoreFor (call_on q r) (below links.nodes a) ds
    core_ready {a} ready =
        let x = chain_for ready in
        let i = links.nodes in
        let same = over_below over_limit (becomes (change_of q.change) (put_of q.change)) i a in
        record {
          ready = record {
            at = inner_here x behind;
            usable = ready.usable;
            numbers = unfold changed in subst (λ (v : Bool). T (not v)) same ready.numbers;
            building = building_less ready.building (omega (arith, chain_weight i a x.chain.chained));
          };
          bare = bare_below x;
        }

    pub core_asks : SomeRule (CoreFor (call_on q r))
    core_asks = record {
      rule = below links.nodes node.some.rule;
      tail = node.some.tail;
      ready = core_ready node.some.ready;
    }

-- ---- what stands there is answered, and the bytes l are left

pub record InnerAnswered (q : Call) (links : Extent) (r : Part) (l : List ℕ) (inner : Folded) : Type 0 where
  pub linked : Linked q links
  pub behind : Behind q.part links.nodes links.words r
  pub answered : FoldsCore (call_on q r) l inner

module _ {q : Call} {links : Extent} {r : Part} {l : List ℕ} {inner : Folded}
    (known : InnerAnswered q links r l inner) where
  -- the rule under the chain, as it was put
  abbrev under : Rule → Rule
  under a = made q (below links.nodes a)

  wrapping : {a : Rule} {ds : List Node} → ReadyFor q a ds
      → WrappingIn q.part links.nodes (words l) q.state a (under a) ds inner
  wrapping {a} {ds} ready =
      let i = links.nodes in
      let chained = (chain_for known.linked ready).chain.chained in
      let formed = below_formed i a ready.at.formed in
      let light = changed_lighter (change_of q.change) (put_of q.change) (below i a) ready.usable formed in
      record {
        at = ready.at;
        chained = chained;
        gives = known.answered (below i a) ds (core_ready known.linked known.behind ready);
        small = omega (arith, ready.building.small, chain_weight i a chained, light);
      }

  pub wrapped_asks : SomeWrapping (words q.part.entries.now) (words q.part.bodies.now) q.part.node q.part.place
      links.nodes (words l) q.state inner
  wrapped_asks =
      let some = known.linked.some in
      record { rule = some.rule; under = under some.rule; tail = some.tail; wrapping = wrapping some.ready }

  pub wrapped_gives : (o : List ℕ) (v : Folded)
      → ((a f : Rule) (ds : List Node) → WrappingIn q.part links.nodes (words l) q.state a f ds inner
      → Gives (words o) q.state ds (wrap links.nodes a f) v)
      → Folds q o v
  unfolding changed
  wrapped_gives o v promise a ds ready =
      let chained = (chain_for known.linked ready).chain.chained in
      subst (λ (y : Rule). Gives (words o) q.state ds y v)
      (sym (wrap_fold (becomes (change_of q.change) (put_of q.change)) links.nodes a chained))
      (promise a (under a) ds (wrapping ready))
