-- The walk around the chosen quantifier at a chain of nots and quantifiers: what it knows once it is found, and once
-- what stands under it is answered.
-- Assumes nothing.
use mathlib.Core.Path.{◌≡◌, sym, ap, ◌∙◌, subst}
use mathlib.Core.Bool.{true, false}
use mathlib.Core.Logic.{◌⊎◌, inl, inr}
use mathlib.Core.List.{List}
use Prim.Native.Nat.{ℕ, ◌+◌, ◌-◌, ◌<◌, ◌≤◌}
use native.Mathlib.Omega.{arith}
use lib.IntN.{ℤ}
use lib.ListN.{length, drop, length-drop}
use Rattle.rules.specs.Rule.{Quantifier, Rule}
use Rattle.rules.specs.Table.{Node, most_words}
use Rattle.rules.specs.Calls.{words}
use Rattle.tables.specs.Parts.{RuleIn, Behind}
use Rattle.tables.specs.Standing.{Stands}
use Rattle.tables.specs.declared.extent.Extent.{Extent}
use Rattle.tables.specs.declared.part.Part.{Part}
use Rattle.tables.proofs.Parts.{moved}
use Rattle.tables.proofs.Standings.{inside_entries}
use Rattle.folding.specs.Answers.{Gives}
use Rattle.folding.specs.declared.answers.Folded.{Folded}
use Rattle.bodies.proofs.ChosenLaws.{chosen_few}
use Rattle.walks.specs.Chain.{unary, below, chain_words, wrap, ChainOf, SomeStands, WrappingIn, SomeWrapping}
use Rattle.walks.proofs.ChainLaws.{chain_weight, below_formed, chain_stands, chain_inside}
use Rattle.steps.proofs.ReplaceLaws.{some_chosen, Under, under_chain, replace_lighter}
use Rattle.steps.proofs.AroundLaws.{Call, AroundFor, SomeAroundFor, BareFor, SomeBareFor, call_on}
use Rattle.steps.proofs.AroundLaws.{new_for, made, Rebuilds, RebuildsBare}
use Rattle.steps.proofs.AroundLaws.{some_around, around_part}

-- ---- a chain is found, of no more nodes than stand before the chosen quantifier

pub record Linked (c : Call) (links : Extent) : Type 0 where
  pub some : SomeAroundFor c
  pub found : (es : List ℤ) (n p : ℕ) (r : Rule) → Stands es (words c.part.bodies.now) n p r
      → ChainOf (c.chosen - c.part.node) r links

pub chosen_behind : (c : Call) → SomeAroundFor c → c.part.node ≤ c.chosen
chosen_behind c some = omega (arith, some.around.number_is)

pub chain_asks : (c : Call) → SomeAroundFor c
    → SomeStands (words c.part.bodies.now) × (c.chosen - c.part.node ≤ most_words)
chain_asks c some =
    let known = some.around in
    let r = some.rule in (
      record {
        entries = words c.part.entries.now;
        number = c.part.node;
        place = c.part.place;
        rule = r;
        at = known.there;
      },
      omega (
        arith,
        known.number_is,
        (chosen_few r (some_chosen r known.at)).0,
        inside_entries r known.there.stands,
        known.there.few.few_nodes,
      ),
    )

-- the call on what stands under it, in the part p
abbrev pub inner_call : Call → Part → Call
inner_call c p = call_on c p c.out c.state

module _ {c : Call} {links : Extent} (node : Linked c links) where
  module _ {r : Rule} {q : Quantifier} {x : ℕ} {a : Rule} {ds : List Node} (outer : AroundFor c r q x a ds) where
    chain_of : ChainOf (c.chosen - c.part.node) r links
    chain_of = node.found (words c.part.entries.now) c.part.node c.part.place r outer.there.stands

    under_of : Under links.nodes r
    under_of = under_chain links.nodes r chain_of.chained (omega (arith, chain_of.few, outer.number_is))

    links_inside : (links.nodes < length (words c.part.entries.now)) × (links.words < length (words c.part.bodies.now))
    links_inside =
        let chain = chain_of in
        let (entries, bodies) = chain_inside links.nodes r chain.chained outer.there.stands in
        (entries, omega (arith, bodies, chain.wide))

    module _ {p : Part} (behind : Behind c.part links.nodes links.words p) where
      inner_there : RuleIn p (below links.nodes r)
      inner_there =
          let chain = chain_of in
          let (entries, bodies) = links_inside in
          let long = ap length behind.entries_are ∙ length-drop links.nodes (words c.part.entries.now) in
          let wide = ap length behind.bodies_are ∙ length-drop links.words (words c.part.bodies.now) in
          record {
            stands = moved (below links.nodes r) (sym behind.entries_are)
                (ap (λ (w : ℕ). drop w (words c.part.bodies.now)) (sym chain.wide) ∙ sym behind.bodies_are)
                (sym behind.node_is)
                (ap (λ (w : ℕ). c.part.place + w) (sym chain.wide) ∙ sym behind.place_is)
                (chain_stands links.nodes r chain.chained outer.there.stands);
            few = record {
              few_nodes = omega (arith, outer.there.few.few_nodes, long, behind.node_is, entries);
              few_words = omega (arith, outer.there.few.few_words, wide, behind.place_is, bodies);
            };
            formed = below_formed links.nodes r outer.there.formed;
          }

      inner_around : AroundFor (inner_call c p) (below links.nodes r) q x a ds
      inner_around =
          let i = links.nodes in
          let chain = chain_of in
          let bodies_are = behind.bodies_are ∙ ap (λ (w : ℕ). drop w (words c.part.bodies.now)) chain.wide in
          around_part c p c.out c.state i (chain_words i r) under_of.inside behind.node_is bodies_are outer
          (record { there = inner_there; built = outer.built; room = outer.room })
          (omega (arith, outer.small, chain_weight i r chain.chained))

      inner_bare : BareFor (inner_call c p) (below links.nodes r)
      inner_bare = ends chain_of.ends
        where
          ends : (links.nodes ≡ c.chosen - c.part.node) ⊎ (unary (below links.nodes r) ≡ false)
              → BareFor (inner_call c p) (below links.nodes r)
          ends (inl e) = inl (omega (arith, e, outer.number_is, behind.node_is))
          ends (inr e) = inr e

  pub behind_asks : (links.nodes ≤ length (words c.part.entries.now)) × (links.words ≤ length (words c.part.bodies.now))
      × (c.part.node + links.nodes ≤ most_words) × (c.part.place + links.words ≤ most_words)
  behind_asks =
      let (entries, bodies) = links_inside node.some.around in
      let few = node.some.around.there.few in (
        omega (arith, entries),
        omega (arith, bodies),
        omega (arith, entries, few.few_nodes),
        omega (arith, bodies, few.few_words),
      )

  module _ {p : Part} (behind : Behind c.part links.nodes links.words p) where
    pub inner_short : length (words p.entries.now) ≤ length (words c.part.entries.now)
    inner_short =
        omega (arith, ap length behind.entries_are, length-drop links.nodes (words c.part.entries.now))

    pub within_asks : SomeBareFor (inner_call c p)
    within_asks =
        let known = node.some.around in
        record { some = some_around (inner_call c p) (inner_around known behind); bare = inner_bare known behind }

-- ---- what stands under it is answered, and the bytes l are left

pub record InnerAnswered (c : Call) (links : Extent) (p : Part) (l : List ℕ) (inner : Folded) : Type 0 where
  pub linked : Linked c links
  pub behind : Behind c.part links.nodes links.words p
  pub answered : RebuildsBare (inner_call c p) l inner

module _ {c : Call} {links : Extent} {p : Part} {l : List ℕ} {inner : Folded}
    (known : InnerAnswered c links p l inner) where
  wrapping : {r : Rule} {q : Quantifier} {x : ℕ} {a : Rule} {ds : List Node} → AroundFor c r q x a ds
      → WrappingIn c.part links.nodes (words l) c.state r (made c true x a (below links.nodes r)) ds inner
  wrapping {r} {q} {x} {a} {ds} outer =
      let i = links.nodes in
      let chain = chain_of known.linked outer in
      let part = inner_around known.linked outer known.behind in
      record {
        at = outer.there;
        chained = chain.chained;
        gives = known.answered (below i r) q x a ds part (inner_bare known.linked outer known.behind);
        small = omega (
          arith,
          outer.small,
          outer.makeable.light,
          chain_weight i r chain.chained,
          replace_lighter (new_for c x a) (below i r) part.at,
        );
      }

  pub wrapped_asks : SomeWrapping (words c.part.entries.now) (words c.part.bodies.now) c.part.node c.part.place
      links.nodes (words l) c.state inner
  wrapped_asks =
      let some = known.linked.some in
      record {
        rule = some.rule;
        under = made c true some.setting some.body (below links.nodes some.rule);
        tail = some.tail;
        wrapping = wrapping some.around;
      }

  pub wrapped_gives : (o : List ℕ) (f : Folded)
      → ((r g : Rule) (ds : List Node) → WrappingIn c.part links.nodes (words l) c.state r g ds inner
      → Gives (words o) c.state ds (wrap links.nodes r g) f)
      → Rebuilds c o f
  wrapped_gives o f promise r q x a ds outer =
      subst (λ (y : Rule). Gives (words o) c.state ds y f)
      (sym ((under_of known.linked outer).folded (new_for c x a)))
      (promise r (made c true x a (below links.nodes r)) ds (wrapping outer))
