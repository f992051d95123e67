-- A run of nots over a rule without quantifiers: what the normal form makes of it, and how the walks of step 1 pass it
-- by one call.
-- Assumes nothing.
use mathlib.Core.Path.{◌≡◌, refl, sym, ap, ◌∙◌, subst}
use mathlib.Core.Bool.{Bool, true, false, not, cond}
use mathlib.Core.List.{List}
use Prim.Native.Nat.{ℕ, zero, suc, ◌%◌, ◌<◌}
use native.Mathlib.Omega.{arith}
use borrow.Author.Tests.{eq-eqb}
use lib.Dec.{T, eqb, eqb→eq}
use lib.ListN.{length}
use Rattle.whole.proofs.Tests.{never}
use Rattle.rules.specs.Rule.{Rule, Constant, Join, Not, Literal, Bind}
use Rattle.rules.specs.Table.{Node}
use Rattle.rules.specs.Steps.{normal}
use Rattle.rules.specs.Chosen.{quantifiers}
use Rattle.rules.specs.Laws.{QuantifierFree}
use Rattle.rules.specs.Calls.{words}
use Rattle.tables.specs.Parts.{Behind, RuleIn}
use Rattle.tables.specs.declared.extent.Extent.{Extent}
use Rattle.tables.specs.declared.kind.Kind.TheVariants as kind
use Rattle.tables.specs.declared.part.Part.{Part}
use Rattle.builder.proofs.BuiltLaws.{building_less}
use Rattle.folding.specs.declared.answers.Folded.{Folded}
use Rattle.walks.specs.Chain.{unary, Chained, no_link, a_not, a_bind, below}
use Rattle.walks.specs.Walk.{SomeRule}
use Rattle.walks.specs.Normal.{SomeNot, UnderNots, Normalled}
use Rattle.std.specs.Prelude.{Option}
use Rattle.walks.proofs.ChainLaws.{chain_weight}
use Rattle.walks.proofs.PartLaws.{ChainIn, FindsChain, chain_in, inner_short, bare_below, inner_here, of_kind}
use Rattle.walks.proofs.NormalLaws.{Call, ReadyFor, Answers, Kinded, call_on}

-- ---- what is under the nots, and how

below_free : (k : ℕ) (a : Rule) → QuantifierFree a → QuantifierFree (below k a)
unfolding below quantifiers
below_free zero a free = free
below_free (suc k) (Constant b) free = free
below_free (suc k) (Join j a b) free = free
below_free (suc k) (Not a) free = below_free k a free
below_free (suc k) (Literal t s) free = free
below_free (suc k) (Bind q v a) free = absurd (omega (arith, free))

-- whether the walk is plain under so many nots
unfoldable after_nots : ℕ → Bool → Bool
after_nots zero plainly = plainly
after_nots (suc k) plainly = after_nots k (not plainly)

normal_below : (k : ℕ) (plainly : Bool) (x : ℕ) (a : Rule) → QuantifierFree a → Chained k a
    → normal plainly x a ≡ normal (after_nots k plainly) x (below k a)
unfolding below normal quantifiers after_nots
normal_below k plainly x r free (no_link a) = refl
normal_below k plainly x r free (a_not {k = i} a c) = normal_below i (not plainly) x a free c
normal_below k plainly x r free (a_bind q v a c) = absurd (omega (arith, free))

-- "Two nots cancel."
two_nots : (plainly : Bool) → not (not plainly) ≡ plainly
two_nots true = refl
two_nots false = refl

odd_or_even : (k : ℕ) (plainly : Bool)
    → (k % 2 ≡ 1 → after_nots k plainly ≡ not plainly) × (¬ (k % 2 ≡ 1) → after_nots k plainly ≡ plainly)
unfolding after_nots
odd_or_even zero plainly = (λ odd. absurd (omega (arith, odd)), λ even. refl)
odd_or_even (suc k) plainly =
    let (if_odd, if_even) = odd_or_even k (not plainly) in (
      λ odd. if_even (omega (arith, odd)),
      λ even. if_odd (omega (arith, even)) ∙ two_nots plainly,
    )

turns : (k : ℕ) (plainly : Bool) → after_nots k plainly ≡ cond (eqb (k % 2) 1) (not plainly) plainly
turns k plainly = go (eqb (k % 2) 1) refl
  where
    go : (b : Bool) → eqb (k % 2) 1 ≡ b → after_nots k plainly ≡ cond b (not plainly) plainly
    go true e = (odd_or_even k plainly).0 (eqb→eq (k % 2) 1 (subst T (sym e) tt))
    go false e = (odd_or_even k plainly).1 (λ odd. never (sym e ∙ eq-eqb (k % 2) 1 odd))

-- ---- the run is found, and the part r is what stands behind it

some_nodes : {q : Part} {links : Extent} (some : SomeNot q) → ChainIn q links some.rule → 0 < links.nodes
unfolding below
some_nodes {links = links} some run = go links.nodes some.rule some.is_not (bare_below run)
  where
    go : (i : ℕ) (a : Rule) → unary a ≡ true → unary (below i a) ≡ false → 0 < i
    go zero a there bare = absurd (subst T (sym there ∙ bare) tt)
    go (suc i) a there bare = omega arith

pub under_found : {q r : Part} {links : Extent} → SomeNot q → FindsChain q links → Behind q links.nodes links.words r
    → (a : Rule) → RuleIn q a → QuantifierFree a → UnderNots q a r (eqb (links.nodes % 2) 1)
under_found {q} {r} {links} some found behind a at free =
    let x = chain_in q found a at in
    let run = chain_in q found some.rule some.at in
    let i = links.nodes in
    record {
      under = below i a;
      at = inner_here x behind;
      free = below_free i a free;
      light = omega (arith, chain_weight i a x.chain.chained);
      normal_is = λ plainly v. normal_below i plainly v a free x.chain.chained
          ∙ ap (λ (p : Bool). normal p v (below i a)) (turns i plainly);
      shorter = omega (arith, inner_short run behind, some_nodes some run);
    }

-- ---- a walk passes it

pub not_asks : {q : Call} → Kinded q kind.Not → SomeNot q.part
not_asks node =
    let some = node.some in
    record {
      rule = some.rule;
      at = some.ready.at;
      free = some.ready.free;
      is_not = of_kind some.rule (node.kind_is some.rule some.ready.at);
    }

pub record Passed (q : Call) (r : Part) (odd : Bool) : Type 0 where
  pub some : SomeRule (ReadyFor q)
  pub found : (a : Rule) → RuleIn q.part a → QuantifierFree a → UnderNots q.part a r odd

module _ {q : Call} {r : Part} {odd : Bool} (passed : Passed q r odd) where
  under_for : {a : Rule} {ds : List Node} → ReadyFor q a ds → UnderNots q.part a r odd
  under_for {a} ready = passed.found a ready.at ready.free

  pub run_shorter : length (words r.entries.now) < length (words q.part.entries.now)
  run_shorter = (under_for passed.some.ready).shorter

  -- what stands under the run is ready as the rule is
  inner_ready : {a : Rule} {ds : List Node} (ready : ReadyFor q a ds)
      → ReadyFor (call_on q r) (under_for ready).under ds
  inner_ready ready =
      let u = under_for ready in
      record {
        at = u.at;
        free = u.free;
        setting = ready.setting;
        building = building_less ready.building (omega (arith, u.light));
      }

  pub inner_asks : SomeRule (ReadyFor (call_on q r))
  inner_asks =
      let some = passed.some in
      record { rule = (under_for some.ready).under; tail = some.tail; ready = inner_ready some.ready }

  -- its answer is the rule's own
  module _ (plainly : Bool) (l : List ℕ) (f : Option Folded) where
    inner_made : Answers (call_on q r) (cond odd (not plainly) plainly) l f → Answers q plainly l f
    inner_made answer a ds ready =
        let u = under_for ready in
        subst (λ (y : Rule). Normalled (words l) q.state ds y f) (sym (u.normal_is plainly q.setting))
        (answer u.under ds (inner_ready ready))

    pub odd_made : odd ≡ true → Answers (call_on q r) (not plainly) l f → Answers q plainly l f
    odd_made e answer =
        inner_made (subst (λ (o : Bool). Answers (call_on q r) (cond o (not plainly) plainly) l f) (sym e) answer)

    pub even_made : odd ≡ false → Answers (call_on q r) plainly l f → Answers q plainly l f
    even_made e answer =
        inner_made (subst (λ (o : Bool). Answers (call_on q r) (cond o (not plainly) plainly) l f) (sym e) answer)
