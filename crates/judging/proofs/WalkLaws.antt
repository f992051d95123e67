-- The walk: what is said of a constant, a literal and a quantifier that stands there.
-- Assumes nothing.
use mathlib.Core.Path.{◌≡◌, refl, sym, ◌∙◌, subst}
use mathlib.Core.Bool.{Bool}
use mathlib.Core.List.{[], ◌++◌, append_assoc}
use Prim.Native.Nat.{ℕ, ◌+◌, ◌<◌}
use lib.IntN.{pos}
use Rattle.rules.specs.Sum.{Sum, add, number}
use Rattle.rules.specs.Rule.{Test, Rule, Constant, Literal}
use Rattle.rules.specs.Fold.{fold}
use Rattle.rules.specs.Literals.{map_literals}
use Rattle.rules.specs.Table.{literal_node, body, bodies, nodes}
use Rattle.rules.specs.Laws.{Each, InTable}
use Rattle.rules.specs.Calls.{words}
use Rattle.tables.specs.Parts.{RuleIn, SomeRuleIn}
use Rattle.tables.specs.declared.part.Part.{Part}
use Rattle.literals.specs.Literal.{LiteralAt}
use Rattle.literals.specs.Changes.{becomes}
use Rattle.judging.specs.Judging.{bit, Says, put_into, at_sum}
use Rattle.judging.specs.Masks.{Known}
use Rattle.judging.specs.Shifts.{Shifted, SomeMoved}
use Rattle.judging.specs.Walks.{SomeWalking, Judges}
use Rattle.judging.proofs.KindRules.{IsLiteral, IsBind}
use Rattle.judging.proofs.SaidLaws.{says_throughout, says_open}

literal_at : (p : Part) → ((a : Rule) → RuleIn p a → IsLiteral a) → (a : Rule) → RuleIn p a
    → (t : Test) × (s : Sum) × (a ≡ Literal t s) × LiteralAt (words p.bodies.now) p.node t s
literal_at p is a at =
    let (t, s, e) = is a at in
    (t, s, e, here t s (subst (RuleIn p) e at))
  where
    here : (t : Test) (s : Sum) → RuleIn p (Literal t s) → LiteralAt (words p.bodies.now) p.node t s
    here t s at = unfold nodes bodies Each in
        let formed : InTable t s = at.formed in
        record {
          after = bodies (p.node + 1) [] ++ at.stands.bodies_after;
          begins = at.stands.bodies
              ∙ append_assoc (body p.node (literal_node t s)) (bodies (p.node + 1) []) at.stands.bodies_after;
          long = formed.0;
          fair = formed.2;
        }

module _ {p : Part} {x : ℕ} {v : Sum} where
  pub some_rule_in : SomeWalking p x v → SomeRuleIn p
  some_rule_in some = record { rule = some.rule; at = some.walking.at }

  pub literal_asks : ((a : Rule) → RuleIn p a → IsLiteral a) → SomeWalking p x v → SomeMoved (words p.bodies.now) x v
  literal_asks is some =
      let (t, s, e, l) = literal_at p is some.rule some.walking.at in
      record {
        literal = record { node = p.node; test = t; sum = s; at = l };
        setting = some.walking.setting;
        shift = some.walking.shift;
      }

  module _ (far : Bool) {ys ns : ℕ} where
    pub constant_says : (b : Bool) → ((a : Rule) → RuleIn p a → a ≡ Constant b) → Known ys ns (λ i. b)
        → Judges p far x v ys ns
    constant_says b is known a w i h shifted less =
        subst (λ (a : Rule). Says ys ns i (at_sum far x w i a)) (sym (is a h.at))
        (unfold at_sum map_literals in says_throughout constant_folds known less)
      where
        constant_folds : fold (Constant b) ≡ Constant b
        constant_folds = unfold fold in refl

    -- a quantifier stays
    pub bind_says : ((a : Rule) → RuleIn p a → IsBind a) → ((i : ℕ) → (bit ys i ≡ 0) × (bit ns i ≡ 0))
        → Judges p far x v ys ns
    bind_says is none a w i h shifted less =
        let (q, m, b, e) = is a h.at in
        subst (λ (a : Rule). Says ys ns i (at_sum far x w i a)) (sym e)
        (unfold at_sum map_literals fold in says_open (none i) tt)

    pub literal_says : ((a : Rule) → RuleIn p a → IsLiteral a)
        → ((n : ℕ) (t : Test) (s w : Sum) (i : ℕ) → LiteralAt (words p.bodies.now) n t s → Shifted x w v
        → i < 64 → Says ys ns i (becomes (put_into far x) (add w (number (pos i))) t s))
        → Judges p far x v ys ns
    literal_says is judged a w i h shifted less =
        let (t, s, e, l) = literal_at p is a h.at in
        subst (λ (a : Rule). Says ys ns i (at_sum far x w i a)) (sym e)
        (as_sum t s (judged p.node t s w i l shifted less))
      where
        as_sum : (t : Test) (s : Sum) → Says ys ns i (becomes (put_into far x) (add w (number (pos i))) t s)
            → Says ys ns i (at_sum far x w i (Literal t s))
        as_sum t s h = unfold at_sum map_literals in h
