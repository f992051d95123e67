-- `change::divisor` meets its contract: it is multiplied where the literal is scaled.
-- Assumes nothing.
use mathlib.Core.Path.{◌≡◌, sym, ap, ◌∙◌}
use borrow.Author.Rules.{sfits_of}
use mir.Syntax.{w64}
use Rattle.literals.specs.Literal.{start_of}
use Rattle.literals.specs.Changes.{divisor_or_none}
use Rattle.literals.proofs.Sizes.{again}
use Rattle.literals.proofs.ChangeLaws.{scaled_fair}
use Rattle.literals.proofs.ChangeLaws.{divisor_none, divisor_read, divisor_kept, divisor_scaled}
use Rattle.literals.proofs.change.divisor.Goals as goal

pub returns-then-sum_at-eq1 : goal.returns-then-sum_at-eq1
returns-then-sum_at-eq1 c = λ n t s l. divisor_none s _ t (sym (c.sum_at.ensures.0 n t s l) ∙ c.if-sum_at-eq1.true)

pub returns-in_default : goal.returns-in_default
returns-in_default c = λ n t s l.
    let at = c.sum_at in
    let unscaled = divisor_kept s _ t c.in_default.not-Scaled in
    divisor_read t l (λ e. c.if-sum_at-eq1.false (at.ensures.0 n t s l ∙ e)) c.natural-k.ensures.1
    ∙ sym (ap divisor_or_none unscaled)

pub factor-requires : goal.factor-requires
factor-requires c =
    (c.requires.0, (scaled_fair c.in-Scaled.is c.requires.1).0)

pub multiplier-requires : goal.multiplier-requires
multiplier-requires c = (
  again w64 (sfits_of {z = c.factor.result} c.factor.type_inv) c.factor.ensures.1,
  (scaled_fair c.in-Scaled.is c.requires.1).1,
)

pub returns-in-Scaled : goal.returns-in-Scaled
returns-in-Scaled c = λ n t s l.
    let at = c.sum_at in
    let f = c.factor in
    let divided : ¬ (start_of t ≡ 1) = λ e. c.if-sum_at-eq1.false (at.ensures.0 n t s l ∙ e) in
    divisor_scaled c.in-Scaled.is (sfits_of {z = f.result} f.type_inv) t s _ (f.ensures.0 n t s l)
    c.multiplier.ensures.0 (divisor_read t l divided c.natural-k.ensures.1) divided
