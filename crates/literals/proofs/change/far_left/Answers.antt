-- `change::far_left` meets its contract: only 0 < T with x or -x in it becomes a truth value.
-- Assumes nothing.
use borrow.Author.Rules.{rules}
use lib.IntN.{pos, negsuc}
use mathlib.Core.Path.{◌≡◌, sym, ◌∙◌, ap}
use Rattle.tables.specs.Kinds.{number_of}
use Rattle.tables.specs.declared.kind.Kind.TheVariants.{Positive}
use Rattle.literals.proofs.KindNumbers.{other_number, kind_is, literal_kinded}
use Rattle.literals.proofs.ChangeLaws.{far_other, far_one, far_minus_one, far_neither}
use Rattle.literals.proofs.change.far_left.Goals as goal

pub at-requires : goal.at-requires
at-requires c = literal_kinded c.requires.0

pub returns-in_default : goal.returns-in_default
unfolding number_of
returns-in_default c = λ n t s l.
    far_other s c.args.x t
    (λ e. other_number c.at.result Positive c.in_default.not-Positive (kind_is c.at.result l c.at.ensures ∙ e))

pub returns-in-1 : goal.returns-in-1
unfolding number_of
returns-in-1 c = λ n t s l.
    far_one s c.args.x t (sym (ap number_of c.in-Positive.is) ∙ kind_is c.at.result l c.at.ensures)
    (let k : c.factor.result ≡ pos 1 = search rules in sym (c.factor.ensures.0 n t s l) ∙ k)

pub returns-in-minus1 : goal.returns-in-minus1
unfolding number_of
returns-in-minus1 c = λ n t s l.
    far_minus_one s c.args.x t
    (sym (ap number_of c.in-Positive.is) ∙ kind_is c.at.result l c.at.ensures)
    (let k : c.factor.result ≡ negsuc 0 = search rules in sym (c.factor.ensures.0 n t s l) ∙ k)

pub returns-in_default-factor : goal.returns-in_default-factor
unfolding number_of
returns-in_default-factor c = λ n t s l.
    far_neither s c.args.x t
    (sym (ap number_of c.in-Positive.is) ∙ kind_is c.at.result l c.at.ensures)
    (λ e. let k : c.factor.result ≡ pos 1 = c.factor.ensures.0 n t s l ∙ e in search rules)
    (λ e. let k : c.factor.result ≡ negsuc 0 = c.factor.ensures.0 n t s l ∙ e in search rules)
