-- `judge::leaf` meets its contract: a kind that is neither quantifier's is a literal's.
-- Assumes nothing.
use mathlib.Core.Path.{sym, ◌∙◌}
use Rattle.rules.specs.Rule.{Rule}
use Rattle.tables.specs.Parts.{RuleIn}
use Rattle.judging.proofs.KindRules.{IsLiteral, one_of_binds, literal_rule}
use Rattle.judging.proofs.WalkLaws.{bind_says, literal_asks, literal_says}
use Rattle.judging.proofs.judge.leaf.Goals as goal
use Rattle.judging.proofs.judge.leaf.Goals.{In_default}

pub returns-in-ForSome : goal.returns-in-ForSome
returns-in-ForSome c =
    bind_says c.args.put.far (λ a at. one_of_binds c.kind.result a (c.kind.ensures a at) c.in-ForSome.is)
    c.neither.ensures

literal : (c : In_default) → (a : Rule) → RuleIn c.args.part a → IsLiteral a
literal c a at =
    let l = c.requires in
    let e = sym (c.kind.ensures a at) in
    let d = c.in_default in
    literal_rule c.kind.result a (c.kind.ensures a at) (λ k. l.no_false a at (e ∙ k)) (λ k. l.no_true a at (e ∙ k))
    (λ k. l.no_and a at (e ∙ k)) (λ k. l.no_or a at (e ∙ k)) (λ k. l.no_not a at (e ∙ k)) d.not-ForSome d.not-ForAll

pub judge-requires : goal.judge-requires
judge-requires c = literal_asks (literal (goal.at.judge-requires c).In_default) c.requires.some

pub returns-in_default : goal.returns-in_default
returns-in_default c =
    literal_says c.args.put.far (literal (goal.at.returns-in_default c).In_default) c.judge.ensures
