-- `question::size` meets its contract: the question's words, counted on the rule.
-- Assumes nothing.
use mathlib.Core.Path.{refl, ◌∙◌, ap}
use Prim.Native.Nat.{ℕ, ◌+◌, ◌*◌}
use native.Mathlib.Omega.{arith}
use Rattle.tables.proofs.WordLaws.{words_length}
use Rattle.questions.proofs.QuestionLaws.{question_size}
use Rattle.questions.proofs.question.size.Goals as goal

pub overflow_mul-result : goal.overflow_mul-result
overflow_mul-result c = omega (arith, words_length c.args.t.now)

pub overflow_add-result : goal.overflow_add-result
overflow_add-result c = omega (arith, words_length c.args.t.now)

pub returns : goal.returns
returns c = λ r v decodes setting.
    ap (λ (n : ℕ). n * 2 + 25) c.count.ensures
    ∙ question_size v setting r _ _ (record { decodes = decodes; counted = refl })
