-- What is answered of a result's table: the verdict by its root's kind, and the answer by its parts.
-- Assumes nothing.
use mathlib.Core.Path.{◌≡◌, refl, sym, ◌∙◌, ap}
use mathlib.Core.Bool.{true, false}
use mathlib.Core.List.{List}
use Prim.Native.Nat.{ℕ, ◌+◌, ◌≤◌}
use native.Mathlib.Omega.{arith}
use lib.IntN.{ℤ}
use Rattle.rules.specs.Rule.{Rule, Constant, Join, Not, Literal, Bind, and, or, for_some, for_all}
use Rattle.rules.specs.Rule.{positive, divisible, is_zero}
use Rattle.rules.specs.Result.{given}
use Rattle.rules.specs.Table.{count, size}
use Rattle.rules.specs.Answer.{Answer, verdict_of, settings_of, table_answer}
use Rattle.rules.specs.Calls.{words}
use Rattle.rules.proofs.Sizes.{weight, size_is}
use Rattle.tables.specs.Kinds.{kind_of}
use Rattle.tables.specs.declared.kind.Kind.{Kind}
use Rattle.tables.specs.declared.kind.Kind.TheVariants as kind
use Rattle.tables.specs.declared.part.Part.{Part}
use Rattle.bodies.specs.Body.{SomeBody}
use Rattle.elimination.specs.Stepping.{HasTable, WholeIn}
use Rattle.elimination.proofs.TableLaws.{words_there, whole_body}
use Rattle.leaveoff.specs.Outcome.{answer_of}
use Rattle.leaveoff.specs.declared.answer.Answer as declared

-- ---- the verdict of a kind

abbrev kind_verdict : Kind → ℕ
kind_verdict kind.False = 2
kind_verdict kind.True = 1
kind_verdict kind.And = 3
kind_verdict kind.Or = 3
kind_verdict kind.Not = 3
kind_verdict kind.Positive = 3
kind_verdict kind.Divisible = 3
kind_verdict kind.Indivisible = 3
kind_verdict kind.ForSome = 3
kind_verdict kind.ForAll = 3
kind_verdict kind.Zero = 3

root_verdict : (a : Rule) → kind_verdict (kind_of a) ≡ verdict_of a
unfolding kind_of verdict_of
root_verdict (Constant true) = refl
root_verdict (Constant false) = refl
root_verdict (Join and a b) = refl
root_verdict (Join or a b) = refl
root_verdict (Not a) = refl
root_verdict (Literal positive s) = refl
root_verdict (Literal (divisible true d) s) = refl
root_verdict (Literal (divisible false d) s) = refl
root_verdict (Literal is_zero s) = refl
root_verdict (Bind for_some v a) = refl
root_verdict (Bind for_all v a) = refl

neither : (k : Kind) → ¬ (k ≡ kind.True) → ¬ (k ≡ kind.False) → 3 ≡ kind_verdict k
neither kind.False t f = absurd (f refl)
neither kind.True t f = absurd (t refl)
neither kind.And t f = refl
neither kind.Or t f = refl
neither kind.Not t f = refl
neither kind.Positive t f = refl
neither kind.Divisible t f = refl
neither kind.Indivisible t f = refl
neither kind.ForSome t f = refl
neither kind.ForAll t f = refl
neither kind.Zero t f = refl

module _ {k : Kind} (a : Rule) (root : k ≡ kind_of a) where
  is_verdict : kind_verdict k ≡ verdict_of a
  is_verdict = ap kind_verdict root ∙ root_verdict a

  pub verdict_true : k ≡ kind.True → 1 ≡ verdict_of a
  verdict_true is = sym (ap kind_verdict is) ∙ is_verdict

  pub verdict_false : k ≡ kind.False → 2 ≡ verdict_of a
  verdict_false is = sym (ap kind_verdict is) ∙ is_verdict

  pub verdict_open : ¬ (k ≡ kind.True) → ¬ (k ≡ kind.False) → 3 ≡ verdict_of a
  verdict_open t f = neither k t f ∙ is_verdict

-- ---- the bodies of a table

pub table_body : {ts : List ℤ} {r : Rule} {q : Part} → WholeIn ts r q → (end : ℕ) → end ≡ weight r
    → SomeBody (words q.bodies.now) end
table_body {r = r} {q = q} w end e = record {
  number = q.node;
  rule = r;
  body = whole_body w end e;
  few = omega (arith, w.at.few.few_words);
}

pub words_few : {ts : List ℤ} {r : Rule} → HasTable ts r → (n w : ℕ) → n ≡ count r → w ≡ weight r → n + 1 + w ≤ 16384
words_few has n w c e = omega (arith, c, e, words_there has, has.few)

-- ---- the answer

pub answer_is : (r : Rule) (v n w s : ℕ) → v ≡ verdict_of r → n ≡ count r → w ≡ weight r → s ≡ settings_of r
    → record { number = 0; verdict = v; words = n + 1 + w; settings = s } ≡ table_answer (given r)
unfolding table_answer
answer_is r v n w s e c g f =
    let long : n + 1 + w ≡ size r = omega (arith, c, g, size_is r) in
    ap (λ (x : ℕ). answer x (n + 1 + w) s) e ∙ ap (λ (x : ℕ). answer (verdict_of r) x s) long
    ∙ ap (answer (verdict_of r) (size r)) f
  where
    answer : ℕ → ℕ → ℕ → Answer
    answer v w s = record { number = 0; verdict = v; words = w; settings = s }

pub answer_words : {a : declared.Answer} (r : Rule) → answer_of a ≡ table_answer (given r) → a.words ≡ size r
unfolding table_answer
answer_words r e = ap (λ (a : Answer). a.words) e
