-- `normal_literal::test` meets its contract: c is looked at, then all words are put.
-- Assumes nothing.
use borrow.Author.Count.{below_more}
use borrow.Author.Rules.{rules, sfits_of}
use native.Mathlib.Omega.{arith}
use mathlib.Core.Path.{◌≡◌, refl, sym, ap, ◌∙◌, subst}
use Prim.Native.Nat.{◌<◌}
use lib.ListN.{length, length-set}
use Rattle.std.proofs.Common.{get_or-set_other, get_or-set_same}
use mir.Syntax.{w32}
use mir.Val.{SFits}
use mir.Facts.{to_z-of_z}
use Rattle.walks.specs.Sums.{raise}
use Rattle.walks.proofs.PutLaws.{some_marked}
use Rattle.walks.proofs.SumLaws.{some_sum_at, sum_at, turned_long, raise_fits, words_are, test_over, test_made}
use Rattle.walks.proofs.normal_literal.test.Goals as goal

pub factor-requires : goal.factor-requires
factor-requires c = (some_sum_at c.requires.0 c.start-at.ensures, omega arith)

pub returns-in_err-c : goal.returns-in_err-c
returns-in_err-c c = rw c.from_residual.ensures (λ t s ds there h.
    test_over there _ _ (sfits_of c.factor.type_inv) (c.factor.ensures s (sum_at there c.start-at.ensures))
    c.in_err-c.ensures _ _ ds)

pub loop-v-init : goal.loop-v-init
loop-v-init c = (refl, refl, λ s at k low high. absurd (omega arith))

pub factor-requires-in-loop-v : goal.factor-requires-in-loop-v
factor-requires-in-loop-v c = (some_sum_at c.requires.0 c.start-at.ensures, omega arith)

pub loop-v-preserved : goal.loop-v-preserved
loop-v-preserved c =
    let v = c.loop-v.v in
    let (long, first, each) = c.loop-v.invariant in
    let inside : v < length c.loop-v.sum = omega (arith, long) in
    let got = to_z-of_z {w = w32} (sfits_of {z = c.factor-in-loop-v.result} c.factor-in-loop-v.type_inv) in (
      length-set _ _ _ ∙ long,
      (let ne : ¬ (0 ≡ v) = omega arith in rw get_or-set_other first),
      λ s at. below_more _ _
          (λ k low high. let ne : ¬ (k ≡ v) = omega arith in rw get_or-set_other (each s at k low high))
          (λ high. rw get_or-set_same (got ∙ c.factor-in-loop-v.ensures s at)),
    )

pub put-requires : goal.put-requires
put-requires c =
    let there = c.requires.0.there in
    search (rules, some_marked there.marked there.fair)

pub returns : goal.returns
returns c t s ds there h =
    let at = sum_at there c.start-at.ensures in
    let got = sfits_of {z = c.factor.result} c.factor.type_inv in
    let c-is = c.factor.ensures s at in
    let (within, raised_is) = c.in_ok-c.ensures in
    let raised = raise_fits (subst (SFits w32) (sym (to_z-of_z got)) got) _ within raised_is in
    let (long, first, each) = c.loop-v.invariant in
    let is = words_are _ _ (turned_long _ s ∙ there.sum.long) c.loop-v.sum long
    (first ∙ to_z-of_z raised ∙ raised_is ∙ ap (raise _) (to_z-of_z got ∙ c-is))
    (λ k high low. each s at k (omega arith) high) in
    test_made there _ _ got c-is within _ _ ds _ _ is (c.put.ensures t ds there.marked h)
