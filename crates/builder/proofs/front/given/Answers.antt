-- `front::given` meets its contract: the words are put from the last to the first.
-- Assumes nothing.
use mir.Syntax.{w32}
use mir.Val.{SFits}
use mathlib.Core.Path.{◌≡◌, sym, ap, ◌∙◌, subst}
use mathlib.Core.List.{List, [], ◌∷◌, ◌++◌, append_assoc, append-nil}
use native.Mathlib.Omega.{arith}
use lib.ListN.{length, length-append}
use lib.IntN.{ℤ}
use mir.Facts.{to_z-of_z}
use borrow.Author.Rules.{rules}
use Rattle.std.proofs.lemmas.List.{nil_from_length}
use Rattle.rules.specs.Calls.{words}
use Rattle.builder.specs.Built.{Ends}
use Rattle.builder.proofs.EndLaws.{word_is}
use Rattle.builder.proofs.front.given.Goals as goal

pub loop-v-init : goal.loop-v-init
loop-v-init c =
    let all : c.args.sum.now ≡ c.into_iter-v-iterator.result.iter.rest.now = search rules in
    ([], all ∙ sym (append-nil _), omega arith, λ l b. b)

pub word-u-requires : goal.word-u-requires
word-u-requires c =
    let (done, split, counted, ends) = c.loop-v.invariant in
    omega (arith, ap length split, ap length c.in-Some.ensures.steps, length-append {A = ℤ})

pub loop-v-preserved : goal.loop-v-preserved
loop-v-preserved c =
    let (done, split, counted, ends) = c.loop-v.invariant in
    let v = c.in-Some.v.now in
    let fits : SFits w32 v = search rules in (
      v ∷ done,
      split ∙ ap (λ (m : List ℤ). m ++ done) c.in-Some.ensures.steps ∙ append_assoc _ (v ∷ []) done,
      omega arith,
      λ l b. word_is _ _ _ _ (done ++ l) (to_z-of_z fits) (c.word-u.ensures.0 _ (ends l b)),
    )

pub returns : goal.returns
returns c =
    let (done, split, counted, ends) = c.loop-v.invariant in
    let none = nil_from_length c.loop-v.v-iterator.iter.rest.now c.in-None.ensures.steps.0 in
    let all : done ≡ c.args.sum.now = sym (split ∙ ap (λ (m : List ℤ). m ++ done) none) in (
      λ l b. subst (λ (m : List ℤ). Ends (words c.loop-v.out) c.loop-v.u (m ++ l)) all (ends l b),
      omega (arith, ap length all),
    )
