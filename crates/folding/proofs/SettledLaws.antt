-- Which truth value settles an and or an or: "An and with a false side is false, one with a true side is its other
-- side; or is the dual."
-- Assumes nothing.
use mathlib.Core.Path.{◌≡◌, refl, ap, ◌∙◌}
use mathlib.Core.Bool.{Bool, true, false, cond}
use Rattle.whole.proofs.Tests.{never}
use Rattle.rules.specs.Rule.{Junction, Rule, Constant, Join, Not, Literal, Bind}
use Rattle.rules.specs.Fold.{Side, decides, drops, stays, side, fold_sides, fold_join}
use Rattle.rules.proofs.Folding.{Open}
use Rattle.builder.specs.Built.{junction}
use Rattle.folding.specs.Answers.{settled}
use Rattle.folding.specs.declared.answers.Folded.TheVariants.{Known}

-- ---- a join with a side that is a truth value

side_is : (both v : Bool) → side (junction both) (Constant v) ≡ cond (settled both (Known v)) decides drops
unfolding side junction settled
side_is true true = refl
side_is true false = refl
side_is false true = refl
side_is false false = refl

side_known : (both v s : Bool) → settled both (Known v) ≡ s → side (junction both) (Constant v) ≡ cond s decides drops
side_known both v s e = side_is both v ∙ ap (λ (t : Bool). cond t decides drops) e

-- where the left side is a truth value, and where the right side is one and the left side open
module _ (both v s : Bool) (told : settled both (Known v) ≡ s) where
  abbrev j : Junction
  j = junction both

  pub left_known : (x : Rule) → fold_join (junction both) (Constant v) x ≡ cond s (Constant v) x
  unfolding fold_join fold_sides
  left_known x = ap (λ (w : Side). fold_sides w (side j x) j (Constant v) x) (side_known both v s told) ∙ rest s
    where
      rest : (t : Bool) → fold_sides (cond t decides drops) (side j x) j (Constant v) x ≡ cond t (Constant v) x
      rest true = refl
      rest false = refl

  pub right_known : (y : Rule) → Open y → fold_join (junction both) y (Constant v) ≡ cond s (Constant v) y
  unfolding fold_join fold_sides side
  right_known y h =
      stay y h ∙ ap (λ (w : Side). fold_sides stays w j y (Constant v)) (side_known both v s told) ∙ rest s
    where
      stay : (a : Rule) → Open a → fold_join j a (Constant v) ≡ fold_sides stays (side j (Constant v)) j a (Constant v)
      stay (Constant w) k = absurd k
      stay (Join i a c) k = refl
      stay (Not a) k = refl
      stay (Literal t l) k = refl
      stay (Bind q i a) k = refl

      rest : (t : Bool) → fold_sides stays (cond t decides drops) j y (Constant v) ≡ cond t (Constant v) y
      rest true = refl
      rest false = refl

-- of two constants that both settle the left one is taken, and it is the same
pub right_settles : (both v : Bool) (y : Rule) → settled both (Known v) ≡ true
    → fold_join (junction both) y (Constant v) ≡ Constant v
unfolding fold_join fold_sides side junction settled
right_settles true true (Constant w) e = never e
right_settles true false (Constant true) e = refl
right_settles true false (Constant false) e = refl
right_settles false true (Constant true) e = refl
right_settles false true (Constant false) e = refl
right_settles false false (Constant w) e = never e
right_settles both v (Join j a c) e = right_known both v true e (Join j a c) tt
right_settles both v (Not a) e = right_known both v true e (Not a) tt
right_settles both v (Literal t s) e = right_known both v true e (Literal t s) tt
right_settles both v (Bind q i a) e = right_known both v true e (Bind q i a) tt
