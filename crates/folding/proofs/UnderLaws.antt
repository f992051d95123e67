-- An answer under a not or a quantifier, and one that stands alone.
-- Assumes nothing.
use mathlib.Core.Path.{◌≡◌, sym, ap, subst}
use mathlib.Core.Bool.{Bool, not}
use mathlib.Core.List.{List, ◌∷◌, ◌++◌}
use Prim.Native.Nat.{ℕ, ◌≤◌}
use native.Mathlib.Omega.{arith}
use lib.IntN.{ℤ}
use Rattle.rules.specs.Rule.{Quantifier, Rule, Bind}
use Rattle.rules.specs.Table.{Node, constant_node, not_node, bind_node, nodes}
use Rattle.rules.specs.Fold.{fold_not}
use Rattle.rules.proofs.Sizes.{total_nodes, weight_pos}
use Rattle.rules.proofs.Folding.{not_open}
use Rattle.builder.specs.Built.{Built, Countable}
use Rattle.builder.specs.declared.push.State.{State}
use Rattle.builder.proofs.BuiltLaws.{built_countable}
use Rattle.folding.specs.Answers.{Gives, Answered}
use Rattle.folding.specs.declared.answers.Folded.{Folded}
use Rattle.folding.specs.declared.answers.Folded.TheVariants.{Known, Pushed}
use Rattle.folding.proofs.AnswerLaws.{gives_known, gives_pushed}

-- ---- what can be counted after an answer

-- where the rule was put, at once or after all
pub stood_countable : (ws vs : List ℤ) (b c : State) (f : Folded) (n : ℕ) (a : Answered ws b f n)
    → Built vs c (nodes a.rule ++ a.tail) → Countable c n
stood_countable ws vs b c f n a stood = built_countable vs c (nodes a.rule ++ a.tail) n stood
    (omega (arith, a.small, total_nodes a.rule a.tail))

pub pushed_countable : (ws : List ℤ) (b : State) (f : Folded) (n : ℕ) (c : State) → f ≡ Pushed c → Answered ws b f n
    → Countable c n
pushed_countable ws b f n c e a =
    stood_countable ws ws b c f n a (gives_pushed ws b a.tail a.rule f c e a.gives).1

-- the word of a truth value that was not put
pub known_countable : (ws : List ℤ) (b : State) (f : Folded) (v : Bool) → f ≡ Known v → Answered ws b f 0
    → Countable b 1
known_countable ws b f v e a =
    let known = gives_known ws b a.tail a.rule f v e a.gives in
    built_countable ws b a.tail 1 known.1 (omega (arith, a.small, weight_pos a.rule))

pub answered_fewer : (ws : List ℤ) (b : State) (f : Folded) (n m : ℕ) → m ≤ n → Answered ws b f n → Answered ws b f m
answered_fewer ws b f n m h a =
    record { rule = a.rule; tail = a.tail; gives = a.gives; small = omega (arith, a.small) }

-- ---- what is answered, and built, then

module _ (ws : List ℤ) (b : State) (ds : List Node) (x : Rule) (f : Folded) where
  -- "Not of true is false and the reverse."
  pub not_known : (v : Bool) → f ≡ Known v → Gives ws b ds x f → Gives ws b ds (fold_not x) (Known (not v))
  unfolding Gives fold_not
  not_known v e h = let known = gives_known ws b ds x f v e h in (ap fold_not known.0, known.1)

  pub not_pushed : (vs : List ℤ) (c d : State) → f ≡ Pushed c → Gives ws b ds x f
      → ((l : List Node) → Built ws c l → Built vs d (not_node ∷ l)) → Gives vs b ds (fold_not x) (Pushed d)
  not_pushed vs c d e h put =
      let pushed = gives_pushed ws b ds x f c e h in
      subst (λ (r : Rule). Gives vs b ds r (Pushed d)) (sym (not_open x pushed.0))
      (unfold Gives nodes in (tt, put _ pushed.1))

  -- a truth value that is put
  pub known_stood : (vs : List ℤ) (v : Bool) (d : State) → f ≡ Known v → Gives ws b ds x f
      → ((l : List Node) → Built ws b l → Built vs d (constant_node v ∷ l)) → Built vs d (nodes x ++ ds)
  known_stood vs v d e h put =
      let known = gives_known ws b ds x f v e h in
      subst (λ (r : Rule). Built vs d (nodes r ++ ds)) (sym known.0) (unfold nodes in put ds known.1)

pub bound_gives : (ws vs : List ℤ) (b c d : State) (ds : List Node) (x : Rule) (q : Quantifier) (v : ℕ)
    → Built ws c (nodes x ++ ds) → ((l : List Node) → Built ws c l → Built vs d (bind_node q v ∷ l))
    → Gives vs b ds (Bind q v x) (Pushed d)
unfolding Gives nodes
bound_gives ws vs b c d ds x q v stood put = (tt, put _ stood)
