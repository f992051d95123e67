-- A round takes a quantifier away, so that as many rounds as there are quantifiers are enough, and more change nothing.
-- Assumes nothing.
use mathlib.Core.Path.{◌≡◌, refl, sym}
use mathlib.Core.Bool.{Bool, true, false}
use Prim.Native.Nat.{ℕ, zero, suc, ◌<◌, ◌≤◌}
use native.Mathlib.Omega.{arith}
use lib.Dec.{T}
use Rattle.rules.specs.Rule.{Rule, Constant, Join, Not, Literal, Bind}
use Rattle.rules.specs.Result.{Result, refused, given, ◌>>=◌}
use Rattle.rules.specs.Table.{count}
use Rattle.rules.specs.Chosen.{quantifiers, quantified}
use Rattle.rules.specs.Eliminate.{round, rounds}
use Rattle.rules.proofs.Meaning.{some_quantified}
use Rattle.rules.proofs.Soundness.{Follows, follows_itself, round_follows}

-- a quantifier is a node
pub quantifiers_few : (a : Rule) → quantifiers a ≤ count a
unfolding quantifiers count
quantifiers_few (Constant b) = omega arith
quantifiers_few (Join j a b) = omega (arith, quantifiers_few a, quantifiers_few b)
quantifiers_few (Not a) = omega (arith, quantifiers_few a)
quantifiers_few (Literal t s) = omega arith
quantifiers_few (Bind q v a) = omega (arith, quantifiers_few a)

-- the rounds of a rule r, by whether a quantifier remains
abbrev while_one : ℕ → ℕ → Rule → Bool → Result Rule
while_one n room r c = elim c [ false ↦ given r | true ↦ round room r >>= rounds n room ]

none_remains : (n room : ℕ) (r : Rule) → quantifiers r ≤ 0 → rounds n room r ≡ given r
unfolding rounds
none_remains zero room r none = refl
none_remains (suc n) room r none = by_test (quantified r) (some_quantified r)
  where
    by_test : (c : Bool) → (T c → 0 < quantifiers r) → while_one n room r c ≡ given r
    by_test false some = refl
    by_test true some = absurd (omega (arith, some tt))

-- m and n rounds come to the same
abbrev Same : ℕ → ℕ → ℕ → Rule → Type 0
Same m n room r = Follows room r r → quantifiers r ≤ m → quantifiers r ≤ n → rounds m room r ≡ rounds n room r

same_rounds : (m n room : ℕ) (r : Rule) → Same m n room r
unfolding rounds ◌>>=◌
same_rounds zero n room r follows few many = sym (none_remains n room r few)
same_rounds (suc m) zero room r follows few many = none_remains (suc m) room r many
same_rounds (suc m) (suc n) room r follows few many =
    by_test (quantified r) (some_quantified r) (λ g. same_rounds m n room g)
  where
    by_round : (x : Result Rule) → round room r ≡ x → 0 < quantifiers r → ((g : Rule) → Same m n room g)
        → (x >>= rounds m room) ≡ (x >>= rounds n room)
    by_round (refused k) is some later = refl
    by_round (given g) is some later =
        let (to_g, one_less) = round_follows room r g follows some is in
        later g (follows_itself to_g) (omega (arith, one_less, few)) (omega (arith, one_less, many))

    by_test : (c : Bool) → (T c → 0 < quantifiers r) → ((g : Rule) → Same m n room g)
        → while_one m room r c ≡ while_one n room r c
    by_test false some later = refl
    by_test true some later = by_round (round room r) refl (some tt) later

pub rounds_enough : (n room : ℕ) (r : Rule) → Follows room r r → quantifiers r ≤ n
    → rounds n room r ≡ rounds (quantifiers r) room r
rounds_enough n room r follows few = same_rounds n (quantifiers r) room r follows few (omega arith)
