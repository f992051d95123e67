-- The chosen quantifier: its number and place are within the rule, and there it stands.
-- Assumes nothing.
use mathlib.Core.Path.{◌≡◌, refl, subst}
use mathlib.Core.Bool.{Bool, true, false, not}
use mathlib.Core.List.{List}
use Prim.Native.Nat.{ℕ, ◌+◌, ◌<◌, ◌≤◌}
use native.Mathlib.Omega.{arith}
use lib.Dec.{T}
use lib.IntN.{ℤ}
use lib.ListN.{drop}
use Rattle.rules.specs.Rule.{Quantifier, Rule, Constant, Join, Not, Literal, Bind}
use Rattle.rules.specs.Table.{count, nodes}
use Rattle.rules.specs.Chosen.{Chosen, nothing, the, quantifiers, quantified, chosen}
use Rattle.rules.specs.Laws.{QuantifierFree}
use Rattle.rules.proofs.Sizes.{weight}
use Rattle.rules.proofs.Meaning.{none_quantified, some_quantified}
use Rattle.tables.specs.Standing.{Stands}
use Rattle.tables.specs.Last.{chosen_number, chosen_place}
use Rattle.tables.proofs.Standings.{under_not, under_bind, left, right}
use Rattle.bodies.proofs.BehindLaws.{behind_none, behind_more}

-- ---- where there is none

pub chosen_none : (r : Rule) → QuantifierFree r → chosen r ≡ nothing
unfolding chosen quantifiers
chosen_none (Constant b) e = refl
chosen_none (Join j a b) e = by_test (quantified b) (some_quantified b) (chosen_none a (omega arith))
  where
    by_test : (t : Bool) → (T t → 0 < quantifiers b) → chosen a ≡ nothing
        → elim t [ true ↦ chosen b | false ↦ chosen a ] ≡ nothing
    by_test true some left = absurd (omega (arith, some tt))
    by_test false some left = left
chosen_none (Not a) e = chosen_none a e
chosen_none (Literal t s) e = refl
chosen_none (Bind q v a) e = absurd (omega arith)

-- ---- its number and place

-- i nodes and p words of a rule of c nodes and w words stand before the two words of the chosen quantifier
abbrev Within : ℕ → ℕ → ℕ → ℕ → Type 0
Within i p c w = (i < c) × (p + 2 ≤ w)

pub chosen_few : (r : Rule) → 0 < quantifiers r → (chosen_number r < count r) × (chosen_place r + 2 ≤ weight r)
unfolding quantifiers chosen_number chosen_place count weight
chosen_few (Constant b) h = absurd (omega arith)
chosen_few (Join j a b) h =
    by_test (quantified b) (some_quantified b) (none_quantified b) (chosen_few a) (chosen_few b)
  where
    by_test : (t : Bool) → (T t → 0 < quantifiers b) → (T (not t) → QuantifierFree b)
        → (0 < quantifiers a → Within (chosen_number a) (chosen_place a) (count a) (weight a))
        → (0 < quantifiers b → Within (chosen_number b) (chosen_place b) (count b) (weight b))
        → Within (elim t [ true ↦ 1 + count a + chosen_number b | false ↦ 1 + chosen_number a ])
        (elim t [ true ↦ 2 + weight a + chosen_place b | false ↦ 2 + chosen_place a ])
        (1 + count a + count b) (2 + weight a + weight b)
    by_test true some none left right = let (i, p) = right (some tt) in (omega arith, omega arith)
    by_test false some none left right = let (i, p) = left (omega (arith, none tt)) in (omega arith, omega arith)
chosen_few (Not a) h = let (i, p) = chosen_few a h in (omega arith, omega arith)
chosen_few (Literal t s) h = absurd (omega arith)
chosen_few (Bind q v a) h = by_test (quantified a) (some_quantified a) (chosen_few a)
  where
    by_test : (t : Bool) → (T t → 0 < quantifiers a)
        → (0 < quantifiers a → Within (chosen_number a) (chosen_place a) (count a) (weight a))
        → Within (elim t [ true ↦ 1 + chosen_number a | false ↦ 0 ])
        (elim t [ true ↦ 2 + chosen_place a | false ↦ 0 ]) (1 + count a) (2 + weight a)
    by_test true some inside = let (i, p) = inside (some tt) in (omega arith, omega arith)
    by_test false some inside = (omega arith, omega arith)

-- ---- it stands there

-- what is chosen stands behind i nodes and w words
abbrev StandsBehind : List ℤ → List ℤ → ℕ → ℕ → ℕ → ℕ → Chosen → Type 0
StandsBehind es bs n p i w nothing = Unit {0}
StandsBehind es bs n p i w (the q x a) = Stands (drop i es) (drop w bs) (n + i) (p + w) (Bind q x a)

further : (es bs : List ℤ) (n p i w j v : ℕ) (k : Chosen)
    → StandsBehind (drop i es) (drop w bs) (n + i) (p + w) j v k → StandsBehind es bs n p (i + j) (w + v) k
further es bs n p i w j v nothing s = tt
further es bs n p i w j v (the q x a) s = behind_more es bs n p i w j v (nodes (Bind q x a)) s

stands_behind : {es bs : List ℤ} {n p : ℕ} (r : Rule) → Stands es bs n p r
    → StandsBehind es bs n p (chosen_number r) (chosen_place r) (chosen r)
unfolding chosen chosen_number chosen_place
stands_behind (Constant b) s = tt
stands_behind {es} {bs} {n} {p} (Join j a b) s =
    by_test (quantified b)
    (further es bs n p 1 2 (chosen_number a) (chosen_place a) (chosen a)
    (stands_behind {es = drop 1 es} {bs = drop 2 bs} {n = n + 1} {p = p + 2} a (left j a b s)))
    (further es bs n p (1 + count a) (2 + weight a) (chosen_number b) (chosen_place b) (chosen b)
    (stands_behind {es = drop (1 + count a) es} {bs = drop (2 + weight a) bs} {n = n + (1 + count a)}
    {p = p + (2 + weight a)} b (right j a b s)))
  where
    by_test : (t : Bool) → StandsBehind es bs n p (1 + chosen_number a) (2 + chosen_place a) (chosen a)
        → StandsBehind es bs n p (1 + count a + chosen_number b) (2 + weight a + chosen_place b) (chosen b)
        → StandsBehind es bs n p (elim t [ true ↦ 1 + count a + chosen_number b | false ↦ 1 + chosen_number a ])
        (elim t [ true ↦ 2 + weight a + chosen_place b | false ↦ 2 + chosen_place a ])
        (elim t [ true ↦ chosen b | false ↦ chosen a ])
    by_test true left_one right_one = right_one
    by_test false left_one right_one = left_one
stands_behind {es} {bs} {n} {p} (Not a) s =
    further es bs n p 1 1 (chosen_number a) (chosen_place a) (chosen a)
    (stands_behind {es = drop 1 es} {bs = drop 1 bs} {n = n + 1} {p = p + 1} a (under_not a s))
stands_behind (Literal t u) s = tt
stands_behind {es} {bs} {n} {p} (Bind q v a) s =
    by_test (quantified a)
    (further es bs n p 1 2 (chosen_number a) (chosen_place a) (chosen a)
    (stands_behind {es = drop 1 es} {bs = drop 2 bs} {n = n + 1} {p = p + 2} a (under_bind q v a s)))
  where
    by_test : (t : Bool) → StandsBehind es bs n p (1 + chosen_number a) (2 + chosen_place a) (chosen a)
        → StandsBehind es bs n p (elim t [ true ↦ 1 + chosen_number a | false ↦ 0 ])
        (elim t [ true ↦ 2 + chosen_place a | false ↦ 0 ]) (elim t [ true ↦ chosen a | false ↦ the q v a ])
    by_test true inside = inside
    by_test false inside = behind_none es bs n p (nodes (Bind q v a)) s

pub chosen_stands : {es bs : List ℤ} {n p : ℕ} (r : Rule) {q : Quantifier} {x : ℕ} {a : Rule}
    → Stands es bs n p r → chosen r ≡ the q x a
    → Stands (drop (chosen_number r) es) (drop (chosen_place r) bs) (n + chosen_number r) (p + chosen_place r)
    (Bind q x a)
chosen_stands {es} {bs} {n} {p} r s e =
    subst (StandsBehind es bs n p (chosen_number r) (chosen_place r)) e (stands_behind r s)
