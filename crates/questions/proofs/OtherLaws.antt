-- "for some of each other setting": the other settings, and their quantifiers as the first nodes of the question.
-- Assumes nothing.
use mathlib.Core.Path.{◌≡◌, refl, sym, ap, ◌∙◌, subst}
use mathlib.Core.Bool.{Bool, true, cond, ◌&&◌}
use mathlib.Core.List.{List, [], ◌∷◌, ◌++◌, map, map-append}
use Prim.Native.Nat.{ℕ, zero, suc, ◌+◌, ◌*◌, ◌<◌, ◌≤◌}
use native.Mathlib.Decide.{ℕ_discrete}
use native.Mathlib.Omega.{arith}
use borrow.Author.Tests.{lt-ltb, le-ltb}
use lib.Dec.{T, ltb, eqb, eqb→eq}
use lib.IntN.{ℤ, pos}
use lib.ListN.{length, get_or, take, length-take}
use lib.Seq.{take-suc, take-length}
use Rattle.whole.proofs.Tests.{T_and}
use Rattle.rules.specs.Rule.{Rule, for_some}
use Rattle.rules.specs.Table.{Node, bind_node, count, nodes, is_setting, all_settings}
use Rattle.rules.specs.LeaveOff.{others, some_of_each}
use Rattle.rules.proofs.Sizes.{weight, total}
use Rattle.rules.proofs.Encoding.{setting_range}
use Rattle.finishing.specs.Placing.{Free, Run}
use Rattle.finishing.proofs.RunLaws.{run_none, run_then}

-- ---- the other settings

-- whether all numbers below n pass: the checker computes it
every : ℕ → (ℕ → Bool) → Bool
every zero p = true
every (suc n) p = p n && every n p

every_one : (n : ℕ) (p : ℕ → Bool) → T (every n p) → (k : ℕ) → k < n → T (p k)
unfolding every
every_one zero p t k h = absurd (omega arith)
every_one (suc n) p t k h =
    let (last, below) = (T_and (p n) (every n p)).0 t in
    go last (every_one n p below k) (ℕ_discrete k n)
  where
    go : T (p n) → (k < n → T (p k)) → Dec (k ≡ n) → T (p k)
    go last below (yes e) = subst (λ (m : ℕ). T (p m)) (sym e) last
    go last below (no f) = below (omega (arith, f))

-- and so of all settings
of_settings : (p : ℕ → Bool) → T (every 6 (λ u. p (suc u))) → (v : ℕ) → T (is_setting (pos v)) → T (p v)
of_settings p t zero setting = absurd (omega (arith, (setting_range zero setting).0))
of_settings p t (suc u) setting = every_one 6 (λ u. p (suc u)) t u (omega (arith, (setting_range (suc u) setting).1))

pub five : (v : ℕ) → T (is_setting (pos v)) → length (others v all_settings) ≡ 5
unfolding others every
five v setting =
    let five_of : ℕ → Bool = λ v. eqb (length (others v all_settings)) 5 in
    eqb→eq (length (others v all_settings)) 5 (of_settings five_of tt v setting)

-- other setting i is i + 1 where that is below v, and i + 2 from v on
other_is : ℕ → ℕ → Bool
unfolding others
other_is v i = eqb (get_or (others v all_settings) i 0) (cond (ltb (i + 1) v) (i + 1) (i + 2))

module _ (v i : ℕ) (setting : T (is_setting (pos v))) (inside : i < 5) where
  told : get_or (others v all_settings) i 0 ≡ cond (ltb (i + 1) v) (i + 1) (i + 2)
  unfolding other_is every
  told =
      let all = of_settings (λ v. every 5 (other_is v)) tt v setting in
      eqb→eq (get_or (others v all_settings) i 0) (cond (ltb (i + 1) v) (i + 1) (i + 2))
      (every_one 5 (other_is v) all i inside)

  pub low_other : i + 1 < v → (i + 1 ≡ get_or (others v all_settings) i 0) × (i + 1 ≤ 6)
  low_other h = (sym (told ∙ ap (λ (b : Bool). cond b (i + 1) (i + 2)) (lt-ltb (i + 1) v h)), omega arith)

  pub high_other : v ≤ i + 1 → (i + 2 ≡ get_or (others v all_settings) i 0) × (i + 2 ≤ 6)
  high_other h = (sym (told ∙ ap (λ (b : Bool). cond b (i + 1) (i + 2)) (le-ltb (i + 1) v h)), omega arith)

-- the lower ones and the higher ones, by what the test of the code says
pub ruleset by_setting = (low_other, high_other)

-- ---- their quantifiers

abbrev pub somes : List ℕ → List Node
somes = map (bind_node for_some)

pub somes_many : (ws : List ℕ) → (length (somes ws) ≡ length ws) × (total (somes ws) ≡ length ws * 2)
unfolding total
somes_many [] = (refl, omega arith)
somes_many (w ∷ ws) = let (n, t) = somes_many ws in (omega (arith, n), omega (arith, t))

pub each_nodes : (ws : List ℕ) (a : Rule) → nodes (some_of_each ws a) ≡ somes ws ++ nodes a
unfolding nodes some_of_each
each_nodes [] a = refl
each_nodes (w ∷ ws) a = ap (λ (l : List Node). bind_node for_some w ∷ l) (each_nodes ws a)

pub each_counts : (ws : List ℕ) (a : Rule)
    → (count (some_of_each ws a) ≡ length ws + count a) × (weight (some_of_each ws a) ≡ length ws * 2 + weight a)
unfolding some_of_each count weight
each_counts [] a = (omega arith, omega arith)
each_counts (w ∷ ws) a = let (c, m) = each_counts ws a in (omega (arith, c), omega (arith, m))

one_some : (ws : List ℕ) (i : ℕ) → i < length ws
    → somes (take i ws) ++ bind_node for_some (get_or ws i 0) ∷ [] ≡ somes (take (i + 1) ws)
one_some ws i h =
    let next : suc i ≡ i + 1 = omega arith in
    sym (map-append (bind_node for_some) (take i ws) (get_or ws i 0 ∷ []))
    ∙ ap somes (sym (take-suc ws i 0 h) ∙ ap (λ (k : ℕ). take k ws) next)

-- i of them stand in the table
abbrev pub Outer : List ℤ → List ℤ → ℕ → ℕ → ℕ → Type 0
Outer ts vs to v i = Run ts vs 0 to (somes (take i (others v all_settings)))

pub outer_none : (ts : List ℤ) (to v : ℕ) → Outer ts ts to v 0
outer_none ts to v = run_none ts 0 to

module _ {ts vs : List ℤ} {to : ℕ} (v : ℕ) (setting : T (is_setting (pos v))) where
  pub outer_more : {us : List ℤ} {i w : ℕ} → Free ts 0 to 5 10 → i < 5 → w ≡ get_or (others v all_settings) i 0
      → Outer ts us to v i → Run us vs i (to + i * 2) (bind_node for_some w ∷ []) → Outer ts vs to v (i + 1)
  outer_more {us} {i} {w} free inside e before one =
      let ws = others v all_settings in
      let (as_many, heavy) = somes_many (take i ws) in
      let long : length (take i ws) ≡ i = omega (arith, length-take i ws, five v setting) in
      let next = subst (λ (x : ℕ). Run us vs i (to + i * 2) (bind_node for_some x ∷ [])) e one in
      subst (Run ts vs 0 to) (one_some ws i (omega (arith, five v setting)))
      (run_then (somes (take i ws)) _ (omega (arith, as_many, long)) (omega (arith, heavy, long))
      (omega (arith, as_many, long, free.entries)) (omega (arith, free.bodies)) before next)

  pub outer_all : (i : ℕ) → i ≤ 5 → 5 ≤ i → Outer ts vs to v i → Run ts vs 0 to (somes (others v all_settings))
  outer_all i most least r =
      let all : i ≡ length (others v all_settings) = omega (arith, five v setting) in
      let whole = ap (λ (k : ℕ). take k (others v all_settings)) all ∙ take-length (others v all_settings) in
      subst (λ (l : List ℕ). Run ts vs 0 to (somes l)) whole r
