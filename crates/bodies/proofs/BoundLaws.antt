-- The bounds that are kept, by the places of their literals: when two are the same, and what one more makes of them.
-- Assumes nothing.
use mathlib.Core.Path.{◌≡◌, refl, sym, ◌∙◌, ap, subst}
use mathlib.Core.Bool.{Bool, true, false, cond}
use mathlib.Core.List.{List, [], ◌∷◌, ◌++◌}
use Prim.Native.Nat.{ℕ, zero, suc, ◌+◌, ◌-◌, ◌*◌, ◌<◌, ◌≤◌}
use native.Mathlib.Decide.{ℕ_discrete}
use native.Mathlib.Omega.{arith}
use lib.IntN.{ℤ, pos, negsuc, ◌*ℤ◌}
use lib.ListN.{length, get_or, take, drop, set, length-append, length-set, length-take, length-drop, get_or-append}
use lib.Seq.{ext_get_or, get_or-set_same, get_or-set_other, get_or-append_seam, get_or-take, get_or-drop}
use Rattle.whole.specs.Integers.{eq_ℤ}
use Rattle.whole.proofs.Difference.{zz, z2}
use Rattle.rules.specs.Sum.{Sum, factor, negate, put}
use Rattle.rules.specs.Rule.{Test, positive, Whether}
use Rattle.rules.specs.Steps.{bound_of, once}
use Rattle.rules.specs.Laws.{InTable}
use Rattle.rules.specs.Calls.{signed, words}
use Rattle.rules.proofs.Sizes.{before_sum}
use Rattle.rules.proofs.Sums.{factor_put_other, factor_scale}
use Rattle.std.specs.Bool.{Decides}
use Rattle.std.proofs.Common.{⊎_elim}
use Rattle.std.proofs.lemmas.Bool.{cases_lt, false≢true}
use Rattle.std.proofs.lemmas.List.{get_or_past}
use Rattle.tables.proofs.WordLaws.{same_words, natural_unique, words_between, words_length}
use Rattle.tables.proofs.Inversion.{BodyAt}
use Rattle.bodies.specs.Body.{BoundAt, BoundsAt}
use Rattle.bodies.specs.Cursor.{LiteralAt}
use Rattle.bodies.specs.Bounds.{Alike, GivesBound}
use Rattle.bodies.proofs.LiteralWords.{sum_word}
use Rattle.bodies.proofs.OnceLaws.{In, at_in, in_at, once_there, once_new}

-- ---- two places that give the same bound

module _ {bs : List ℤ} {x p : ℕ} {u : Sum} (b : BoundAt bs x p u) where
  bound_word : (j : ℕ) → j < 7 → get_or bs (p + (1 + j)) (pos 0) ≡ get_or b.sum j (pos 0)
  unfolding before_sum
  bound_word j h =
      let place : p + (1 + j) ≡ p + 1 + j = omega arith in
      ap (λ (m : ℕ). get_or bs m (pos 0)) place
      ∙ sum_word bs p positive b.stands j (omega (arith, b.formed.0))

  -- every word of the bound but that of x, whose factor is 1, is one of the literal's
  minus_word : (j : ℕ) → ¬ (j ≡ x) → factor j u ≡ negsuc 0 *ℤ factor j b.sum
  unfolding negate
  minus_word j f =
      ap (factor j) b.bound_is ∙ factor_scale j (negsuc 0) (put x (pos 0) b.sum)
      ∙ ap (λ z. negsuc 0 *ℤ z) (factor_put_other j x (pos 0) b.sum f)

minus_same : (a b : ℤ) → negsuc 0 *ℤ a ≡ negsuc 0 *ℤ b → a ≡ b
minus_same = z2 _ (simp zz (omega arith))

module _ {bs : List ℤ} {x p q : ℕ} {u v : Sum} (b : BoundAt bs x p u) (c : BoundAt bs x q v) where
  as_long : length b.sum ≡ length c.sum
  as_long = b.formed.0 ∙ sym c.formed.0

  alike_equal : Alike bs p q → u ≡ v
  alike_equal all =
      let equal : b.sum ≡ c.sum = ext_get_or (pos 0) b.sum c.sum as_long each in
      b.bound_is ∙ ap (λ (s : Sum). negate (put x (pos 0) s)) equal ∙ sym c.bound_is
    where
      each : (j : ℕ) → j < length b.sum → get_or b.sum j (pos 0) ≡ get_or c.sum j (pos 0)
      each j h =
          let small : j < 7 = omega (arith, h, b.formed.0) in
          sym (bound_word b j small) ∙ all (1 + j) (omega arith) (omega (arith, small)) ∙ bound_word c j small

  equal_alike : u ≡ v → Alike bs p q
  equal_alike e i h k =
      let (j, is) : (j : ℕ) × (i ≡ 1 + j) = (i - 1, omega (arith, h)) in
      let small : j < 7 = omega (arith, is, k) in
      ap (λ (m : ℕ). get_or bs (p + m) (pos 0)) is ∙ bound_word b j small ∙ word j (ℕ_discrete j x)
      ∙ sym (bound_word c j small) ∙ sym (ap (λ (m : ℕ). get_or bs (q + m) (pos 0)) is)
    where
      word : (j : ℕ) → Dec (j ≡ x) → factor j b.sum ≡ factor j c.sum
      word j (yes i) =
          ap (λ (v : ℕ). factor v b.sum) i ∙ b.lower ∙ sym c.lower ∙ sym (ap (λ (v : ℕ). factor v c.sum) i)
      word j (no f) =
          minus_same (factor j b.sum) (factor j c.sum)
          (sym (minus_word b j f) ∙ ap (factor j) e ∙ minus_word c j f)

-- ---- the search among those that are kept

-- bytes with the same words are the same
pub words_unique : (n : ℕ) (l m : List ℕ) → length l ≡ n * 4 → length m ≡ n * 4 → ((k : ℕ) → get_or l k 0 < 256)
    → ((k : ℕ) → get_or m k 0 < 256) → words l ≡ words m → l ≡ m
unfolding words
words_unique zero [] [] e f h k i = refl
words_unique zero [] (b ∷ m) e f h k i = absurd (omega (arith, f))
words_unique zero (a ∷ l) m e f h k i = absurd (omega (arith, e))
words_unique (suc n) (a ∷ b ∷ c ∷ d ∷ l) (a' ∷ b' ∷ c' ∷ d' ∷ m) e f h k i =
    let first : signed (a + 256 * (b + 256 * (c + 256 * d))) ≡ signed (a' + 256 * (b' + 256 * (c' + 256 * d'))) = cc in
    let rest : words l ≡ words m = cc in
    let number = natural_unique _ _ (omega (arith, h 0, h 1, h 2, h 3)) (omega (arith, k 0, k 1, k 2, k 3)) first in
    let same_a : a ≡ a' = omega (arith, number, h 0, k 0) in
    let same_b : b ≡ b' = omega (arith, number, same_a, h 1, k 1) in
    let same_c : c ≡ c' = omega (arith, number, same_a, same_b, h 2, k 2) in
    let same_d : d ≡ d' = omega (arith, number, same_a, same_b, same_c) in
    let same = words_unique n l m (omega (arith, e)) (omega (arith, f)) (λ j. h (suc (suc (suc (suc j)))))
    (λ j. k (suc (suc (suc (suc j))))) rest in
    cc
words_unique (suc n) [] m e f h k i = absurd (omega (arith, e))
words_unique (suc n) (a ∷ []) m e f h k i = absurd (omega (arith, e))
words_unique (suc n) (a ∷ b ∷ []) m e f h k i = absurd (omega (arith, e))
words_unique (suc n) (a ∷ b ∷ c ∷ []) m e f h k i = absurd (omega (arith, e))
words_unique (suc n) (a ∷ b ∷ c ∷ d ∷ l) [] e f h k i = absurd (omega (arith, f))
words_unique (suc n) (a ∷ b ∷ c ∷ d ∷ l) (a' ∷ []) e f h k i = absurd (omega (arith, f))
words_unique (suc n) (a ∷ b ∷ c ∷ d ∷ l) (a' ∷ b' ∷ []) e f h k i = absurd (omega (arith, f))
words_unique (suc n) (a ∷ b ∷ c ∷ d ∷ l) (a' ∷ b' ∷ c' ∷ []) e f h k i = absurd (omega (arith, f))

-- a byte of a part
byte_of_part : (n m : ℕ) (l : List ℕ) → ((k : ℕ) → get_or l k 0 < 256) → (k : ℕ) → get_or (take n (drop m l)) k 0 < 256
byte_of_part n m l bytes k =
    ⊎_elim
    (λ (less : k < n). rw (get_or-take n (drop m l) k 0 less, get_or-drop m l k 0) (bytes (m + k)))
    (λ (most : n ≤ k). let past : length (take n (drop m l)) ≤ k = simp (length-take, length-drop) (omega arith) in
    rw (get_or_past (take n (drop m l)) k 0 past) (let z : ◌<◌ 0 256 = omega arith in z))
    (cases_lt k n)

-- the bytes of the seven words behind the word at place p
abbrev pub seven : List ℕ → ℕ → List ℕ
seven l p = take ((p + 8) * 4 - (p + 1) * 4) (drop ((p + 1) * 4) l)

module _ (l : List ℕ) (p q : ℕ) (here : p + 8 ≤ length (words l)) (there : q + 8 ≤ length (words l)) where
  seven_words : (p : ℕ) → words (seven l p) ≡ take 7 (drop (p + 1) (words l))
  seven_words p =
      let e : p + 8 ≡ p + 1 + 7 = omega arith in
      ap (λ (n : ℕ). words (take (n * 4 - (p + 1) * 4) (drop ((p + 1) * 4) l))) e ∙ words_between l (p + 1) 7

  seven_word : (p j : ℕ) → j < 7 → get_or (words (seven l p)) j (pos 0) ≡ get_or (words l) (p + (1 + j)) (pos 0)
  seven_word p j h =
      let e : p + 1 + j ≡ p + (1 + j) = omega arith in
      ap (λ (ws : List ℤ). get_or ws j (pos 0)) (seven_words p) ∙ get_or-take 7 (drop (p + 1) (words l)) j (pos 0) h
      ∙ get_or-drop (p + 1) (words l) j (pos 0) ∙ ap (λ (m : ℕ). get_or (words l) m (pos 0)) e

  pub seven_alike : seven l p ≡ seven l q → Alike (words l) p q
  seven_alike e i h k =
      let (j, is) : (j : ℕ) × (i ≡ 1 + j) = (i - 1, omega (arith, h)) in
      let small : j < 7 = omega (arith, is, k) in
      ap (λ (m : ℕ). get_or (words l) (p + m) (pos 0)) is ∙ sym (seven_word p j small)
      ∙ ap (λ (bs : List ℕ). get_or (words bs) j (pos 0)) e
      ∙ seven_word q j small ∙ sym (ap (λ (m : ℕ). get_or (words l) (q + m) (pos 0)) is)

  seven_long : (p : ℕ) → p + 8 ≤ length (words l) → length (seven l p) ≡ 7 * 4
  seven_long p h = simp (length-take, length-drop) (omega (arith, words_length l))

  pub alike_seven : ((k : ℕ) → get_or l k 0 < 256) → Alike (words l) p q → seven l p ≡ seven l q
  alike_seven bytes all =
      words_unique 7 (seven l p) (seven l q) (seven_long p here) (seven_long q there) (small p) (small q)
      (ext_get_or (pos 0) (words (seven l p)) (words (seven l q)) as_many each)
    where
      small : (p k : ℕ) → get_or (seven l p) k 0 < 256
      small p k = byte_of_part ((p + 8) * 4 - (p + 1) * 4) ((p + 1) * 4) l bytes k

      as_many : length (words (seven l p)) ≡ length (words (seven l q))
      as_many = same_words (seven l p) (seven l q) (seven_long p here ∙ sym (seven_long q there))

      each : (j : ℕ) → j < length (words (seven l p))
          → get_or (words (seven l p)) j (pos 0) ≡ get_or (words (seven l q)) j (pos 0)
      each j h =
          let low : j < 7 = omega (arith, h, words_length (seven l p), seven_long p here) in
          seven_word p j low ∙ all (1 + j) (omega arith) (omega (arith, low)) ∙ sym (seven_word q j low)

-- what a test says that decides the same
pub decides_whether : (r : Bool) {P A : Type 0} → Decides r P → (P → A) → (A → P) → Whether r A
decides_whether true d f g = f (d.0 refl)
decides_whether false d f g = λ a. false≢true (d.1 (g a))

module _ {bs : List ℤ} {x : ℕ} {places : List ℕ} {k p : ℕ} {us : List Sum} {u : Sum}
    (h : BoundsAt bs x places k us) (b : BoundAt bs x p u) where
  found_in : (i : ℕ) × (i < k) × Alike bs (get_or places i 0) p → In u us
  found_in (i, l, all) = at_in u us i (omega (arith, l, h.as_many)) (alike_equal (h.each i l) b all)

  not_in : ¬ ((i : ℕ) × (i < k) × Alike bs (get_or places i 0) p) → ¬ In u us
  not_in f n =
      let (i, l, e) = in_at u us n in
      let less : i < k = omega (arith, l, h.as_many) in
      f (i, less, equal_alike (h.each i less) b e)

  held_more : k < length places → BoundsAt bs x (set places k p) (k + 1) (us ++ (u ∷ []))
  held_more room = record {
    as_many = omega (arith, h.as_many, length-append us (u ∷ []));
    held = omega (arith, room, length-set places k p);
    each = λ i l. by i l (ℕ_discrete i k);
  }
    where
      by : (i : ℕ) → i < k + 1 → Dec (i ≡ k) → BoundAt bs x (get_or (set places k p) i 0) (get_or (us ++ (u ∷ [])) i [])
      by i l (yes e) =
          subst (λ (m : ℕ). BoundAt bs x (get_or (set places k p) m 0) (get_or (us ++ (u ∷ [])) m [])) (sym e)
          (subst (λ (v : Sum). BoundAt bs x (get_or (set places k p) k 0) v)
          (sym (ap (λ (m : ℕ). get_or (us ++ (u ∷ [])) m []) h.as_many ∙ get_or-append_seam us u [] []))
          (subst (λ (q : ℕ). BoundAt bs x q u) (sym (get_or-set_same places k p 0 room)) b))
      by i l (no f) =
          let less : i < k = omega (arith, l, f) in
          subst (λ (v : Sum). BoundAt bs x (get_or (set places k p) i 0) v)
          (sym (get_or-append us (u ∷ []) [] i (omega (arith, less, h.as_many))))
          (subst (λ (q : ℕ). BoundAt bs x q (get_or us i [])) (sym (get_or-set_other places k i p 0 f)) (h.each i less))

-- ---- keeping a bound

module _ (x : ℕ) (t : Test) (s : Sum) (g : GivesBound x t s true) where
  the_bound : bound_of x t s ≡ negate (put x (pos 0) s) ∷ []
  unfolding GivesBound bound_of
  the_bound =
      ap (λ (t : Test). bound_of x t s) g.0
      ∙ ap (λ z. cond (eq_ℤ z (pos 1)) (negate (put x (pos 0) s) ∷ []) []) g.1

  literal_bound : {bs : List ℤ} {p end : ℕ} {ls : List (Test × Sum)} → LiteralAt bs p end t s ls
      → BoundAt bs x p (negate (put x (pos 0) s))
  unfolding GivesBound
  literal_bound {bs} {p} l = record {
    node = l.node;
    sum = s;
    stands = subst (λ (t : Test). BodyAt (drop p bs) l.node t s) g.0 l.stands;
    formed = subst (λ (t : Test). InTable t s) g.0 l.formed;
    lower = g.1;
    bound_is = refl;
  }

module _ {bs : List ℤ} {x p end k : ℕ} {places : List ℕ} {t : Test} {s : Sum} {ls : List (Test × Sum)}
    (g : GivesBound x t s true) (l : LiteralAt bs p end t s ls) (found : List Sum)
    (h : BoundsAt bs x places k (once found)) where
  u : Sum
  u = negate (put x (pos 0) s)

  grown : found ++ bound_of x t s ≡ found ++ (u ∷ [])
  unfolding u
  grown = ap (λ (m : List Sum). found ++ m) (the_bound x t s g)

  -- one that is known
  pub kept_known : (i : ℕ) × (i < k) × Alike bs (get_or places i 0) p
      → BoundsAt bs x places k (once (found ++ bound_of x t s))
  unfolding u
  kept_known known =
      subst (BoundsAt bs x places k)
      (sym (ap once grown ∙ once_there u found (found_in h (literal_bound x t s g l) known))) h

  -- one that is new
  pub kept_new : ¬ ((i : ℕ) × (i < k) × Alike bs (get_or places i 0) p) → k < length places
      → BoundsAt bs x (set places k p) (k + 1) (once (found ++ bound_of x t s))
  unfolding u
  kept_new other room =
      let b = literal_bound x t s g l in
      subst (BoundsAt bs x (set places k p) (k + 1)) (sym (ap once grown ∙ once_new u found (not_in h b other)))
      (held_more h b room)

pub one_given : (x : ℕ) (t : Test) (s : Sum) → GivesBound x t s true → length (bound_of x t s) ≡ 1
one_given x t s g = ap length (the_bound x t s g)
