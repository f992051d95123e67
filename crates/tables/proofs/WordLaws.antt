-- The words of bytes: how many there are, which they are, what a store makes of them; and a word's bits and its number.
-- Assumes nothing.
use mathlib.Core.Path.{◌≡◌, refl, sym, ap, ◌∙◌}
use mathlib.Core.Bool.{Bool, true, false, cond}
use mathlib.Core.List.{List, [], ◌∷◌, ◌++◌, append_assoc}
use Prim.Native.Nat.{ℕ, zero, suc, ◌+◌, ◌-◌, ◌*◌, ◌/◌, ◌%◌, ◌<◌, ◌≤◌}
use native.Mathlib.Omega.{arith}
use borrow.Author.Rules.{part_to_end}
use borrow.Rule.Slice.PartMut.{put_mid}
use borrow.Author.Tests.{lt-ltb, le-ltb, ltb-true, ltb-false}
use lib.Dec.{ltb}
use lib.IntN.{ℤ, pos, negsuc}
use lib.ListN.{length, get_or, take, drop, set, replicate}
use lib.Seq.{sets, take-nil, drop-nil, drop-drop}
use Rattle.std.proofs.lemmas.List.Edits.{sets-eq}
use mir.Syntax.{w32}
use mir.Val.{SFits}
use Rattle.rules.specs.Calls.{signed, bits, words, bytes_of}
use Rattle.tables.specs.WordBytes.{bits_at}
use Rattle.tables.proofs.SignedBits.{signed_bits}

-- ---- a word's bits and its number, for a caller of `natural`

-- bits whose number is n, which is not below 0, are n
pub number_of : (u n : ℕ) → signed u ≡ pos n → u ≡ n
number_of u n p = by (ltb u 2147483648) (4294967295 - u) p
  where
    by : (b : Bool) (m : ℕ) → cond b (pos u) (negsuc m) ≡ pos n → u ≡ n
    by true m e = cc
    by false m e = absurd (let z : ◌≡◌ {A = ℕ} 0 1 = cc in omega arith)

-- and they lie in the lower half
pub number_low : (u n : ℕ) → signed u ≡ pos n → u < 2147483648
number_low u n p = by (ltb u 2147483648) refl p
  where
    by : (b : Bool) → ltb u 2147483648 ≡ b → cond b (pos u) (negsuc (4294967295 - u)) ≡ pos n → u < 2147483648
    by true e q = ltb-true u 2147483648 e
    by false e q = absurd (let z : ◌≡◌ {A = ℕ} 0 1 = cc in omega arith)

-- the lower half is its own number
pub signed_low : (u : ℕ) → u < 2147483648 → signed u ≡ pos u
signed_low u h = rw (lt-ltb u 2147483648 h)

pub number_is : (u n : ℕ) → n < 2147483648 → u ≡ n → signed u ≡ pos n
number_is u n h e = ap signed e ∙ signed_low n h

-- the upper half lies below 0
pub signed_high : (u : ℕ) → 2147483648 ≤ u → signed u ≡ negsuc (4294967295 - u)
signed_high u h = rw (le-ltb u 2147483648 h)

pub bits_signed : (u : ℕ) → u < 4294967296 → bits (signed u) ≡ u
bits_signed u h = by (ltb u 2147483648) refl
  where
    by : (b : Bool) → ltb u 2147483648 ≡ b → bits (signed u) ≡ u
    by true t = ap bits (signed_low u (ltb-true _ _ t))
    by false t =
        let back : 4294967295 - (4294967295 - u) ≡ u = omega arith in
        ap bits (signed_high u (ltb-false _ _ t)) ∙ back

-- no two numbers of 32 bits are the same word
pub natural_unique : (u v : ℕ) → u < 4294967296 → v < 4294967296 → signed u ≡ signed v → u ≡ v
natural_unique u v h k e = sym (bits_signed u h) ∙ ap bits e ∙ bits_signed v k

-- ---- the words of bytes

pub words_length : (l : List ℕ) → length (words l) ≡ length l / 4
unfolding words
words_length [] = refl
words_length (a ∷ []) = refl
words_length (a ∷ b ∷ []) = refl
words_length (a ∷ b ∷ c ∷ []) = refl
words_length (a ∷ b ∷ c ∷ d ∷ l) = omega (arith, words_length l)

pub same_words : (l m : List ℕ) → length l ≡ length m → length (words l) ≡ length (words m)
same_words l m e = omega (arith, words_length l, words_length m, e)

-- past the first word
past : (i k : ℕ) → suc i * 4 + k ≡ suc (suc (suc (suc (i * 4 + k))))
past i k = omega arith

next : (i : ℕ) → suc i * 4 ≡ suc (suc (suc (suc (i * 4))))
next i = omega arith

-- the bytes of word i are there
pub word_bytes : (l : List ℕ) (i : ℕ) → i < length (words l) → i * 4 + 4 ≤ length l
word_bytes l i h = omega (arith, words_length l)

pub words_get : (l : List ℕ) (i : ℕ) → i < length (words l) → get_or (words l) i (pos 0) ≡ signed (bits_at l i)
unfolding words
words_get [] i h = absurd (omega arith)
words_get (a ∷ []) i h = absurd (omega arith)
words_get (a ∷ b ∷ []) i h = absurd (omega arith)
words_get (a ∷ b ∷ c ∷ []) i h = absurd (omega arith)
words_get (a ∷ b ∷ c ∷ d ∷ l) zero h = refl
words_get (a ∷ b ∷ c ∷ d ∷ l) (suc i) h = rw (past i 3, past i 2, past i 1, next i) (words_get l i (omega arith))

-- ---- a store of a word's bytes

four_bytes : (u : ℕ) → u < 4294967296
    → u % 256 + 256 * (u / 256 % 256 + 256 * (u / 65536 % 256 + 256 * (u / 16777216 % 256))) ≡ u
four_bytes u h =
    let second : u / 65536 ≡ u / 256 / 256 = omega arith in
    let third : u / 16777216 ≡ u / 65536 / 256 = omega arith in
    let top : u / 16777216 % 256 ≡ u / 16777216 = omega arith in
    omega arith

bits_low : (v : ℤ) → SFits w32 v → bits v < 4294967296
bits_low (pos n) f = omega (arith, f.sfits)
bits_low (negsuc n) f = omega arith

pub words_set : (l : List ℕ) (i : ℕ) (v : ℤ) → SFits w32 v → i < length (words l)
    → words (sets l (i * 4) (bytes_of (v ∷ []))) ≡ set (words l) i v
unfolding words bytes_of
words_set [] i v f h = absurd (omega arith)
words_set (a ∷ []) i v f h = absurd (omega arith)
words_set (a ∷ b ∷ []) i v f h = absurd (omega arith)
words_set (a ∷ b ∷ c ∷ []) i v f h = absurd (omega arith)
words_set (a ∷ b ∷ c ∷ d ∷ l) zero v f h =
    ap (λ (w : ℤ). w ∷ words l) (ap signed (four_bytes (bits v) (bits_low v f)) ∙ signed_bits v f)
words_set (a ∷ b ∷ c ∷ d ∷ l) (suc i) v f h =
    rw (next i)
    (ap (λ (ws : List ℤ). signed (a + 256 * (b + 256 * (c + 256 * d))) ∷ ws) (words_set l i v f (omega arith)))

-- four bytes over those of word i
pub stored : (l ys : List ℕ) (i n : ℕ) → i < length (words l) → length ys ≡ 4 → n ≡ 4
    → put_mid (i * 4) n l ys ≡ sets l (i * 4) ys
stored l ys i n h four m =
    let all : i * 4 + n ≡ i * 4 + length ys = omega arith in
    let there : i * 4 + length ys ≤ length l = omega (arith, word_bytes l i h) in
    ap (λ (zs : List ℕ). take (i * 4) l ++ (ys ++ zs)) (drop-drop n (i * 4) l ∙ ap (λ (k : ℕ). drop k l) all)
    ∙ sym (append_assoc (take (i * 4) l) ys (drop (i * 4 + length ys) l)) ∙ sym (sets-eq ys l (i * 4) there)

-- a store of the bytes of v
pub words_put : (l m : List ℕ) (i : ℕ) (v : ℤ) → SFits w32 v → i < length (words l)
    → m ≡ sets l (i * 4) (bytes_of (v ∷ []))
    → (words m ≡ set (words l) i v) × (m ≡ sets l (i * 4) (bytes_of (v ∷ [])))
words_put l m i v f h e = (ap words e ∙ words_set l i v f h, e)

-- ---- parts

pub words_drop : (l : List ℕ) (k : ℕ) → words (drop (k * 4) l) ≡ drop k (words l)
unfolding words
words_drop l zero = refl
words_drop [] (suc k) = ap words (drop-nil (suc k * 4))
words_drop (a ∷ []) (suc k) = rw (next k, drop-nil)
words_drop (a ∷ b ∷ []) (suc k) = rw (next k, drop-nil)
words_drop (a ∷ b ∷ c ∷ []) (suc k) = rw (next k, drop-nil)
words_drop (a ∷ b ∷ c ∷ d ∷ l) (suc k) = rw (next k) (words_drop l k)

-- the words from place p on, of the bytes that `&l[p * 4..]` lends
abbrev pub part : List ℕ → ℕ → List ℤ
part l p = words (take (length l - p * 4) (drop (p * 4) l))

pub words_from : (l : List ℕ) (p : ℕ) → part l p ≡ drop p (words l)
words_from l p = ap words (part_to_end l (p * 4)) ∙ words_drop l p

pub words_take : (l : List ℕ) (k : ℕ) → words (take (k * 4) l) ≡ take k (words l)
unfolding words
words_take l zero = refl
words_take [] (suc k) = ap words (take-nil (suc k * 4))
words_take (a ∷ []) (suc k) = rw (next k, take-nil)
words_take (a ∷ b ∷ []) (suc k) = rw (next k, take-nil)
words_take (a ∷ b ∷ c ∷ []) (suc k) = rw (next k, take-nil)
words_take (a ∷ b ∷ c ∷ d ∷ l) (suc k) =
    rw (next k) (ap (λ (ws : List ℤ). signed (a + 256 * (b + 256 * (c + 256 * d))) ∷ ws) (words_take l k))

-- those from place p to p + w, as `&l[p * 4..(p + w) * 4]` lends them
pub words_between : (l : List ℕ) (p w : ℕ)
    → words (take ((p + w) * 4 - p * 4) (drop (p * 4) l)) ≡ take w (drop p (words l))
words_between l p w =
    let long : (p + w) * 4 - p * 4 ≡ w * 4 = omega arith in
    ap (λ (n : ℕ). words (take n (drop (p * 4) l))) long ∙ words_take (drop (p * 4) l) w ∙ ap (take w) (words_drop l p)

-- ---- zeros, and the range of a word

pub words_zero : (n : ℕ) → words (replicate n 0) ≡ replicate (n / 4) (pos 0)
unfolding words
words_zero zero = refl
words_zero (suc zero) = refl
words_zero (suc (suc zero)) = refl
words_zero (suc (suc (suc zero))) = refl
words_zero (suc (suc (suc (suc n)))) =
    ap (λ (ws : List ℤ). pos 0 ∷ ws) (words_zero n)
    ∙ ap (λ (k : ℕ). replicate k (pos 0)) (let e : suc (n / 4) ≡ suc (suc (suc (suc n))) / 4 = omega arith in e)

pub signed_fits : (u : ℕ) → u < 4294967296 → SFits w32 (signed u)
signed_fits u h = by (ltb u 2147483648) refl
  where
    by : (b : Bool) → ltb u 2147483648 ≡ b → SFits w32 (cond b (pos u) (negsuc (4294967295 - u)))
    by true e = record { sfits = omega (arith, ltb-true u 2147483648 e) }
    by false e = record { sfits = omega (arith, ltb-false u 2147483648 e) }

-- every word of bytes is one that the machine holds; past the end stands 0
pub words_fit : (l : List ℕ) → ((k : ℕ) → get_or l k 0 < 256) → (i : ℕ) → SFits w32 (get_or (words l) i (pos 0))
unfolding words
words_fit [] h i = record { sfits = omega arith }
words_fit (a ∷ []) h i = record { sfits = omega arith }
words_fit (a ∷ b ∷ []) h i = record { sfits = omega arith }
words_fit (a ∷ b ∷ c ∷ []) h i = record { sfits = omega arith }
words_fit (a ∷ b ∷ c ∷ d ∷ l) h zero =
    signed_fits (a + 256 * (b + 256 * (c + 256 * d))) (omega (arith, h 0, h 1, h 2, h 3))
words_fit (a ∷ b ∷ c ∷ d ∷ l) h (suc i) = words_fit l (λ k. h (suc (suc (suc (suc k))))) i
