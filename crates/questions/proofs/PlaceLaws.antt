-- A node put word by word: its entry, its kind, its fields.
-- Assumes nothing.
use Rattle.std.proofs.Common.{◌≡◌, ℕ, zero, suc, ℤ, pos, List, [], ◌∷◌, ◌++◌, ◌+◌, ◌<◌, ◌≤◌, length, get_or, set}
use Rattle.std.proofs.Common.{take, map, append_assoc, refl, sym, ap, ◌∙◌, arith}
use denote.Enum.Declared.{tag_of}
use lib.ListN.{length-append, length-map}
use lib.Seq.{take-suc, take-suc-set, take-set-lt, length-take-le}
use mathlib.Core.List.{append-nil, map-append}
use native.Mathlib.Nat.{add-zero}
use Rattle.rules.specs.Sum.{limit}
use Rattle.tables.specs.Kinds.{number_of}
use Rattle.tables.specs.declared.kind.Kind.{Kind}
use Rattle.tables.specs.declared.kind.Kind.TheVariants as kind
use Rattle.tables.specs.contracts.kind.Kind.{the_type}
use Rattle.tables.proofs.RootKinds.{small}
use Rattle.finishing.proofs.RunLaws.{Stored}

-- its entry is put, which makes us of ts
pub entry_stored : {ts us : List ℤ} {i to : ℕ} → i + 1 < to → us ≡ set ts (i + 1) (pos to) → Stored ts us i to []
entry_stored {ts} {us} {i} {to} before e = record {
  begins = ap (λ (n : ℕ). take n us) (add-zero to) ∙ ap (take to) e ∙ take-set-lt to ts (i + 1) (pos to) before
      ∙ sym (append-nil (set (take to ts) (i + 1) (pos to)));
}

-- and a word behind those that stand there, at place p, which makes xs of vs
pub word_stored : {ts vs xs : List ℤ} {i to p : ℕ} {x : List ℤ} (w : ℤ) → Stored ts vs i to x → p ≡ to + length x
    → p < length vs → xs ≡ set vs p w → Stored ts xs i to (x ++ w ∷ [])
word_stored {ts} {vs} {xs} {i} {to} {p} {x} w s at inside e =
    let next : to + length (x ++ w ∷ []) ≡ suc p = omega (arith, length-append x (w ∷ [])) in
    record {
      begins = ap (λ (n : ℕ). take n xs) next ∙ ap (take (suc p)) e ∙ take-suc-set vs p w inside
          ∙ ap (λ (n : ℕ). take n vs ++ w ∷ []) at
          ∙ ap (λ (l : List ℤ). l ++ w ∷ []) s.begins
          ∙ append_assoc (set (take to ts) (i + 1) (pos to)) x (w ∷ []);
    }

-- ---- j fields behind the kind

abbrev pub words_of : Kind → List ℕ → ℕ → List ℤ
words_of k fields j = pos (number_of k) ∷ map pos (take j fields)

pub words_long : (k : Kind) (fields : List ℕ) (j : ℕ) → j ≤ length fields → length (words_of k fields j) ≡ j + 1
words_long k fields j h = simp length-map (omega (arith, length-take-le j fields h))

pub words_more : (k : Kind) (fields : List ℕ) (j : ℕ) → j < length fields
    → words_of k fields j ++ pos (get_or fields j 0) ∷ [] ≡ words_of k fields (j + 1)
words_more k fields j h =
    let next : suc j ≡ j + 1 = omega arith in
    ap (λ (l : List ℤ). pos (number_of k) ∷ l)
    (sym (map-append pos (take j fields) (get_or fields j 0 ∷ []))
    ∙ ap (map pos) (sym (take-suc fields j 0 h) ∙ ap (λ (n : ℕ). take n fields) next))

-- ---- no field and one field, and the number of a kind, are low

pub none_low : (k : ℕ) → k < 0 → get_or [] k 0 ≤ limit
none_low k h = absurd (omega (arith, h))

pub one_low : {f : ℕ} → f ≤ limit → (k : ℕ) → k < 1 → get_or (f ∷ []) k 0 ≤ limit
one_low low zero h = low
one_low low (suc k) h = absurd (omega (arith, h))

pub kind_low : (k : Kind) → number_of k ≤ limit
kind_low k = omega (arith, small k)

-- the number of its variant, as a cast has it
pub tag_is : (k : Kind) → tag_of the_type k ≡ number_of k
unfolding number_of
tag_is kind.False = refl
tag_is kind.True = refl
tag_is kind.And = refl
tag_is kind.Or = refl
tag_is kind.Not = refl
tag_is kind.Positive = refl
tag_is kind.Divisible = refl
tag_is kind.Indivisible = refl
tag_is kind.ForSome = refl
tag_is kind.ForAll = refl
tag_is kind.Zero = refl
