-- A read into the rest of a buffer goes on from what was read before.
-- Assumes nothing.
use Rattle.std.proofs.Common.{◌≡◌, ℕ, ◌+◌, ◌-◌, ◌≤◌, List, ◌++◌, length, take, drop, sym, ap, subst, ◌∙◌, le_refl, drop_at, length-take-le}
use Rattle.std.proofs.KnownBytes.{Consumes-trans}
use Rattle.std.proofs.lemmas.Slice.{take-put_mid_below}
use Rattle.std.specs.Io.KnownBytes.{Consumes}
use Rattle.std.specs.declared.option.Option.{Option}
use borrow.Rule.Slice.PartMut.{put_mid, post_of}
use lib.Seq.{take-add, take-append-le}

-- xs was filled up to i, and ys is what its rest is after a read of n bytes
pub consumed_on : (a b c : Option (List ℕ)) (xs ys : List ℕ) (i n : ℕ) → i ≤ length xs → n ≤ length ys
    → Consumes a b (take i xs) → Consumes b c (take n ys)
    → Consumes a c (take (i + n) (put_mid i (length xs - i) xs ys))
consumed_on a b c xs ys i n within fits before read =
    let k : ℕ = length xs - i in
    let all : List ℕ = put_mid i k xs ys in
    let front : take i all ≡ take i xs = take-put_mid_below i k xs ys i (le_refl i) within in
    let behind : take n (drop i all) ≡ take n ys =
    ap (take n) (drop_at (take i xs) (ys ++ post_of i k xs) i (length-take-le i xs within))
    ∙ take-append-le n ys (post_of i k xs) fits in
    let joined : take (i + n) all ≡ take i xs ++ take n ys =
    take-add i n all ∙ ap (λ (l : List ℕ). l ++ take n (drop i all)) front
    ∙ ap (λ (l : List ℕ). take i xs ++ l) behind in
    subst (Consumes a c) (sym joined) (Consumes-trans a b c (take i xs) (take n ys) before read)
