-- The bytes of a table at the start of a lent buffer, and zeros after it.
-- Assumes nothing.
use mathlib.Core.Path.{◌≡◌, refl, sym, ◌∙◌, ap, ap₂}
use mathlib.Core.List.{List, [], ◌∷◌, ◌++◌, append-nil}
use Prim.Native.Nat.{ℕ, suc, ◌+◌, ◌-◌, ◌*◌, ◌/◌, ◌%◌, ◌<◌, ◌≤◌}
use native.Mathlib.Omega.{arith}
use borrow.Author.Rules.{part_to_end}
use lib.IntN.{ℤ, pos}
use lib.ListN.{length, get_or, take, drop, replicate, length-take, length-drop, drop_of_length-le}
use lib.Seq.{take-append-add}
use Rattle.rules.specs.Rule.{Rule}
use Rattle.rules.specs.Table.{encode, size}
use Rattle.rules.specs.Calls.{signed, bits, words, bytes_of, room}
use Rattle.rules.proofs.Bytes.{length_bytes}
use Rattle.tables.proofs.WordLaws.{bits_signed, words_length, words_take}
use Rattle.tables.proofs.Standings.{size_there}
use Rattle.elimination.specs.Stepping.{HasTable}
use Rattle.leaveoff.specs.Result.{Held}

-- the four bytes of a number of 32 bits
digits : (n a b c d : ℕ) → a < 256 → b < 256 → c < 256 → d < 256 → n ≡ a + 256 * (b + 256 * (c + 256 * d))
    → (a ≡ n % 256) × (b ≡ n / 256 % 256) × (c ≡ n / 65536 % 256) × (d ≡ n / 16777216 % 256)
digits n a b c d ha hb hc hd e =
    let first : n / 256 ≡ b + 256 * (c + 256 * d) = omega arith in
    let second : n / 65536 ≡ c + 256 * d = omega arith in
    let third : n / 16777216 ≡ d = omega arith in
    (omega arith, omega arith, omega arith, omega arith)

four_more : {a b c d e f g h : ℕ} {k l : List ℕ} → a ≡ e → b ≡ f → c ≡ g → d ≡ h → k ≡ l
    → (a ∷ b ∷ c ∷ d ∷ k) ≡ (e ∷ f ∷ g ∷ h ∷ l)
four_more i j k l m = cc

-- bytes whose words begin with ws begin with the bytes of ws
first_bytes : (l : List ℕ) (ws after : List ℤ) → ((k : ℕ) → get_or l k 0 < 256) → words l ≡ ws ++ after
    → take (length ws * 4) l ≡ bytes_of ws
unfolding words bytes_of
first_bytes l [] after h e = refl
first_bytes [] (w ∷ ws) after h e = absurd (omega (arith, ap length e))
first_bytes (a ∷ []) (w ∷ ws) after h e = absurd (omega (arith, ap length e))
first_bytes (a ∷ b ∷ []) (w ∷ ws) after h e = absurd (omega (arith, ap length e))
first_bytes (a ∷ b ∷ c ∷ []) (w ∷ ws) after h e = absurd (omega (arith, ap length e))
first_bytes (a ∷ b ∷ c ∷ d ∷ l) (w ∷ ws) after h e =
    let u : ℕ = a + 256 * (b + 256 * (c + 256 * d)) in
    let word : signed u ≡ w = ap (λ (l : List ℤ). get_or l 0 (pos 0)) e in
    let here : bits w ≡ u = sym (ap bits word) ∙ bits_signed u (omega (arith, h 0, h 1, h 2, h 3)) in
    let next : suc (length ws) * 4 ≡ suc (suc (suc (suc (length ws * 4)))) = omega arith in
    let (e0, e1, e2, e3) = digits (bits w) a b c d (h 0) (h 1) (h 2) (h 3) here in
    ap (λ (m : ℕ). take m (a ∷ b ∷ c ∷ d ∷ l)) next
    ∙ four_more e0 e1 e2 e3 (first_bytes l ws after (λ k. h (suc (suc (suc (suc k))))) (ap (drop 1) e))

module _ (l : List ℕ) (r : Rule) (held : Held (words l) r) where
  -- the table is there
  pub table_inside : (w : ℕ) → w ≡ size r → w * 4 ≤ length l
  table_inside w e = omega (arith, e, size_there held.table, words_length l)

  -- and within as many words as a table may have
  module _ (k : ℕ) (most : k ≡ room (length l) (length l)) where
    pub room_inside : k * 4 ≤ length l
    room_inside = omega (arith, most)

    pub in_room : HasTable (words (take (k * 4) l)) r
    unfolding size
    in_room =
        let fits : size r ≤ k = omega (arith, most, held.most, size_there held.table, words_length l) in
        let whole : k ≡ size r + (k - size r) = omega (arith, fits) in
        record {
          table = record {
            after = take (k - size r) held.table.after;
            begins = words_take l k ∙ ap (take k) held.table.begins
                ∙ ap (λ (m : ℕ). take m (encode r ++ held.table.after)) whole
                ∙ take-append-add (encode r) held.table.after (k - size r);
          };
          formed = held.formed;
          few = omega (arith, ap length (words_take l k), length-take k (words l), most);
        }

  -- zeros after it leave its bytes and nothing else
  pub zeros_after : ((k : ℕ) → get_or l k 0 < 256) → (w : ℕ) → w ≡ size r → (last : List ℕ)
      → last ≡ replicate (length (take (length l - w * 4) (drop (w * 4) l))) 0
      → take (w * 4) l ++ (last ++ drop (length l - w * 4) (drop (w * 4) l))
      ≡ bytes_of (encode r) ++ replicate (length l - length (bytes_of (encode r))) 0
  unfolding size
  zeros_after small w e last zeros =
      let table = ap (λ (m : ℕ). take (m * 4) l) e
      ∙ first_bytes l (encode r) held.table.after small held.table.begins in
      let long : length (take (length l - w * 4) (drop (w * 4) l)) ≡ length l - length (bytes_of (encode r)) =
      omega (arith, ap length (part_to_end l (w * 4)), length-drop (w * 4) l, length_bytes (encode r), e) in
      let over : length (drop (w * 4) l) ≤ length l - w * 4 = omega (arith, length-drop (w * 4) l) in
      let none = drop_of_length-le (drop (w * 4) l) over in
      ap₂ ◌++◌ table
      (ap (λ (rest : List ℕ). last ++ rest) none ∙ append-nil last ∙ zeros ∙ ap (λ (m : ℕ). replicate m 0) long)
