-- One node placed: what its first word says of it, its entry, and its body, where a right child is given by its number.
-- Assumes nothing.
use mathlib.Core.Path.{◌≡◌, refl, sym, ap, ◌∙◌}
use mathlib.Core.Bool.{true, false}
use mathlib.Core.List.{List, [], ◌∷◌, ◌++◌, append_assoc}
use Prim.Native.Nat.{ℕ, ◌+◌, ◌/◌, ◌<◌, ◌≤◌}
use native.Mathlib.Nat.{add-zero}
use native.Mathlib.Omega.{arith}
use lib.IntN.{ℤ, pos, ◌+ℤ◌}
use lib.ListN.{length, get_or, set, take, drop, length-append, length-drop, length-set, get_or-append}
use lib.Seq.{take_at, set_at, take-set-lt, get_or-drop, length-take-le}
use mathlib.Core.Logic.{◌⊎◌, inl, inr}
use mir.Syntax.{w32}
use mir.Val.{to_z, of_z}
use mir.Facts.{to_z-of_z}
use Rattle.rules.specs.Sum.{limit}
use Rattle.rules.specs.Rule.{Junction, and, or, positive, divisible, is_zero, for_some, for_all}
use Rattle.rules.specs.Table.{Node, constant_node, join_node, not_node, literal_node, bind_node}
use Rattle.rules.specs.Table.{most_words, body, width}
use Rattle.rules.specs.Calls.{signed}
use Rattle.rules.proofs.Sizes.{length_body, words_pos}
use Rattle.tables.specs.Reads.{widths, kind_of}
use Rattle.tables.specs.Kinds.{number_of, Kinded}
use Rattle.tables.specs.declared.kind.Kind.{Kind}
use Rattle.tables.specs.declared.kind.Kind.TheVariants as kind
use Rattle.tables.proofs.WordLaws as word
use Rattle.tables.proofs.Standings.{width_is}
use Rattle.tables.proofs.KindLaws.{first_word, kind_width}
use Rattle.builder.proofs.EndLaws.{number_fits}
use Rattle.finishing.specs.Placing.{Run}
use Rattle.finishing.specs.Finishing.{Near, Placeable}
use Rattle.finishing.proofs.RunLaws.{run_one}

-- a number that is stored is that number
pub put_is : (ts vs : List ℤ) (p n : ℕ) → n ≤ limit → vs ≡ set ts p (to_z w32 (of_z w32 (pos n)))
    → vs ≡ set ts p (pos n)
put_is ts vs p n h e = e ∙ ap (set ts p) (to_z-of_z (number_fits n h))

-- ---- kinds 2 and 3 have a right child, whose number is its distance and the node's number; others have the same words
-- in every place

same_anywhere : (m i : ℕ) (d : Node) → ¬ (kind_of d / 2 ≡ 1) → body m d ≡ body i d
unfolding kind_of body
same_anywhere m i (constant_node false) f = refl
same_anywhere m i (constant_node true) f = refl
same_anywhere m i (join_node and right) f = absurd (f refl)
same_anywhere m i (join_node or right) f = absurd (f refl)
same_anywhere m i not_node f = refl
same_anywhere m i (literal_node positive s) f = refl
same_anywhere m i (literal_node (divisible true k) s) f = refl
same_anywhere m i (literal_node (divisible false k) s) f = refl
same_anywhere m i (literal_node is_zero s) f = refl
same_anywhere m i (bind_node for_some v) f = refl
same_anywhere m i (bind_node for_all v) f = refl

record Joins (d : Node) : Type 0 where
  kind : ℤ
  distance : ℕ
  placed : (i : ℕ) → body i d ≡ kind ∷ pos (distance + i) ∷ []
  near : distance ≤ most_words

a_join : (kind : ℤ) (j : Junction) (right : ℤ) → ((i : ℕ) → body i (join_node j right) ≡ kind ∷ (pos i +ℤ right) ∷ [])
    → Near (join_node j right) → Joins (join_node j right)
unfolding Near
a_join kind j right is (m, e, low) = record {
  kind = kind;
  distance = m;
  placed = λ i. let turned : i + m ≡ m + i = omega arith in
      is i ∙ ap (λ (z : ℤ). kind ∷ (pos i +ℤ z) ∷ []) e ∙ ap (λ (x : ℕ). kind ∷ pos x ∷ []) turned;
  near = low;
}

joins : (d : Node) → kind_of d / 2 ≡ 1 → Near d → Joins d
unfolding kind_of body
joins (constant_node false) e n = absurd (omega arith)
joins (constant_node true) e n = absurd (omega arith)
joins (join_node and right) e n = a_join (pos 2) and right (λ i. refl) n
joins (join_node or right) e n = a_join (pos 3) or right (λ i. refl) n
joins not_node e n = absurd (omega arith)
joins (literal_node positive s) e n = absurd (omega arith)
joins (literal_node (divisible true k) s) e n = absurd (omega arith)
joins (literal_node (divisible false k) s) e n = absurd (omega arith)
joins (literal_node is_zero s) e n = absurd (omega arith)
joins (bind_node for_some v) e n = absurd (omega arith)
joins (bind_node for_all v) e n = absurd (omega arith)

-- ---- the kind of a node

node_kind : (d : Node) → (k : Kind) × (number_of k ≡ kind_of d)
unfolding number_of kind_of
node_kind (constant_node false) = (kind.False, refl)
node_kind (constant_node true) = (kind.True, refl)
node_kind (join_node and right) = (kind.And, refl)
node_kind (join_node or right) = (kind.Or, refl)
node_kind not_node = (kind.Not, refl)
node_kind (literal_node positive s) = (kind.Positive, refl)
node_kind (literal_node (divisible true k) s) = (kind.Divisible, refl)
node_kind (literal_node (divisible false k) s) = (kind.Indivisible, refl)
node_kind (literal_node is_zero s) = (kind.Zero, refl)
node_kind (bind_node for_some v) = (kind.ForSome, refl)
node_kind (bind_node for_all v) = (kind.ForAll, refl)

-- kinds 2 and 3 are an and and an or
pub a_join_kind : (k : Kind) → (k ≡ kind.And) ⊎ (k ≡ kind.Or) → number_of k / 2 ≡ 1
unfolding number_of
a_join_kind k (inl e) = ap (λ (k : Kind). number_of k / 2) e
a_join_kind k (inr e) = ap (λ (k : Kind). number_of k / 2) e

pub no_join_kind : (k : Kind) → ¬ (k ≡ kind.And) → ¬ (k ≡ kind.Or) → ¬ (number_of k / 2 ≡ 1)
unfolding number_of
no_join_kind kind.False f g e = absurd (omega (arith, e))
no_join_kind kind.True f g e = absurd (omega (arith, e))
no_join_kind kind.And f g e = f refl
no_join_kind kind.Or f g e = g refl
no_join_kind kind.Not f g e = absurd (omega (arith, e))
no_join_kind kind.Positive f g e = absurd (omega (arith, e))
no_join_kind kind.Divisible f g e = absurd (omega (arith, e))
no_join_kind kind.Indivisible f g e = absurd (omega (arith, e))
no_join_kind kind.ForSome f g e = absurd (omega (arith, e))
no_join_kind kind.ForAll f g e = absurd (omega (arith, e))
no_join_kind kind.Zero f g e = absurd (omega (arith, e))

-- ---- what is read and written of a node

-- its first word is the number of the kind k, and a body of that kind has w words
pub record ReadNode (ws : List ℤ) (from : ℕ) (k : Kind) (w : ℕ) : Type 0 where
  pub first : get_or ws from (pos 0) ≡ pos (number_of k)
  pub wide : w ≡ get_or widths (number_of k) 0

-- the entry of node i is put, which makes vs of ts, and its body copied, which makes us of vs
pub record CopiedNode (ws : List ℤ) (from : ℕ) (ts : List ℤ) (i to : ℕ) (k : Kind) (w : ℕ) (us : List ℤ) : Type 0 where
  pub read : ReadNode ws from k w
  pub vs : List ℤ
  pub entry : vs ≡ set ts (i + 1) (pos to)
  pub copied : take (to + w) us ≡ take to vs ++ take w (drop from ws)

module _ {ws : List ℤ} {from shift : ℕ} {ts : List ℤ} {i to : ℕ} {d : Node}
    (h : Placeable ws from shift ts i to d) where
  pub body_inside : from + width d ≤ length ws
  unfolding width
  body_inside =
      let all = ap length h.begins ∙ length-append (body h.number d) h.after in
      omega (arith, all, length-drop from ws, length_body h.number d, width_is d, words_pos d)

  pub first_inside : from < length ws
  first_inside = omega (arith, body_inside, width_is d, words_pos d)

  -- word j of the body
  body_word : (j : ℕ) → j < width d → get_or ws (from + j) (pos 0) ≡ get_or (body h.number d) j (pos 0)
  unfolding width
  body_word j l =
      sym (get_or-drop from ws j (pos 0)) ∙ ap (λ (vs : List ℤ). get_or vs j (pos 0)) h.begins
      ∙ get_or-append (body h.number d) h.after (pos 0) j
      (omega (arith, l, length_body h.number d, width_is d))

  first_is : get_or ws from (pos 0) ≡ pos (kind_of d)
  first_is =
      ap (λ (p : ℕ). get_or ws p (pos 0)) (sym (add-zero from)) ∙ sym (get_or-drop from ws 0 (pos 0))
      ∙ ap (λ (vs : List ℤ). get_or vs 0 (pos 0)) h.begins ∙ first_word h.number d h.after

  pub kinded : Kinded ws from
  kinded =
      let (k, e) = node_kind d in
      record { there = first_inside; kind = k; numbered = first_is ∙ ap pos (sym e) }

  module _ {k : Kind} {w : ℕ} (read : ReadNode ws from k w) where
    kind_is : number_of k ≡ kind_of d
    kind_is = let same : pos (number_of k) ≡ pos (kind_of d) = sym read.first ∙ first_is in cc

    is_wide : w ≡ width d
    is_wide = read.wide ∙ ap (λ (m : ℕ). get_or widths m 0) kind_is ∙ sym (kind_width d h.good)

    pub copy_inside : (from + w ≤ length ws) × (to + w ≤ length ts)
    copy_inside = (omega (arith, is_wide, body_inside), omega (arith, is_wide, h.free.bodies))

    -- the second word of a join is its right child's distance u
    module _ (two : number_of k / 2 ≡ 1) where
      join : Joins d
      join = joins d (sym (ap (λ (m : ℕ). m / 2) kind_is) ∙ two) h.near

      two_words : w ≡ 2
      unfolding width
      two_words = is_wide ∙ ap length (join.placed 0)

      pub second_inside : (from + 1 < length ws) × (to + 1 < length ts)
      second_inside = (omega (arith, two_words, copy_inside.0), omega (arith, two_words, copy_inside.1))

      module _ (u : ℕ) (second : get_or ws (from + 1) (pos 0) ≡ signed u) where
        distance_is : u ≡ join.distance + h.number
        distance_is =
            let second_word = ap (λ (l : List ℤ). get_or l 1 (pos 0)) (join.placed h.number) in
            word.number_of u (join.distance + h.number)
            (sym second ∙ body_word 1 (omega (arith, is_wide, two_words)) ∙ second_word)

        -- its number is one that a word can hold
        pub child_low : u + shift ≤ limit
        child_low = omega (arith, distance_is, h.shifted, join.near, h.free.entries, h.free.most)

  -- ---- what stands in the table then

  abbrev front : List ℤ
  front = set (take to ts) (i + 1) (pos to)

  front_long : length front ≡ to
  front_long = length-set (take to ts) (i + 1) (pos to) ∙ length-take-le to ts (omega (arith, h.free.bodies))

  module _ {k : Kind} {w : ℕ} {us : List ℤ} (c : CopiedNode ws from ts i to k w us) where
    copied_body : take (to + w) us ≡ front ++ body h.number d
    unfolding width
    copied_body =
        c.copied
        ∙ ap (λ (l : List ℤ). take to l ++ take w (drop from ws)) c.entry
        ∙ ap (λ (l : List ℤ). l ++ take w (drop from ws)) (take-set-lt to ts (i + 1) (pos to) h.free.entries)
        ∙ ap (λ (l : List ℤ). front ++ take w l) h.begins
        ∙ ap (λ (l : List ℤ). front ++ l)
        (take_at (body h.number d) h.after w
        (length_body h.number d ∙ sym (is_wide c.read ∙ width_is d)))

    -- with its body behind it, which made vs, it is placed
    placed : (vs : List ℤ) → take (to + w) vs ≡ front ++ body i d → Run ts vs i to (d ∷ []) × (w ≡ width d)
    placed vs begins =
        let wide = is_wide c.read in
        let long : length (body i d) ≡ w = omega (arith, length_body i d, width_is d, wide) in
        (run_one d refl (record { begins = ap (λ (n : ℕ). take (to + n) vs) long ∙ begins }), wide)

    pub other_placed : ¬ (number_of k / 2 ≡ 1) → Run ts us i to (d ∷ []) × (w ≡ width d)
    other_placed f =
        let same = same_anywhere h.number i d (λ e. f (ap (λ (m : ℕ). m / 2) (kind_is c.read) ∙ e)) in
        placed us (copied_body ∙ ap (λ (l : List ℤ). front ++ l) same)

    -- the right child's number is put, which makes xs of us
    pub join_placed : (two : number_of k / 2 ≡ 1) (u : ℕ) → get_or ws (from + 1) (pos 0) ≡ signed u
        → (xs : List ℤ) → xs ≡ set us (to + 1) (pos (u + shift)) → Run ts xs i to (d ∷ []) × (w ≡ width d)
    join_placed two u second xs e =
        let here = join c.read two in
        let kind = here.kind in
        let child = pos (u + shift) in
        let before_child = front ++ kind ∷ [] in
        let long : length before_child ≡ to + 1 = omega (arith, length-append front (kind ∷ []), front_long) in
        let moved : u + shift ≡ here.distance + i =
        omega (arith, distance_is c.read two u second, h.shifted) in
        let inside : to + 1 < to + w = omega (arith, two_words c.read two) in
        let two_there = copied_body ∙ ap (λ (l : List ℤ). front ++ l) (here.placed h.number)
        ∙ sym (append_assoc front (kind ∷ []) (pos (here.distance + h.number) ∷ [])) in
        placed xs
        (ap (take (to + w)) e
        ∙ take-set-lt (to + w) us (to + 1) child inside
        ∙ ap (λ (l : List ℤ). set l (to + 1) child) two_there
        ∙ set_at before_child (pos (here.distance + h.number)) [] child (to + 1) long
        ∙ append_assoc front (kind ∷ []) (child ∷ [])
        ∙ ap (λ (m : ℕ). front ++ kind ∷ pos m ∷ []) moved
        ∙ ap (λ (l : List ℤ). front ++ l) (sym (here.placed i)))
