-- A node put in front of those that were built, the size of what is built, and going back.
-- Assumes nothing.
use mathlib.Core.Path.{◌≡◌, refl, sym, ap, ◌∙◌, subst}
use mathlib.Core.Bool.{Bool, true, false}
use mathlib.Core.Logic.{◌⊎◌, inl, inr}
use mathlib.Core.List.{List, [], ◌∷◌, ◌++◌, append_assoc}
use Prim.Native.Nat.{ℕ, ◌+◌, ◌<◌, ◌≤◌}
use native.Mathlib.Omega.{arith}
use lib.Dec.{leb}
use lib.IntN.{ℤ, pos}
use lib.ListN.{length, length-append}
use Rattle.rules.specs.Rule.{Rule}
use Rattle.rules.specs.Table.{Node, body, nodes, size}
use Rattle.rules.proofs.Sizes.{total, words_pos, length_body, length_nodes, weight_is, size_is}
use Rattle.tables.specs.Kinds.{number_of}
use Rattle.tables.specs.declared.kind.Kind.{Kind}
use Rattle.builder.specs.Built.{Ends, Built, Countable, Building, most_counted, unplaced}
use Rattle.builder.specs.declared.push.State.{State}
use Rattle.builder.proofs.EndLaws.{ends_none, ends_back}

-- ---- one node more

pub built_none : (ws : List ℤ) → Built ws (record { used = 0; nodes = 0 }) []
unfolding unplaced
built_none ws = record { counted = refl; ends = ends_none ws }

-- the words x of d in front, and one node counted
pub built_more : (ws : List ℤ) (n u : ℕ) (x : List ℤ) (d : Node) (ds : List Node) → body 0 d ≡ x → n ≡ length ds
    → Ends ws u (x ++ unplaced ds) → Built ws (record { used = u; nodes = n + 1 }) (d ∷ ds)
unfolding unplaced
built_more ws n u x d ds e counted ends =
    record { counted = omega arith; ends = subst (λ (y : List ℤ). Ends ws u (y ++ unplaced ds)) (sym e) ends }

-- the words of a node of one of two kinds, which a truth value chooses
pub either_body : (d : Bool → Node) (fields : List ℤ) (k₁ k₂ : Kind) → body 0 (d true) ≡ pos (number_of k₁) ∷ fields
    → body 0 (d false) ≡ pos (number_of k₂) ∷ fields → {c : Bool} {k : Kind}
    → ((c ≡ true) × (k ≡ k₁)) ⊎ ((c ≡ false) × (k ≡ k₂)) → body 0 (d c) ≡ pos (number_of k) ∷ fields
either_body d fields k₁ k₂ first second (inl (e, is)) =
    ap (λ (b : Bool). body 0 (d b)) e ∙ first ∙ ap (λ (m : Kind). pos (number_of m) ∷ fields) (sym is)
either_body d fields k₁ k₂ first second (inr (e, is)) =
    ap (λ (b : Bool). body 0 (d b)) e ∙ second ∙ ap (λ (m : Kind). pos (number_of m) ∷ fields) (sym is)

-- the right child of a node that has no number yet is given by its distance
pub right_child : (k : ℤ) (n : ℕ) → k ∷ pos (0 + n) ∷ [] ≡ k ∷ pos n ∷ []
right_child k n = ap (λ (m : ℕ). k ∷ pos m ∷ []) (let none : 0 + n ≡ n = omega arith in none)

-- ---- size

pub length_unplaced : (ds : List Node) → length (unplaced ds) ≡ total ds
unfolding unplaced total
length_unplaced [] = refl
length_unplaced (d ∷ ds) = simp (length-append, length_body, length_unplaced ds)

nodes_few : (ds : List Node) → length ds ≤ total ds
unfolding total
nodes_few [] = omega arith
nodes_few (d ∷ ds) = omega (arith, words_pos d, nodes_few ds)

pub built_counts : (ws : List ℤ) (b : State) (ds : List Node) → Built ws b ds
    → (b.used ≡ total ds) × (b.nodes ≡ length ds)
built_counts ws b ds h = (h.ends.long ∙ length_unplaced ds, h.counted)

-- there are no more nodes than words, so that the distance of a right child, counted in nodes, is what `join` asks
pub built_few : (ws : List ℤ) (b : State) (ds : List Node) → Built ws b ds → b.nodes ≤ b.used
built_few ws b ds h = omega (arith, built_counts ws b ds h, nodes_few ds)

-- a bound on the words of all nodes is one on both counts
pub built_countable : (ws : List ℤ) (b : State) (ds : List Node) (n : ℕ) → Built ws b ds
    → total ds + n < most_counted → Countable b n
built_countable ws b ds n h small = record {
  words = omega (arith, built_counts ws b ds h);
  nodes = omega (arith, built_few ws b ds h, built_counts ws b ds h);
}

pub building_countable : {ws : List ℤ} {b : State} {ds : List Node} {m : ℕ} (n : ℕ) → Building ws b ds m → n ≤ m
    → Countable b n
building_countable {ws} {b} {ds} n building fits =
    built_countable ws b ds n building.built (omega (arith, building.small))

pub building_less : {ws : List ℤ} {b : State} {ds : List Node} {m n : ℕ} → Building ws b ds m → n ≤ m
    → Building ws b ds n
building_less building fits =
    record { built = building.built; small = omega (arith, building.small); room = building.room }

-- the table of the rule that is built has a word for the count and one for each node beside the words used
pub built_size : (ws : List ℤ) (b : State) (r : Rule) → Built ws b (nodes r) → b.nodes + 1 + b.used ≡ size r
built_size ws b r h = omega (arith, size_is r, weight_is r, length_nodes r, built_counts ws b (nodes r) h)

pub fits_is : (ws : List ℤ) (b : State) (r : Rule) (room : ℕ) → Built ws b (nodes r)
    → leb (b.nodes + 1 + b.used) room ≡ leb (size r) room
fits_is ws b r room h = ap (λ (n : ℕ). leb n room) (built_size ws b r h)

-- ---- going back

unplaced_append : (xs ds : List Node) → unplaced (xs ++ ds) ≡ unplaced xs ++ unplaced ds
unfolding unplaced
unplaced_append [] ds = refl
unplaced_append (d ∷ xs) ds =
    ap (λ (l : List ℤ). body 0 d ++ l) (unplaced_append xs ds)
    ∙ sym (append_assoc (body 0 d) (unplaced xs) (unplaced ds))

-- an earlier state, which counts ds, still says what was built then, whatever nodes xs were put in front since
pub counts_back : (ws : List ℤ) (b c : State) (xs ds : List Node) → (b.used ≡ total ds) × (b.nodes ≡ length ds)
    → Built ws c (xs ++ ds) → Built ws b ds
counts_back ws b c xs ds counts built = record {
  counted = counts.1;
  ends = ends_back ws b.used c.used (unplaced xs) (unplaced ds) (counts.0 ∙ sym (length_unplaced ds))
      (subst (Ends ws c.used) (unplaced_append xs ds) built.ends);
}

pub built_back : (ws vs : List ℤ) (b c : State) (xs ds : List Node) → Built ws b ds → Built vs c (xs ++ ds)
    → Built vs b ds
built_back ws vs b c xs ds before after = counts_back vs b c xs ds (built_counts ws b ds before) after
