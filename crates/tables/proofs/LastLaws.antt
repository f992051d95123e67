-- The last quantifier among nodes, looked for from the last of them: among those of a rule it is the chosen one.
-- Assumes nothing.
use mathlib.Core.Path.{◌≡◌, refl, sym, ◌∙◌, ap, subst}
use mathlib.Core.Bool.{Bool, true, false, not, ◌||◌}
use mathlib.Core.List.{List, [], ◌∷◌, ◌++◌, append_assoc, append-nil}
use Prim.Native.Nat.{ℕ, zero, suc, ◌+◌, ◌<◌}
use native.Mathlib.Nat.{add-zero, zero-add, suc-add}
use native.Mathlib.Omega.{arith}
use borrow.Author.Tests.{lt-ltb, le-ltb}
use lib.Dec.{T, ltb, leb-zero, leb-suc-suc}
use lib.IntN.{ℤ, pos}
use lib.ListN.{length, get_or, drop, length-append, length-drop}
use lib.Seq.{append_snoc, drop-drop, get_or-drop}
use Rattle.rules.specs.Rule.{Junction, and, or, Quantifier, for_some, for_all, positive, divisible, is_zero}
use Rattle.rules.specs.Rule.{Rule, Constant, Join, Not, Literal, Bind}
use Rattle.rules.specs.Table.{Node, count, nodes, bodies, body}
use Rattle.rules.specs.Chosen.{quantifiers, quantified}
use Rattle.rules.specs.Calls.{signed}
use Rattle.rules.proofs.Sizes.{words, total, weight, words_pos, length_nodes}
use Rattle.rules.proofs.Meaning.{none_quantified, some_quantified}
use Rattle.tables.specs.Reads.{kind_of}
use Rattle.tables.specs.Standing.{Nodes, TableAt}
use Rattle.tables.specs.Last.{binds, chosen_number, chosen_place, LastAt}
use Rattle.std.proofs.Common.{Option, Some, None}
use Rattle.tables.specs.declared.quantifiers.Spot.{Spot}
use Rattle.tables.specs.Kinds.{Kinded}
use Rattle.tables.proofs.WordLaws.{number_of}
use Rattle.tables.proofs.RootKinds.{node_kind}
use Rattle.tables.proofs.KindLaws.{first_word}
use Rattle.tables.proofs.Standings.{entry, enough_entries, enough_bodies, stands_there}
use Rattle.tables.proofs.Standings.{behind as nodes_behind}

-- there is one: node i, at place p
abbrev pub spot_at : ℕ → ℕ → Option Spot
spot_at i p = Some (record { node = i; place = p })

-- node i at place p has kind k, and f is the last quantifier before it
unfoldable later : ℕ → ℕ → ℕ → Option Spot → Option Spot
later k i p f = elim (binds k) [ true ↦ spot_at i p | false ↦ f ]

-- the last quantifier of nodes, the first of them node i at place p, where f is the last before them
unfoldable pub last : ℕ → ℕ → Option Spot → List Node → Option Spot
unfolding later kind_of words
last i p f [] = f
last i p f (d ∷ ds) = last (i + 1) (p + words d) (later (kind_of d) i p f) ds

-- ---- of a rule's nodes it is the chosen one

-- the first where the test passes, else the second
abbrev found_by : Bool → Option Spot → Option Spot → Option Spot
found_by t first second = elim t [ true ↦ first | false ↦ second ]

unfoldable at_chosen : ℕ → ℕ → Option Spot → Rule → Option Spot
unfolding quantified chosen_number chosen_place
at_chosen i p f r = found_by (quantified r) (spot_at (i + chosen_number r) (p + chosen_place r)) f

some : (n : ℕ) → ltb 0 (suc n) ≡ true
some n = leb-suc-suc 0 n ∙ leb-zero n

some_of_two : (m n : ℕ) → ltb 0 (m + n) ≡ (ltb 0 m || ltb 0 n)
some_of_two zero n = ap (ltb 0) (zero-add n)
some_of_two (suc m) n = ap (ltb 0) (suc-add m n) ∙ some (m + n) ∙ sym (ap (λ (b : Bool). b || ltb 0 n) (some m))

same_place : {i j p q : ℕ} → i ≡ j → p ≡ q → spot_at i p ≡ spot_at j q
same_place e g = cc

chosen_in_not : (i p : ℕ) (f : Option Spot) (a : Rule) → at_chosen (i + 1) (p + 1) f a ≡ at_chosen i p f (Not a)
unfolding at_chosen
chosen_in_not i p f a =
    ap (λ (g : Option Spot). found_by (quantified a) g f) (same_place (omega arith) (omega arith))

chosen_in_join : (i p : ℕ) (f : Option Spot) (j : Junction) (a b : Rule)
    → at_chosen (i + 1 + count a) (p + 2 + weight a) (at_chosen (i + 1) (p + 2) f a) b ≡ at_chosen i p f (Join j a b)
unfolding at_chosen quantifiers
chosen_in_join i p f j a b =
    sides (quantified a) (quantified b)
    ∙ ap (λ (t : Bool). found_by t (spot_at (i + chosen_number (Join j a b)) (p + chosen_place (Join j a b))) f)
    (sym (some_of_two (quantifiers a) (quantifiers b)))
  where
    sides : (s t : Bool)
        → found_by t (spot_at (i + 1 + count a + chosen_number b) (p + 2 + weight a + chosen_place b))
        (found_by s (spot_at (i + 1 + chosen_number a) (p + 2 + chosen_place a)) f)
        ≡ found_by (s || t)
        (spot_at (i + elim t [ true ↦ 1 + count a + chosen_number b | false ↦ 1 + chosen_number a ])
        (p + elim t [ true ↦ 2 + weight a + chosen_place b | false ↦ 2 + chosen_place a ])) f
    sides true true = same_place (omega arith) (omega arith)
    sides false true = same_place (omega arith) (omega arith)
    sides true false = same_place (omega arith) (omega arith)
    sides false false = refl

chosen_in_bind : (i p : ℕ) (f : Option Spot) (q : Quantifier) (v : ℕ) (a : Rule)
    → at_chosen (i + 1) (p + 2) (spot_at i p) a ≡ at_chosen i p f (Bind q v a)
unfolding at_chosen quantifiers
chosen_in_bind i p f q v a =
    inside (quantified a)
    ∙ ap (λ (t : Bool). found_by t (spot_at (i + chosen_number (Bind q v a)) (p + chosen_place (Bind q v a))) f)
    (sym (some (quantifiers a)))
  where
    inside : (t : Bool)
        → found_by t (spot_at (i + 1 + chosen_number a) (p + 2 + chosen_place a)) (spot_at i p)
        ≡ spot_at (i + elim t [ true ↦ 1 + chosen_number a | false ↦ 0 ])
        (p + elim t [ true ↦ 2 + chosen_place a | false ↦ 0 ])
    inside true = same_place (omega arith) (omega arith)
    inside false = same_place (omega arith) (omega arith)

moved : {i j p q : ℕ} {f g : Option Spot} (ds : List Node) → i ≡ j → p ≡ q → f ≡ g → last i p f ds ≡ last j q g ds
moved ds a b c = cc

last_nodes : (r : Rule) (i p : ℕ) (f : Option Spot) (ds : List Node)
    → last i p f (nodes r ++ ds) ≡ last (i + count r) (p + weight r) (at_chosen i p f r) ds
unfolding last nodes at_chosen quantifiers
last_nodes (Constant false) i p f ds = refl
last_nodes (Constant true) i p f ds = refl
last_nodes (Join j a b) i p f ds =
    join_passed j
    ∙ ap (last (i + 1) (p + 2) f) (append_assoc (nodes a) (nodes b) ds)
    ∙ last_nodes a (i + 1) (p + 2) f (nodes b ++ ds)
    ∙ last_nodes b (i + 1 + count a) (p + 2 + weight a) (at_chosen (i + 1) (p + 2) f a) ds
    ∙ moved ds (omega arith) (omega arith) (chosen_in_join i p f j a b)
  where
    join_passed : (j : Junction)
        → last i p f (nodes (Join j a b) ++ ds) ≡ last (i + 1) (p + 2) f ((nodes a ++ nodes b) ++ ds)
    join_passed and = refl
    join_passed or = refl
last_nodes (Not a) i p f ds =
    last_nodes a (i + 1) (p + 1) f ds ∙ moved ds (omega arith) (omega arith) (chosen_in_not i p f a)
last_nodes (Literal positive s) i p f ds = refl
last_nodes (Literal (divisible true k) s) i p f ds = refl
last_nodes (Literal (divisible false k) s) i p f ds = refl
last_nodes (Literal is_zero s) i p f ds = refl
last_nodes (Bind q v a) i p f ds =
    bind_passed q
    ∙ last_nodes a (i + 1) (p + 2) (spot_at i p) ds
    ∙ moved ds (omega arith) (omega arith) (chosen_in_bind i p f q v a)
  where
    bind_passed : (q : Quantifier)
        → last i p f (nodes (Bind q v a) ++ ds) ≡ last (i + 1) (p + 2) (spot_at i p) (nodes a ++ ds)
    bind_passed for_some = refl
    bind_passed for_all = refl

last_at : (a : Rule) (f : Option Spot) → f ≡ last 0 (count a + 1) None (nodes a) → LastAt a f
unfolding last at_chosen LastAt
last_at a f e =
    let nothing_behind = ap (last 0 (count a + 1) None) (sym (append-nil (nodes a)))
    ∙ last_nodes a 0 (count a + 1) None [] in
    subst (LastAt a) (sym (e ∙ nothing_behind)) (by_test (quantified a) (some_quantified a) (none_quantified a))
  where
    by_test : (t : Bool) → (T t → 0 < quantifiers a) → (T (not t) → quantifiers a ≡ 0)
        → LastAt a (found_by t (spot_at (0 + chosen_number a) (count a + 1 + chosen_place a)) None)
    by_test true some none = (some tt, zero-add (chosen_number a), refl)
    by_test false some none = none tt

root_word : {es bs : List ℤ} {n p : ℕ} (d : Node) (ds : List Node) → Nodes es bs n p (d ∷ ds)
    → get_or bs 0 (pos 0) ≡ pos (kind_of d)
unfolding bodies
root_word {n = n} d ds f =
    ap (λ (bs : List ℤ). get_or bs 0 (pos 0))
    (f.bodies ∙ append_assoc (body n d) (bodies (n + 1) ds) f.bodies_after)
    ∙ first_word n d (bodies (n + 1) ds ++ f.bodies_after)

-- ---- whether there is one

module _ (r : Rule) {f : Option Spot} where
  pub none_last : f ≡ None → LastAt r f → false ≡ quantified r
  unfolding LastAt quantified
  none_last e h = sym (le-ltb 0 (quantifiers r) (omega (arith, subst (LastAt r) e h)))

  pub some_last : {s : Spot} → f ≡ Some s → LastAt r f → true ≡ quantified r
  unfolding LastAt quantified
  some_last e h = sym (lt-ltb 0 (quantifiers r) (subst (LastAt r) e h).0)

-- ---- the steps of the search, from the last node to the first

same_later : {i j p q : ℕ} (k : ℕ) (f : Option Spot) → i ≡ j → p ≡ q → later k i p f ≡ later k j q f
same_later k f e g = cc

-- one more node behind some
last_behind : (l : List Node) (i p : ℕ) (f : Option Spot) (d : Node)
    → last i p f (l ++ d ∷ []) ≡ later (kind_of d) (i + length l) (p + total l) (last i p f l)
unfolding last total
last_behind [] i p f d = same_later (kind_of d) f (sym (add-zero i)) (sym (add-zero p))
last_behind (e ∷ l) i p f d =
    last_behind l (i + 1) (p + words e) (later (kind_of e) i p f) d
    ∙ same_later (kind_of d) (last (i + 1) (p + words e) (later (kind_of e) i p f) l) (omega arith) (omega arith)

record Parted (l : List Node) : Type 0 where
  first : List Node
  end : Node
  is : l ≡ first ++ end ∷ []

parted : (l : List Node) → 0 < length l → Parted l
parted [] h = absurd (omega arith)
parted (d ∷ []) h = record { first = []; end = d; is = refl }
parted (d ∷ e ∷ l) h =
    let p = parted (e ∷ l) (omega arith) in
    record { first = d ∷ p.first; end = p.end; is = ap (λ (m : List Node). d ∷ m) p.is }

-- the last quantifier is among the first i nodes
pub record Sought (i : ℕ) (r : Rule) : Type 0 where
  pub before : List Node
  pub behind : List Node
  pub all : nodes r ≡ before ++ behind
  pub long : length before ≡ i
  pub same : last 0 (count r + 1) None (nodes r) ≡ last 0 (count r + 1) None before

pub search_begins : {n : ℕ} {r : Rule} → n ≡ count r → Sought n r
search_begins {r = r} e = record {
  before = nodes r;
  behind = [];
  all = sym (append-nil (nodes r));
  long = length_nodes r ∙ sym e;
  same = refl;
}

pub none_found : {r : Rule} → Sought 0 r → LastAt r None
unfolding last
none_found {r} s = last_at r None (sym (s.same ∙ go s.before s.long))
  where
    go : (l : List Node) → length l ≡ 0 → last 0 (count r + 1) None l ≡ None
    go [] e = refl
    go (d ∷ l) e = absurd (omega arith)

-- node i − 1, in the table
module _ {W : List ℤ} {i : ℕ} {r : Rule} (at : TableAt W r) (s : Sought i r) (more : 0 < i) where
  parts : Parted s.before
  parts = parted s.before (omega (arith, s.long))

  abbrev front : List Node
  front = parts.first

  abbrev root : Node
  root = parts.end

  abbrev place : ℕ
  place = count r + 1 + total front

  number : 1 + length front ≡ i
  number = omega (arith, s.long, ap length parts.is ∙ length-append front (root ∷ []))

  split : nodes r ≡ front ++ root ∷ s.behind
  split = s.all ∙ ap (λ (l : List Node). l ++ s.behind) parts.is ∙ append_snoc front root s.behind

  -- it stands in the table
  stands : Nodes (drop i W) (drop place W) (0 + length front) place (root ∷ s.behind)
  stands =
      subst (λ (es : List ℤ). Nodes es (drop place W) (0 + length front) place (root ∷ s.behind))
      (drop-drop (length front) 1 W ∙ ap (λ (k : ℕ). drop k W) number)
      (subst (λ (bs : List ℤ). Nodes (drop (length front) (drop 1 W)) bs (0 + length front) place (root ∷ s.behind))
      (drop-drop (total front) (count r + 1) W)
      (nodes_behind front (root ∷ s.behind)
      (subst (Nodes (drop 1 W) (drop (count r + 1) W) 0 (count r + 1)) split (stands_there at))))

  -- its entry and the first word of its body are there
  pub entry_inside : i < length W
  entry_inside = omega (arith, enough_entries (root ∷ s.behind) stands, length-drop i W)

  module _ (p : ℕ) (read : get_or W i (pos 0) ≡ signed p) where
    place_is : p ≡ place
    place_is = number_of p place
        (sym read ∙ ap (λ (k : ℕ). get_or W k (pos 0)) (sym (add-zero i)) ∙ sym (get_or-drop i W 0 (pos 0))
        ∙ entry root s.behind stands)

    body_inside : p < length W
    unfolding total
    body_inside =
        let some = enough_bodies (root ∷ s.behind) stands in
        omega (arith, some, place_is, words_pos root, length-drop place W)

    first_word_is : get_or W p (pos 0) ≡ pos (kind_of root)
    first_word_is =
        ap (λ (j : ℕ). get_or W j (pos 0)) (place_is ∙ sym (add-zero place))
        ∙ sym (get_or-drop place W 0 (pos 0)) ∙ root_word root s.behind stands

    pub body_kinded : Kinded W p
    body_kinded =
        let (k, e) = node_kind root in
        record { there = body_inside; kind = k; numbered = first_word_is ∙ ap pos e }

    module _ (k : ℕ) (first : get_or W p (pos 0) ≡ pos k) where
      kind_is : k ≡ kind_of root
      kind_is = let same : pos k ≡ pos (kind_of root) = sym first ∙ first_word_is in cc

      up_to : last 0 (count r + 1) None (nodes r)
          ≡ later (kind_of root) (length front) place (last 0 (count r + 1) None front)
      up_to = s.same ∙ ap (last 0 (count r + 1) None) parts.is
          ∙ last_behind front 0 (count r + 1) None root
          ∙ same_later (kind_of root) (last 0 (count r + 1) None front) (zero-add _) refl

      -- it is a quantifier's
      pub one_found : (j : ℕ) → j + 1 ≡ i → binds k ≡ true → LastAt r (spot_at j p)
      unfolding later
      one_found j e bound = last_at r (spot_at j p) (
          same_place (omega (arith, e, number)) place_is
          ∙ sym (up_to ∙ ap (λ (t : Bool). found_by t (spot_at (length front) place) (last 0 (count r + 1) None front))
          (ap binds (sym kind_is) ∙ bound))
          )

      -- it is not
      pub search_on : (j : ℕ) → j + 1 ≡ i → binds k ≡ false → Sought j r
      unfolding later
      search_on j e free = record {
        before = front;
        behind = root ∷ s.behind;
        all = split;
        long = omega (arith, e, number);
        same = up_to ∙ ap (λ (t : Bool). found_by t (spot_at (length front) place) (last 0 (count r + 1) None front))
            (ap binds (sym kind_is) ∙ free);
      }
