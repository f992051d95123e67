-- Nodes copied one by one into a table: the first of them are placed in it, the others stand where they come from.
-- Assumes nothing.
use mathlib.Core.Path.{◌≡◌, refl, sym, ap, ◌∙◌, subst}
use mathlib.Core.List.{List, [], ◌∷◌, ◌++◌, append_assoc, append-nil}
use Prim.Native.Nat.{ℕ, ◌+◌, ◌<◌, ◌≤◌}
use native.Mathlib.Omega.{arith}
use lib.IntN.{ℤ}
use lib.ListN.{length, drop, length-append}
use lib.Seq.{drop_at, drop-drop}
use Rattle.rules.specs.Rule.{Rule, Constant, Join, Not, Literal, Bind}
use Rattle.rules.specs.Table.{Node, most_words, body, width, count, nodes, bodies}
use Rattle.rules.specs.Laws.{WellFormed}
use Rattle.rules.proofs.Sizes.{weight, total, length_body, length_nodes, weight_is}
use Rattle.rules.proofs.Encoding.{AllGood, good_nodes}
use Rattle.tables.proofs.Standings.{width_is}
use Rattle.builder.specs.Built.{unplaced}
use Rattle.finishing.specs.Placing.{Free, Run}
use Rattle.finishing.specs.Finishing.{Near, Placeable}
use Rattle.finishing.proofs.RunLaws.{total_append, free_part, run_none, run_then}

-- ---- the right children of a rule's nodes

unfoldable pub AllNear : List Node → Type 0
unfolding Near
AllNear [] = Unit {0}
AllNear (d ∷ ds) = Near d × AllNear ds

near_nodes : (r : Rule) (ds : List Node) → count r ≤ most_words → AllNear ds → AllNear (nodes r ++ ds)
unfolding AllNear nodes count
near_nodes (Constant b) ds l h = (tt, h)
near_nodes (Join j a b) ds l h =
    let right = near_nodes b ds (omega arith) h in
    let both = near_nodes a (nodes b ++ ds) (omega arith) right in
    ((1 + count a, refl, omega arith), rw (append_assoc (nodes a) (nodes b) ds) both)
near_nodes (Not a) ds l h = (tt, near_nodes a ds (omega arith) h)
near_nodes (Literal t s) ds l h = (tt, h)
near_nodes (Bind q v a) ds l h = (tt, near_nodes a ds (omega arith) h)

-- ---- where the nodes come from: what is built, where a right child is given by its distance, or a table

pub data Source : Type 0 where
  built : Source
  numbered : Source

-- where k nodes are placed, the number that the next one has there, and the words of all that are left
abbrev pub number : Source → ℕ → ℕ
number built k = 0
number numbered k = k

abbrev pub words_left : Source → ℕ → List Node → List ℤ
words_left built k ds = unplaced ds
words_left numbered k ds = bodies k ds

next_words : (s : Source) (k : ℕ) (d : Node) (ds : List Node)
    → words_left s k (d ∷ ds) ≡ body (number s k) d ++ words_left s (k + 1) ds
unfolding unplaced bodies
next_words built k d ds = refl
next_words numbered k d ds = refl

-- ---- k of the m nodes ds are placed: the rest stand in ws from `from` on, and the next one goes to `place`

pub record Partway (s : Source) (ws ts vs : List ℤ) (i to m k from place : ℕ) (ds : List Node) : Type 0 where
  pub free : Free ts i to (length ds) (total ds)
  pub all : length ds ≡ m
  pub done : List Node
  pub left : List Node
  pub split : ds ≡ done ++ left
  pub long : length done ≡ k
  pub here : drop from ws ≡ words_left s k left
  pub good : AllGood left
  pub near : AllNear left
  pub there : place ≡ to + total done
  pub run : Run ts vs i to done

pub none_placed : {s : Source} {ws ts : List ℤ} {i to m from : ℕ} (r : Rule) → WellFormed r → m ≡ count r
    → Free ts i to (count r) (weight r) → drop from ws ≡ words_left s 0 (nodes r)
    → Partway s ws ts ts i to m 0 from to (nodes r)
unfolding total AllNear AllGood
none_placed {ts = ts} {i} {to} {m} r formed counted free here =
    let few : count r ≤ most_words = omega (arith, free.entries, free.most) in
    record {
      free = free_part _ _ _ _ free refl (omega (arith, length_nodes r)) (omega arith) (omega (arith, weight_is r));
      all = length_nodes r ∙ sym counted;
      done = [];
      left = nodes r;
      split = refl;
      long = refl;
      here = here;
      good = subst AllGood (append-nil (nodes r)) ((good_nodes r []).1 (formed, tt));
      near = subst AllNear (append-nil (nodes r)) (near_nodes r [] few tt);
      there = omega arith;
      run = run_none ts i to;
    }

module _ {s : Source} {ws ts vs : List ℤ} {i to m k from place : ℕ} {ds : List Node}
    (p : Partway s ws ts vs i to m k from place ds) where
  sums : (left : List Node) → p.left ≡ left
      → (length p.done + length left ≡ m) × (total p.done + total left ≡ total ds)
  sums left e =
      let whole = p.split ∙ ap (λ (l : List Node). p.done ++ l) e in (
        omega (arith, p.all, ap length whole, length-append p.done left),
        omega (arith, ap total whole, total_append p.done left),
      )

  some_left : k < m → (d : Node) × (rest : List Node) × (p.left ≡ d ∷ rest)
  some_left more = go p.left refl
    where
      go : (left : List Node) → p.left ≡ left → (d : Node) × (rest : List Node) × (p.left ≡ d ∷ rest)
      go [] e = absurd (omega (arith, (sums [] e).0, p.long))
      go (d ∷ rest) e = (d, rest, e)

  -- while some are left the next of them can be placed, and is then done
  module _ (more : k < m) where
    pub next : Node
    next = (some_left more).0

    rest : List Node
    rest = (some_left more).1

    left_is : p.left ≡ next ∷ rest
    unfolding next rest
    left_is = (some_left more).2

    begins_next : drop from ws ≡ body (number s k) next ++ words_left s (k + 1) rest
    begins_next = p.here ∙ ap (words_left s k) left_is ∙ next_words s k next rest

    pub next_placeable : (j shift : ℕ) → j ≡ i + k → number s k + shift ≡ j → length vs ≡ length ts
        → Placeable ws from shift vs j place next
    unfolding AllGood AllNear total
    next_placeable j shift nth shifted same =
        let (in_all, in_words) = sums (next ∷ rest) left_is in
        let free = p.free in
        record {
          number = number s k;
          shifted = shifted;
          after = words_left s (k + 1) rest;
          begins = begins_next;
          good = (subst AllGood left_is p.good).0;
          near = (subst AllNear left_is p.near).0;
          free = record {
            entries = omega (arith, nth, free.entries, p.all, p.there);
            bodies = omega (arith, free.bodies, same, p.there, in_words, width_is next);
            most = omega (arith, free.most, p.there, in_words, width_is next);
          };
        }

    pub one_placed : (xs : List ℤ) (j u : ℕ) → j ≡ i + k → Run vs xs j place (next ∷ []) → u ≡ width next
        → Partway s ws ts xs i to m (k + 1) (from + u) (place + u) ds
    unfolding AllGood AllNear total
    one_placed xs j u nth placed wide =
        let (in_all, in_words) = sums (next ∷ rest) left_is in
        let one = next ∷ [] in
        let long : length (body (number s k) next) ≡ u =
        omega (arith, length_body (number s k) next, width_is next, wide) in
        let sum : total (p.done ++ one) ≡ total p.done + u =
        omega (arith, total_append p.done one, width_is next, wide) in
        record {
          free = p.free;
          all = p.all;
          done = p.done ++ one;
          left = rest;
          split = p.split ∙ ap (λ (l : List Node). p.done ++ l) left_is ∙ sym (append_assoc p.done one rest);
          long = omega (arith, length-append p.done one, p.long);
          here = sym (drop-drop u from ws) ∙ ap (drop u) begins_next
              ∙ drop_at (body (number s k) next) (words_left s (k + 1) rest) u long;
          good = (subst AllGood left_is p.good).1;
          near = (subst AllNear left_is p.near).1;
          there = omega (arith, p.there, sum);
          run = run_then p.done one (omega (arith, nth, p.long)) p.there
              (omega (arith, p.free.entries, p.all, in_all)) (omega (arith, p.free.bodies)) p.run placed;
        }

  pub all_placed : m ≤ k → Run ts vs i to ds × (place ≡ to + total ds)
  all_placed over = go p.left refl
    where
      go : (left : List Node) → p.left ≡ left → Run ts vs i to ds × (place ≡ to + total ds)
      go [] e =
          let whole : ds ≡ p.done = p.split ∙ ap (λ (l : List Node). p.done ++ l) e ∙ append-nil p.done in
          (subst (Run ts vs i to) (sym whole) p.run, omega (arith, p.there, ap total whole))
      go (d ∷ rest) e = absurd (omega (arith, (sums (d ∷ rest) e).0, p.long))
