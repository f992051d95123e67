-- The lines of a table's nodes, put one after the other.
-- Assumes nothing.
use mathlib.Core.Path.{◌≡◌, refl, sym, ◌∙◌, ap}
use mathlib.Core.List.{List, [], ◌∷◌, ◌++◌, append_assoc, append-nil}
use Prim.Native.Nat.{ℕ, ◌+◌, ◌-◌, ◌<◌, ◌≤◌}
use native.Mathlib.Nat.{add-zero}
use native.Mathlib.Omega.{arith}
use lib.IntN.{ℤ, pos}
use lib.ListN.{length, get_or, take, drop, length-drop, length-append}
use lib.Seq.{drop-drop, get_or-drop, take_at}
use Rattle.rules.specs.Table.{Node, body, bodies}
use Rattle.rules.proofs.Sizes.{length_body}
use Rattle.tables.specs.Reads.{widths}
use Rattle.tables.specs.Kinds.{number_of, Kinded}
use Rattle.tables.specs.declared.kind.Kind.{Kind}
use Rattle.tables.proofs.KindLaws.{first_word}
use Rattle.tables.proofs.RootKinds.{node_kind, small}
use Rattle.tables.proofs.WordLaws.{signed_low}
use Rattle.tables.specs.Checks.{ListedAs, Listed}
use Rattle.tables.proofs.TreeSteps.{Rooted, rooted, listed_some}
use Rattle.text.specs.Lines.{line, lines}
use Rattle.text.specs.Placed.{Puts}
use Rattle.text.specs.declared.lent.Text.{Text}
use Rattle.text.proofs.PlacedLaws.{puts_none, puts_then, puts_as}

-- of the nodes ds those before node i have their lines, and the others are `rest`, whose bodies start at place p
pub record Begun (W : List ℤ) (left i p : ℕ) (ds : List Node) (a b : Text) : Type 0 where
  pub rest : List Node
  pub listed : ListedAs (drop p W) i (left - i) rest
  pub text : List ℕ
  pub same : lines 0 ds ≡ text ++ lines i rest
  pub puts : Puts a text b

-- so of all nodes whose bodies are W
pub record Going (W : List ℤ) (left i p : ℕ) (a b : Text) : Type 0 where
  pub of : (ds : List Node) → ListedAs W 0 left ds → Begun W left i p ds a b

pub none_yet : {W : List ℤ} {left : ℕ} {a : Text} → Going W left 0 0 a a
none_yet = record {
  of = λ ds L. record {
    rest = ds;
    listed = record { bodies_are = L.bodies_are; long = omega (arith, L.long); good = L.good };
    text = [];
    same = refl;
    puts = puts_none;
  };
}

module _ {W : List ℤ} {left i p : ℕ} {a b : Text} (s : Going W left i p a b) where
  -- no node is left
  pub all_nodes : left ≤ i → (ds : List Node) → ListedAs W 0 left ds → Puts a (lines 0 ds) b
  unfolding lines
  all_nodes o ds L =
      let t = s.of ds L in
      let none = go t.rest t.listed.long in
      puts_as t.puts (sym (t.same ∙ ap (λ (u : List ℕ). t.text ++ u) none ∙ append-nil t.text))
    where
      go : (fs : List Node) → length fs ≡ left - i → lines i fs ≡ []
      go [] n = refl
      go (f ∷ fs) n = absurd (omega arith)

  module _ (more : i < left) where
    pub node_there : Listed W 0 left → p < length W
    node_there L =
        let t = s.of L.nodes L.listed in
        let here : Listed (drop p W) i (left - i) = record { nodes = t.rest; listed = t.listed } in
        omega (arith, length-drop p W, listed_some here (omega arith))

    first_word_at : get_or (drop p W) 0 (pos 0) ≡ get_or W p (pos 0)
    first_word_at = get_or-drop p W 0 (pos 0) ∙ ap (λ (n : ℕ). get_or W n (pos 0)) (add-zero p)

    pub kinded_there : Listed W 0 left → Kinded W p
    unfolding bodies
    kinded_there L = let t = s.of L.nodes L.listed in go t.rest t.listed.bodies_are t.listed.long
      where
        go : (ds : List Node) → drop p W ≡ bodies i ds → length ds ≡ left - i → Kinded W p
        go [] e n = absurd (omega arith)
        go (d ∷ ds) e n =
            let (k, same) = node_kind d in
            record {
              there = node_there L;
              kind = k;
              numbered = sym first_word_at ∙ ap (λ (ws : List ℤ). get_or ws 0 (pos 0)) e
                  ∙ first_word i d (bodies (i + 1) ds) ∙ ap pos same;
            }

    module _ (k : Kind) (first : get_or W p (pos 0) ≡ pos (number_of k)) (w : ℕ) (wide : w ≡ get_or widths (number_of k) 0) where
      node_here : {ds : List Node} (t : Begun W left i p ds a b) → Rooted (drop p W) i (left - i) (number_of k) t.rest
      node_here t = rooted (number_of k) (first_word_at ∙ first ∙ sym (signed_low (number_of k) (small k))) (omega arith) t.listed

      -- its body has so many words
      body_here : {ds : List Node} (t : Begun W left i p ds a b) → length (body i (node_here t).root) ≡ w
      body_here t = length_body i _ ∙ sym (wide ∙ (node_here t).wide)

      pub body_there : Listed W 0 left → p + w ≤ length W
      body_there L =
          let t = s.of L.nodes L.listed in
          let r = node_here t in
          let all = ap length r.bodies_are ∙ length-append (body i r.root) (bodies (i + 1) r.after) in
          omega (arith, all, length-drop p W, body_here t, node_there L)

      -- its line is put
      pub one_node : {c : Text} → Puts b (line (pos i) (take w (drop p W))) c
          → Going W left (i + 1) (p + w) a c
      unfolding lines
      one_node h = record {
        of = λ ds L.
            let t = s.of ds L in
            let r = node_here t in
            let its_words : take w (drop p W) ≡ body i r.root =
            ap (take w) r.bodies_are ∙ take_at (body i r.root) (bodies (i + 1) r.after) w (body_here t) in
            let its_line : List ℕ = line (pos i) (body i r.root) in
            record {
              rest = r.after;
              listed = record {
                bodies_are = sym (drop-drop w p W) ∙ ap (λ (y : ℕ). drop y (drop p W)) wide ∙ r.behind.bodies_are;
                long = omega (arith, r.behind.long);
                good = r.behind.good;
              };
              text = t.text ++ its_line;
              same = t.same ∙ ap (λ (fs : List Node). t.text ++ lines i fs) r.is
                  ∙ sym (append_assoc t.text its_line (lines (i + 1) r.after));
              puts = puts_then t.puts (puts_as h (ap (line (pos i)) its_words));
            };
      }
