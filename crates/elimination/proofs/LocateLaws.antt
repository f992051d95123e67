-- The chosen quantifier of a table's rule: it stands at its place in the table's bytes, and its body behind it.
-- Assumes nothing.
use mathlib.Core.Path.{◌≡◌, refl, sym, ◌∙◌, ap}
use mathlib.Core.List.{List}
use Prim.Native.Nat.{ℕ, ◌+◌, ◌<◌, ◌≤◌}
use native.Mathlib.Omega.{arith}
use mathlib.Core.Bool.{Bool, true, false}
use lib.IntN.{ℤ, pos}
use lib.ListN.{length, get_or, drop, length-drop}
use lib.Seq.{drop-drop, get_or-drop}
use Rattle.rules.specs.Rule.{Quantifier, for_some, for_all, Rule, Bind}
use Rattle.rules.specs.Table.{most_words, bind_node, body, count, nodes}
use Rattle.rules.specs.Chosen.{the, quantifiers, replace}
use Rattle.rules.specs.Laws.{Each, InTable, WellFormed, QuantifierFree}
use Rattle.rules.specs.Calls.{signed}
use Rattle.rules.proofs.Sizes.{weight, words as words_of_node}
use Rattle.rules.proofs.Encoding.{setting_range}
use Rattle.rules.proofs.Choosing.{Put, here, in_left, in_right, in_not, in_bind, put, put_body, put_each, put_some}
use Rattle.rules.proofs.Choosing.{is_chosen}
use Rattle.tables.specs.Standing.{Stands}
use Rattle.tables.proofs.WordLaws.{number_of as number_read}
use Rattle.tables.specs.Kinds.{number_of, Kinded, bind_kind, kind_of}
use Rattle.tables.specs.declared.kind.Kind.{Kind}
use Rattle.tables.specs.declared.kind.Kind.TheVariants as kinds
use Rattle.tables.proofs.RootKinds.{root_first, root_read}
use Rattle.tables.proofs.Standings.{body_word, under_bind, inside_bodies, stands_there}
use Rattle.tables.proofs.Parts.{moved}
use Rattle.tables.specs.Last.{chosen_number, chosen_place, LastAt}
use Rattle.bodies.proofs.ChosenLaws.{chosen_none, chosen_few, chosen_stands}
use Rattle.elimination.specs.Stepping.{HasTable, is_some, Locates, LocatedIn, ChosenIn, BodyIn}
use Rattle.tables.specs.Parts.{RuleIn, PartOf}
use Rattle.tables.specs.declared.part.Part.{Part}
use Rattle.tables.specs.declared.quantifiers.Spot.{Spot}
use Rattle.std.specs.Prelude.{Some, None}
use Rattle.elimination.specs.declared.locate.Quantified.{Quantified}

-- ---- in the rule

module _ {q : Quantifier} {x : ℕ} {a new : Rule} where
  put_fewer : {r s : Rule} → Put q x a new r s → 1 + count a ≤ count r
  unfolding count
  put_fewer (here e) = omega arith
  put_fewer (in_left p e) = omega (arith, put_fewer p)
  put_fewer (in_right p) = omega (arith, put_fewer p)
  put_fewer (in_not p) = omega (arith, put_fewer p)
  put_fewer (in_bind p) = omega (arith, put_fewer p)

-- a quantifier has its setting in word 1
module _ {es bs : List ℤ} {n p : ℕ} where
  setting_word : (q : Quantifier) (x : ℕ) (a : Rule) → Stands es bs n p (Bind q x a) → get_or bs 1 (pos 0) ≡ pos x
  unfolding nodes words_of_node body
  setting_word for_some x a s = body_word (bind_node for_some x) (nodes a) 1 s (omega arith)
  setting_word for_all x a s = body_word (bind_node for_all x) (nodes a) 1 s (omega arith)

-- a word behind the place p
word_behind : (ts : List ℤ) (p k m : ℕ) → p + k ≡ m → get_or ts m (pos 0) ≡ get_or (drop p ts) k (pos 0)
word_behind ts p k m e = ap (λ (j : ℕ). get_or ts j (pos 0)) (sym e) ∙ sym (get_or-drop p ts k (pos 0))

-- whether a kind is a for some's
module _ (q : Quantifier) {kind : Kind} (is : kind ≡ bind_kind q) where
  pub is_for_some : kind ≡ kinds.ForSome → true ≡ is_some q
  unfolding is_some bind_kind
  is_for_some e = by q (sym is ∙ e)
    where
      by : (q : Quantifier) → bind_kind q ≡ kinds.ForSome → true ≡ is_some q
      by for_some e = refl
      by for_all e = absurd cc

  pub is_for_all : ¬ (kind ≡ kinds.ForSome) → false ≡ is_some q
  unfolding is_some bind_kind
  is_for_all none = by q (λ e. none (is ∙ e))
    where
      by : (q : Quantifier) → ¬ (bind_kind q ≡ kinds.ForSome) → false ≡ is_some q
      by for_some none = absurd (none refl)
      by for_all none = refl

-- ---- in the table: it is node i at place p

pub located : {ts : List ℤ} {r : Rule} {c : Quantified} → HasTable ts r → (found : Locates r c)
    → ChosenIn ts r found.quantifier c.setting found.body c.node c.place
located has found = record {
  has = has;
  at = found.at;
  number_is = found.number_is;
  place_is = found.place_is;
}

module _ {ts : List ℤ} {r : Rule} {q : Quantifier} {x : ℕ} {a : Rule} {i p : ℕ} (k : ChosenIn ts r q x a i p) where
  -- it stands in r, whatever may be put in its place
  in_rule : Put q x a r r (replace r r)
  in_rule = put r r k.at

  quantifier_stands : Stands (drop (i + 1) ts) (drop p ts) i p (Bind q x a)
  quantifier_stands =
      moved (Bind q x a)
      (drop-drop (chosen_number r) 1 ts ∙ ap (λ (m : ℕ). drop m ts) next)
      (drop-drop (chosen_place r) (count r + 1) ts ∙ ap (λ (m : ℕ). drop m ts) (sym k.place_is))
      (omega (arith, k.number_is)) (sym k.place_is)
      (chosen_stands r (stands_there k.has.table) k.at)
    where
      next : 1 + chosen_number r ≡ i + 1
      next = omega (arith, k.number_is)

  body_stands : Stands (drop 1 (drop (i + 1) ts)) (drop 2 (drop p ts)) (i + 1) (p + 2) a
  body_stands = under_bind q x a quantifier_stands

  -- its two words and its body are in the table
  pub body_there : p + 2 + weight a ≤ length ts
  unfolding weight
  body_there =
      let some : 1 ≤ 2 + weight a = omega arith in
      omega (arith, some, inside_bodies (Bind q x a) quantifier_stands, length-drop p ts)

  -- and it has an entry, and a count before it
  pub quantifier_small : count a + weight a + 4 ≤ most_words
  quantifier_small =
      omega (arith, put_fewer in_rule, body_there, k.place_is, k.has.few)

  number_near : i + 2 ≤ count r + 1
  number_near = omega (arith, k.number_is, (chosen_few r some).0)
    where
      some : 0 < quantifiers r
      some = put_some in_rule

  pub entry_there : i + 2 + weight a ≤ length ts
  entry_there = omega (arith, number_near, body_there, k.place_is)

  pub quantifier_formed : WellFormed (Bind q x a)
  quantifier_formed = put_each InTable in_rule k.has.formed

  pub body_formed : WellFormed a
  unfolding Each
  body_formed = quantifier_formed.1

  pub setting_known : (1 ≤ x) × (x ≤ 6)
  unfolding Each
  setting_known = let (low, high) = setting_range x quantifier_formed.0 in (low, omega arith)

  pub body_free : QuantifierFree a
  body_free = put_body in_rule

  -- the part behind it is its body
  pub body_in : {part : Part} → PartOf ts (i + 1) (p + 2) part → BodyIn ts p a part
  body_in {part} made = record { at = at; bodies_are = made.bodies_are }
    where
      at : RuleIn part a
      at = record {
        stands = moved a (drop-drop 1 (i + 1) ts ∙ sym made.entries_are)
            (drop-drop 2 p ts ∙ sym made.bodies_are) (sym made.node_is) (sym made.place_is) body_stands;
        few = record {
          few_nodes = omega (
            arith,
            ap length made.entries_are,
            length-drop (i + 1 + 1) ts,
            made.node_is,
            k.has.few,
            entry_there,
          );
          few_words = omega (
            arith,
            ap length made.bodies_are,
            length-drop (p + 2) ts,
            made.place_is,
            k.has.few,
            body_there,
          );
        };
        formed = body_formed;
      }

  -- ---- its words, read

  word : get_or ts p (pos 0) ≡ get_or (drop p ts) 0 (pos 0)
  word = word_behind ts p 0 p (omega arith)

  pub kinded : Kinded ts p
  kinded = record {
    there = omega (arith, body_there);
    kind = kind_of (Bind q x a);
    numbered = word ∙ root_first (Bind q x a) quantifier_stands;
  }

  pub kind_read : (kind : Kind) → get_or ts p (pos 0) ≡ pos (number_of kind) → kind ≡ bind_kind q
  unfolding kind_of
  kind_read kind e = root_read kind (Bind q x a) quantifier_stands (sym word ∙ e)

  pub setting_read : (s : ℕ) → get_or ts (p + 1) (pos 0) ≡ signed s → s ≡ x
  setting_read s e = number_read s x (sym e ∙ word_behind ts p 1 (p + 1) refl ∙ setting_word q x a quantifier_stands)

-- ---- what the search for it answers

pub found_none : (r : Rule) → LastAt r None → LocatedIn r None
unfolding LastAt LocatedIn
found_none r h = chosen_none r h

-- some quantifier is the chosen one, node i at place p
pub record Somewhere (ts : List ℤ) (r : Rule) (i p : ℕ) : Type 0 where
  pub quantifier : Quantifier
  pub setting : ℕ
  pub body : Rule
  pub there : ChosenIn ts r quantifier setting body i p

pub found_there : {ts : List ℤ} {s : Spot} {r : Rule} → HasTable ts r → LastAt r (Some s)
    → Somewhere ts r s.node s.place
unfolding LastAt
found_there {r = r} has (some, number, place) =
    let (q, x, a, at) = is_chosen r some in
    record {
      quantifier = q;
      setting = x;
      body = a;
      there = record {
        has = has;
        at = at;
        number_is = number;
        place_is = place;
      };
    }

-- the answer, once its words are read and its body is spanned
pub locates : {ts : List ℤ} {r : Rule} {i p : ℕ} (s end : ℕ) {some : Bool} (w : Somewhere ts r i p)
    → some ≡ is_some w.quantifier → get_or ts (p + 1) (pos 0) ≡ signed s → end ≡ weight w.body
    → LocatedIn r (Some (record { node = i; place = p; some = some; setting = s; end = end }))
unfolding LocatedIn
locates s end w first second e =
    let known : w.setting ≡ s = sym (setting_read w.there s second) in
    record {
      quantifier = w.quantifier;
      body = w.body;
      at = w.there.at ∙ ap (λ (x : ℕ). the w.quantifier x w.body) known;
      number_is = w.there.number_is;
      place_is = w.there.place_is;
      quantifier_is = first;
      end_is = e;
    }
