-- The steps from literal to literal, in words: what the first of the nodes that remain says; and a rule's literals.
-- Assumes nothing.
use mathlib.Core.Path.{◌≡◌, refl, sym, ◌∙◌, ap, subst}
use mathlib.Core.List.{List, [], ◌∷◌, ◌++◌, append_assoc, append-nil}
use Prim.Native.Nat.{ℕ, ◌+◌, ◌<◌, ◌≤◌}
use native.Mathlib.Omega.{arith}
use lib.IntN.{ℤ, pos}
use lib.ListN.{length, get_or, drop}
use Rattle.rules.specs.Sum.{Sum}
use Rattle.rules.specs.Rule.{Test, positive, divisible, is_zero, Rule, Constant, Join, Not, Literal, Bind}
use Rattle.rules.specs.Table.{Node, constant_node, join_node, not_node, literal_node, bind_node, body, nodes}
use Rattle.rules.specs.Table.{bodies, most_words}
use Rattle.rules.specs.Literals.{gather}
use Rattle.rules.specs.Calls.{signed}
use Rattle.rules.specs.Calls.{words as words_of}
use Rattle.rules.proofs.Sizes.{words, total, before_sum, words_pos, weight_is}
use Rattle.rules.proofs.Encoding.{Good, AllGood, good_nodes}
use Rattle.tables.specs.Reads.{widths}
use Rattle.bodies.specs.Body.{BodyOf}
use Rattle.bodies.specs.declared.cursor.Literals.{Literals}
use Rattle.bodies.specs.Cursor.{literals_of, literals_in, across, Remaining, LiteralAt, Left, SomeLeft, Came}
use Rattle.bodies.proofs.NodeLaws.{node_inside, node_behind, node_wide}

-- ---- which nodes are literals

-- a literal alone has more than seven words
wide_literal : (d : Node) → 7 < words d → (t : Test) × (s : Sum) × (d ≡ literal_node t s)
unfolding words
wide_literal (constant_node b) h = absurd (omega arith)
wide_literal (join_node j right) h = absurd (omega arith)
wide_literal not_node h = absurd (omega arith)
wide_literal (literal_node t s) h = (t, s, refl)
wide_literal (bind_node q v) h = absurd (omega arith)

narrow_none : (d : Node) (ds : List Node) → Good d → words d ≤ 7 → literals_in (d ∷ ds) ≡ literals_in ds
unfolding words literals_in Good before_sum
narrow_none (constant_node b) ds g h = refl
narrow_none (join_node j right) ds g h = refl
narrow_none not_node ds g h = refl
narrow_none (literal_node positive s) ds g h = absurd (omega (arith, g.0))
narrow_none (literal_node (divisible b k) s) ds g h = absurd (omega (arith, g.0))
narrow_none (literal_node is_zero s) ds g h = absurd (omega (arith, g.0))
narrow_none (bind_node q v) ds g h = refl

-- ---- the first of the nodes that remain

record Front (bs : List ℤ) (p end : ℕ) (ls : List (Test × Sum)) : Type 0 where
  number : ℕ
  node : Node
  others : List Node
  after : List ℤ
  begins : drop p bs ≡ body number node ++ after
  good : Good node
  behind : Remaining bs (p + words node) end (literals_in others)
  literals : ls ≡ literals_in (node ∷ others)

front : (bs : List ℤ) (p end : ℕ) (ls : List (Test × Sum)) → Remaining bs p end ls → p < end → Front bs p end ls
front bs p end ls r more = go r.nodes r.begins r.ends r.good r.literals
  where
    go : (ds : List Node) → drop p bs ≡ bodies r.number ds ++ r.after → end ≡ p + total ds → AllGood ds
        → ls ≡ literals_in ds → Front bs p end ls
    go [] b e g l = absurd (unfold total in omega arith)
    go (d ∷ ds) b e g l = unfold bodies total AllGood in
        let n : ℕ = r.number in
        let rest : List ℤ = bodies (n + 1) ds ++ r.after in
        let begins = b ∙ append_assoc (body n d) (bodies (n + 1) ds) r.after in
        record {
          number = n;
          node = d;
          others = ds;
          after = rest;
          begins = begins;
          good = g.0;
          behind = record {
            number = n + 1;
            nodes = ds;
            after = r.after;
            begins = node_behind bs p n d rest begins;
            ends = omega arith;
            good = g.1;
            literals = refl;
          };
          literals = l;
        }

module _ {bs : List ℤ} {p end : ℕ} {ls : List (Test × Sum)} (f : Front bs p end ls) where
  front_inside : p + words f.node ≤ length bs
  front_inside = node_inside bs p f.number f.node f.after f.begins

  front_wide : (k w : ℕ) → get_or bs p (pos 0) ≡ signed k → w ≡ get_or widths k 0 → w ≡ words f.node
  front_wide k w first wide = wide ∙ node_wide bs p f.number f.node f.after f.begins k first f.good

-- ---- behind a literal

module _ {bs : List ℤ} {p end : ℕ} {t : Test} {s : Sum} {ls : List (Test × Sum)} (l : LiteralAt bs p end t s ls) where
  -- its words are there, and stand before the end
  pub literal_inside : p + (before_sum t + 7) ≤ length bs
  unfolding words
  literal_inside =
      let inside = node_inside bs p l.node (literal_node t s) l.stands.after l.stands.begins in
      omega (arith, inside, l.formed.0)

  pub literal_eight : p + 8 ≤ length bs
  literal_eight = by t literal_inside
    where
      by : (t : Test) → p + (before_sum t + 7) ≤ length bs → p + 8 ≤ length bs
      by positive h = unfold before_sum in omega (arith, h)
      by (divisible b k) h = unfold before_sum in omega (arith, h)
      by is_zero h = unfold before_sum in omega (arith, h)

  pub literal_ends : p + (before_sum t + 7) ≤ end
  literal_ends = omega (arith, l.behind.ends, l.formed.0)

  module _ (k w : ℕ) (first : get_or bs p (pos 0) ≡ signed k) (wide : w ≡ get_or widths k 0) where
    pub literal_wide : w ≡ before_sum t + 7
    unfolding words Good
    literal_wide =
        let st = l.stands in
        let same = node_wide bs p l.node (literal_node t s) st.after st.begins k first l.formed in
        omega (arith, wide, same, l.formed.0)

    pub literal_behind : Remaining bs (p + w) end ls
    literal_behind =
        subst (λ (m : ℕ). Remaining bs m end ls)
        (let e : p + (before_sum t + length s) ≡ p + w = omega (arith, literal_wide, l.formed.0) in e) l.behind

-- ---- the iterator

-- what is left of some words, said of its own
pub own : {bs : List ℤ} {end : ℕ} {it : Literals} {ls : List (Test × Sum)} → Left bs end it ls → length bs ≤ most_words
    → SomeLeft it
own {bs} {end} {it} {ls} l few = record {
  literals = ls;
  left = record {
    here = refl;
    ends = refl;
    remaining = subst (λ (e : ℕ). Remaining (words_of it.bodies.now) it.place e ls) (sym l.ends)
        (subst (λ (ws : List ℤ). Remaining ws it.place end ls) (sym l.here) l.remaining);
  };
  few = omega (arith, ap length l.here, few);
}

module _ {bs : List ℤ} {end : ℕ} {it : Literals} {ls : List (Test × Sum)} (l : Left bs end it ls) where
  -- at the end no literal is left
  pub none_left : it.end ≤ it.place → ls ≡ []
  none_left over = l.remaining.literals ∙ go l.remaining.nodes l.remaining.ends
    where
      go : (ds : List Node) → end ≡ it.place + total ds → literals_in ds ≡ []
      go [] e = unfold literals_in in refl
      go (d ∷ ds) e = absurd (unfold total in omega (arith, words_pos d, l.ends))

  module _ (more : it.place < it.end) where
    here : Front bs it.place end ls
    here = front bs it.place end ls l.remaining (omega (arith, l.ends))

    pub node_there : it.place < length bs
    node_there = omega (arith, front_inside here, words_pos here.node)

    -- the node at its place is read: its kind k, and the w words of its body
    module _ (k w : ℕ) (read : get_or (words_of it.bodies.now) it.place (pos 0) ≡ signed k)
        (wide : w ≡ get_or widths k 0) where
      first : get_or bs it.place (pos 0) ≡ signed k
      first = subst (λ (ws : List ℤ). get_or ws it.place (pos 0) ≡ signed k) l.here read

      same_width : w ≡ words here.node
      same_width = front_wide here k w first wide

      pub some_words : (1 ≤ w) × (it.place + w ≤ length bs)
      some_words = (omega (arith, same_width, words_pos here.node), omega (arith, same_width, front_inside here))

      abbrev past : Literals
      past = record { bodies = it.bodies; place = it.place + w; end = it.end }

      -- a node that is no literal is passed
      pub left_behind : w ≤ 7 → Left bs end past ls
      left_behind narrow = record {
        here = l.here;
        ends = l.ends;
        remaining = subst (Remaining bs (it.place + w) end)
            (sym (here.literals ∙ narrow_none here.node here.others here.good (omega (arith, same_width, narrow))))
            (subst (λ (m : ℕ). Remaining bs (it.place + m) end (literals_in here.others)) (sym same_width) here.behind);
      }

      -- a literal comes
      pub literal_comes : 7 < w → Came bs end it.place past ls
      unfolding literals_in Good words
      literal_comes h =
          let (t, s, i) = wide_literal here.node (subst (λ (m : ℕ). 7 < m) same_width h) in
          let at : LiteralAt bs it.place end t s (literals_in here.others) = record {
            node = here.number;
            stands = record {
              after = here.after;
              begins = here.begins ∙ ap (λ (d : Node). body here.number d ++ here.after) i;
            };
            formed = subst Good i here.good;
            behind = subst (λ (d : Node). Remaining bs (it.place + words d) end (literals_in here.others)) i
                here.behind;
          } in
          record {
            test = t;
            sum = s;
            others = literals_in here.others;
            first = here.literals ∙ ap (λ (d : Node). literals_in (d ∷ here.others)) i;
            at = at;
            left = record { here = l.here; ends = l.ends; remaining = literal_behind at k w first wide };
          }

-- ---- the literals of a rule

literals_nodes : (a : Rule) (ds : List Node) → literals_in (nodes a ++ ds) ≡ literals_of a ++ literals_in ds
unfolding literals_in literals_of nodes
literals_nodes (Constant b) ds = refl
literals_nodes (Join j a b) ds =
    ap literals_in (append_assoc (nodes a) (nodes b) ds)
    ∙ literals_nodes a (nodes b ++ ds)
    ∙ ap (λ (ls : List (Test × Sum)). literals_of a ++ ls) (literals_nodes b ds)
    ∙ sym (append_assoc (literals_of a) (literals_of b) (literals_in ds))
literals_nodes (Not a) ds = literals_nodes a ds
literals_nodes (Literal t s) ds = refl
literals_nodes (Bind q v a) ds = literals_nodes a ds

-- at the start of its bodies all of them remain
pub all_remain : {bs : List ℤ} {end n : ℕ} (a : Rule) → BodyOf bs end n a → Remaining bs 0 end (literals_of a)
unfolding literals_in
all_remain {bs} {end} {n} a b = record {
  number = n;
  nodes = nodes a;
  after = b.bodied.after;
  begins = b.bodied.begins;
  ends = omega (arith, b.ends, weight_is a);
  good = subst AllGood (append-nil (nodes a)) ((good_nodes a []).1 (b.formed, unfold AllGood in tt));
  literals =
      sym (append-nil (literals_of a)) ∙ sym (literals_nodes a []) ∙ ap literals_in (append-nil (nodes a));
}

module _ {A : Type 0} (f : Test → Sum → List A) where
  pub across_append : (ks ls : List (Test × Sum)) → across f (ks ++ ls) ≡ across f ks ++ across f ls
  unfolding across
  across_append [] ls = refl
  across_append (k ∷ ks) ls =
      ap (λ (l : List A). f k.0 k.1 ++ l) (across_append ks ls)
      ∙ sym (append_assoc (f k.0 k.1) (across f ks) (across f ls))

  -- what a rule's literals give is what they give one after the other
  pub gather_across : (a : Rule) → gather f a ≡ across f (literals_of a)
  unfolding gather literals_of across
  gather_across (Constant b) = refl
  gather_across (Join j a b) =
      ap (λ (l : List A). l ++ gather f b) (gather_across a)
      ∙ ap (λ (l : List A). across f (literals_of a) ++ l) (gather_across b)
      ∙ sym (across_append (literals_of a) (literals_of b))
  gather_across (Not a) = gather_across a
  gather_across (Literal t s) = sym (append-nil (f t s))
  gather_across (Bind q v a) = gather_across a
