-- Laws of standing: the parts of a rule stand behind its root, the right child behind its entry, and a table's rule
-- behind its count; and all their words are there.
-- Assumes nothing.
use mathlib.Core.Path.{◌≡◌, refl, sym, ◌∙◌, ap, subst}
use mathlib.Core.List.{List, [], ◌∷◌, ◌++◌, append_assoc}
use Prim.Native.Nat.{ℕ, suc, ◌+◌, ◌<◌, ◌≤◌}
use native.Mathlib.Omega.{arith}
use lib.IntN.{ℤ, pos}
use lib.ListN.{length, get_or, drop, length-append, get_or-append}
use lib.Seq.{drop_at, drop-drop, get_or-drop}
use Rattle.rules.specs.Rule.{Junction, and, or, Quantifier, Rule, Constant, Join, Not, Literal, Bind}
use Rattle.rules.specs.Table.{Node, join_node, not_node, bind_node}
use Rattle.rules.specs.Table.{body, width, count, nodes, starts, bodies, encode, size}
use Rattle.rules.proofs.Sizes.{words, weight, total, count_pos, weight_pos, weight_is}
use Rattle.rules.proofs.Sizes.{length_nodes, length_starts, length_body, length_bodies}
use Rattle.tables.specs.Standing.{Nodes, Stands, TableAt}

-- ---- entries and bodies of nodes one after the other

pub width_is : (d : Node) → width d ≡ words d
unfolding width
width_is d = length_body 0 d

pub starts_append : (p : ℕ) (ds fs : List Node) → starts p (ds ++ fs) ≡ starts p ds ++ starts (p + total ds) fs
unfolding starts total
starts_append p [] fs = ap (λ (q : ℕ). starts q fs) (omega arith)
starts_append p (d ∷ ds) fs =
    let on : p + width d + total ds ≡ p + total (d ∷ ds) = omega (arith, width_is d) in
    ap (λ (l : List ℤ). pos p ∷ l)
    (starts_append (p + width d) ds fs ∙ ap (λ (q : ℕ). starts (p + width d) ds ++ starts q fs) on)

pub bodies_append : (n : ℕ) (ds fs : List Node) → bodies n (ds ++ fs) ≡ bodies n ds ++ bodies (n + length ds) fs
unfolding bodies
bodies_append n [] fs = ap (λ (m : ℕ). bodies m fs) (omega arith)
bodies_append n (d ∷ ds) fs =
    ap (λ (l : List ℤ). body n d ++ l)
    (bodies_append (n + 1) ds fs ∙ ap (λ (m : ℕ). bodies (n + 1) ds ++ bodies m fs) (omega arith))
    ∙ sym (append_assoc (body n d) (bodies (n + 1) ds) (bodies (n + suc (length ds)) fs))

-- ---- nodes stand behind those before them

-- the same parts, otherwise said
pub nodes_moved : {es fs bs cs : List ℤ} {n m p q : ℕ} (ds : List Node) → es ≡ fs → bs ≡ cs → n ≡ m → p ≡ q
    → Nodes es bs n p ds → Nodes fs cs m q ds
nodes_moved ds e f g h s = record {
  entries_after = s.entries_after;
  bodies_after = s.bodies_after;
  entries = sym e ∙ s.entries ∙ ap (λ (k : ℕ). starts k ds ++ s.entries_after) h;
  bodies = sym f ∙ s.bodies ∙ ap (λ (k : ℕ). bodies k ds ++ s.bodies_after) g;
}

module _ {es bs : List ℤ} {n p : ℕ} where
  -- the first nodes of a run
  pub first : (ds fs : List Node) → Nodes es bs n p (ds ++ fs) → Nodes es bs n p ds
  first ds fs s = record {
    entries_after = starts (p + total ds) fs ++ s.entries_after;
    bodies_after = bodies (n + length ds) fs ++ s.bodies_after;
    entries = s.entries ∙ ap (λ (l : List ℤ). l ++ s.entries_after) (starts_append p ds fs)
        ∙ append_assoc (starts p ds) (starts (p + total ds) fs) s.entries_after;
    bodies = s.bodies ∙ ap (λ (l : List ℤ). l ++ s.bodies_after) (bodies_append n ds fs)
        ∙ append_assoc (bodies n ds) (bodies (n + length ds) fs) s.bodies_after;
  }

  -- and those that follow them
  pub behind : (ds fs : List Node) → Nodes es bs n p (ds ++ fs)
      → Nodes (drop (length ds) es) (drop (total ds) bs) (n + length ds) (p + total ds) fs
  unfolding first
  behind ds fs s =
      let f = first ds fs s in
      record {
        entries_after = s.entries_after;
        bodies_after = s.bodies_after;
        entries = ap (drop (length ds)) f.entries
            ∙ drop_at (starts p ds) f.entries_after (length ds) (length_starts p ds);
        bodies = ap (drop (total ds)) f.bodies
            ∙ drop_at (bodies n ds) f.bodies_after (total ds) (length_bodies n ds);
      }

  -- the first node
  pub next : (d : Node) (ds : List Node) → Nodes es bs n p (d ∷ ds)
      → Nodes (drop 1 es) (drop (words d) bs) (n + 1) (p + words d) ds
  unfolding total
  next d ds s = subst (λ (k : ℕ). Nodes (drop 1 es) (drop k bs) (n + 1) (p + k) ds) none_more (behind (d ∷ []) ds s)
    where
      none_more : words d + 0 ≡ words d
      none_more = omega arith

  pub entry : (d : Node) (ds : List Node) → Nodes es bs n p (d ∷ ds) → get_or es 0 (pos 0) ≡ pos p
  unfolding starts
  entry d ds s = ap (λ (l : List ℤ). get_or l 0 (pos 0)) s.entries

  pub body_word : (d : Node) (ds : List Node) (k : ℕ) → Nodes es bs n p (d ∷ ds) → k < words d
      → get_or bs k (pos 0) ≡ get_or (body n d) k (pos 0)
  unfolding bodies
  body_word d ds k s h =
      ap (λ (l : List ℤ). get_or l k (pos 0)) (s.bodies ∙ append_assoc (body n d) (bodies (n + 1) ds) s.bodies_after)
      ∙ get_or-append (body n d) (bodies (n + 1) ds ++ s.bodies_after) (pos 0) k (omega (arith, length_body n d))

  pub enough_entries : (ds : List Node) → Nodes es bs n p ds → length ds ≤ length es
  enough_entries ds s =
      let all = ap length s.entries ∙ length-append (starts p ds) s.entries_after in
      omega (arith, all, length_starts p ds)

  pub enough_bodies : (ds : List Node) → Nodes es bs n p ds → total ds ≤ length bs
  enough_bodies ds s =
      let all = ap length s.bodies ∙ length-append (bodies n ds) s.bodies_after in
      omega (arith, all, length_bodies n ds)

-- ---- the parts of a rule

module _ {es bs : List ℤ} {n p : ℕ} where
  pub under_not : (a : Rule) → Stands es bs n p (Not a) → Stands (drop 1 es) (drop 1 bs) (n + 1) (p + 1) a
  unfolding nodes words
  under_not a s = next not_node (nodes a) s

  pub under_bind : (q : Quantifier) (v : ℕ) (a : Rule) → Stands es bs n p (Bind q v a)
      → Stands (drop 1 es) (drop 2 bs) (n + 1) (p + 2) a
  unfolding nodes words
  under_bind q v a s = next (bind_node q v) (nodes a) s

  children : (j : Junction) (a b : Rule) → Stands es bs n p (Join j a b)
      → Nodes (drop 1 es) (drop 2 bs) (n + 1) (p + 2) (nodes a ++ nodes b)
  unfolding nodes words
  children j a b s = next (join_node j (pos (1 + count a))) (nodes a ++ nodes b) s

  pub left : (j : Junction) (a b : Rule) → Stands es bs n p (Join j a b)
      → Stands (drop 1 es) (drop 2 bs) (n + 1) (p + 2) a
  left j a b s = first (nodes a) (nodes b) (children j a b s)

  pub right : (j : Junction) (a b : Rule) → Stands es bs n p (Join j a b)
      → Stands (drop (1 + count a) es) (drop (2 + weight a) bs) (n + (1 + count a)) (p + (2 + weight a)) b
  right j a b s =
      nodes_moved (nodes b)
      (drop-drop (length (nodes a)) 1 es ∙ ap (λ (k : ℕ). drop (1 + k) es) (length_nodes a))
      (drop-drop (total (nodes a)) 2 bs ∙ ap (λ (k : ℕ). drop (2 + k) bs) (weight_is a))
      (omega (arith, length_nodes a))
      (omega (arith, weight_is a))
      (behind (nodes a) (nodes b) (children j a b s))

  -- "the right child is the first node after the left subtree", and its entry is where the left subtree ends
  pub right_child : (j : Junction) (a b : Rule) → Stands es bs n p (Join j a b)
      → get_or bs 1 (pos 0) ≡ pos (n + (1 + count a))
  unfolding nodes words
  right_child j a b s = body_word (join_node j (pos (1 + count a))) (nodes a ++ nodes b) 1 s (omega arith) ∙ second j
    where
      second : (j : Junction) → get_or (body n (join_node j (pos (1 + count a)))) 1 (pos 0) ≡ pos (n + (1 + count a))
      second and = unfold body in refl
      second or = unfold body in refl

  pub right_entry : (j : Junction) (a b : Rule) → Stands es bs n p (Join j a b)
      → get_or es (1 + count a) (pos 0) ≡ pos (p + (2 + weight a))
  right_entry j a b s = from_drop es (1 + count a) ∙ head b (right j a b s)
    where
      from_drop : (l : List ℤ) (k : ℕ) → get_or l k (pos 0) ≡ get_or (drop k l) 0 (pos 0)
      from_drop l k = sym (get_or-drop k l 0 (pos 0) ∙ ap (λ (m : ℕ). get_or l m (pos 0)) (omega arith))

      head : {es bs : List ℤ} {n p : ℕ} (b : Rule) → Stands es bs n p b → get_or es 0 (pos 0) ≡ pos p
      head (Constant c) s = unfold nodes in entry _ _ s
      head (Join k a b) s = unfold nodes in entry _ _ s
      head (Not a) s = unfold nodes in entry _ _ s
      head (Literal t u) s = unfold nodes in entry _ _ s
      head (Bind q v a) s = unfold nodes in entry _ _ s

  pub inside_entries : (r : Rule) → Stands es bs n p r → count r ≤ length es
  inside_entries r s = omega (arith, enough_entries (nodes r) s, length_nodes r)

  pub inside_bodies : (r : Rule) → Stands es bs n p r → weight r ≤ length bs
  inside_bodies r s = omega (arith, enough_bodies (nodes r) s, weight_is r)

  -- ---- what is there

  -- the root's entry and its kind
  pub root_there : (a : Rule) → Stands es bs n p a → (1 ≤ length es) × (1 ≤ length bs)
  root_there a s = (omega (arith, inside_entries a s, count_pos a), omega (arith, inside_bodies a s, weight_pos a))

  -- the two words of a join and of a quantifier
  pub bind_there : (q : Quantifier) (v : ℕ) (a : Rule) → Stands es bs n p (Bind q v a) → 2 ≤ length bs
  unfolding weight
  bind_there q v a s = omega (arith, inside_bodies (Bind q v a) s)

  pub join_there : (j : Junction) (a b : Rule) → Stands es bs n p (Join j a b) → 2 ≤ length bs
  unfolding weight
  join_there j a b s = omega (arith, inside_bodies (Join j a b) s)

  -- the right side's entry, and the words before it
  pub right_there : (j : Junction) (a b : Rule) → Stands es bs n p (Join j a b)
      → (1 + count a < length es) × (2 + weight a ≤ length bs)
  unfolding count weight
  right_there j a b s =
      (omega (arith, inside_entries (Join j a b) s, count_pos b), omega (arith, inside_bodies (Join j a b) s))

-- ---- a table at the start of some words, which others may follow

module _ {ts : List ℤ} {r : Rule} (t : TableAt ts r) where
  pub count_there : get_or ts 0 (pos 0) ≡ pos (count r)
  unfolding encode
  count_there = ap (λ (l : List ℤ). get_or l 0 (pos 0)) t.begins ∙ ap pos (length_nodes r)

  pub size_there : size r ≤ length ts
  unfolding size
  size_there = omega (arith, ap length t.begins, length-append (encode r) t.after)

  pub bodies_there : drop (count r + 1) ts ≡ bodies 0 (nodes r) ++ t.after
  unfolding encode
  bodies_there =
      ap (drop (count r + 1)) (t.begins ∙ append_assoc contents (bodies 0 (nodes r)) t.after)
      ∙ drop_at contents (bodies 0 (nodes r) ++ t.after) (count r + 1) contents_long
    where
      contents : List ℤ
      contents = pos (length (nodes r)) ∷ starts (length (nodes r) + 1) (nodes r)

      contents_long : length contents ≡ count r + 1
      contents_long = omega (arith, length_starts (length (nodes r) + 1) (nodes r), length_nodes r)

  -- its rule stands behind its count
  pub stands_there : Stands (drop 1 ts) (drop (count r + 1) ts) 0 (count r + 1) r
  unfolding encode
  stands_there = record {
    entries_after = bodies 0 (nodes r) ++ t.after;
    bodies_after = t.after;
    entries = ap (drop 1) t.begins
        ∙ append_assoc (starts (length (nodes r) + 1) (nodes r)) (bodies 0 (nodes r)) t.after
        ∙ ap (λ (k : ℕ). starts (k + 1) (nodes r) ++ (bodies 0 (nodes r) ++ t.after)) (length_nodes r);
    bodies = bodies_there;
  }
