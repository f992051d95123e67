-- A table that is read is the table of the rule that is read, and that rule is well formed.
-- Assumes nothing.
use mathlib.Core.Path.{◌≡◌, refl, sym, ap, ap₂, ◌∙◌, subst}
use mathlib.Core.Bool.{Bool, true, false, ◌&&◌}
use mathlib.Core.List.{List, [], ◌∷◌, ◌++◌, append_assoc, append-nil}
use Prim.Native.Nat.{ℕ, zero, suc, ◌+◌, ◌≤◌}
use native.Mathlib.Omega.{arith}
use lib.Dec.{T, leb, leb→le}
use lib.IntN.{ℤ, pos, negsuc, ◌+ℤ◌, ◌-ℤ◌}
use lib.ListN.{length, get_or}
use Rattle.whole.specs.Integers.{eq_ℤ}
use Rattle.whole.proofs.Tests.{T_and, eq_ℤ→eq}
use Rattle.whole.proofs.Difference.{z2, zz}
use Rattle.rules.specs.Sum.{Sum, limit, all_within}
use Rattle.rules.specs.Rule.{Junction, and, or, Quantifier, for_some, for_all, Test, positive, divisible, is_zero}
use Rattle.rules.specs.Rule.{Rule}
use Rattle.rules.specs.Result.{refused, given}
use Rattle.rules.specs.Table.{Node, constant_node, join_node, not_node, literal_node, bind_node}
use Rattle.rules.specs.Table.{most_words, body, width, count, nodes, bodies, starts}
use Rattle.rules.specs.Table.{table, encode, size, is_setting, is_divisor}
use Rattle.rules.specs.Decode.{Field, cut, checked, sum_field, right_child, sum_of, divisor_and_sum}
use Rattle.rules.specs.Decode.{setting_of, kinds, node, read, before, trees, only_tree, decode}
use Rattle.rules.specs.Laws.{DivisorOf, WellFormed, EncodeDecode}
use Rattle.rules.proofs.Refusals.{parts, required, never, given_inj}
use Rattle.rules.proofs.Sizes.{length_starts}
use Rattle.rules.proofs.Encoding.{Good, AllGood, good_nodes, node_read}

-- ---- fields

-- the words ws are m words and those after them
abbrev Cut : ℕ → List ℤ → List ℤ × List ℤ → Type 0
Cut m ws p = (ws ≡ p.0 ++ p.1) × (length p.0 ≡ m)

cut_forth : (n m : ℕ) (ws : List ℤ) (p : List ℤ × List ℤ) → cut n m ws ≡ given p → Cut m ws p
unfolding cut
cut_forth n zero ws p e = subst (Cut 0 ws) (given_inj e) (refl, refl)
cut_forth n (suc m) [] p e = never e
cut_forth n (suc m) (w ∷ ws) p e =
    let c = parts (cut n m ws) _ e in
    let k = cut_forth n m ws c.0 c.1 in
    subst (Cut (suc m) (w ∷ ws)) (given_inj c.2) (ap (λ (l : List ℤ). w ∷ l) k.0, ap suc k.1)

-- the words ws are a number that passes the test and the words after it
abbrev pub Checked : (ℤ → Bool) → List ℤ → ℕ × List ℤ → Type 0
Checked test ws p = (ws ≡ pos p.0 ∷ p.1) × T (test (pos p.0))

pub checked_forth : (test : ℤ → Bool) → ((n : ℕ) → ¬ T (test (negsuc n)))
    → (ws : List ℤ) (p : ℕ × List ℤ) → checked test ws ≡ given p → Checked test ws p
unfolding checked
checked_forth test h [] p e = never e
checked_forth test h (pos n ∷ ws) p e =
    let t = required (test (pos n)) 3 _ e in
    subst (Checked test (pos n ∷ ws)) (given_inj t.1) (refl, t.0)
checked_forth test h (negsuc n ∷ ws) p e = absurd (h n (required (test (negsuc n)) 3 _ e).0)

-- ---- nodes: words that are read begin with the body of a good node, and so the node that is read is that one

Begins : ℕ → List ℤ → Type 0
Begins i ws = (d : Node) × (vs : List ℤ) × (ws ≡ body i d ++ vs) × Good d

-- so it is for node i where g reads what follows kind k
Found : ℕ → ℕ → Field Node → Type 0
unfolding Begins
Found i k g = (ws : List ℤ) (p : Node × List ℤ) → g ws ≡ given p → Begins i (pos k ∷ ws)

right_found : (i k : ℕ) (j : Junction) → ((z : ℤ) → pos k ∷ (pos i +ℤ z) ∷ [] ≡ body i (join_node j z))
    → Found i k (right_child i j)
unfolding Found right_child Good
right_found i k j b [] p e = never e
right_found i k j b (w ∷ ws) p e =
    let z : ℤ = w -ℤ pos i in
    (join_node j z, ws, ap (λ x. pos k ∷ x ∷ ws) (behind (pos i) w) ∙ ap (λ (l : List ℤ). l ++ ws) (b z), tt)
  where
    behind : (x y : ℤ) → y ≡ x +ℤ (y -ℤ x)
    behind = z2 _ (simp zz (omega arith))

sum_found : (i : ℕ) (us : List ℤ) (t : Test) → ((s : Sum) → us ++ s ≡ body i (literal_node t s))
    → DivisorOf (λ k. T (is_divisor (pos k))) t
    → (ws : List ℤ) (p : Node × List ℤ) → sum_of t ws ≡ given p → Begins i (us ++ ws)
unfolding Begins sum_of Good
sum_found i us t b d ws p e =
    let c = parts (cut 3 7 ws) _ (parts (sum_field ws) _ e).1 in
    let (s, vs) = c.0 in
    let k = cut_forth 3 7 ws c.0 c.1 in (
      literal_node t s,
      vs,
      ap (λ (l : List ℤ). us ++ l) k.0 ∙ sym (append_assoc us s vs) ∙ ap (λ (l : List ℤ). l ++ vs) (b s),
      (k.1, (required (all_within limit s) 3 _ c.2).0, d),
    )

divisor_found : (i k : ℕ) (b : Bool) → ((n : ℕ) (s : Sum) → pos k ∷ pos n ∷ s ≡ body i (literal_node (divisible b n) s))
    → Found i k (divisor_and_sum b)
unfolding Found divisor_and_sum
divisor_found i k b w ws p e =
    let c = parts (checked is_divisor ws) _ e in
    let (n, vs) = c.0 in
    let f = checked_forth is_divisor (λ n t. t) ws c.0 c.1 in
    let found = sum_found i (pos k ∷ pos n ∷ []) (divisible b n) (w n) f.1 vs p c.2 in
    subst (λ (l : List ℤ). Begins i (pos k ∷ l)) (sym f.0) found

setting_found : (i k : ℕ) (q : Quantifier) → ((v : ℕ) → pos k ∷ pos v ∷ [] ≡ body i (bind_node q v))
    → Found i k (setting_of q)
unfolding Found setting_of Good
setting_found i k q b ws p e =
    let c = parts (checked is_setting ws) _ e in
    let (v, vs) = c.0 in
    let f = checked_forth is_setting (λ n t. t) ws c.0 c.1 in
    (bind_node q v, vs, ap (λ (l : List ℤ). pos k ∷ l) f.0 ∙ ap (λ (l : List ℤ). l ++ vs) (b v), f.1)

-- what holds of each reader of a list and its place holds of the one looked up
Every : (ℕ → Field Node → Type 0) → List (Field Node) → Type 0
Every P [] = Unit {0}
Every P (g ∷ l) = P 0 g × Every (λ k. P (suc k)) l

looked_up : (P : ℕ → Field Node → Type 0) (l : List (Field Node)) (d : Field Node) → Every P l → ((k : ℕ) → P k d)
    → (k : ℕ) → P k (get_or l k d)
unfolding Every
looked_up P [] d h o k = o k
looked_up P (g ∷ l) d h o zero = h.0
looked_up P (g ∷ l) d h o (suc k) = looked_up (λ k. P (suc k)) l d h.1 (λ k. o (suc k)) k

infixr 5 ◌also◌
◌also◌ : {A B : Type 0} → A → B → A × B
a also b = (a, b)

kinds_found : (i : ℕ) → Every (Found i) (kinds i)
unfolding Every Found kinds body Good
kinds_found i =
    (λ ws p e. (constant_node false, ws, refl, tt)) also
    (λ ws p e. (constant_node true, ws, refl, tt)) also
    right_found i 2 and (λ z. refl) also
    right_found i 3 or (λ z. refl) also
    (λ ws p e. (not_node, ws, refl, tt)) also
    sum_found i (pos 5 ∷ []) positive (λ s. refl) tt also
    divisor_found i 6 true (λ n s. refl) also
    divisor_found i 7 false (λ n s. refl) also
    setting_found i 8 for_some (λ v. refl) also
    setting_found i 9 for_all (λ v. refl) also
    sum_found i (pos 10 ∷ []) is_zero (λ s. refl) tt also
    tt

-- the words ws are the body of node i, which is good, and the words after it
abbrev pub Taken : ℕ → List ℤ → Node × List ℤ → Type 0
Taken i ws p = (ws ≡ body i p.0 ++ p.1) × Good p.0

pub node_forth : (i : ℕ) (ws : List ℤ) (p : Node × List ℤ) → node i ws ≡ given p → Taken i ws p
unfolding Begins
node_forth i ws p e =
    let (d, vs, w, g) = begins ws e in
    let same : Path (Node × List ℤ) (d, vs) p = given_inj (sym (ap (node i) w ∙ node_read i d vs g) ∙ e) in
    subst (Taken i ws) same (w, g)
  where
    begins : (ws : List ℤ) → node i ws ≡ given p → Begins i ws
    begins [] e = unfold node in never e
    begins (pos k ∷ ws) e = unfold Found node in
        looked_up (Found i) (kinds i) (λ vs. refused 3) (kinds_found i) (λ k ws p e. never e) k ws p e
    begins (negsuc k ∷ ws) e = unfold node in never e

-- the entries and the words are those of the nodes ds from node i on, the first body at place p
unfoldable pub Written : ℕ → ℕ → List ℤ → List ℤ → List Node → Type 0
Written i p es ws ds = (es ≡ starts p ds) × (ws ≡ bodies i ds) × AllGood ds

pub read_forth : (i : ℕ) (es : List ℤ) (p : ℕ) (ws : List ℤ) (ds : List Node) → read i es p ws ≡ given ds
    → Written i p es ws ds
unfolding read Written starts bodies AllGood
read_forth i [] p [] ds e = subst (Written i p [] []) (given_inj e) (refl, refl, tt)
read_forth i [] p (w ∷ ws) ds e = never e
read_forth i (x ∷ es) p ws ds e =
    let t = required (eq_ℤ x (pos p)) 2 _ e in
    let n = parts (node i ws) _ t.1 in
    let (d, vs) = n.0 in
    let r = parts (read (i + 1) es (p + width d) vs) _ n.2 in
    let b = node_forth i ws n.0 n.1 in
    let k = read_forth (i + 1) es (p + width d) vs r.0 r.1 in
    let first : x ≡ pos p = eq_ℤ→eq x (pos p) t.0 in
    let entries : x ∷ es ≡ starts p (d ∷ r.0) = ap₂ (λ z (l : List ℤ). z ∷ l) first k.0 in
    let words : ws ≡ bodies i (d ∷ r.0) = b.0 ∙ ap (λ (l : List ℤ). body i d ++ l) k.1 in
    subst (Written i p (x ∷ es) ws) (given_inj r.2) (entries, words, (b.1, k.2))

-- ---- the tree

-- the nodes of rules, one after the other
unfoldable pub nodes_of : List Rule → List Node
unfolding nodes
nodes_of [] = []
nodes_of (r ∷ f) = nodes r ++ nodes_of f

before_forth : (d : Node) (f g : List Rule) → before d f ≡ given g → d ∷ nodes_of f ≡ nodes_of g
unfolding before nodes_of
before_forth (constant_node b) f g e = ap nodes_of (given_inj e)
before_forth (join_node j right) [] g e = never e
before_forth (join_node j right) (a ∷ []) g e = never e
before_forth (join_node j right) (a ∷ b ∷ f) g e =
    let n : ℤ = pos (1 + count a) in
    let t = required (eq_ℤ right n) 4 _ e in
    ap (λ z. join_node j z ∷ nodes a ++ (nodes b ++ nodes_of f)) (eq_ℤ→eq right n t.0)
    ∙ ap (λ (l : List Node). join_node j n ∷ l) (sym (append_assoc (nodes a) (nodes b) (nodes_of f)))
    ∙ ap nodes_of (given_inj t.1)
before_forth not_node [] g e = never e
before_forth not_node (a ∷ f) g e = ap nodes_of (given_inj e)
before_forth (literal_node t s) f g e = ap nodes_of (given_inj e)
before_forth (bind_node q v) [] g e = never e
before_forth (bind_node q v) (a ∷ f) g e = ap nodes_of (given_inj e)

pub trees_forth : (ds : List Node) (f : List Rule) → trees ds ≡ given f → ds ≡ nodes_of f
unfolding trees nodes_of
trees_forth [] f e = ap nodes_of (given_inj e)
trees_forth (d ∷ ds) f e =
    let t = parts (trees ds) (before d) e in
    ap (λ (l : List Node). d ∷ l) (trees_forth ds t.0 t.1) ∙ before_forth d t.0 f t.2

pub only_forth : (f : List Rule) (r : Rule) → only_tree f ≡ given r → nodes_of f ≡ nodes r
unfolding only_tree nodes_of
only_forth [] r e = never e
only_forth (a ∷ []) r e = append-nil (nodes a) ∙ ap nodes (given_inj e)
only_forth (a ∷ b ∷ f) r e = never e

-- ---- the table

table_forth : (n : ℕ) (ws es bs : List ℤ) (ds : List Node) → Cut n ws (es, bs) → Written 0 (n + 1) es bs ds
    → pos n ∷ ws ≡ table ds
unfolding Written table
table_forth n ws es bs ds c w =
    let as_many : n ≡ length ds = sym c.1 ∙ ap length w.0 ∙ length_starts (n + 1) ds in
    cc

pub decode_forth : (ws : List ℤ) (r : Rule) → decode ws ≡ given r
    → (ws ≡ encode r) × WellFormed r × (size r ≤ most_words)
unfolding decode size Written
decode_forth [] r e = never e
decode_forth (negsuc n ∷ ws) r e = never e
decode_forth (pos n ∷ ws) r e =
    let small : Bool = leb (suc (length ws)) most_words in
    let some : Bool = leb 1 n in
    let t = required (small && some) 1 _ e in
    let c = parts (cut 1 n ws) _ t.1 in
    let (es, bs) = c.0 in
    let d = parts (read 0 es (n + 1) bs) _ c.2 in
    let ds : List Node = d.0 in
    let f = parts (trees ds) _ d.2 in
    let w : Written 0 (n + 1) es bs ds = read_forth 0 es (n + 1) bs ds d.1 in
    let same : ds ≡ nodes r = trees_forth ds f.0 f.1 ∙ only_forth f.0 r f.2 in
    let whole : pos n ∷ ws ≡ encode r = table_forth n ws es bs ds (cut_forth 1 n ws c.0 c.1) w ∙ ap table same in
    let good : AllGood (nodes r ++ []) = subst AllGood (same ∙ sym (append-nil (nodes r))) w.2 in
    let fits : suc (length ws) ≤ most_words = leb→le _ most_words ((T_and small some).0 t.0).0 in
    (whole, ((good_nodes r []).0 good).0, subst (λ (l : List ℤ). length l ≤ most_words) whole fits)

pub encode_decode : EncodeDecode
encode_decode ws r e = let k = decode_forth ws r e in (k.0, k.1)
