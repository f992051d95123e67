-- Words and their bytes: a table's words are read back from its bytes, and so a rule is.
-- Assumes nothing.
use mathlib.Core.Path.{◌≡◌, refl, sym, ap, ap₂, ◌∙◌, subst}
use mathlib.Core.Bool.{true, false}
use mathlib.Core.List.{List, [], ◌∷◌, ◌++◌, append_assoc, append-nil}
use Prim.Native.Nat.{ℕ, suc, ◌+◌, ◌*◌, ◌-◌, ◌/◌, ◌%◌, ◌≤◌}
use native.Mathlib.Omega.{arith}
use lib.Dec.{T, eqb, ltb, leb→le, le→leb, ltb→lt, nltb→le}
use lib.IntN.{ℤ, pos, negsuc, ◌+ℤ◌}
use lib.ListN.{length}
use Rattle.whole.specs.Integers.{within}
use Rattle.whole.proofs.Tests.{T_and, cond_ind}
use Rattle.rules.specs.Sum.{limit, all_within}
use Rattle.rules.specs.Rule.{and, or, for_some, for_all, positive, divisible, is_zero}
use Rattle.rules.specs.Rule.{Rule, Constant, Join, Not, Literal, Bind}
use Rattle.rules.specs.Result.{given}
use Rattle.rules.specs.Table.{Node, constant_node, join_node, not_node, literal_node, bind_node}
use Rattle.rules.specs.Table.{most_words, body, width, count, nodes, bodies}
use Rattle.rules.specs.Table.{starts, encode, size, is_setting, is_divisor}
use Rattle.rules.specs.Decode.{decode}
use Rattle.rules.specs.Calls.{signed, bits, words, bytes_of, rule_of}
use Rattle.rules.specs.Laws.{Each, WellFormed}
use Rattle.rules.proofs.Refusals.{then, passed, required}
use Rattle.rules.proofs.Sizes.{total, words as words_in, weight, length_body, length_nodes, weight_is, size_is}
use Rattle.rules.proofs.Encoding.{setting_range, divisor_range, Good, decode_encode}
use Rattle.rules.proofs.Decoding.{decode_forth}

-- ---- words

signed_bits : (z : ℤ) → T (within limit z) → signed (bits z) ≡ z
signed_bits (pos n) t =
    let h : n ≤ limit = leb→le n limit t in
    cond_ind (ltb n 2147483648) (pos n) _ (λ z. z ≡ pos n) (λ u. refl)
    (λ u. absurd (omega (arith, nltb→le n 2147483648 u)))
signed_bits (negsuc n) t =
    let h : suc n ≤ limit = leb→le (suc n) limit t in
    let m : ℕ = 4294967295 - n in
    cond_ind (ltb m 2147483648) (pos m) (negsuc (4294967295 - m)) (λ z. z ≡ negsuc n)
    (λ u. absurd (omega (arith, ltb→lt m 2147483648 u))) (λ u. ap negsuc (omega arith))

bits_small : (z : ℤ) → T (within limit z) → bits z ≤ 4294967295
bits_small (pos n) t = omega (arith, leb→le n limit t)
bits_small (negsuc n) t = omega arith

four_bytes : (n : ℕ) → n ≤ 4294967295
    → n % 256 + 256 * (n / 256 % 256 + 256 * (n / 65536 % 256 + 256 * (n / 16777216 % 256))) ≡ n
four_bytes n h =
    let second : n / 65536 ≡ n / 256 / 256 = omega arith in
    let third : n / 16777216 ≡ n / 65536 / 256 = omega arith in
    let top : n / 16777216 % 256 ≡ n / 16777216 = omega arith in
    omega arith

pub bytes_back : (ws : List ℤ) → T (all_within limit ws) → words (bytes_of ws) ≡ ws
unfolding words bytes_of all_within
bytes_back [] t = refl
bytes_back (w ∷ ws) t =
    let h = (T_and (within limit w) (all_within limit ws)).0 t in
    let word = ap signed (four_bytes (bits w) (bits_small w h.0)) ∙ signed_bits w h.0 in
    ap₂ ◌∷◌ word (bytes_back ws h.1)

pub length_bytes : (ws : List ℤ) → length (bytes_of ws) ≡ 4 * length ws
unfolding bytes_of
length_bytes [] = refl
length_bytes (w ∷ ws) = omega (arith, length_bytes ws)

-- ---- every word of a table lies within the limit

abbrev Within : List ℤ → Type 0
Within ws = T (all_within limit ws)

within_cons : (z : ℤ) (ws : List ℤ) → T (within limit z) → Within ws → Within (z ∷ ws)
unfolding all_within
within_cons z ws s t = (T_and (within limit z) (all_within limit ws)).1 (s, t)

within_append : (us ws : List ℤ) → Within us → Within ws → Within (us ++ ws)
unfolding all_within
within_append [] ws s t = t
within_append (u ∷ us) ws s t =
    let h = (T_and (within limit u) (all_within limit us)).0 s in
    within_cons u (us ++ ws) h.0 (within_append us ws h.1 t)

starts_within : (p : ℕ) (ds : List Node) → p + total ds ≤ limit → Within (starts p ds)
unfolding starts total all_within
starts_within p [] h = tt
starts_within p (d ∷ ds) h =
    let next : ℕ = p + width d in
    let same : width d ≡ words_in d = unfold width in length_body 0 d in
    within_cons (pos p) (starts next ds) (le→leb p limit (omega arith)) (starts_within next ds (omega arith))

-- the right child of node i has a number within the limit
Near : ℕ → Node → Type 0
Near i (constant_node b) = Unit {0}
Near i (join_node j right) = T (within limit (pos i +ℤ right))
Near i not_node = Unit {0}
Near i (literal_node t s) = Unit {0}
Near i (bind_node q v) = Unit {0}

setting_within : (v : ℕ) → T (is_setting (pos v)) → T (within limit (pos v))
setting_within v t = le→leb v limit (omega (arith, (setting_range v t).1))

divisor_within : (k : ℕ) (s ws : List ℤ) → T (is_divisor (pos k)) → Within s → Within ws → Within (pos k ∷ s ++ ws)
divisor_within k s ws d u t =
    within_cons (pos k) (s ++ ws) (le→leb k limit (divisor_range k d).1) (within_append s ws u t)

body_within : (i : ℕ) (d : Node) (ws : List ℤ) → Good d → Near i d → Within ws → Within (body i d ++ ws)
unfolding body Good Near all_within
body_within i (constant_node false) ws g n t = t
body_within i (constant_node true) ws g n t = t
body_within i (join_node and right) ws g n t = within_cons (pos i +ℤ right) ws n t
body_within i (join_node or right) ws g n t = within_cons (pos i +ℤ right) ws n t
body_within i not_node ws g n t = t
body_within i (literal_node positive s) ws g n t = within_append s ws g.1 t
body_within i (literal_node (divisible true k) s) ws g n t = divisor_within k s ws g.2 g.1 t
body_within i (literal_node (divisible false k) s) ws g n t = divisor_within k s ws g.2 g.1 t
body_within i (literal_node is_zero s) ws g n t = within_append s ws g.1 t
body_within i (bind_node for_some v) ws g n t = within_cons (pos v) ws (setting_within v g) t
body_within i (bind_node for_all v) ws g n t = within_cons (pos v) ws (setting_within v g) t

-- the bodies of a rule from node i on lie within the limit, where those that follow them do
bodies_within : (r : Rule) (i : ℕ) (ds : List Node) → WellFormed r → i + count r ≤ limit
    → ((j : ℕ) → j ≡ i + count r → Within (bodies j ds)) → Within (bodies i (nodes r ++ ds))
unfolding bodies nodes Each Good Near
bodies_within (Constant b) i ds w h t = body_within i (constant_node b) (bodies (i + 1) ds) tt tt (t (i + 1) refl)
bodies_within (Join j a b) i ds w h t =
    let behind : ℕ = 1 + count a in
    body_within i (join_node j (pos behind)) _ tt (le→leb (i + behind) limit (omega arith))
    (subst (λ (l : List Node). Within (bodies (i + 1) l)) (sym (append_assoc (nodes a) (nodes b) ds))
    (bodies_within a (i + 1) (nodes b ++ ds) w.0 (omega arith)
    (λ k e. bodies_within b k ds w.1 (omega arith) (λ m u. t m (omega arith)))))
bodies_within (Not a) i ds w h t =
    body_within i not_node (bodies (i + 1) (nodes a ++ ds)) tt tt
    (bodies_within a (i + 1) ds w (omega arith) (λ j e. t j (omega arith)))
bodies_within (Literal s l) i ds w h t = body_within i (literal_node s l) (bodies (i + 1) ds) w tt (t (i + 1) refl)
bodies_within (Bind q v a) i ds w h t =
    body_within i (bind_node q v) (bodies (i + 1) (nodes a ++ ds)) w.0 tt
    (bodies_within a (i + 1) ds w.1 (omega arith) (λ j e. t j (omega arith)))

pub encode_within : (r : Rule) → WellFormed r → size r ≤ most_words → T (all_within limit (encode r))
unfolding encode all_within
encode_within r w h =
    let ds : List Node = nodes r in
    let n : ℕ = length ds in
    let es : List ℤ = starts (n + 1) ds in
    let as_many : n ≡ count r = length_nodes r in
    let all : size r ≡ 1 + count r + weight r = size_is r in
    let entries : Within es = starts_within (n + 1) ds (omega (arith, weight_is r)) in
    let rest : Within (bodies 0 ds) = rw (append-nil ds) at (bodies_within r 0 [] w (omega arith) (λ j e. tt)) in
    within_cons (pos n) (es ++ bodies 0 ds) (le→leb n limit (omega arith)) (within_append es (bodies 0 ds) entries rest)

-- ---- rules

pub rule_back : (r : Rule) → WellFormed r → size r ≤ most_words → rule_of (bytes_of (encode r)) ≡ given r
unfolding rule_of
rule_back r w h =
    let whole : length (bytes_of (encode r)) % 4 ≡ 0 = omega (arith, length_bytes (encode r)) in
    then _ (passed (eqb (length (bytes_of (encode r)) % 4) 0) 1 (eq→eqb whole))
    ∙ ap decode (bytes_back (encode r) (encode_within r w h)) ∙ decode_encode r w h
  where
    eq→eqb : {m : ℕ} → m ≡ 0 → T (eqb m 0)
    eq→eqb e = subst (λ (n : ℕ). T (eqb n 0)) (sym e) tt

pub rule_forth : (bytes : List ℕ) (r : Rule) → rule_of bytes ≡ given r → WellFormed r × (size r ≤ most_words)
unfolding rule_of
rule_forth bytes r e =
    let k = decode_forth (words bytes) r (required (eqb (length bytes % 4) 0) 1 _ e).1 in
    (k.1, k.2)
