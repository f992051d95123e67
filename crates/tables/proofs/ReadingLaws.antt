-- Reading the node at the start of some words: what stands behind its kind, by the kind's form; then the node, or 3.
-- Assumes nothing.
use mathlib.Core.Path.{◌≡◌, refl, sym, ap, ◌∙◌, subst}
use mathlib.Core.Bool.{Bool, true, false}
use mathlib.Core.List.{List, [], ◌∷◌, ◌++◌}
use Prim.Native.Nat.{ℕ, ◌+◌, ◌<◌, ◌≤◌}
use native.Mathlib.Omega.{arith}
use borrow.Author.Tests.{ltb-true, ltb-false, leb-true, leb-false}
use lib.Dec.{ltb, leb}
use lib.IntN.{ℤ, pos}
use lib.ListN.{length, get_or, drop, length-append, drop_of_length-le, get_or-eq_default}
use lib.Seq.{drop_at, drop-cons}
use Rattle.rules.specs.Result.{refused, given}
use Rattle.rules.specs.Table.{Node, body, width}
use Rattle.rules.specs.Calls.{signed}
use Rattle.rules.specs.Decode.{Field, word, kinds, node}
use Rattle.rules.proofs.Refusals.{never}
use Rattle.rules.proofs.Sizes.{length_body}
use Rattle.rules.proofs.Decoding.{node_forth}
use Rattle.tables.specs.declared.reading.Node.{Node as ReadNode}
use Rattle.std.proofs.Common.{Result as Answer, Ok, Err}
use Rattle.tables.specs.declared.refusal.Refusal.{Refusal}
use Rattle.tables.specs.declared.refusal.Refusal.TheVariants as refusal
use Rattle.tables.specs.declared.kind.Kind.{Kind}
use Rattle.tables.specs.declared.kind.Kind.TheVariants as kind
use Rattle.tables.specs.Kinds.{number_of}
use Rattle.tables.specs.Refusals.{number_of as refusal_number}
use Rattle.tables.proofs.RefusalLaws.{refusal_unique}
use Rattle.tables.specs.Reads.{Passes, SumAt, NumberAt, DividedAt, FieldsAt, NodeRead, NodeAt}
use Rattle.tables.specs.Reads.{widths, kind_of}
use Rattle.tables.proofs.WordLaws.{signed_low, signed_high, number_is}
use Rattle.tables.proofs.Standings.{width_is}
use Rattle.tables.proofs.Fields.{turned, a_setting}
use Rattle.tables.proofs.KindLaws.{kind_read, kind_width}
use Rattle.tables.proofs.RootKinds.{same_kind, beyond, small}

-- ---- what stands behind a kind

-- the fields of a kind are there, or not
abbrev pub FieldsFor : List ℤ → Bool → Kind → Type 0
FieldsFor ws r kind.False = r ≡ true
FieldsFor ws r kind.True = r ≡ true
FieldsFor ws r kind.And = r ≡ leb 2 (length ws)
FieldsFor ws r kind.Or = r ≡ leb 2 (length ws)
FieldsFor ws r kind.Not = r ≡ true
FieldsFor ws r kind.Positive = SumAt ws 1 r
FieldsFor ws r kind.Divisible = DividedAt ws r
FieldsFor ws r kind.Indivisible = DividedAt ws r
FieldsFor ws r kind.ForSome = NumberAt ws 6 r
FieldsFor ws r kind.ForAll = NumberAt ws 6 r
FieldsFor ws r kind.Zero = SumAt ws 1 r

a_word : (ws : List ℤ) (r : Bool) → r ≡ leb 2 (length ws) → Passes (word (drop 1 ws)) r
unfolding Passes word
a_word ws true e =
    let long : 1 < length ws = omega (arith, leb-true 2 (length ws) (sym e)) in
    (_, ap word (drop-cons ws 1 (pos 0) long))
a_word ws false e =
    let short : length ws ≤ 1 = omega (arith, leb-false 2 (length ws) (sym e)) in
    ap word (drop_of_length-le ws short)

there : {A : Type 0} (a : A) → Passes (given a) true
unfolding Passes
there a = (a, refl)

module _ (ws : List ℤ) (r : Bool) where
  nothing : (d : Node) → r ≡ true → Passes {A = Node × List ℤ} (given (d, drop 1 ws)) r
  nothing d e = subst (Passes {A = Node × List ℤ} (given (d, drop 1 ws))) (sym e) (there (d, drop 1 ws))

  pub fields : (k : Kind) → FieldsFor ws r k → FieldsAt ws (number_of k) r
  unfolding FieldsAt SumAt DividedAt number_of
  fields kind.False h i = nothing _ h
  fields kind.True h i = nothing _ h
  fields kind.And h i = turned _ _ r (a_word ws r h)
  fields kind.Or h i = turned _ _ r (a_word ws r h)
  fields kind.Not h i = nothing _ h
  fields kind.Positive h i = turned _ _ r h
  fields kind.Divisible h i = h true
  fields kind.Indivisible h i = h false
  fields kind.ForSome h i = turned _ _ r (a_setting ws r h)
  fields kind.ForAll h i = turned _ _ r (a_setting ws r h)
  fields kind.Zero h i = turned _ _ r h

-- ---- the node

body_width : (i : ℕ) (d : Node) → length (body i d) ≡ width d
body_width i d = length_body i d ∙ sym (width_is d)

pub no_node : (ws : List ℤ) (p n : ℕ) → n ≡ length ws → n ≡ 0 → NodeAt ws p (Err refusal.Node)
unfolding NodeAt refusal_number
no_node [] p n e h i = refl
no_node (w ∷ ws) p n e h i = absurd (omega arith)

-- there are some words, and word 0 has the bits n
module _ (ws : List ℤ) (p n : ℕ) (some : 0 < length ws) (e : get_or ws 0 (pos 0) ≡ signed n) where
  at_kind : (i : ℕ) (z : ℤ) → get_or ws 0 (pos 0) ≡ z → node i ws ≡ node i (z ∷ drop 1 ws)
  at_kind i z f = ap (node i) (drop-cons ws 0 (pos 0) some ∙ ap (λ x. x ∷ drop 1 ws) f)

  -- the number of no kind
  pub unknown_node : ((k : Kind) → ¬ (n ≡ number_of k)) → NodeAt ws p (Err refusal.Node)
  unfolding NodeAt refusal_number
  unknown_node none i = by (ltb n 2147483648) refl
    where
      by : (b : Bool) → ltb n 2147483648 ≡ b → node i ws ≡ refused 3
      by true t =
          at_kind i (pos n) (e ∙ signed_low n (ltb-true _ _ t))
          ∙ ap (λ (g : Field Node). g (drop 1 ws)) (get_or-eq_default (kinds i) (λ vs. refused 3) {n = n} (beyond n none))
      by false t = at_kind i _ (e ∙ signed_high n (ltb-false _ _ t))

  module _ (k : Kind) (same : n ≡ number_of k) where
    first : get_or ws 0 (pos 0) ≡ pos (number_of k)
    first = e ∙ number_is n (number_of k) (small k) same

    pub refused_node : FieldsAt ws (number_of k) false → NodeAt ws p (Err refusal.Node)
    unfolding NodeAt FieldsAt refusal_number
    refused_node h i = at_kind i (pos (number_of k)) first ∙ h i

    pub whole_node : FieldsAt ws (number_of k) true → (w : ℕ) → w ≡ get_or widths (number_of k) 0
        → NodeAt ws p (Ok (record { kind = k }, p + w))
    unfolding NodeAt FieldsAt
    whole_node h w g i =
        let (a, b) = h i in
        let (d, vs) = a in
        let read : node i ws ≡ given a = at_kind i (pos (number_of k)) first ∙ b in
        let (here, good) = node_forth i ws a read in
        let after : drop (width d) (body i d ++ vs) ≡ vs = drop_at (body i d) vs (width d) (body_width i d) in
        let kind : number_of k ≡ kind_of d = sym same ∙ kind_read i d vs n here e in
        record {
          it = d;
          reads = read ∙ ap (λ (l : List ℤ). given (d, l)) (sym (ap (drop (width d)) here ∙ after));
          ends = ap (λ (n : ℕ). p + n) (g ∙ ap (λ (n : ℕ). get_or widths n 0) kind ∙ sym (kind_width d good));
          inside = omega (arith, ap length here, length-append (body i d) vs, body_width i d);
          kind_is = kind;
        }

-- ---- for a caller

module _ (ws : List ℤ) (p : ℕ) {r : Answer (ReadNode × ℕ) Refusal} where
  pub node_whole : {k : ReadNode} {next : ℕ} → r ≡ Ok (k, next) → NodeAt ws p r
      → (i : ℕ) → NodeRead ws p i (number_of k.kind) next
  unfolding NodeAt
  node_whole e h = subst (NodeAt ws p) e h

  pub node_refused : {k : Refusal} → r ≡ Err k → NodeAt ws p r → (i : ℕ) → node i ws ≡ refused (refusal_number k)
  unfolding NodeAt
  node_refused e h = subst (NodeAt ws p) e h

same_node : {a b : Node × List ℤ} → given a ≡ given b → a.0 ≡ b.0
same_node {a = a} {b = b} h = ap (λ (q : Node × List ℤ). q.0) (let same : a ≡ b = cc in same)

-- any two readings of the same words are equal
pub reading_unique : (ws : List ℤ) (p : ℕ) (r s : Answer (ReadNode × ℕ) Refusal) → NodeAt ws p r → NodeAt ws p s → r ≡ s
unfolding NodeAt
reading_unique ws p (Ok (k, n)) (Ok (j, m)) h g =
    let a = h 0 in
    let b = g 0 in
    let same : a.it ≡ b.it = same_node (sym a.reads ∙ b.reads) in
    let kind : k.kind ≡ j.kind = same_kind k.kind j.kind (a.kind_is ∙ ap kind_of same ∙ sym b.kind_is) in
    let next : n ≡ m = a.ends ∙ ap (λ (d : Node). p + width d) same ∙ sym b.ends in
    ap (λ (x : Kind). Ok (record { kind = x }, n)) kind ∙ ap (λ (q : ℕ). Ok (j, q)) next
reading_unique ws p (Ok (k, n)) (Err j) h g = never (sym (g 0) ∙ (h 0).reads)
reading_unique ws p (Err k) (Ok (j, m)) h g = never (sym (h 0) ∙ (g 0).reads)
reading_unique ws p (Err k) (Err j) h g =
    let one = h 0 in
    let other = g 0 in
    ap Err (refusal_unique k j (let same : refusal_number k ≡ refusal_number j = cc in same))
