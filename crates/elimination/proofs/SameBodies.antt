-- Words that begin with the bodies of two rules of the same weight: the rules have as many nodes.
-- Assumes nothing.
use mathlib.Core.Path.{◌≡◌, refl, sym, ◌∙◌, ap, subst}
use mathlib.Core.List.{List, [], ◌∷◌, ◌++◌, append_assoc, append-nil}
use Prim.Native.Nat.{ℕ, suc, ◌+◌}
use native.Mathlib.Omega.{arith}
use lib.IntN.{ℤ, pos, nat_abs}
use lib.ListN.{length, get_or, drop}
use lib.Seq.{drop_at}
use Rattle.rules.specs.Rule.{Rule}
use Rattle.rules.specs.Table.{Node, body, count, nodes, bodies}
use Rattle.rules.specs.Laws.{WellFormed}
use Rattle.rules.proofs.Sizes.{words, total, length_nodes, length_body, words_pos, weight_is}
use Rattle.rules.proofs.Encoding.{Good, AllGood, good_nodes}
use Rattle.tables.specs.Reads.{widths, kind_of}
use Rattle.tables.proofs.KindLaws.{first_word, kind_words}
use Rattle.bodies.specs.Body.{BodyOf}

-- the first word of a node's body is its kind, which says how wide it is
same_width : (d e : Node) (n m : ℕ) (x y : List ℤ) → Good d → Good e → body n d ++ x ≡ body m e ++ y → words d ≡ words e
same_width d e n m x y g h same =
    let kind : pos (kind_of d) ≡ pos (kind_of e) =
    sym (first_word n d x) ∙ ap (λ (l : List ℤ). get_or l 0 (pos 0)) same ∙ first_word m e y in
    sym (kind_words d g) ∙ ap (λ (z : ℤ). get_or widths (nat_abs z) 0) kind ∙ kind_words e h

as_many : (ds es : List Node) (n m : ℕ) (x y : List ℤ) → AllGood ds → AllGood es
    → bodies n ds ++ x ≡ bodies m es ++ y → total ds ≡ total es → length ds ≡ length es
unfolding bodies total AllGood
as_many [] [] n m x y g h same all = refl
as_many [] (e ∷ es) n m x y g h same all = absurd (omega (arith, words_pos e))
as_many (d ∷ ds) [] n m x y g h same all = absurd (omega (arith, words_pos d))
as_many (d ∷ ds) (e ∷ es) n m x y g h same all =
    let left : List ℤ = bodies (n + 1) ds ++ x in
    let right : List ℤ = bodies (m + 1) es ++ y in
    let whole : body n d ++ left ≡ body m e ++ right =
    sym (append_assoc (body n d) (bodies (n + 1) ds) x) ∙ same ∙ append_assoc (body m e) (bodies (m + 1) es) y in
    let wide = same_width d e n m left right g.0 h.0 whole in
    let behind : left ≡ right =
    sym (drop_at (body n d) left (words d) (length_body n d)) ∙ ap (drop (words d)) whole
    ∙ drop_at (body m e) right (words d) (length_body m e ∙ sym wide) in
    ap suc (as_many ds es (n + 1) (m + 1) x y g.1 h.1 behind (omega (arith, wide, all)))

good : (a : Rule) → WellFormed a → AllGood (nodes a)
good a w = subst AllGood (append-nil (nodes a)) ((good_nodes a []).1 (w, unfold AllGood in tt))

pub same_count : {bs : List ℤ} {end n m : ℕ} (a b : Rule) → BodyOf bs end n a → BodyOf bs end m b → count a ≡ count b
same_count {bs} {end} {n} {m} a b first second =
    let one = first.bodied in
    let other = second.bodied in
    let all : total (nodes a) ≡ total (nodes b) = omega (arith, weight_is a, weight_is b, first.ends, second.ends) in
    sym (length_nodes a)
    ∙ as_many (nodes a) (nodes b) n m one.after other.after (good a first.formed) (good b second.formed)
    (sym one.begins ∙ other.begins) all ∙ length_nodes b
