-- The node whose body starts at a place: that it is inside the bodies, what stands behind it, how wide it is.
-- Assumes nothing.
use mathlib.Core.Path.{◌≡◌, refl, sym, ◌∙◌, ap}
use mathlib.Core.List.{List, ◌++◌}
use Prim.Native.Nat.{ℕ, ◌+◌, ◌≤◌}
use native.Mathlib.Omega.{arith}
use lib.IntN.{ℤ, pos}
use lib.ListN.{length, get_or, drop, length-append, length-drop}
use lib.Seq.{drop_at, drop-drop}
use Rattle.rules.specs.Table.{Node, body}
use Rattle.rules.specs.Calls.{signed}
use Rattle.rules.proofs.Sizes.{words, length_body, words_pos}
use Rattle.rules.proofs.Encoding.{Good}
use Rattle.tables.specs.Reads.{widths, kind_of}
use Rattle.tables.proofs.KindLaws.{kind_read, kind_words}
use Rattle.bodies.proofs.LiteralWords.{first_at}

module _ (bs : List ℤ) (p n : ℕ) (d : Node) (after : List ℤ) (begins : drop p bs ≡ body n d ++ after) where
  pub node_inside : p + words d ≤ length bs
  node_inside =
      let all = ap length begins ∙ length-append (body n d) after in
      omega (arith, all, length_body n d, words_pos d, length-drop p bs)

  pub node_behind : drop (p + words d) bs ≡ after
  node_behind =
      sym (drop-drop (words d) p bs) ∙ ap (drop (words d)) begins
      ∙ drop_at (body n d) after (words d) (length_body n d)

  -- its kind and how wide it is, by its first word
  module _ (k : ℕ) (read : get_or bs p (pos 0) ≡ signed k) where
    node_kind : k ≡ kind_of d
    node_kind = kind_read n d after k begins (sym (first_at bs p _ refl) ∙ read)

    pub node_wide : Good d → get_or widths k 0 ≡ words d
    node_wide good = ap (λ (m : ℕ). get_or widths m 0) node_kind ∙ kind_words d good
