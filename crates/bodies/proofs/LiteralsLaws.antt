-- A loop over the literals of a body: what it has come past, the literal that comes, and what it knows at the end.
-- Assumes nothing.
use Rattle.std.proofs.Common.{◌≡◌, ℕ, ℤ, List, [], ◌∷◌, ◌++◌, append_assoc, append-nil, refl, sym, ap, ap₂, ◌∙◌}
use Rattle.std.proofs.Common.{subst, Bool, false, ◌||◌, Some}
use mathlib.Core.Bool.{or_assoc, or-false}
use Rattle.rules.specs.Literals.{gather, some_literal}
use Rattle.rules.specs.Sum.{Sum}
use Rattle.rules.specs.Rule.{Test, Rule, Constant, Join, Not, Literal, Bind}
use Rattle.bodies.specs.declared.cursor.Literals.{Literals}
use Rattle.bodies.specs.Body.{SomeBody, WhicheverRule}
use Rattle.bodies.specs.Cursor.{literals_of, LiteralAt, SomeLiteral, Left, GivesFirst, Partway}

-- what is asked of some literals
abbrev pub Passed : Type 1
Passed = List (Test × Sum) → Type 0

-- of whatever rule has these bodies, Q holds of the literals that the iterator has come past
abbrev pub Scanned : List ℤ → ℕ → Literals → Passed → Type 0
Scanned bs end it Q = WhicheverRule bs end (λ a. Partway bs end it Q (literals_of a))

pub scan_start : {bs : List ℤ} {end : ℕ} {made it : Literals} (Q : Passed) → Q [] → it ≡ made
    → WhicheverRule bs end (λ a. Left bs end made (literals_of a)) → Scanned bs end it Q
scan_start {bs} {end} Q none same left n a b = record {
  passed = [];
  others = literals_of a;
  whole = refl;
  left = subst (λ (i : Literals). Left bs end i (literals_of a)) (sym same) (left n a b);
  so_far = none;
}

module _ {bs : List ℤ} {end : ℕ} {it : Literals} {Q : Passed} (s : Scanned bs end it Q) where
  -- no literal is left
  pub scan_over : ((bs : List ℤ) (end : ℕ) (ls : List (Test × Sum)) → Left bs end it ls → ls ≡ [])
      → WhicheverRule bs end (λ a. Q (literals_of a))
  scan_over gave n a b =
      let r = s n a b in
      let none = gave bs end r.others r.left in
      let all = r.whole ∙ ap (λ (ms : List (Test × Sum)). r.passed ++ ms) none ∙ append-nil r.passed in
      subst Q (sym all) r.so_far

  -- the literal at place p comes
  module _ {p : ℕ} {after : Literals} (gave : GivesFirst it (Some p) after) where
    pub scan_here : SomeBody bs end → SomeLiteral bs p end
    scan_here b =
        let r = s b.number b.rule b.body in
        let came = gave bs end r.others r.left in
        record { test = came.test; sum = came.sum; others = came.others; at = came.at; few = b.few }

    pub scan_step : (R : Passed)
        → ((t : Test) (s : Sum) (ls ks : List (Test × Sum)) → LiteralAt bs p end t s ls → Q ks
        → R (ks ++ ((t, s) ∷ [])))
        → Scanned bs end after R
    scan_step R grow n a b =
        let r = s n a b in
        let came = gave bs end r.others r.left in
        let this : List (Test × Sum) = (came.test, came.sum) ∷ [] in
        record {
          passed = r.passed ++ this;
          others = came.others;
          whole = r.whole ∙ ap (λ (ms : List (Test × Sum)). r.passed ++ ms) came.first
              ∙ sym (append_assoc r.passed this came.others);
          left = came.left;
          so_far = grow came.test came.sum came.others r.passed came.at r.so_far;
        }

    -- the loop ends here, whatever follows
    pub scan_ended : (R : Passed)
        → ((t : Test) (s : Sum) (ls ks : List (Test × Sum)) → LiteralAt bs p end t s ls → Q ks
        → R (ks ++ ((t, s) ∷ ls)))
        → WhicheverRule bs end (λ a. R (literals_of a))
    scan_ended R settle n a b =
        let r = s n a b in
        let came = gave bs end r.others r.left in
        subst R (sym (r.whole ∙ ap (λ (ms : List (Test × Sum)). r.passed ++ ms) came.first))
        (settle came.test came.sum came.others r.passed came.at r.so_far)

-- ---- some of the literals

-- some literal of a list is as q says
unfoldable pub some_of : (Test → Sum → Bool) → List (Test × Sum) → Bool
some_of q [] = false
some_of q (l ∷ ls) = q l.0 l.1 || some_of q ls

pub some_append : (q : Test → Sum → Bool) (ks ls : List (Test × Sum))
    → some_of q (ks ++ ls) ≡ (some_of q ks || some_of q ls)
unfolding some_of
some_append q [] ls = refl
some_append q (k ∷ ks) ls =
    ap (λ (b : Bool). q k.0 k.1 || b) (some_append q ks ls)
    ∙ sym (or_assoc (q k.0 k.1) (some_of q ks) (some_of q ls))

-- in a body, it is one of its literals
pub some_gathered : (q : Test → Sum → Bool) (a : Rule) → some_literal q a ≡ some_of q (literals_of a)
unfolding some_literal some_of literals_of gather
some_gathered q (Constant b) = refl
some_gathered q (Join j a b) =
    ap₂ ◌||◌ (some_gathered q a) (some_gathered q b) ∙ sym (some_append q (literals_of a) (literals_of b))
some_gathered q (Not a) = some_gathered q a
some_gathered q (Literal t s) = sym (or-false (q t s))
some_gathered q (Bind k v a) = some_gathered q a
