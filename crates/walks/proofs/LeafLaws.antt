-- What the walk that folds asks at a leaf, and what it is given there: a literal, changed, is its truth value or is
-- put.
-- Assumes nothing.
use mathlib.Core.Path.{◌≡◌, refl, sym, ap, ◌∙◌, subst}
use mathlib.Core.Bool.{Bool, true, false}
use mathlib.Core.List.{List}
use Prim.Native.Nat.{ℕ, ◌≤◌}
use lib.IntN.{ℤ, pos}
use lib.ListN.{length, get_or}
use Rattle.rules.specs.Sum.{Sum, limit}
use Rattle.rules.specs.Rule.{Test, positive, divisible, is_zero, Rule}
use Rattle.rules.specs.Table.{Node}
use Rattle.rules.specs.Fold.{fold_literal, fold}
use Rattle.rules.specs.Laws.{DivisorOf}
use Rattle.rules.specs.Calls.{signed}
use Rattle.tables.proofs.Inversion.{test_kind}
use Rattle.builder.specs.Built.{Built}
use Rattle.builder.specs.declared.push.State.{State}
use Rattle.folding.specs.Answers.{Gives}
use Rattle.folding.specs.declared.answers.Folded.{Folded}
use Rattle.folding.specs.declared.answers.Folded.TheVariants.{Known}
use Rattle.literals.specs.Literal.{Marked, LiteralAt}
use Rattle.literals.specs.Changes.{becomes, changed_sum, changed_test, divisor_or_none, Settles}
use Rattle.literals.specs.Changes.{Change, Same, Scaled, Far, Full}
use Rattle.std.specs.Prelude.{Option, Some, None}
use Rattle.literals.proofs.Literals.{kind_read}
use Rattle.literals.proofs.ChangeLaws.{changed_seven, kept, kept_within}
use Rattle.walks.specs.Literals.{Puttable, SomeChangeable, SomeKept}

-- ---- changed

pub changed_kind : (c : Change) (s : Sum) (t : Test) → test_kind (changed_test c s t) ≡ test_kind t
unfolding changed_test
changed_kind Same s t = refl
changed_kind (Scaled D x) s positive = refl
changed_kind (Scaled D x) s (divisible true k) = refl
changed_kind (Scaled D x) s (divisible false k) = refl
changed_kind (Scaled D x) s is_zero = refl
changed_kind (Far x) s t = refl
changed_kind (Full x) s t = refl

has_divisor : {k : ℕ} (t : Test) → k ≡ divisor_or_none t → DivisorOf (λ d. k ≡ d) t
has_divisor positive e = tt
has_divisor (divisible b d) e = e
has_divisor is_zero e = tt

divisor_within : (t : Test) → divisor_or_none t ≤ limit → DivisorOf (λ d. d ≤ limit) t
divisor_within positive h = tt
divisor_within (divisible b d) h = h
divisor_within is_zero h = tt

pub marked : {ws : List ℤ} {n kind k : ℕ} {t : Test} {s : Sum} (c : Change) → LiteralAt ws n t s
    → get_or ws 0 (pos 0) ≡ signed kind → k ≡ divisor_or_none (changed_test c s t) → Marked kind k (changed_test c s t)
marked {t = t} {s = s} c l p d = record {
  same_kind = kind_read t l p ∙ sym (changed_kind c s t);
  same_divisor = has_divisor (changed_test c s t) d;
}

module _ {ws : List ℤ} {c : Change} {u : Sum} {b : State} where
  pub puttable : {kind k : ℕ} {s : Sum} (h : SomeKept ws c u b) → get_or ws 0 (pos 0) ≡ signed kind
      → let l = h.some in
      k ≡ divisor_or_none (changed_test c l.sum l.test) → s ≡ changed_sum c u l.sum → Puttable kind k s b
  puttable h p d e =
      let l = h.some in
      record {
        some = record {
          test = changed_test c l.sum l.test;
          marked = marked c l.at p d;
          small = divisor_within (changed_test c l.sum l.test) h.small;
        };
        seven = ap length e ∙ changed_seven u l.sum h.usable.seven l.at.long c h.usable.fair;
        countable = h.countable;
      }

  pub some_kept : {r : Option Bool} (h : SomeChangeable ws c u b) → Settles c h.some.test h.some.sum r → r ≡ None
      → SomeKept ws c u b
  some_kept h e none =
      let limits = kept_within c h.some.test h.some.sum e u none h.numbers in
      record {
        some = h.some;
        usable = h.usable;
        within = limits.0;
        small = limits.1;
        countable = h.countable;
      }

pub gives_changed : (ws : List ℤ) (b : State) (ds : List Node) (t : Test) {s z : Sum} (f : Folded) → s ≡ z
    → Gives ws b ds (fold_literal t s) f → Gives ws b ds (fold_literal t z) f
gives_changed ws b ds t f e given = subst (λ (s : Sum). Gives ws b ds (fold_literal t s) f) e given

module _ (ws : List ℤ) (b : State) (ds : List Node) (c : Change) (t : Test) (s : Sum) (u : Sum) where
  pub gives_known : {r : Option Bool} {v : Bool} → Settles c t s r → r ≡ Some v → Built ws b ds
      → Gives ws b ds (fold (becomes c u t s)) (Known v)
  unfolding Gives Settles fold
  gives_known e known built = (ap fold (subst (Settles c t s) known e u), built)

  pub gives_kept : {r : Option Bool} (f : Folded) → Settles c t s r → r ≡ None
      → Gives ws b ds (fold_literal (changed_test c s t) (changed_sum c u s)) f
      → Gives ws b ds (fold (becomes c u t s)) f
  unfolding fold
  gives_kept f e none given =
      subst (λ (x : Rule). Gives ws b ds x f) (sym (ap fold (kept c t s e u none))) given
