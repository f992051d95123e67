-- A literal of the body in normal form: which test is put of which sum.
-- Assumes nothing.
use mathlib.Core.Path.{◌≡◌, refl, sym, ap, ◌∙◌, subst}
use mathlib.Core.Bool.{Bool, true, false, not}
use mathlib.Core.List.{List}
use Prim.Native.Nat.{ℕ, ◌<◌, ◌≤◌}
use native.Mathlib.Omega.{arith}
use borrow.Author.Tests.{le-ltb}
use lib.Dec.{eqb}
use lib.IntN.{ℤ, pos, negsuc}
use lib.ListN.{length, get_or, drop, length-take, length-drop}
use lib.Signed.{lt_z}
use mir.Syntax.{w32}
use mir.Val.{SFits, to_z, of_z}
use mir.Facts.{to_z-of_z}
use Rattle.rules.specs.Sum.{Sum, factor, negate, one_minus}
use Rattle.rules.specs.Rule.{Test, positive, divisible, is_zero, Rule, Literal, whether}
use Rattle.rules.specs.Table.{Node}
use Rattle.rules.specs.Steps.{x_not_negative, normal_literal}
use Rattle.rules.specs.Calls.{signed}
use Rattle.tables.proofs.Inversion.{test_kind}
use Rattle.builder.specs.Built.{Countable}
use Rattle.builder.specs.declared.push.State.{State}
use Rattle.builder.proofs.BuiltLaws.{building_countable}
use Rattle.folding.specs.declared.answers.Folded.{Folded}
use Rattle.literals.specs.Literal.{Fair, start_of, Marked, SomeLiteral}
use Rattle.literals.proofs.Literals.{literal_sum, literal_marked, literal_long}
use Rattle.walks.specs.Sums.{turned, raised, SumAt, SomeSum, TestAt, SomeTestAt}
use Rattle.walks.specs.Normal.{Normalled, LiteralReady, SomeLiteralReady, ZeroReady, SomeZeroReady}
use Rattle.std.specs.Prelude.{Option}
use Rattle.walks.proofs.PutLaws.{positive_test, zero_test, divisor_test}
use Rattle.walks.proofs.ZeroLaws.{Tested, positive_at}

-- ---- kinds 6 and 7

module _ {kind : ℕ} {plainly : Bool} where
  pub traded_same : plainly ≡ true → (c : Bool) (k : ℕ) → kind ≡ test_kind (divisible c k)
      → kind ≡ test_kind (divisible (whether plainly c) k)
  traded_same e c k h = h ∙ ap (λ (p : Bool). test_kind (divisible (whether p c) k)) (sym e)

  pub traded_yes : plainly ≡ false → kind ≡ 6 → (c : Bool) (k : ℕ) → kind ≡ test_kind (divisible c k)
      → 7 ≡ test_kind (divisible (whether plainly c) k)
  traded_yes e six c k h = by c h ∙ ap (λ (p : Bool). test_kind (divisible (whether p c) k)) (sym e)
    where
      by : (c : Bool) → kind ≡ test_kind (divisible c k) → 7 ≡ test_kind (divisible (whether false c) k)
      by true h = refl
      by false h = absurd (omega arith)

  pub traded_no : plainly ≡ false → ¬ (kind ≡ 6) → (c : Bool) (k : ℕ) → kind ≡ test_kind (divisible c k)
      → 6 ≡ test_kind (divisible (whether plainly c) k)
  traded_no e other c k h = by c h ∙ ap (λ (p : Bool). test_kind (divisible (whether p c) k)) (sym e)
    where
      by : (c : Bool) → kind ≡ test_kind (divisible c k) → 6 ≡ test_kind (divisible (whether false c) k)
      by true h = absurd (other h)
      by false h = refl

-- T has its sign turned where the x factor z is negative
turned_is : (z : ℤ) (s : Sum) → elim z [ pos a ↦ s | negsuc a ↦ negate s ] ≡ turned (lt_z z (pos 0)) s
unfolding turned
turned_is (pos a) s = ap (λ (m : Bool). turned m s) (sym (le-ltb a 0 (omega arith)))
turned_is (negsuc a) s = refl

divisor_is : (plainly : Bool) (x : ℕ) (c : Bool) (k : ℕ) (s : Sum)
    → Literal (divisible (whether plainly c) k) (raised false (turned (lt_z (factor x s) (pos 0)) s))
    ≡ normal_literal plainly x (divisible c k) s
unfolding normal_literal x_not_negative raised
divisor_is true x c k s = ap (Literal (divisible c k)) (sym (turned_is (factor x s) s))
divisor_is false x c k s = ap (Literal (divisible (not c) k)) (sym (turned_is (factor x s) s))

-- ---- the literal that stands there, by its kind and its divisor

sum_of : {bs ws : List ℤ} {n x : ℕ} {b : State} {t : Test} {s : Sum} {ds : List Node} → LiteralReady bs n x ws b t s ds
    → SumAt bs (start_of t) s
sum_of {bs} {t = t} ready =
    let words_are = literal_sum t ready.at in
    let rest = drop (start_of t) bs in
    record {
      inside = omega (arith, ap length words_are, length-take 7 rest, length-drop (start_of t) bs, ready.at.long);
      begins = words_are;
      long = ready.at.long;
      small = ready.limited;
    }

positive_is : (plainly : Bool) (x : ℕ) (s : Sum)
    → Literal positive (raised (not plainly) (turned (not plainly) s)) ≡ normal_literal plainly x positive s
unfolding normal_literal raised turned one_minus
positive_is true x s = refl
positive_is false x s = refl

pub literal_there : {bs ws : List ℤ} {x : ℕ} {b : State} → SomeLiteralReady bs x ws b → SomeLiteral bs
literal_there some = record { node = some.node; test = some.test; sum = some.sum; at = some.ready.at }

pub literal_words : {bs ws : List ℤ} {x : ℕ} {b : State} → SomeLiteralReady bs x ws b → 8 ≤ length bs
literal_words some = literal_long (literal_there some)

pub record LiteralRead (bs : List ℤ) (kind k : ℕ) : Type 0 where
  pub kind_word : get_or bs 0 (pos 0) ≡ signed kind
  pub divisor_word : get_or bs 1 (pos 0) ≡ signed k

module _ {bs ws : List ℤ} {x kind k : ℕ} {b : State} (read : LiteralRead bs kind k) where
  marks : {n : ℕ} {t : Test} {s : Sum} {ds : List Node} → LiteralReady bs n x ws b t s ds → Marked kind k t
  marks {t = t} ready = literal_marked t ready.at read.kind_word read.divisor_word

  some_countable : SomeLiteralReady bs x ws b → Countable b 9
  some_countable some =
      building_countable 9 some.ready.building (omega arith)

  -- 0 < T
  positive_there : kind ≡ 5 → {n : ℕ} {t : Test} {s : Sum} {ds : List Node} → LiteralReady bs n x ws b t s ds
      → TestAt bs 5 1 positive s
  positive_there e {t = t} {s = s} ready =
      positive_at (subst (λ (u : Test). SumAt bs (start_of u) s) (positive_test e t (marks ready)) (sum_of ready))

  pub positive_asks : kind ≡ 5 → SomeLiteralReady bs x ws b → SomeTestAt bs 5 1 × Countable b 9
  positive_asks e some =
      (record { test = positive; sum = some.sum; there = positive_there e some.ready }, some_countable some)

  pub positive_made : kind ≡ 5 → (plainly : Bool) (vs : List ℤ) (f : Option Folded)
      → Tested bs 5 1 (not plainly) (not plainly) ws vs b f
      → (n : ℕ) (t : Test) (s : Sum) (ds : List Node) → LiteralReady bs n x ws b t s ds
      → Normalled vs b ds (normal_literal plainly x t s) f
  positive_made e plainly vs f tested n t s ds ready =
      subst (λ (r : Rule). Normalled vs b ds r f)
      (positive_is plainly x s
      ∙ ap (λ (u : Test). normal_literal plainly x u s) (sym (positive_test e t (marks ready))))
      (tested positive s ds (positive_there e ready) ready.building.built)

  -- T = 0
  zero_ready : kind ≡ 10 → {n : ℕ} {t : Test} {s : Sum} {ds : List Node} → LiteralReady bs n x ws b t s ds
      → ZeroReady bs ws b s ds
  zero_ready e {t = t} {s = s} ready = record {
    at = subst (λ (u : Test). SumAt bs (start_of u) s) (zero_test e t (marks ready)) (sum_of ready);
    building = ready.building;
  }

  pub some_zero : kind ≡ 10 → SomeLiteralReady bs x ws b → SomeZeroReady bs ws b
  some_zero e some = record { sum = some.sum; tail = some.tail; ready = zero_ready e some.ready }

  pub zero_put : kind ≡ 10 → (plainly : Bool) (vs : List ℤ) (f : Option Folded)
      → ((x : ℕ) (s : Sum) (ds : List Node) → ZeroReady bs ws b s ds
      → Normalled vs b ds (normal_literal plainly x is_zero s) f)
      → (n : ℕ) (t : Test) (s : Sum) (ds : List Node) → LiteralReady bs n x ws b t s ds
      → Normalled vs b ds (normal_literal plainly x t s) f
  zero_put e plainly vs f answer n t s ds ready =
      subst (λ (u : Test). Normalled vs b ds (normal_literal plainly x u s) f) (sym (zero_test e t (marks ready)))
      (answer x s ds (zero_ready e ready))

  -- k divides T, or does not
  module _ (n5 : ¬ (kind ≡ 5)) (n10 : ¬ (kind ≡ 10)) where
    divided_sum : {n : ℕ} {t : Test} {s : Sum} {ds : List Node} → LiteralReady bs n x ws b t s ds → SumAt bs 2 s
    divided_sum {t = t} {s = s} ready =
        subst (λ (u : Test). SumAt bs (start_of u) s) (divisor_test n5 n10 t (marks ready)) (sum_of ready)

    pub divided_factor : SomeLiteralReady bs x ws b → SomeSum bs 2 × (x < 7)
    divided_factor some =
        (record { sum = some.sum; there = divided_sum some.ready }, omega (arith, some.ready.setting.1))

    module _ {m : ℕ} (plainly : Bool)
        (traded : (c : Bool) (d : ℕ) → kind ≡ test_kind (divisible c d)
        → m ≡ test_kind (divisible (whether plainly c) d)) where
      divided_there : {n : ℕ} {t : Test} {s : Sum} {ds : List Node} → LiteralReady bs n x ws b t s ds
          → TestAt bs m k (divisible (whether plainly (eqb kind 6)) k) s
      divided_there {t = t} ready =
          let is = divisor_test n5 n10 t (marks ready) in
          let same = traded (eqb kind 6) k ((marks ready).same_kind ∙ ap test_kind is) in
          record {
            marked = record { same_kind = same; same_divisor = refl };
            fair = subst Fair is ready.at.fair;
            sum = divided_sum ready;
          }

      pub divided_asks : SomeLiteralReady bs x ws b → SomeTestAt bs m k × Countable b 9
      divided_asks some =
          (record { test = _; sum = some.sum; there = divided_there some.ready }, some_countable some)

      pub divided_made : (vs : List ℤ) (f : Option Folded) {z : ℤ} → SFits w32 z
          → ((s : Sum) → SumAt bs 2 s → z ≡ factor x (turned false s))
          → Tested bs m k (lt_z (to_z w32 (of_z w32 z)) (pos 0)) false ws vs b f
          → (n : ℕ) (t : Test) (s : Sum) (ds : List Node) → LiteralReady bs n x ws b t s ds
          → Normalled vs b ds (normal_literal plainly x t s) f
      unfolding turned
      divided_made vs f {z} fits told tested n t s ds ready =
          let c = eqb kind 6 in
          let is = divisor_test n5 n10 t (marks ready) in
          let sign = to_z-of_z fits ∙ told s (divided_sum ready) in
          let u = divisible (whether plainly c) k in
          subst (λ (r : Rule). Normalled vs b ds r f)
          (ap (λ (a : ℤ). Literal u (raised false (turned (lt_z a (pos 0)) s))) sign
          ∙ divisor_is plainly x c k s ∙ ap (λ (v : Test). normal_literal plainly x v s) (sym is))
          (tested u s ds (divided_there ready) ready.building.built)
