-- What the leave-off test's outcome says: it is one, and its verdict tells whether the line matters.
-- Assumes nothing.
use mathlib.Core.Path.{◌≡◌, refl, sym, ◌∙◌, ap, subst}
use mathlib.Core.Bool.{Bool, true, false}
use mathlib.Core.List.{List}
use mathlib.Core.Logic.{inl, inr}
use Prim.Native.Nat.{ℕ, ◌<◌, ◌≤◌}
use native.Mathlib.Omega.{arith}
use lib.Dec.{T, leb}
use lib.IntN.{ℤ, pos, negsuc, nat_abs}
use lib.ListN.{length}
use lib.Signed.{non_neg}
use mir.Syntax.{w32, w64}
use mir.Val.{SFits, to_z, of_z, Fits as Natural}
use mir.Facts.{to_z-of_z}
use borrow.Author.Tests.{le-leb, lt-leb}
use Rattle.rules.specs.Rule.{Rule}
use Rattle.rules.specs.Result.{Result, refused, given, ◌>>=◌, require}
use Rattle.rules.specs.Table.{size, is_setting}
use Rattle.rules.specs.Eliminate.{eliminate}
use Rattle.rules.specs.LeaveOff.{question, leave_off}
use Rattle.rules.specs.Answer.{verdict_of, table_answer}
use Rattle.rules.specs.Laws.{Verdict, Matters, MayGo}
use Rattle.rules.specs.Calls.{rule_of, room, Outcome, outcome, left_off}
use Rattle.rules.proofs.Refusals.{then, parts, passed}
use Rattle.rules.proofs.Numbers.{By}
use Rattle.rules.proofs.Encoding.{setting_range}
use Rattle.rules.proofs.Bytes.{rule_forth}
use Rattle.rules.proofs.Soundness.{sound}
use Rattle.rules.proofs.Verdicts.{question_formed, natural_setting, asked, leave_off_right}
use Rattle.tables.specs.Checks as Checks
use Rattle.tables.specs.Standing.{TableAt}
use Rattle.std.specs.Prelude.{Err}
use Rattle.tables.specs.Refusals.{number_of}
use Rattle.tables.specs.declared.refusal.Refusal.{Refusal}
use Rattle.tables.specs.declared.refusal.Refusal.TheVariants.{Room, Setting}
use Rattle.tables.proofs.Passed.{TableOf, table_formed}
use Rattle.elimination.specs.Stepping.{Answer, InPlace, Stepped, FirstReady}
use Rattle.elimination.proofs.StepLaws.{answered, refusal}
use Rattle.leaveoff.specs.Outcome.{answer_of, outcome_of, test_of, Tells, TestsLine, Fits}
use Rattle.leaveoff.specs.declared.answer.Answer as declared
use Rattle.leaveoff.proofs.StepNumbers.{tests_by}
use Rattle.leaveoff.proofs.FirstLaws.{check_refused}
use Rattle.leaveoff.proofs.LentLaws.{room_there, Gives, outcome_once, answer_fits}

-- ---- a setting

-- a setting as the 32 bits that it is handed on in
abbrev pub again : ℤ → ℤ
again v = to_z w32 (of_z w32 v)

module _ (v : ℤ) (fits : SFits w32 v) where
  same_setting : is_setting v ≡ is_setting (again v)
  same_setting = sym (ap is_setting (to_z-of_z fits))

  -- as it was found
  module _ {b : Bool} (found : b ≡ is_setting (again v)) where
    pub none_found : b ≡ false → is_setting v ≡ false
    none_found e = same_setting ∙ sym found ∙ e

    -- it is a natural number
    module _ (e : b ≡ true) where
      is_one : T (is_setting (again v))
      is_one = subst T (sym (sym found ∙ e)) tt

      pub passes : T (is_setting (pos (nat_abs (again v))))
      passes = natural_setting (again v) is_one

      same_natural : pos (nat_abs (again v)) ≡ again v
      same_natural = go (again v) is_one
        where
          go : (u : ℤ) → T (is_setting u) → pos (nat_abs u) ≡ u
          go (pos n) t = refl
          go (negsuc n) t = absurd (unfold is_setting in t)

      pub setting_again : pos (nat_abs (again v)) ≡ v
      setting_again = same_natural ∙ to_z-of_z fits

      pub is_natural : T (non_neg (again v)) × Natural w64 (nat_abs (again v))
      is_natural =
          let (least, most) = setting_range (nat_abs (again v)) passes in
          (subst (λ (u : ℤ). T (non_neg u)) same_natural tt, record { fits = omega (arith, most) })

-- ---- what the test makes of a rule

pub test_is : {l : List ℕ} {n : ℕ} {r : Rule} (v : ℤ) (m : ℕ) → TableOf l n r → test_of l v m ≡ leave_off m v r
unfolding test_of
test_is v m t = then (leave_off m v) t.decodes

-- the check's refusal is the test's
pub test_refused : (l : List ℕ) (u : ℤ) (m : ℕ) (e : Refusal) (ts : List ℤ) → Checks.Verdict (rule_of l) (Err e)
    → Stepped (test_of l u m) (Err e) ts
unfolding test_of
test_refused l u m e ts h = check_refused l (leave_off m u) e ts h

-- "leave-off setting is not 1 to 6" (8)
pub no_setting : (room : ℕ) (v : ℤ) (r : Rule) (ts : List ℤ) → is_setting v ≡ false
    → Stepped (leave_off room v r) (Err Setting) ts
unfolding leave_off number_of require ◌>>=◌
no_setting room v r ts e =
    refusal ts Setting (ap (λ (b : Bool). require b 8 >>= λ u.
    require (leb (size (question (nat_abs v) r)) room) 6 >>= λ w. eliminate room (question (nat_abs v) r)) e)

module _ (room v : ℕ) (r : Rule) (setting : T (is_setting (pos v))) where
  -- the question, once the setting is one
  asks : leave_off room (pos v) r
      ≡ (require (leb (size (question v r)) room) 6 >>= λ w. eliminate room (question v r))
  unfolding leave_off
  asks = then _ (passed (is_setting (pos v)) 8 setting)

  -- "must fit the room before folding (6)"
  pub too_large : {s : ℕ} (ts : List ℤ) → s ≡ size (question v r) → room < s
      → Stepped (leave_off room (pos v) r) (Err Room) ts
  unfolding number_of require ◌>>=◌
  too_large ts e h =
      let refuses : leb (size (question v r)) room ≡ false = lt-leb (size (question v r)) room (omega (arith, e, h)) in
      refusal ts Room (asks ∙ ap (λ (b : Bool). require b 6 >>= λ w. eliminate room (question v r)) refuses)

  pub asked_stepped : {s : ℕ} (k : Answer) (ts : List ℤ) → s ≡ size (question v r) → s ≤ room
      → Stepped (eliminate room (question v r)) k ts → Stepped (leave_off room (pos v) r) k ts
  unfolding require ◌>>=◌
  asked_stepped k ts e h s =
      let fits : leb (size (question v r)) room ≡ true = le-leb (size (question v r)) room (omega (arith, e, h)) in
      answered ts k (asks ∙ ap (λ (b : Bool). require b 6 >>= λ w. eliminate room (question v r)) fits) s

-- the question's table is ready for the first step
pub asked_ready : {l : List ℕ} {n : ℕ} {r : Rule} (room v : ℕ) {ts ws us : List ℤ} → TableOf l n r
    → T (is_setting (pos v)) → FirstReady ts ws room → length us ≡ length ts
    → TableAt us (question v r) → InPlace us ws room (question v r)
asked_ready {r = r} room v t setting k same at = record {
  has = record {
    table = at;
    formed = question_formed v r setting (table_formed t);
    few = omega (arith, same, k.table_room, k.most);
  };
  table_room = same ∙ k.table_room;
  work_room = k.work_room;
}

-- ---- the outcome

pub test_gives : (table : List ℕ) (v : ℤ) (r : ℕ) → Gives r (test_of table v r)
unfolding test_of
test_gives table v r f e =
    let (a, d, s) = parts (rule_of table) (leave_off r v) e in
    let (formed, steps) = asked r v a f (rule_forth table a d).0 s in
    let so = sound r (question (nat_abs v) a) f formed steps in
    record { formed = so.formed; fits = so.fits }

-- any two outcomes that the promise admits are equal
pub left_off_once : (table : List ℕ) (v : ℤ) (out work : ℕ) (a b : declared.Answer) (o p w u : List ℕ)
    → outcome_of a o w ≡ left_off table v out work → outcome_of b p u ≡ left_off table v out work
    → (a ≡ b) × (o ≡ p) × (w ≡ u)
left_off_once table v out work = outcome_once (left_off table v out work)

pub left_off_fits : (table : List ℕ) (v : ℤ) (out work : ℕ) → Fits (left_off table v out work).answer
unfolding left_off test_of outcome
left_off_fits table v out work =
    let r = room out work in
    answer_fits r (test_of table v r) (room_there out work r refl).2 (tests_by table v r) (test_gives table v r)

-- ---- what it says

-- a line cannot both matter and go
not_both : {A : Type 0} (v : ℕ) (r : Rule) → Matters v r → MayGo v r → A
not_both v r (ρ, x, y, here, not_there) go = absurd (not_there ((go ρ x y).0 here))

tells : (table : List ℕ) (v : ℤ) (r f : Rule) → rule_of table ≡ given r
    → Verdict f (Matters (nat_abs v) r) (MayGo (nat_abs v) r) → Tells table v (table_answer (given f))
unfolding table_answer verdict_of
tells table v r f d (inl (is, m)) =
    let one : verdict_of f ≡ 1 = ap verdict_of is in
    record {
      rule = r;
      decodes = d;
      matters = (λ e. m, λ e. one);
      may_go = (λ e. absurd (omega (arith, one, e)), λ g. not_both (nat_abs v) r m g);
    }
tells table v r f d (inr (is, g)) =
    let two : verdict_of f ≡ 2 = ap verdict_of is in
    record {
      rule = r;
      decodes = d;
      matters = (λ e. absurd (omega (arith, two, e)), λ m. not_both (nat_abs v) r m g);
      may_go = (λ e. g, λ e. two);
    }

module _ (table : List ℕ) (v : ℤ) (out work : ℕ) where
  tests_line : TestsLine table v (left_off table v out work).answer
  unfolding TestsLine left_off test_of outcome table_answer By
  tests_line = go (test_of table v (room out work)) refl (tests_by table v (room out work))
    where
      go : (x : Result Rule) → test_of table v (room out work) ≡ x → By 8 x → TestsLine table v (table_answer x)
      go (refused n) e b z = absurd (omega (arith, b.0, z))
      go (given f) e b z =
          let (r, d, s) = parts (rule_of table) (leave_off (room out work) v) e in
          tells table v r f d (leave_off_right (room out work) v r f (rule_forth table r d).0 s)

  -- what ends with the outcome of the setting as it is handed on is the test's outcome, and says this
  pub tests_so : {a : declared.Answer} {o w : List ℕ} → SFits w32 v
      → outcome_of a o w ≡ outcome out work (test_of table (again v) (room out work))
      → (outcome_of a o w ≡ left_off table v out work) × TestsLine table v (answer_of a)
  unfolding left_off test_of
  tests_so fits e =
      let is = e ∙ ap (λ (u : ℤ). outcome out work (test_of table u (room out work))) (to_z-of_z fits) in
      (is, subst (λ (x : Outcome). TestsLine table v x.answer) (sym is) tests_line)
