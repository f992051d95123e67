-- Steps one after the other: a refusal ends the line, and what is given is the next step's table.
-- Assumes nothing.
use mathlib.Core.Path.{◌≡◌, refl, sym, ◌∙◌, ap, subst}
use mathlib.Core.Bool.{Bool, true, false}
use mathlib.Core.List.{List}
use Prim.Native.Nat.{ℕ, suc, ◌≤◌}
use native.Mathlib.Omega.{arith}
use lib.Dec.{not_T, ltb, ltb→lt, lt→ltb}
use lib.IntN.{ℤ}
use lib.ListN.{length}
use Rattle.whole.proofs.Tests.{is_true, is_false}
use Rattle.rules.specs.Rule.{Quantifier, Rule}
use Rattle.rules.specs.Result.{Result, refused, given, ◌>>=◌}
use Rattle.rules.specs.Table.{size}
use Rattle.rules.specs.Chosen.{Chosen, nothing, the, quantifiers, quantified, chosen}
use Rattle.rules.specs.Eliminate.{for_all_step, normal_step, common_step, disjunction_step, round, rounds}
use Rattle.rules.specs.Laws.{WellFormed}
use Rattle.rules.proofs.Refusals.{then, stopped}
use Rattle.rules.proofs.Choosing.{put, put_some, is_chosen}
use Rattle.rules.proofs.Folding.{Folded}
use Rattle.elimination.specs.Stepping.{Answer, SomeTable, Locates, LocatedIn, StepReady, SomeStepLocated, Stepped}
use Rattle.elimination.specs.Stepping.{numbered}
use Rattle.std.specs.Prelude.{⊤, Some, Ok, Err}
use Rattle.tables.specs.declared.refusal.Refusal.{Refusal}
use Rattle.elimination.specs.declared.locate.Quantified.{Quantified}
use Rattle.elimination.proofs.StepLaws.{answered, normal_none, common_none, disjunction_none}
use Rattle.elimination.proofs.StepLaws.{for_some_is}
use Rattle.elimination.proofs.FairLaws.{Fair, round_fair}

-- ---- where a line of steps has come to

pub record Come (ts ws : List ℤ) (room : ℕ) (m : Result Rule) : Type 0 where
  pub rule : Rule
  pub is : m ≡ given rule
  pub ready : StepReady ts ws room rule

abbrev pub come_first : {ts ws : List ℤ} {room : ℕ} (r : Rule) → StepReady ts ws room r → Come ts ws room (given r)
come_first r ready = record { rule = r; is = refl; ready = ready }

module _ {ts ws : List ℤ} {room : ℕ} {m : Result Rule} (come : Come ts ws room m) where
  -- the quantifier that is chosen next
  pub come_located : {c : Quantified} → Locates come.rule c → SomeStepLocated ts ws room c
  come_located at = record { rule = come.rule; ready = come.ready; locates = at }

  pub come_table : SomeTable ts
  come_table = record { rule = come.rule; has = come.ready.has }

  -- a step that finds nothing to do
  abbrev pub come_stays : (step : Rule → Result Rule) → step come.rule ≡ given come.rule
      → Come ts ws room (m >>= step)
  come_stays step stays = record { rule = come.rule; is = then step come.is ∙ stays; ready = come.ready }

  -- the line may end here
  pub come_over : {u : ⊤} → Stepped m (Ok u) ts
  unfolding Stepped
  come_over = (come.rule, come.is, come.ready.has.table)

  module _ (step : Rule → Result Rule) where
    -- the next step's answer is the line's
    pub answered_next : (n : Answer) (us : List ℤ) → Stepped (step come.rule) n us
        → Stepped (m >>= step) n us
    answered_next n us h = answered us n (then step come.is) h

    pub come_next : ((r : Rule) → WellFormed r → size r ≤ room → Folded r → Fair room (step r)) → {u : ⊤}
        → (us vs : List ℤ) → Stepped (step come.rule) (Ok u) us → length us ≡ length ts → length vs ≡ length ws
        → Come us vs room (m >>= step)
    unfolding Stepped Fair
    come_next fair us vs (f, is, table) same_table same_work =
        let was = come.ready in
        let fine = subst (Fair room) is (fair come.rule was.has.formed was.fits was.folded) in
        record {
          rule = f;
          is = then step come.is ∙ is;
          ready = record {
            has = record { table = table; formed = fine.0; few = omega (arith, was.has.few, same_table) };
            folded = fine.2;
            fits = fine.1;
            table_room = same_table ∙ was.table_room;
            work_room = same_work ∙ was.work_room;
          };
        }

-- a refusal ends the line
pub ended : (m : Result Rule) (step : Rule → Result Rule) (e : Refusal) (ts : List ℤ) → Stepped m (Err e) ts
    → Stepped (m >>= step) (Err e) ts
unfolding Stepped
ended m step e ts h = stopped step h

-- the quantifier that is chosen, where it is located
pub there : (r : Rule) {c : Quantified} → LocatedIn r (Some c) → Locates r c
unfolding LocatedIn
there r h = h

-- ---- one round

module _ (room : ℕ) (r : Rule) where
  abbrev pub to_for_all : Result Rule
  to_for_all = given r >>= for_all_step room

  abbrev pub to_normal : Result Rule
  to_normal = given r >>= normal_step room

  abbrev pub to_common : Result Rule
  to_common = to_normal >>= common_step room

  round_numbered : round room r ≡ (to_for_all >>= numbered room)
  unfolding round numbered ◌>>=◌
  round_numbered = go (for_all_step room r)
    where
      go : (x : Result Rule) → (x >>= normal_step room >>= common_step room >>= disjunction_step room)
          ≡ (x >>= λ g. normal_step room g >>= common_step room >>= disjunction_step room)
      go (refused k) = refl
      go (given g) = refl

  pub numbered_none : chosen r ≡ nothing → numbered room r ≡ given r
  unfolding numbered
  numbered_none none =
      then (disjunction_step room) (then (common_step room) (normal_none room r none) ∙ common_none room r none)
      ∙ disjunction_none room r none

  module _ (n : Answer) (ts : List ℤ) where
    pub numbered_answered : Stepped (to_common >>= disjunction_step room) n ts → Stepped (numbered room r) n ts
    unfolding numbered ◌>>=◌
    numbered_answered h = h

    pub round_answered : Stepped (to_for_all >>= numbered room) n ts → Stepped (round room r) n ts
    round_answered h = answered ts n round_numbered h

    -- a for-some needs no step of its own
    pub some_answered : {c : Quantified} → Locates r c → c.some ≡ true → Stepped (numbered room r) n ts
        → Stepped (round room r) n ts
    unfolding ◌>>=◌
    some_answered at e h =
        let stays = for_some_is room r at.quantifier (sym at.quantifier_is ∙ e) at.at in
        round_answered (answered ts n (then (numbered room) stays) h)

  module _ (e : Refusal) (ts : List ℤ) where
    pub ended_common : Stepped to_common (Err e) ts → Stepped (numbered room r) (Err e) ts
    ended_common h = numbered_answered (Err e) ts (ended to_common (disjunction_step room) e ts h)

    pub ended_normal : Stepped to_normal (Err e) ts → Stepped (numbered room r) (Err e) ts
    ended_normal h = ended_common (ended to_normal (common_step room) e ts h)

    pub ended_for_all : Stepped to_for_all (Err e) ts → Stepped (round room r) (Err e) ts
    ended_for_all h = round_answered (Err e) ts (ended to_for_all (numbered room) e ts h)

-- ---- rounds

quantified_there : (f : Rule) {q : Quantifier} {x : ℕ} {a : Rule} → chosen f ≡ the q x a → quantified f ≡ true
unfolding quantified
quantified_there f at = is_true (ltb 0 (quantifiers f)) (lt→ltb 0 (quantifiers f) (put_some (put f f at)))

IsNothing : Chosen → Type 0
IsNothing nothing = Unit {0}
IsNothing (the q x a) = ⊥

quantified_none : (f : Rule) → chosen f ≡ nothing → quantified f ≡ false
unfolding quantified IsNothing
quantified_none f none = is_false (ltb 0 (quantifiers f)) (not_T (ltb 0 (quantifiers f)) (λ t.
    let (q, x, a, at) = is_chosen f (ltb→lt 0 (quantifiers f) t) in subst IsNothing (sym none ∙ at) tt))

rounds_by : (n room : ℕ) (f : Rule) (b : Bool) → quantified f ≡ b
    → rounds (suc n) room f ≡ elim b [ false ↦ given f | true ↦ round room f >>= rounds n room ]
unfolding rounds
rounds_by n room f b e =
    ap (λ (b : Bool). elim b [ false ↦ given f | true ↦ round room f >>= rounds n room ]) e

-- so many rounds are left of all, from the rule of this table
pub record Going (ts ws : List ℤ) (room left : ℕ) (all : Result Rule) : Type 0 where
  pub rule : Rule
  pub ready : StepReady ts ws room rule
  pub same : all ≡ rounds left room rule

pub going_first : {ts ws : List ℤ} {room left : ℕ} (most : ℕ) (r : Rule) → most ≡ left → StepReady ts ws room r
    → Going ts ws room left (rounds most room r)
going_first {room = room} most r e ready = record {
  rule = r;
  ready = ready;
  same = ap (λ (n : ℕ). rounds n room r) e;
}

module _ {ts ws : List ℤ} {room left : ℕ} {all : Result Rule} (going : Going ts ws room left all) where
  pub going_located : {c : Quantified} → Locates going.rule c → SomeStepLocated ts ws room c
  going_located at = record { rule = going.rule; ready = going.ready; locates = at }

  pub going_table : SomeTable ts
  going_table = record { rule = going.rule; has = going.ready.has }

  answered_given : {u : ⊤} → all ≡ given going.rule → Stepped all (Ok u) ts
  unfolding Stepped
  answered_given e = (going.rule, e, going.ready.has.table)

  -- no round is left
  pub rounds_over : {u : ⊤} → left ≡ 0 → Stepped all (Ok u) ts
  unfolding rounds
  rounds_over e = answered_given (going.same ∙ ap (λ (n : ℕ). rounds n room going.rule) e)

  -- one is left, and so many after it
  module _ (after : ℕ) (some : left ≡ suc after) where
    with_one : {b : Bool} → quantified going.rule ≡ b
        → all ≡ elim b [ false ↦ given going.rule | true ↦ round room going.rule >>= rounds after room ]
    with_one {b} e =
        going.same ∙ ap (λ (n : ℕ). rounds n room going.rule) some ∙ rounds_by after room going.rule b e

    -- no quantifier remains
    pub rounds_end : {u : ⊤} → chosen going.rule ≡ nothing → Stepped all (Ok u) ts
    rounds_end none = answered_given (with_one (quantified_none going.rule none))

    module _ {c : Quantified} (at : Locates going.rule c) where
      one_more : all ≡ (round room going.rule >>= rounds after room)
      one_more = with_one (quantified_there going.rule at.at)

      pub round_ended : (e : Refusal) (us : List ℤ) → Stepped (round room going.rule) (Err e) us
          → Stepped all (Err e) us
      round_ended e us h = answered us (Err e) one_more (ended (round room going.rule) (rounds after room) e us h)

      pub going_on : {u : ⊤} (us vs : List ℤ) → Stepped (round room going.rule) (Ok u) us
          → length us ≡ length ts → length vs ≡ length ws → Going us vs room after all
      unfolding ◌>>=◌
      going_on us vs h same_table same_work =
          let first = come_first going.rule going.ready in
          let next = come_next first (round room) (round_fair room) us vs h same_table same_work in
          record {
            rule = next.rule;
            ready = next.ready;
            same = one_more ∙ then (rounds after room) next.is;
          }
