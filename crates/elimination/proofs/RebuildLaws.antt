-- A step table built and put in place: what the walks ask, what they answer, and what becomes of it.
-- Assumes nothing.
use mathlib.Core.Path.{◌≡◌, refl, sym, ◌∙◌, ap, subst}
use mathlib.Core.Bool.{Bool, true, false, not}
use mathlib.Core.List.{List, [], ◌++◌, append-nil}
use Prim.Native.Nat.{ℕ, ◌+◌, ◌≤◌}
use native.Mathlib.Omega.{arith}
use lib.Dec.{T, leb, leb→le}
use lib.IntN.{ℤ, pos}
use lib.ListN.{length, drop}
use lib.Seq.{drop-drop}
use Rattle.rules.specs.Sum.{number, all_within}
use Rattle.rules.specs.Rule.{Quantifier, Rule}
use Rattle.rules.specs.Result.{given, ◌>>=◌, require}
use Rattle.rules.specs.Table.{Node, most_words, count, nodes, size}
use Rattle.rules.specs.Fold.{fold}
use Rattle.rules.specs.Chosen.{replace}
use Rattle.rules.specs.Literals.{some_literal}
use Rattle.rules.specs.Eliminate.{over_limit, step_table}
use Rattle.rules.specs.Laws.{InTable, WellFormed}
use Rattle.rules.specs.Calls.{words, rule_of}
use Rattle.rules.proofs.Refusals.{passed, then}
use Rattle.rules.proofs.Sizes.{weight, total, weight_is}
use Rattle.rules.proofs.Folding.{keep_fold}
use Rattle.rules.proofs.Weights.{fold_lighter}
use Rattle.rules.proofs.Choosing.{put}
use Rattle.rules.proofs.Shapes.{each_by_parts}
use Rattle.rules.proofs.Limits.{within_table, replaced_formed}
use Rattle.tables.specs.Standing.{TableAt}
use Rattle.tables.proofs.Passed.{TableOf, table_at, table_formed, table_most}
use Rattle.tables.specs.Last.{chosen_place}
use Rattle.builder.specs.Built.{Built, Countable}
use Rattle.builder.specs.declared.push.State.{State}
use Rattle.builder.proofs.BuiltLaws.{built_none, built_countable}
use Rattle.finishing.specs.Finishing.{Finishable}
use Rattle.folding.specs.Answers.{Gives, Answered}
use Rattle.folding.specs.declared.answers.Folded.{Folded}
use Rattle.folding.specs.declared.answers.Folded.TheVariants.{Known, Pushed}
use Rattle.literals.specs.Changes.{Fair}
use Rattle.walks.specs.Walk.{changed, Ready}
use Rattle.steps.specs.Making.{new_of, Makeable, Around}
use Rattle.steps.proofs.ThereLaws.{unchanged}
use Rattle.steps.proofs.ReplaceLaws.{put_lighter}
use Rattle.elimination.specs.Stepping.{HasTable, InPlace, none_built, Folding, Closing, sized, Stepped}
use Rattle.elimination.specs.Stepping.{Rebuilding, FirstReady, WholeIn}
use Rattle.literals.specs.Changes.{Same}
use Rattle.steps.specs.declared.made.Step.{Step}
use Rattle.std.specs.Prelude.{⊤, Ok, Err}
use Rattle.tables.specs.Refusals.{number_of}
use Rattle.tables.specs.declared.refusal.Refusal.TheVariants.{Room}
use Rattle.elimination.proofs.StepLaws.{refusal}
use Rattle.elimination.proofs.TableLaws.{words_there}
use Rattle.tables.specs.declared.part.Part.{Part}

-- ---- what is built becomes the table

-- nothing is built in the state b, whatever the buffer holds
abbrev pub Starts : State → Type 0
Starts b = (ws : List ℤ) → Built ws b []

-- an answer where nothing was built does not say in which state that was
pub started : (ws : List ℤ) (b c : State) (f : Rule) (a : Folded) → Starts c → Gives ws b [] f a → Gives ws c [] f a
unfolding Gives
started ws b c f (Known v) none h = (h.0, none ws)
started ws b c f (Pushed d) none h = h

module _ {ts ws : List ℤ} {room : ℕ} {folded : Folded} {f : Rule} (k : Closing ts ws room folded f) where
  pub stood_asks : {b : State} → Starts b → Answered ws b folded 0
  unfolding total
  stood_asks {b} none = record {
    rule = f;
    tail = [];
    gives = started ws none_built b f folded none k.gives;
    small = omega (arith, k.light);
  }

  -- what `stood` leaves
  pub stood_built : {b c : State} {vs : List ℤ} → Starts b
      → ((x : Rule) (ds : List Node) → Gives ws b ds x folded → Built vs c (nodes x ++ ds)) → Built vs c (nodes f)
  stood_built {b} {c} {vs} none put =
      subst (Built vs c) (append-nil (nodes f)) (put f [] (started ws none_built b f folded none k.gives))

  pub fits_asks : {c : State} {vs : List ℤ} → Built vs c (nodes f) → Countable c 0
  fits_asks {c} {vs} built = built_countable vs c (nodes f) 0 built (omega (arith, weight_is f, k.light))

  -- where it has room
  pub finish_asks : {c : State} {vs : List ℤ} → Built vs c (nodes f) → length vs ≡ length ws → leb (size f) room ≡ true
      → Finishable vs c ts f
  finish_asks built same has_room =
      let fits : size f ≤ room = leb→le (size f) room (subst T (sym has_room) tt) in
      record {
        built = built;
        formed = k.formed;
        most = omega (arith, fits, k.most);
        room_here = omega (arith, fits, same, k.work_room);
        room_there = omega (arith, fits, k.table_room);
      }

module _ (room : ℕ) (f : Rule) (ts : List ℤ) where
  by_size : {b : Bool} → leb (size f) room ≡ b → sized room f ≡ (require b 6 >>= λ u. given f)
  unfolding sized
  by_size e = ap (λ (b : Bool). require b 6 >>= λ u. given f) e

  pub stepped : {u : ⊤} → leb (size f) room ≡ true → TableAt ts f → Stepped (sized room f) (Ok u) ts
  unfolding Stepped ◌>>=◌ require
  stepped e t = (f, by_size e, t)

  pub too_large : leb (size f) room ≡ false → Stepped (sized room f) (Err Room) ts
  unfolding number_of ◌>>=◌ require
  too_large e = refusal ts Room (by_size e)

-- ---- with a new rule for the chosen quantifier

module _ {ts ws : List ℤ} {room c : ℕ} {step : Step} {r : Rule} {q : Quantifier} {x : ℕ} {a : Rule}
    (k : Rebuilding ts ws room c step r q x a) where
  few_words : weight r + 1 ≤ most_words
  few_words = omega (arith, words_there k.ready.has, k.ready.has.few)

  pub rebuilt_closing : (b : State) (vs : List ℤ) (folded : Folded) → length vs ≡ length ws
      → Gives vs b [] (fold (replace (new_of step x a) r)) folded
      → Closing ts vs room folded (fold (replace (new_of step x a) r))
  rebuilt_closing b vs folded same answered = record {
    gives = started vs b none_built (fold (replace (new_of step x a) r)) folded built_none answered;
    formed = replaced_formed (new_of step x a) r k.at k.ready.has.formed k.shape k.makeable.numbers;
    light = omega (arith, put_lighter (put (new_of step x a) r k.at), k.makeable.light, few_words);
    table_room = k.ready.table_room;
    work_room = same ∙ k.ready.work_room;
    most = omega (arith, k.ready.has.few, k.ready.table_room);
  }

-- what the walk around the chosen quantifier asks
pub around_asks : {ts ws : List ℤ} {part : Part} {room c : ℕ} {step : Step} {b : State} {r : Rule} {q : Quantifier}
    {x : ℕ} {a : Rule} → WholeIn ts r part → Rebuilding ts ws room c step r q x a → Starts b
    → Around (words part.entries.now) (words part.bodies.now) part.node part.place c step ws b r q x a []
unfolding total
around_asks {ts} {part = part} {step = step} {r = r} {x = x} {a = a} w k none = record {
  there = w.at;
  at = k.at;
  number_is = omega (arith, k.number_is, w.part.node_is);
  makeable = subst (λ (bs : List ℤ). Makeable step bs x a) body_is k.makeable;
  built = none _;
  small = omega (arith, few_words k);
  room = omega (arith, k.ready.has.few, k.ready.table_room, k.ready.work_room);
}
  where
    behind : count r + 1 + chosen_place r + 2 ≡ count r + 1 + (chosen_place r + 2)
    behind = omega arith

    body_is : drop (count r + 1 + chosen_place r + 2) ts ≡ drop (chosen_place r + 2) (words part.bodies.now)
    body_is = ap (λ (m : ℕ). drop m ts) behind ∙ sym (drop-drop (chosen_place r + 2) (count r + 1) ts)
        ∙ ap (drop (chosen_place r + 2)) (sym w.part.bodies_are)

-- ---- the first one: a rule folded, with nothing changed

pub fold_asks : {ts ws : List ℤ} {part : Part} {b : State} {r : Rule} → Folding ts ws r → WholeIn ts r part → Starts b
    → Ready (words part.entries.now) (words part.bodies.now) part.node part.place Same (number (pos 0)) ws b r []
unfolding total Fair all_within
fold_asks {r = r} k w none = record {
  at = w.at;
  usable = record { seven = refl; small = tt; fair = tt };
  numbers = subst (λ (a : Rule). T (not (some_literal over_limit a))) (sym (unchanged r))
      (within_table r k.has.formed);
  building = record { built = none _; small = omega (arith, words_there k.has, k.has.few); room = k.most };
}

-- what the walk answers, with nothing changed
pub fold_gives : (ws : List ℤ) (b : State) (r : Rule) (f : Folded)
    → Gives ws b [] (fold (changed Same (number (pos 0)) r)) f → Gives ws none_built [] (fold r) f
fold_gives ws b r f answered =
    started ws b none_built (fold r) f built_none
    (subst (λ (a : Rule). Gives ws b [] (fold a) f) (unchanged r) answered)

pub fold_closing : {ts ws : List ℤ} {room : ℕ} {r : Rule} {ks : List ℤ} (vs : List ℤ) (f : Folded) → HasTable ks r
    → FirstReady ts ws room → length vs ≡ length ws → Gives vs none_built [] (fold r) f → Closing ts vs room f (fold r)
fold_closing {r = r} vs f has k same answered = record {
  gives = answered;
  formed = keep_fold WellFormed (each_by_parts InTable) r has.formed;
  light = omega (arith, fold_lighter r, words_there has, has.few);
  table_room = k.table_room;
  work_room = same ∙ k.work_room;
  most = k.most;
}

-- ---- of an input apart, and of one in its own place

pub input_folding : (l : List ℕ) {ts ws : List ℤ} {room : ℕ} {r : Rule} → rule_of l ≡ given r → FirstReady ts ws room
    → Folding (words l) ws r
input_folding l {r = r} decodes k =
    let t : TableOf l (count r) r = record { decodes = decodes; counted = refl } in
    record {
      has = record { table = table_at t; formed = table_formed t; few = table_most t };
      most = omega (arith, k.work_room, k.most);
    }

pub here_folding : {ts ws : List ℤ} {room : ℕ} {r : Rule} → InPlace ts ws room r → Folding ts ws r
here_folding k = record { has = k.has; most = omega (arith, k.has.few, k.table_room, k.work_room) }

pub here_ready : {ts ws : List ℤ} {room : ℕ} {r : Rule} → InPlace ts ws room r → FirstReady ts ws room
here_ready k = record {
  table_room = k.table_room;
  work_room = k.work_room;
  most = omega (arith, k.has.few, k.table_room);
}

-- its numbers are never over the limit
pub first_sized : (room : ℕ) (r : Rule) → WellFormed r → sized room (fold r) ≡ step_table room r
unfolding sized step_table
first_sized room r w =
    sym (then (λ u. sized room (fold r)) (passed (not (some_literal over_limit r)) 5 (within_table r w)))
