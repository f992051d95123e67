-- The full bodies of one j, from that at the last bound to that at the first.
-- Assumes nothing.
use mathlib.Core.Path.{◌≡◌, refl, sym, ap, ◌∙◌, subst}
use mathlib.Core.Bool.{Bool, true}
use mathlib.Core.List.{List, [], ◌∷◌, ◌++◌, map, append-nil, append_assoc}
use Prim.Native.Nat.{ℕ, zero, suc, ◌-◌, ◌<◌, ◌≤◌}
use native.Mathlib.Omega.{arith}
use lib.Dec.{eqb}
use lib.IntN.{ℤ, pos}
use lib.ListN.{length, get_or, take, drop, length-map, drop_of_length-le}
use lib.Seq.{take_all}
use Rattle.std.proofs.lemmas.List.{length-take-le, get_or-take}
use Rattle.rules.specs.Sum.{Sum, add, number}
use Rattle.rules.specs.Rule.{Rule}
use Rattle.rules.specs.Table.{Node, most_words}
use Rattle.rules.specs.Steps.{bounds, body_at}
use Rattle.rules.specs.Eliminate.{most_period}
use Rattle.rules.proofs.Disjuncts.{nears, fold_any}
use Rattle.builder.specs.declared.push.State.{State}
use Rattle.folding.specs.Answers.{Gives}
use Rattle.folding.specs.declared.answers.Folded.{Folded}
use Rattle.bodies.specs.Body.{BoundAt, BoundsAt}
use Rattle.literals.specs.Changes.{Usable}
use Rattle.walks.specs.Walk.{changed}
use Rattle.judging.specs.Judging.{bit}
use Rattle.steps.specs.Put.{SomeBound}
use Rattle.steps.specs.Disjoining.{Disjunct, SomeDisjunct, Disjoined, AtBounds, SomeAtBounds}
use Rattle.literals.specs.Changes.{Full}
use Rattle.steps.proofs.SumLaws.{above_usable}
use Rattle.steps.proofs.BlockLaws.{bit_told}
use Rattle.steps.proofs.DisjunctLaws.{false_disjunct}
use Rattle.steps.proofs.DisjunctionLaws.{regrouped, next, one_more}

-- element i of a list that f makes
pub made_at : {A B : Type 0} (f : A → B) (none : A) (l : List A) (i : ℕ) → i < length l
    → (take (suc i) (map f l) ≡ take i (map f l) ++ (f (get_or l i none) ∷ []))
    × (drop i (map f l) ≡ f (get_or l i none) ∷ drop (suc i) (map f l))
made_at f none [] i inside = absurd (omega arith)
made_at f none (a ∷ l) zero inside = (refl, refl)
made_at f none (a ∷ l) (suc i) inside =
    let rest = made_at f none l i (omega arith) in (ap (λ (k : List _). f a ∷ k) rest.0, rest.1)

-- the places of k bounds, alone
pub first_places : {bs : List ℤ} {x : ℕ} {places : List ℕ} {k : ℕ} {us : List Sum} → BoundsAt bs x places k us
    → BoundsAt bs x (take k places) (length (take k places)) us
first_places {bs} {x} {places} {k} {us} at =
    let many : length (take k places) ≡ k = length-take-le k places at.held in
    record {
      as_many = many ∙ at.as_many;
      held = omega arith;
      each = λ i inside.
          let short : i < k = omega (arith, inside, many) in
          subst (λ (p : ℕ). BoundAt bs x p (get_or us i [])) (sym (get_or-take k places i 0 short)) (at.each i short);
    }

-- the full bodies from bound m on are answered, in front of those that were before
abbrev pub FromBound : (es bs : List ℤ) (n p x j at_bit : ℕ) (places masks : List ℕ) (ws : List ℤ) (b : State)
    (so_far : Folded) (vs : List ℤ) (m : ℕ) (f : Folded) → Type 0
FromBound es bs n p x j at_bit places masks ws b so_far vs m f =
    (P : ℕ) (a : Rule) (before l : List Rule) (ds : List Node)
    → AtBounds es bs n p x j at_bit places masks ws b P a before l ds so_far
    → Disjoined es bs n p x P vs b a (before ++ take m (nears x a j)) (drop m (nears x a j) ++ l) ds f

module _ {es bs : List ℤ} {n p x j at_bit : ℕ} {places masks : List ℕ} {ws : List ℤ} {b : State}
    {so_far : Folded} where
  pub no_bound_yet : FromBound es bs n p x j at_bit places masks ws b so_far ws (length places) so_far
  no_bound_yet P a before l ds start =
      let enough : length (nears x a j) ≤ length places =
      omega (arith, length-map (bounds x a) (λ b. body_at x (add b (number (pos j))) a), start.bounds_at.as_many) in
      regrouped (ap (λ (m : List Rule). before ++ m) (sym (take_all (length places) (nears x a j) enough)))
      (ap (λ (m : List Rule). m ++ l) (sym (drop_of_length-le (nears x a j) enough))) start.disjoined

  pub every_bound : (vs : List ℤ) (m : ℕ) (f : Folded) → m ≤ 0
      → FromBound es bs n p x j at_bit places masks ws b so_far vs m f
      → (P : ℕ) (a : Rule) (before l : List Rule) (ds : List Node)
      → AtBounds es bs n p x j at_bit places masks ws b P a before l ds so_far
      → Disjoined es bs n p x P vs b a before (nears x a j ++ l) ds f
  every_bound vs zero f over done P a before l ds start =
      regrouped (append-nil before) refl (done P a before l ds start)
  every_bound vs (suc m) f over done P a before l ds start = absurd (omega (arith, over))

  -- the next one: bound i, the last of i + 1
  module _ (i : ℕ) (inside : i < length places) (P : ℕ) (a : Rule) (before l : List Rule) (ds : List Node)
      (start : AtBounds es bs n p x j at_bit places masks ws b P a before l ds so_far) where
    abbrev bound_at_i : Sum
    bound_at_i = get_or (bounds x a) i []

    abbrev sum_at_i : Sum
    sum_at_i = add bound_at_i (number (pos j))

    pub bound_there : BoundAt bs x (get_or places i 0) bound_at_i
    bound_there = start.bounds_at.each i inside

    sum_usable : Usable (Full x) sum_at_i
    sum_usable = above_usable bound_at_i bound_there j start.disjoined.of.setting
        (omega (arith, start.upto, start.disjoined.of.period_fits.1))

    body_there : (take (suc i) (nears x a j) ≡ take i (nears x a j) ++ (changed (Full x) sum_at_i a ∷ []))
        × (drop i (nears x a j) ≡ changed (Full x) sum_at_i a ∷ drop (suc i) (nears x a j))
    unfolding changed body_at
    body_there = made_at (λ b. body_at x (add b (number (pos j))) a) [] (bounds x a) i
        (omega (arith, start.bounds_at.as_many))

    module _ {vs : List ℤ} {f : Folded}
        (done : FromBound es bs n p x j at_bit places masks ws b so_far vs (suc i) f) where
      next_first : Disjoined es bs n p x P vs b a
          ((before ++ take i (nears x a j)) ++ (changed (Full x) sum_at_i a ∷ []))
          (drop (suc i) (nears x a j) ++ l) ds f
      next_first = regrouped
          (ap (λ (m : List Rule). before ++ m) body_there.0
          ∙ sym (append_assoc before (take i (nears x a j)) (changed (Full x) sum_at_i a ∷ [])))
          refl (done P a before l ds start)

      pub full_next : Disjunct es bs n p (Full x) sum_at_i vs b a (drop (suc i) (nears x a j) ++ l) ds f
      full_next = next (before ++ take i (nears x a j)) (Full x) sum_at_i sum_usable next_first

      pub full_answered : (us : List ℤ) (g : Folded) → length us ≤ most_words
          → Gives us b ds (fold_any (changed (Full x) sum_at_i a ∷ (drop (suc i) (nears x a j) ++ l))) g
          → Disjoined es bs n p x P us b a (before ++ take i (nears x a j)) (drop i (nears x a j) ++ l) ds g
      full_answered us g room gives = regrouped refl (ap (λ (m : List Rule). m ++ l) (sym body_there.1))
          (one_more (before ++ take i (nears x a j)) (Full x) sum_at_i sum_usable next_first us g room gives)

  -- with m of them to come, the next one as the code has it: bound m - 1
  module _ {vs : List ℤ} {m : ℕ} {f : Folded}
      (done : FromBound es bs n p x j at_bit places masks ws b so_far vs m f) (some : 0 < m)
      (few : m ≤ length places) where
    one_before : FromBound es bs n p x j at_bit places masks ws b so_far vs (suc (m - 1)) f
    one_before = let same : m ≡ suc (m - 1) = omega arith in
        subst (λ (i : ℕ). FromBound es bs n p x j at_bit places masks ws b so_far vs i f) same done

    -- told by the bit of its mask to be false, it is passed over
    pub full_passed : {mask : ℕ} {told : Bool} → mask ≡ get_or masks (m - 1) 0 → told ≡ eqb (bit mask at_bit) 1
        → told ≡ true → FromBound es bs n p x j at_bit places masks ws b so_far vs (m - 1) f
    full_passed {mask} is_mask is_told e P a before l ds start =
        let d = full_next (m - 1) (omega arith) P a before l ds start one_before in
        full_answered (m - 1) (omega arith) P a before l ds start one_before vs f d.room
        (false_disjunct vs b ds _ _ f
        (start.falses (m - 1) (omega arith)
        (subst (λ (y : ℕ). bit y at_bit ≡ 1) is_mask (bit_told mask at_bit is_told e)))
        d.gives)

    -- its literal is at place q, and u is its sum
    module _ {q : ℕ} (there : q ≡ get_or places (m - 1) 0) where
      known_bound : (P : ℕ) (a : Rule) (before l : List Rule) (ds : List Node)
          → AtBounds es bs n p x j at_bit places masks ws b P a before l ds so_far
          → BoundAt bs x q (get_or (bounds x a) (m - 1) [])
      known_bound P a before l ds start =
          subst (λ (r : ℕ). BoundAt bs x r (get_or (bounds x a) (m - 1) [])) (sym there)
          (bound_there (m - 1) (omega arith) P a before l ds start)

      pub next_bound : SomeAtBounds es bs n p x j at_bit places masks ws b so_far
          → SomeBound bs x q × (j ≤ most_period)
      next_bound start =
          let known = start.at_bounds in (
            record {
              bound = get_or (bounds x start.rule) (m - 1) [];
              at = known_bound _ start.rule _ _ _ known;
              few = omega (arith, known.disjoined.of.there.few.few_words);
              setting = known.disjoined.of.setting;
            },
            omega (arith, known.upto, known.disjoined.of.period_fits.1),
          )

      module _ (u : Sum) (sum : (bound : Sum) → BoundAt bs x q bound → u ≡ add bound (number (pos j))) where
        next_disjunct : (P : ℕ) (a : Rule) (before l : List Rule) (ds : List Node)
            → AtBounds es bs n p x j at_bit places masks ws b P a before l ds so_far
            → Disjunct es bs n p (Full x) u vs b a (drop (suc (m - 1)) (nears x a j) ++ l) ds f
        next_disjunct P a before l ds start =
            subst (λ (s : Sum). Disjunct es bs n p (Full x) s vs b a (drop (suc (m - 1)) (nears x a j) ++ l) ds f)
            (sym (sum _ (known_bound P a before l ds start)))
            (full_next (m - 1) (omega arith) P a before l ds start one_before)

        pub full_asks : SomeAtBounds es bs n p x j at_bit places masks ws b so_far
            → SomeDisjunct es bs n p (Full x) u vs b f
        full_asks start = record {
          rule = start.rule;
          others = drop (suc (m - 1)) (nears x start.rule j) ++ start.others;
          tail = start.tail;
          disjunct = next_disjunct _ start.rule _ _ _ start.at_bounds;
        }

        -- it is answered, and the words us are left
        pub full_done : (us : List ℤ) (g : Folded) → (length ws ≤ most_words → length us ≤ most_words)
            → ((a : Rule) (l : List Rule) (ds : List Node) → Disjunct es bs n p (Full x) u vs b a l ds f
            → Gives us b ds (fold_any (changed (Full x) u a ∷ l)) g)
            → FromBound es bs n p x j at_bit places masks ws b so_far us (m - 1) g
        full_done us g room answered P a before l ds start =
            full_answered (m - 1) (omega arith) P a before l ds start one_before us g (room start.disjoined.room)
            (subst (λ (s : Sum). Gives us b ds (fold_any (changed (Full x) s a ∷ (drop (suc (m - 1))
            (nears x a j) ++ l))) g)
            (sum _ (known_bound P a before l ds start))
            (answered a (drop (suc (m - 1)) (nears x a j) ++ l) ds (next_disjunct P a before l ds start)))
