-- The loop over a table's nodes, step by step: each way out of it, and the next turn. "per node its entry (2) and its
-- body (3); then the table's end (2)".
-- Assumes nothing.
use mathlib.Core.Path.{◌≡◌, refl, sym, ◌∙◌, ap, subst}
use mathlib.Core.List.{List, [], ◌∷◌}
use Prim.Native.Nat.{ℕ, suc, ◌+◌, ◌-◌, ◌<◌, ◌≤◌}
use native.Mathlib.Omega.{arith}
use lib.IntN.{ℤ, pos}
use lib.ListN.{length, get_or, take, drop, drop_of_length-le, length-take, length-drop}
use lib.Seq.{drop-cons, drop-drop}
use Rattle.whole.specs.Integers.{eq_ℤ}
use Rattle.whole.proofs.Tests.{eq_ℤ→eq, eq→eq_ℤ}
use Rattle.rules.specs.Result.{Result, refused, given, ◌>>=◌, require}
use Rattle.rules.specs.Table.{Node, width}
use Rattle.rules.specs.Decode.{node, read}
use Rattle.rules.specs.Calls.{signed}
use Rattle.rules.proofs.Refusals.{then, stopped, passed, failed}
use Rattle.rules.proofs.Sizes.{length_starts}
use Rattle.rules.proofs.Decoding.{Written, read_forth}
use Rattle.tables.specs.Reads.{NodeRead}
use Rattle.tables.specs.Checks.{rest, ListedAs, Judged}
use Rattle.std.proofs.Common.{Ok, Err}
use Rattle.tables.specs.declared.refusal.Refusal.{Refusal}
use Rattle.tables.specs.declared.refusal.Refusal.TheVariants.{Contents}
use Rattle.tables.specs.Refusals.{number_of as refusal_number}
use Rattle.tables.proofs.WordLaws.{number_of, number_is}

-- ---- a result's verdict carried to another's

pub record Carries {A B : Type 0} (x : Result A) (y : Result B) : Type 0 where
  pub refusal : (k : ℕ) → x ≡ refused k → y ≡ refused k
  pub whole : (a : A) → x ≡ given a → (b : B) × (y ≡ given b)

pub carries_itself : {A : Type 0} (x : Result A) → Carries x x
carries_itself x = record { refusal = λ k e. e; whole = λ a e. (a, e) }

-- where y goes on from x without refusing
goes_on : {A B : Type 0} (x : Result A) (f : A → B) → Carries x (x >>= λ a. given (f a))
goes_on x f = unfold ◌>>=◌ in record {
  refusal = λ k e. ap (λ r. r >>= λ a. given (f a)) e;
  whole = λ a e. (f a, ap (λ r. r >>= λ a. given (f a)) e);
}

carries_trans : {A B C : Type 0} {x : Result A} {y : Result B} {z : Result C} → Carries x y → Carries y z
    → Carries x z
carries_trans c d = record {
  refusal = λ k e. d.refusal k (c.refusal k e);
  whole = λ a e. let (b, f) = c.whole a e in d.whole b f;
}

-- ---- one node

-- the entries from node i on are its own and those behind it
entries_on : (W : List ℤ) (n i : ℕ) → i < n → n < length W
    → take (n - i) (drop (i + 1) W) ≡ get_or W (i + 1) (pos 0) ∷ take (n - (i + 1)) (drop (i + 1 + 1) W)
entries_on W n i h l =
    let one_more : n - i ≡ suc (n - (i + 1)) = omega arith in
    let one_on : suc (i + 1) ≡ i + 1 + 1 = omega arith in
    ap (take (n - i)) (drop-cons W (i + 1) (pos 0) (omega arith))
    ∙ ap (λ (m : ℕ). take m (get_or W (i + 1) (pos 0) ∷ drop (suc (i + 1)) W)) one_more
    ∙ ap (λ (m : ℕ). get_or W (i + 1) (pos 0) ∷ take (n - (i + 1)) (drop m W)) one_on

module _ (W : List ℤ) (n i p : ℕ) (h : i < n) (l : n < length W) where
  abbrev onward : Node × List ℤ → Result (List Node)
  onward q = read (i + 1) (take (n - (i + 1)) (drop (i + 1 + 1) W)) (p + width q.0) q.1
      >>= λ ds. given (q.0 ∷ ds)

  opened : rest W n i p ≡ (require (eq_ℤ (get_or W (i + 1) (pos 0)) (pos p)) 2 >>= λ u. node i (drop p W) >>= onward)
  unfolding read
  opened = ap (λ (es : List ℤ). read i es p (drop p W)) (entries_on W n i h l)

  wrong_entry : ¬ (get_or W (i + 1) (pos 0) ≡ pos p) → rest W n i p ≡ refused 2
  wrong_entry f = opened ∙ stopped _ (failed (eq_ℤ (get_or W (i + 1) (pos 0)) (pos p)) 2 (λ t. f (eq_ℤ→eq _ _ t)))

  right_entry : get_or W (i + 1) (pos 0) ≡ pos p → rest W n i p ≡ (node i (drop p W) >>= onward)
  right_entry e = opened ∙ then _ (passed (eq_ℤ (get_or W (i + 1) (pos 0)) (pos p)) 2 (eq→eq_ℤ _ _ e))

  bad_body : (k : ℕ) → get_or W (i + 1) (pos 0) ≡ pos p → node i (drop p W) ≡ refused k → rest W n i p ≡ refused k
  bad_body k e f = right_entry e ∙ stopped onward f

  next_node : (d : Node) → get_or W (i + 1) (pos 0) ≡ pos p → node i (drop p W) ≡ given (d, drop (width d) (drop p W))
      → Carries (rest W n (i + 1) (p + width d)) (rest W n i p)
  next_node d e f =
      subst (Carries (rest W n (i + 1) (p + width d))) (sym (right_entry e ∙ then onward f ∙ on))
      (goes_on (rest W n (i + 1) (p + width d)) (λ ds. d ∷ ds))
    where
      on : onward (d, drop (width d) (drop p W)) ≡ (rest W n (i + 1) (p + width d) >>= λ ds. given (d ∷ ds))
      on =
          let entries = take (n - (i + 1)) (drop (i + 1 + 1) W) in
          ap (λ (ws : List ℤ). read (i + 1) entries (p + width d) ws >>= λ ds. given (d ∷ ds)) (drop-drop (width d) p W)

-- ---- the end

none_left : (W : List ℤ) (n i : ℕ) → n ≤ i → take (n - i) (drop (i + 1) W) ≡ []
none_left W n i h = ap (λ (m : ℕ). take m (drop (i + 1) W)) (let e : n - i ≡ 0 = omega arith in e)

at_the_end : (W : List ℤ) (n i p : ℕ) → n ≤ i → p ≡ length W → rest W n i p ≡ given []
at_the_end W n i p h e =
    ap (λ (es : List ℤ). read i es p (drop p W)) (none_left W n i h)
    ∙ ap (read i [] p) (past_all p e) ∙ unfold read in refl
  where
    past_all : (q : ℕ) → q ≡ length W → drop q W ≡ []
    past_all q e = drop_of_length-le W (let l : length W ≤ q = omega arith in l)

before_the_end : (W : List ℤ) (n i p : ℕ) → n ≤ i → p < length W → rest W n i p ≡ refused 2
before_the_end W n i p h l =
    ap (λ (es : List ℤ). read i es p (drop p W)) (none_left W n i h)
    ∙ ap (read i [] p) (drop-cons W p (pos 0) l) ∙ unfold read in refl

-- ---- the nodes that were read

-- are as many as are due, and the words behind the entries are their bodies
pub were_read : (W : List ℤ) (n : ℕ) {ds : List Node} → n < length W → rest W n 0 (n + 1) ≡ given ds
    → ListedAs (drop (n + 1) W) 0 n ds
unfolding Written
were_read W n {ds} inside e =
    let (entries, bodies_are, good) = read_forth 0 (take (n - 0) (drop 1 W)) (n + 1) (drop (n + 1) W) ds e in
    let due = length-take (n - 0) (drop 1 W) in
    let long : length ds ≡ n =
    omega (arith, ap length entries ∙ length_starts (n + 1) ds, due, length-drop 1 W, inside) in
    record { bodies_are = bodies_are; long = long; good = good }

-- ---- the loop over the nodes

-- node i is due at place p, of n nodes in all
pub record NodeDue (W : List ℤ) (n i p : ℕ) : Type 0 where
  pub inside : n < length W
  pub carries : Carries (rest W n i p) (rest W n 0 (n + 1))

module _ {W : List ℤ} {n i p : ℕ} (node : NodeDue W n i p) where
  pub all_passed : n ≤ i → p ≡ length W → Judged length (rest W n 0 (n + 1)) (Ok n)
  unfolding Judged
  all_passed h e =
      let (ds, read) = node.carries.whole [] (at_the_end W n i p h e) in
      (ds, read, sym (were_read W n node.inside read).long)

  pub end_refused : n ≤ i → p ≤ length W → ¬ (p ≡ length W) → Judged length (rest W n 0 (n + 1)) (Err Contents)
  unfolding Judged refusal_number
  end_refused h l f = node.carries.refusal 2 (before_the_end W n i p h (omega arith))

-- its entry is read: r
pub record EntryRead (W : List ℤ) (n i p r : ℕ) : Type 0 where
  pub node : NodeDue W n i p
  pub some : i < n
  pub entry : get_or W (i + 1) (pos 0) ≡ signed r

pub entry_refused : {W : List ℤ} {n i p r : ℕ} → EntryRead W n i p r → ¬ (r ≡ p)
    → Judged length (rest W n 0 (n + 1)) (Err Contents)
unfolding Judged refusal_number
entry_refused {W} {n} {i} {p} {r} read f =
    read.node.carries.refusal 2
    (wrong_entry W n i p read.some read.node.inside (λ k. f (number_of r p (sym read.entry ∙ k))))

-- it is the place, and the body starts the words ws
pub record BodyRead (W : List ℤ) (n i p r : ℕ) (ws : List ℤ) : Type 0 where
  pub read : EntryRead W n i p r
  pub same : r ≡ p
  pub low : p < 2147483648
  pub at : ws ≡ drop p W

module _ {W : List ℤ} {n i p r : ℕ} {ws : List ℤ} (body : BodyRead W n i p r ws) where
  entry_is : get_or W (i + 1) (pos 0) ≡ pos p
  entry_is = body.read.entry ∙ number_is r p body.low body.same

  pub body_refused : (k : Refusal) → node i ws ≡ refused (refusal_number k)
      → Judged length (rest W n 0 (n + 1)) (Err k)
  unfolding Judged
  body_refused k f =
      let due = body.read.node in
      due.carries.refusal (refusal_number k)
      (bad_body W n i p body.read.some due.inside (refusal_number k) entry_is (ap (node i) (sym body.at) ∙ f))

  pub node_passed : {k next : ℕ} → NodeRead ws p i k next → NodeDue W n (i + 1) next
  node_passed d =
      let due = body.read.node in
      let reads : node i (drop p W) ≡ given (d.it, drop (width d.it) (drop p W)) =
      subst (λ (vs : List ℤ). node i vs ≡ given (d.it, drop (width d.it) vs)) body.at d.reads in
      let step = next_node W n i p body.read.some due.inside d.it entry_is reads in
      subst (NodeDue W n (i + 1)) (sym d.ends)
      (record { inside = due.inside; carries = carries_trans step due.carries })

  pub still_inside : {k next : ℕ} → p ≤ length W → NodeRead ws p i k next → next ≤ length W
  still_inside h d = omega (arith, d.inside, d.ends, ap length body.at, length-drop p W)
