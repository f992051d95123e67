-- The outcome of a call that makes a table fills both lent buffers, byte for byte.
-- Assumes nothing.
use mathlib.Core.Path.{◌≡◌, refl, ◌∙◌, ap}
use Prim.Native.Nat.{ℕ, ◌+◌, ◌-◌, ◌≤◌}
use native.Mathlib.Omega.{arith}
use lib.IntN.{nat_abs}
use lib.ListN.{length, length-append, replicate, length-replicate}
use Rattle.rules.specs.Rule.{Rule}
use Rattle.rules.specs.Result.{Result, refused, given, ◌>>=◌}
use Rattle.rules.specs.Table.{encode, size}
use Rattle.rules.specs.Eliminate.{eliminate}
use Rattle.rules.specs.LeaveOff.{question, leave_off}
use Rattle.rules.specs.Calls.{rule_of, room, table_bytes, outcome, eliminated, left_off}
use Rattle.rules.specs.Laws.{Fills, EliminatedFills, LeftOffFills}
use Rattle.rules.proofs.Refusals.{parts}
use Rattle.rules.proofs.Bytes.{length_bytes, rule_forth}
use Rattle.rules.proofs.Soundness.{eliminate_follows}
use Rattle.rules.proofs.Verdicts.{asked}

-- the table of a result, where there is one, fits the room
abbrev Fit : ℕ → ℕ → Result Rule → Type 0
Fit out work r = (f : Rule) → r ≡ given f → size f ≤ room out work

fills : (out work : ℕ) (r : Result Rule) → Fit out work r → Fills out work (outcome out work r)
unfolding outcome
fills out work r h = (
  length-append (table_bytes r) (replicate (out - length (table_bytes r)) 0)
      ∙ ap (λ (n : ℕ). length (table_bytes r) + n) (length-replicate (out - length (table_bytes r)) 0)
      ∙ joined (length (table_bytes r)) (inside r h),
  length-replicate work 0,
)
  where
    joined : (n : ℕ) → n ≤ out → n + (out - n) ≡ out
    joined n l = omega arith

    inside : (r : Result Rule) → Fit out work r → length (table_bytes r) ≤ out
    inside (refused n) h = unfold table_bytes in omega arith
    inside (given f) h = unfold table_bytes size in omega (arith, h f refl, length_bytes (encode f))

pub eliminated_fills : EliminatedFills
unfolding eliminated
eliminated_fills table out work = fills out work (rule_of table >>= eliminate (room out work)) fit
  where
    fit : Fit out work (rule_of table >>= eliminate (room out work))
    fit f e =
        let (a, read, eliminated) = parts (rule_of table) (eliminate (room out work)) e in
        (eliminate_follows (room out work) a f (rule_forth table a read).0 eliminated).0.fits

pub left_off_fills : LeftOffFills
unfolding left_off
left_off_fills table v out work = fills out work (rule_of table >>= leave_off (room out work) v) fit
  where
    fit : Fit out work (rule_of table >>= leave_off (room out work) v)
    fit f e =
        let (a, read, left) = parts (rule_of table) (leave_off (room out work) v) e in
        let (formed, eliminated) = asked (room out work) v a f (rule_forth table a read).0 left in
        (eliminate_follows (room out work) (question (nat_abs v) a) f formed eliminated).0.fits
