-- A test at 64 numbers in a row, in the bits of a mask.
-- Assumes nothing.
use Rattle.std.specs.Prelude.{◌≡◌, Bool, true, false, not, ℕ, ◌-◌, ◌<◌, ◌≤◌}
use Rattle.rules.specs.Rule.{Junction, and, or}
use Rattle.judging.specs.Judging.{bit, flag}

-- the bits of m are what t says
abbrev pub Mask : ℕ → (ℕ → Bool) → Type 0
Mask m t = (k : ℕ) → k < 64 → bit m k ≡ flag (t k)

-- true where t is, false elsewhere: nowhere open
abbrev pub Known : ℕ → ℕ → (ℕ → Bool) → Type 0
Known trues falses t = Mask trues t × Mask falses (λ k. not (t k))

-- m moved up by p is r
abbrev pub Placed : ℕ → ℕ → ℕ → Type 0
Placed m p r = (k : ℕ) → k < 64 → (k < p → bit r k ≡ 0) × (p ≤ k → bit r k ≡ bit m (k - p))

-- an and (true) or an or
abbrev pub joint : Bool → Junction
joint true = and
joint false = or
