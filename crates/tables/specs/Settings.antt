-- "a set of settings that occur in it, bit v−1 standing for setting v": which number stands for which set.
-- Assumes nothing.
use Rattle.std.specs.Prelude.{◌≡◌, Bool, ℕ, ◌-◌, ◌/◌, ◌%◌, ◌^◌, ◌<◌, ◌≤◌, eqb}

abbrev pub in_set : ℕ → ℕ → Bool
in_set v s = eqb (s / 2 ^ (v - 1) % 2) 1

-- s stands for the settings that pass p
pub record IsSet (s : ℕ) (p : ℕ → Bool) : Type 0 where
  pub small : s < 64
  pub each : (v : ℕ) → 1 ≤ v → v ≤ 6 → in_set v s ≡ p v
