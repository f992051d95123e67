-- "Leave-off test for v on rule F": its question, and the test.
-- Assumes nothing.
use Rattle.std.specs.Prelude.{cond, List, [], ◌∷◌, ℕ, eqb, leb, ℤ, nat_abs}
use Rattle.rules.specs.Rule.{Rule, Not, And, Some}
use Rattle.rules.specs.Result.{Result, ◌>>=◌, require}
use Rattle.rules.specs.Table.{size, is_setting, all_settings}
use Rattle.rules.specs.Eliminate.{eliminate}

-- the settings of a list but v
unfoldable pub others : ℕ → List ℕ → List ℕ
others v [] = []
others v (w ∷ ws) = cond (eqb w v) (others v ws) (w ∷ others v ws)

unfoldable pub some_of_each : List ℕ → Rule → Rule
some_of_each [] a = a
some_of_each (w ∷ ws) a = Some w (some_of_each ws a)

-- "for some of each other setting, in rising order from the outside,
-- the and of (for some v, F) and (for some v, not F)"
unfoldable pub question : ℕ → Rule → Rule
unfolding others some_of_each
question v a = some_of_each (others v all_settings) (And (Some v a) (Some v (Not a)))

-- "leave-off setting is not 1 to 6" (8). "It is the first table given to elimination and must fit the room
-- before folding (6)."
unfoldable pub leave_off : ℕ → ℤ → Rule → Result Rule
unfolding is_setting question eliminate size require ◌>>=◌
leave_off room v a = do
  _ ← require (is_setting v) 8
  let q = question (nat_abs v) a
  _ ← require (leb (size q) room) 6
  eliminate room q
