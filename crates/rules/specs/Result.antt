-- Refusals: a result is given, or refused by an answer number.
-- Assumes nothing.
use Rattle.std.specs.Prelude.{Bool, true, false, ℕ}

pub data Result (A : Type 0) : Type 0 where
  refused : ℕ → Result A
  given : A → Result A

-- and then: what is given goes on, a refusal ends the line. `do` lines are joined by it
infixl 20 ◌>>=◌
unfoldable pub ◌>>=◌ : {A B : Type 0} → Result A → (A → Result B) → Result B
◌>>=◌ (refused n) f = refused n
◌>>=◌ (given a) f = f a

-- refused by n where the test fails
unfoldable pub require : Bool → ℕ → Result (Unit {0})
require true n = given tt
require false n = refused n
