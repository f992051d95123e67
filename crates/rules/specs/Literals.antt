-- The literals of a rule in node order: one asked for, what each gives gathered, each made anew.
-- Assumes nothing.
use Rattle.std.specs.Prelude.{Bool, false, ◌||◌, List, [], ◌++◌}
use Rattle.rules.specs.Sum.{Sum}
use Rattle.rules.specs.Rule.{Test, Rule, Constant, Join, Not, Literal, Bind}

unfoldable pub some_literal : (Test → Sum → Bool) → Rule → Bool
some_literal p (Constant b) = false
some_literal p (Join j a b) = some_literal p a || some_literal p b
some_literal p (Not a) = some_literal p a
some_literal p (Literal t s) = p t s
some_literal p (Bind q v a) = some_literal p a

unfoldable pub gather : {A : Type 0} → (Test → Sum → List A) → Rule → List A
gather f (Constant b) = []
gather f (Join j a b) = gather f a ++ gather f b
gather f (Not a) = gather f a
gather f (Literal t s) = f t s
gather f (Bind q v a) = gather f a

unfoldable pub map_literals : (Test → Sum → Rule) → Rule → Rule
map_literals f (Constant b) = Constant b
map_literals f (Join j a b) = Join j (map_literals f a) (map_literals f b)
map_literals f (Not a) = Not (map_literals f a)
map_literals f (Literal t s) = f t s
map_literals f (Bind q v a) = Bind q v (map_literals f a)
