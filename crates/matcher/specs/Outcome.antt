-- What matching answers, as the definition gives it and as the code does.
-- Assumes nothing.
use Rattle.std.specs.Prelude.{Bool, List, ℕ, ℤ, Ok, Err}
use Rattle.std.specs.Prelude.{Result as Answer}
use Rattle.rules.specs.Result.{Result, refused, given, ◌>>=◌}
use Rattle.rules.specs.Match.{matching}
use Rattle.rules.specs.Calls.{rule_of}
use Rattle.tables.specs.declared.refusal.Refusal.{Refusal}
use Rattle.tables.specs.Refusals.{number_of}

-- matching the rule that the bytes decode to
unfoldable pub matching_of : List ℕ → List ℤ → Result Bool
unfolding rule_of matching ◌>>=◌
matching_of table vs = rule_of table >>= matching vs

abbrev pub result_of : Answer Bool Refusal → Result Bool
result_of (Ok b) = given b
result_of (Err k) = refused (number_of k)
