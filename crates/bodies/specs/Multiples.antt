-- What a literal brings to D and to P.
-- Assumes nothing.
use Rattle.std.specs.Prelude.{List, ℕ, Option, Some, None}
use Rattle.rules.specs.Sum.{Sum}
use Rattle.rules.specs.Rule.{Test}
use Rattle.rules.specs.Steps.{size_of, divisor_of}

-- for a setting the size of its factor, where it is not zero; for none the divisor
abbrev pub brought : Option ℕ → Test → Sum → List ℕ
brought None = divisor_of
brought (Some x) = size_of x
