-- Behind the first number stand the others that the loop has passed.
use Rattle.std.proofs.Common.{map, pos}
use Rattle.text.proofs.LineLaws.{NumbersPut}
use Rattle.text.proofs.lent.Text.four.Given as goal

abbrev pub invariant-loop-n : goal.invariant-loop-n
invariant-loop-n l = NumbersPut 11 (map pos l.fn.others) l.n-index l.initial.self l.self
