-- Behind the first number stand the words that the loop has passed.
use Rattle.rules.specs.Calls.{words as words_of}
use Rattle.text.proofs.LineLaws.{NumbersPut}
use Rattle.text.proofs.lent.Text.line.Given as goal

abbrev pub invariant-loop-i : goal.invariant-loop-i
invariant-loop-i l = NumbersPut 12 (words_of l.words) l.i l.initial.self l.self
