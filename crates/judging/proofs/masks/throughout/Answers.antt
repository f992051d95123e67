-- `masks::throughout` meets its contract.
-- Assumes nothing.
use mathlib.Core.Path.{sym, ap, ◌∙◌}
use Rattle.judging.specs.Judging.{flag}
use Rattle.judging.proofs.BitLaws.{bit_all}
use Rattle.judging.proofs.masks.throughout.Goals as goal

pub returns-then-b : goal.returns-then-b
returns-then-b c = λ k h. bit_all k h ∙ sym (ap flag c.if-b.true)
