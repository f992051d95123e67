-- `answers::joined` meets its contract, by the two bits of each value.
-- Assumes nothing.
use Rattle.judging.proofs.SaidLaws.{says_and, says_or}
use Rattle.judging.proofs.answers.joined.Goals as goal

pub returns-then-and : goal.returns-then-and
returns-then-and c = λ k a b l r. says_and a b l r c.if-and.true

pub returns : goal.returns
returns c = λ k a b l r. says_or a b l r c.if-and.false
