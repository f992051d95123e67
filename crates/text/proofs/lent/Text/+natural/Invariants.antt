-- `natural` ends, since a tenth is less.
use Rattle.text.proofs.lent.Text.+natural.Given as goal

abbrev pub decreases-natural : goal.decreases-natural
decreases-natural l = l.n
