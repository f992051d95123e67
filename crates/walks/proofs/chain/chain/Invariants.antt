use Rattle.rules.specs.Calls.{words}
use Rattle.walks.proofs.DownLaws.{Reached}
use Rattle.walks.proofs.chain.chain.Given as goal

abbrev pub invariant-loop-nodes : goal.invariant-loop-nodes
invariant-loop-nodes l = Reached (words l.bodies) l.nodes l.words
