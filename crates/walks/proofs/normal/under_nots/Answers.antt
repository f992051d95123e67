-- `normal::under_nots` meets its contract: the run is gone down, and its nodes are counted.
-- Assumes nothing.
use native.Mathlib.Omega.{arith}
use Rattle.walks.proofs.PartLaws.{chain_in, chain_asks, behind_asks}
use Rattle.walks.proofs.NotsLaws.{under_found}
use Rattle.walks.proofs.normal.under_nots.Goals as goal

pub chain-nots-requires : goal.chain-nots-requires
chain-nots-requires c = (chain_asks c.args.part c.requires.at, omega arith)

pub behind-requires : goal.behind-requires
behind-requires c = behind_asks (chain_in c.args.part c.chain-nots.ensures c.requires.rule c.requires.at)

pub returns : goal.returns
returns c = under_found c.requires c.chain-nots.ensures c.behind.ensures
