-- `both::both` meets its contract: the right side settles the join, or both sides are joined.
-- Assumes nothing.
use Rattle.walks.proofs.PairLaws.{settled_pair, joined_asks, joined_pair}
use Rattle.walks.proofs.both.both.Goals as goal

pub returns-then-settles : goal.returns-then-settles
returns-then-settles c = settled_pair _ _ _ _ _ c.if-settles.true c.settles.ensures

pub joined-requires : goal.joined-requires
joined-requires c =
    joined_asks _ _ _ _ _ c.if-settles.false c.settles.ensures c.requires

pub returns : goal.returns
returns c =
    joined_pair _ _ _ _ _ _ _ c.if-settles.false c.settles.ensures c.joined.ensures
