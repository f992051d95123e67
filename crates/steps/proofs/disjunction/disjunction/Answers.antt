-- `disjunction::disjunction` meets its contract: the full bodies are answered, then the far-left ones in front.
-- Assumes nothing.
use Rattle.steps.proofs.disjunction.disjunction.Goals as goal

pub far_bodies-requires : goal.far_bodies-requires
far_bodies-requires c =
    let some = c.requires in
    record {
      rule = some.rule;
      others = _;
      tail = some.tail;
      to_come = c.full_bodies-full.ensures some.rule some.tail some.disjoining;
    }

pub returns : goal.returns
returns c =
    λ a ds start. c.far_bodies.ensures a _ ds (c.full_bodies-full.ensures a ds start)
