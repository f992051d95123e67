-- `span::last_child` meets its contract: the root's kind tells how many children it has, and where the last one stands.
use Rattle.bodies.proofs.SpanLaws.{has_two, has_one, has_none, join_in, behind_there, ends_only, leaf}
use Rattle.bodies.proofs.span.last_child.Goals as goal

pub right-requires : goal.right-requires
right-requires c =
    join_in c.args.part c.kind-kind.result (has_two _ c.in-And.is) _ (c.kind-kind.ensures _ c.requires.at) c.requires.at

pub behind-requires : goal.behind-requires
behind-requires c =
    behind_there c.args.part c.kind-kind.result (has_one _ c.in-Not.is) _ (c.kind-kind.ensures _ c.requires.at)
    c.requires.at c.width.result c.width.ensures.0

pub returns-in-Not : goal.returns-in-Not
returns-in-Not c = λ a at.
    ends_only c.args.part c.kind-kind.result (has_one _ c.in-Not.is) a (c.kind-kind.ensures a at) at c.width.result
    c.width.ensures.0 c.behind.ensures

pub returns-in_default : goal.returns-in_default
returns-in_default c = λ a at.
    let no = c.in_default in
    leaf c.args.part c.kind-kind.result (has_none _ no.not-And no.not-Or no.not-Not no.not-ForSome no.not-ForAll) a
    (c.kind-kind.ensures a at) at
