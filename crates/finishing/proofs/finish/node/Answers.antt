-- `finish::node` meets its contract: its entry is put, its body copied, and of a join the right child's number put.
use Rattle.std.proofs.Common.{◌+◌, ◌≤◌, arith}
use Rattle.rules.specs.Sum.{limit}
use Rattle.rules.specs.Calls.{words}
use Rattle.tables.proofs.WordLaws.{words_length, same_words}
use Rattle.builder.proofs.EndLaws.{number_fits}
use Rattle.finishing.proofs.NodeLaws.{ReadNode, CopiedNode, a_join_kind, no_join_kind, kinded, put_is}
use Rattle.finishing.proofs.NodeLaws.{copy_inside, second_inside, child_low, other_placed, join_placed}
use Rattle.finishing.proofs.finish.node.Goals as goal
use Rattle.finishing.proofs.finish.node.Goals.{After-width-width, After-copy}

pub at-kind-requires : goal.at-kind-requires
at-kind-requires c = kinded c.requires.placeable

-- what is known once the width is, and once the body is copied
read_node : (c : After-width-width) → ReadNode (words c.args.work.now) c.args.from c.at-kind.result c.width-width.result
read_node c = record {
  first = c.at-kind.ensures;
  wide = c.width-width.ensures.0;
}

copied_node : (c : After-copy) → ReadNode (words c.args.work.now) c.args.from c.at-kind.result c.width-width.result
    → CopiedNode (words c.args.work.now) c.args.from (words c.args.table.now) c.args.i c.args.to c.at-kind.result
    c.width-width.result (words c.copy.new.table)
copied_node c read =
    let low : c.args.to ≤ limit = omega (arith, c.requires.placeable.free.most) in
    record {
      read = read;
      vs = words c.put.new.b;
      entry = put_is (words c.args.table.now) _ (c.args.i + 1) c.args.to low c.put.ensures.0;
      copied = c.copy.ensures;
    }

pub copy-requires : goal.copy-requires
copy-requires c =
    let (here, there) = copy_inside c.requires.placeable (read_node (goal.at.copy-requires c).After-width-width) in
    (here, omega (arith, there, same_words c.put.new.b c.args.table.now c.put.auto.b))

pub overflow_add-from : goal.overflow_add-from
overflow_add-from c =
    let (here, _) = second_inside c.requires.placeable (read_node (goal.at.overflow_add-from c).After-width-width)
    (a_join_kind _ c.in-And.is) in
    omega (arith, here, words_length c.args.work.now)

pub natural-distance-requires : goal.natural-distance-requires
natural-distance-requires c =
    (second_inside c.requires.placeable (read_node (goal.at.natural-distance-requires c).After-width-width)
    (a_join_kind _ c.in-And.is)).0

pub overflow_cast-distance : goal.overflow_cast-distance
overflow_cast-distance c =
    number_fits _
    (child_low c.requires.placeable (read_node (goal.at.overflow_cast-distance c).After-width-width)
    (a_join_kind _ c.in-And.is) c.natural-distance.result c.natural-distance.ensures.1)

pub put-requires-in-And : goal.put-requires-in-And
put-requires-in-And c =
    let many = same_words c.put.new.b c.args.table.now c.put.auto.b in
    let still = same_words c.copy.new.table c.put.new.b c.copy.auto.table in
    let (_, there) = second_inside c.requires.placeable (read_node (goal.at.put-requires-in-And c).After-width-width)
    (a_join_kind _ c.in-And.is) in
    omega (arith, there, many, still)

pub returns-in-And : goal.returns-in-And
returns-in-And c = λ d h.
    let read = read_node (goal.at.returns-in-And c).After-width-width in
    let copied = copied_node (goal.at.returns-in-And c).After-copy read in
    let two = a_join_kind _ c.in-And.is in
    let u = c.natural-distance.result in
    let child = c.natural-distance.ensures.1 in
    join_placed h copied two u child _
    (put_is (words c.copy.new.table) _ (c.args.to + 1) (u + c.args.shift) (child_low h copied.read two u child)
    c.put-in-And.ensures.0)

pub returns-in_default : goal.returns-in_default
returns-in_default c = λ d h.
    let read = read_node (goal.at.returns-in_default c).After-width-width in
    other_placed h (copied_node (goal.at.returns-in_default c).After-copy read)
    (no_join_kind _ c.in_default.not-And c.in_default.not-Or)
