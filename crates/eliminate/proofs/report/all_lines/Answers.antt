-- `all_lines` meets its contract: the answer's line, and those of the table where there is one.
use Rattle.std.proofs.Common.{◌≡◌, ◌∙◌, arith}
use Rattle.rules.specs.Rule.{Rule}
use Rattle.rules.specs.Result.{Result, given}
use Rattle.rules.specs.Table.{nodes}
use Rattle.rules.specs.Calls.{words}
use Rattle.rules.proofs.Sizes.{size_is}
use Rattle.tables.proofs.Standings.{size_there}
use Rattle.leaveoff.specs.Outcome.{answer_of}
use Rattle.text.proofs.PlacedLaws.{puts_left}
use Rattle.eliminate.specs.Printed.{LeftBy}
use Rattle.eliminate.proofs.PrintedLaws.{refused_put, TableRead, table_left, table_read, table_put}
use Rattle.eliminate.proofs.PrintedLaws.{inside, listed_as, listed, counts}
use Rattle.eliminate.proofs.report.all_lines.Goals as goal
use Rattle.eliminate.proofs.report.all_lines.Goals.{After-natural-n}

-- the table that any result left, once its nodes are counted
the_table : (c : After-natural-n) (x : Result Rule) → LeftBy x (answer_of c.args.a) (words c.args.out.now)
    → (r : Rule) × (x ≡ given r) × TableRead c.args.out.now c.natural-n.result c.args.a.words r
the_table c x left =
    table_read x c.args.out.now left c.if-a-eq0.true c.natural-n.result c.natural-n.ensures.1

-- that of the one that is asked for
some_table : (c : After-natural-n) → (r : Rule) × TableRead c.args.out.now c.natural-n.result c.args.a.words r
some_table c =
    let some = c.requires.left in
    let (r, is, t) = the_table c some.result some.left in (r, t)

pub natural-n-requires : goal.natural-n-requires
natural-n-requires c =
    let some = c.requires.left in
    let (r, is, long, held) = table_left some.result some.left c.if-a-eq0.true in
    omega (arith, size_there held.table, size_is r)

pub slice_bounds-lines-count : goal.slice_bounds-lines-count
slice_bounds-lines-count c =
    omega (arith, inside (some_table (goal.at.slice_bounds-lines-count c).After-natural-n).1)

pub slice_bounds-lines-start : goal.slice_bounds-lines-start
slice_bounds-lines-start c =
    omega (arith, inside (some_table (goal.at.slice_bounds-lines-start c).After-natural-n).1)

pub slice_bounds-lines-end : goal.slice_bounds-lines-end
slice_bounds-lines-end c =
    omega (arith, inside (some_table (goal.at.slice_bounds-lines-end c).After-natural-n).1)

pub lines-requires-clause-listed : goal.lines-requires-clause-listed
lines-requires-clause-listed c = listed (some_table (goal.at.lines-requires-clause-listed c).After-natural-n).1

pub lines-requires-clause-few : goal.lines-requires-clause-few
lines-requires-clause-few c =
    let t = (some_table (goal.at.lines-requires-clause-few c).After-natural-n).1 in
    omega (arith, counts t, inside t)

pub lines-requires-clause-room : goal.lines-requires-clause-room
lines-requires-clause-room c =
    let t = (some_table (goal.at.lines-requires-clause-room c).After-natural-n).1 in
    omega (arith, counts t, inside t, puts_left c.four.ensures.line)

pub returns-then-a-eq0-clause-lines : goal.returns-then-a-eq0-clause-lines
returns-then-a-eq0-clause-lines c = λ x left.
    let (r, is, t) = the_table (goal.at.returns-then-a-eq0-clause-lines c).After-natural-n x left in
    table_put left is c.four.ensures.line (c.lines.ensures.lines (nodes r) (listed_as t))

pub returns-then-a-eq0-clause-short : goal.returns-then-a-eq0-clause-short
returns-then-a-eq0-clause-short c =
    let t = (some_table (goal.at.returns-then-a-eq0-clause-short c).After-natural-n).1 in
    omega (arith, c.lines.ensures.short, counts t, inside t, c.four.ensures.short)

pub returns-else-a-eq0-clause-lines : goal.returns-else-a-eq0-clause-lines
returns-else-a-eq0-clause-lines c = λ x left. refused_put x left c.if-a-eq0.false c.four.ensures.line

pub returns-then-a-eq0-clause-same_reference : goal.returns-then-a-eq0-clause-same_reference
returns-then-a-eq0-clause-same_reference c =
    let (r, t) = some_table (goal.at.returns-then-a-eq0-clause-same_reference c).After-natural-n in
    (c.lines.ensures.lines (nodes r) (listed_as t)).same_reference ∙ c.four.ensures.line.same_reference
