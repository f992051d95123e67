-- `lines` meets its contract: each node's words are there, and make its line.
use Rattle.std.proofs.Common.{◌≡◌, ℕ, pos, ◌+◌, ◌*◌, ◌-◌, ◌≤◌, List, length, take, drop, length-take, length-drop, ap, arith}
use Rattle.rules.specs.Calls.{words as words_of}
use Rattle.tables.proofs.WordLaws.{words_length, words_between}
use Rattle.text.specs.Lines.{line}
use Rattle.text.proofs.PlacedLaws.{puts_as, puts_left}
use Rattle.text.proofs.NodeLaws.{all_nodes, kinded_there, body_there, one_node}
use Rattle.text.proofs.lent.Text.lines.Goals as goal
use Rattle.text.proofs.lent.Text.lines.Goals.{After-width}

-- the node's words are there
there : (c : After-width) → c.loop-i.place + c.width.result ≤ length (words_of c.args.bodies.now)
there c =
    body_there c.loop-i.invariant.going c.loop-i-test.true c.at.result
    c.at.ensures c.width.result c.width.ensures.0 c.requires.listed

-- the part that is lent, and its words
abbrev part : After-width → List ℕ
part c =
    take ((c.loop-i.place + c.width.result) * 4 - c.loop-i.place * 4) (drop (c.loop-i.place * 4) c.args.bodies.now)

words_lent : (c : After-width)
    → words_of (part c) ≡ take c.width.result (drop c.loop-i.place (words_of c.args.bodies.now))
words_lent c = words_between c.args.bodies.now c.loop-i.place c.width.result

count_lent : (c : After-width) → length (words_of (part c)) ≡ c.width.result
count_lent c =
    let all = words_of c.args.bodies.now in
    omega (
      arith,
      ap length (words_lent c),
      length-take c.width.result (drop c.loop-i.place all),
      length-drop c.loop-i.place all,
      there c,
    )

pub at-requires : goal.at-requires
at-requires c = kinded_there c.loop-i.invariant.going c.loop-i-test.true c.requires.listed

pub slice_bounds-line-end : goal.slice_bounds-line-end
slice_bounds-line-end c =
    omega (arith, there (goal.at.slice_bounds-line-end c).After-width, words_length c.args.bodies.now)

pub line-requires : goal.line-requires
line-requires c =
    let here = (goal.at.line-requires c).After-width in
    omega (arith, there here, count_lent here)

pub loop-i-preserved : goal.loop-i-preserved
loop-i-preserved c =
    let here = (goal.at.loop-i-preserved c).After-width in
    let its_line = puts_as c.line.ensures.line (ap (line (pos c.loop-i.i)) (words_lent here)) in
    record {
      going = one_node c.loop-i.invariant.going c.loop-i-test.true c.at.result c.at.ensures
          c.width.result c.width.ensures.0 its_line;
      short = omega (arith, c.line.ensures.short, count_lent here);
      within = there here;
      long = omega (arith, puts_left c.line.ensures.line);
    }

pub returns-clause-lines : goal.returns-clause-lines
returns-clause-lines c = all_nodes c.loop-i.invariant.going (omega arith)
