-- `next` meets its contract: nodes are passed up to the next literal, which comes; none is left at the end.
use Rattle.std.proofs.Common.{arith}
use Rattle.bodies.proofs.CursorLaws.{own, none_left, node_there, some_words, left_behind, literal_comes}
use Rattle.bodies.proofs.cursor.LiteralsIterator.next.Goals as goal

pub natural-requires : goal.natural-requires
natural-requires c =
    let some = own (c.loop-self.invariant.1 _ _ _ c.requires.left) c.requires.few in
    node_there some.left c.loop-self-test.true

pub overflow_add-self : goal.overflow_add-self
overflow_add-self c =
    let some = own (c.loop-self.invariant.1 _ _ _ c.requires.left) c.requires.few in
    let there = node_there some.left c.loop-self-test.true in
    omega (arith, there, some.few, c.width-width.ensures.1)

pub returns-then-width-gt7-clause-steps : goal.returns-then-width-gt7-clause-steps
returns-then-width-gt7-clause-steps c = λ bs end ls l.
    literal_comes (c.loop-self.invariant.1 bs end ls l) c.loop-self-test.true c.natural.result c.width-width.result
    c.natural.ensures.1 c.width-width.ensures.0 c.if-width-gt7.true

pub returns-then-width-gt7-clause-goes : goal.returns-then-width-gt7-clause-goes
returns-then-width-gt7-clause-goes c =
    let l = c.loop-self.invariant.1 _ _ _ c.requires.left in
    let came = literal_comes l c.loop-self-test.true c.natural.result c.width-width.result c.natural.ensures.1
    c.width-width.ensures.0 c.if-width-gt7.true in
    let some = own came.left c.requires.few in
    record {
      on = λ f. (some, tt, omega (arith, l.ends, c.loop-self.invariant.0, c.loop-self-test.true, c.if-width-gt7.true));
      keeps = some;
      rests = λ f. tt;
    }

pub loop-self-smaller : goal.loop-self-smaller
loop-self-smaller c =
    let some = own (c.loop-self.invariant.1 _ _ _ c.requires.left) c.requires.few in
    let (least, _) = some_words some.left c.loop-self-test.true c.natural.result c.width-width.result
    c.natural.ensures.1 c.width-width.ensures.0 in
    omega (arith, least, c.loop-self-test.true)

pub loop-self-preserved : goal.loop-self-preserved
loop-self-preserved c = (
  omega (arith, c.loop-self.invariant.0),
  λ bs end ls l. left_behind (c.loop-self.invariant.1 bs end ls l) c.loop-self-test.true c.natural.result
      c.width-width.result c.natural.ensures.1 c.width-width.ensures.0 (omega (arith, c.if-width-gt7.false)),
)

pub returns-clause-steps : goal.returns-clause-steps
returns-clause-steps c = λ bs end ls l. none_left (c.loop-self.invariant.1 bs end ls l) c.loop-self-test.false
