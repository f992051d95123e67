-- `finish::copy` meets its contract: up to the place that the copy has come to, the words are there.
-- Assumes nothing.
use Rattle.std.proofs.Common.{◌∙◌, arith}
use mir.Syntax.{w32}
use mir.Facts.{to_z-of_z}
use borrow.Author.Rules.{sfits_of}
use Rattle.tables.proofs.WordLaws.{words_length, same_words}
use Rattle.finishing.proofs.CopyLaws.{copied_none, copied_more, copied_all}
use Rattle.finishing.proofs.finish.copy.Goals as goal

pub loop-j-init : goal.loop-j-init
loop-j-init c = copied_none _ _ _ _

pub overflow_add-to : goal.overflow_add-to
overflow_add-to c = omega (arith, words_length c.args.table.now)

pub overflow_add-from : goal.overflow_add-from
overflow_add-from c = omega (arith, words_length c.args.work.now)

pub put-requires : goal.put-requires
put-requires c =
    omega (arith, same_words c.loop-j.table c.args.table.now c.loop-j.auto.table)

pub loop-j-preserved : goal.loop-j-preserved
loop-j-preserved c =
    let many = same_words c.loop-j.table c.args.table.now c.loop-j.auto.table in
    copied_more _ _ _ _ _ _ c.loop-j.j _ c.loop-j.invariant (omega arith) (omega (arith, many))
    (to_z-of_z {w = w32} (sfits_of c.get.type_inv) ∙ c.get.ensures) c.put.ensures.0

pub returns : goal.returns
returns c =
    copied_all _ _ _ _ _ c.loop-j.j _ c.loop-j.invariant (omega arith) (omega arith)
