-- `place::node` meets its contract: the entry is put, then the kind, then field after field.
use Rattle.std.proofs.Common.{◌≡◌, ℕ, List, ◌∷◌, ◌+◌, ◌≤◌, pos, get_or, set, to_z, w32, length, map, take, ap, ◌∙◌}
use Rattle.std.proofs.Common.{subst, arith}
use lib.Seq.{take-length}
use Rattle.rules.specs.Sum.{limit}
use Rattle.rules.specs.Calls.{words}
use Rattle.tables.specs.Kinds.{number_of}
use Rattle.tables.proofs.WordLaws.{same_words}
use Rattle.finishing.proofs.NodeLaws.{put_is}
use Rattle.finishing.proofs.RunLaws.{Stored, run_one}
use Rattle.questions.proofs.PlaceLaws.{entry_stored, word_stored, words_of, words_long, words_more, kind_low, tag_is}
use Rattle.questions.proofs.place.node.Goals as goal
use Rattle.questions.proofs.place.node.Goals.{At-loop-j}

pub loop-j-init : goal.loop-j-init
loop-j-init c =
    let args = c.args in
    let free = c.requires.0 in
    let low : args.to ≤ limit = omega (arith, free.bodies, free.most) in
    let many = same_words c.put.new.b args.table.now c.put.auto.b in
    let entry = entry_stored {i = args.i} free.entries
    (put_is (words args.table.now) _ (args.i + 1) args.to low c.put.ensures.0) in
    let k = number_of args.kind in
    word_stored (pos k) entry (omega arith) (omega (arith, free.bodies, many))
    (put_is (words c.put.new.b) _ args.to k (kind_low args.kind)
    (c.put-2.ensures.0 ∙ ap (λ (n : ℕ). set (words c.put.new.b) args.to (to_z w32 n)) (tag_is args.kind)))

-- the table has as many words as before
many : (c : At-loop-j) → length (words c.loop-j.table) ≡ length (words c.args.table.now)
many c = same_words c.loop-j.table c.args.table.now (c.loop-j.auto.table ∙ c.put-2.auto.b ∙ c.put.auto.b)

pub put-requires-in-loop-j : goal.put-requires-in-loop-j
put-requires-in-loop-j c = omega (arith, c.requires.0.bodies, many (goal.at.put-requires-in-loop-j c).At-loop-j)

pub loop-j-preserved : goal.loop-j-preserved
loop-j-preserved c =
    let fields = c.args.fields.now in
    let j = c.loop-j.j in
    let here : c.args.to + 1 + j ≡ c.args.to + length (words_of c.args.kind fields j) =
    omega (arith, words_long c.args.kind fields j (omega arith)) in
    let field = pos (get_or fields j 0) in
    let stored = word_stored field c.loop-j.invariant here
    (omega (arith, c.requires.0.bodies, many (goal.at.loop-j-preserved c).At-loop-j))
    (put_is (words c.loop-j.table) _ (c.args.to + 1 + j) (get_or fields j 0) (c.requires.1 j c.loop-j-test.true)
    c.put-in-loop-j.ensures.0) in
    subst (Stored (words c.args.table.now) (words c.put-in-loop-j.new.b) c.args.i c.args.to)
    (words_more c.args.kind fields j c.loop-j-test.true) stored

pub returns : goal.returns
returns c = λ d e.
    let fields = c.args.fields.now in
    let all : c.loop-j.j ≡ length fields = omega arith in
    let whole = ap (λ (j : ℕ). take j fields) all ∙ take-length fields in
    run_one d e
    (subst (λ (l : List ℕ). Stored (words c.args.table.now) (words c.loop-j.table) c.args.i c.args.to
    (pos (number_of c.args.kind) ∷ map pos l)) whole c.loop-j.invariant)
