-- `Part::at` meets its contract: a word is four bytes, and the count stands before the entries.
-- Assumes nothing.
use Rattle.std.proofs.Common.{◌+◌, refl, arith}
use Rattle.tables.proofs.WordLaws.{words_length, words_from}
use Rattle.tables.proofs.part.Part.at.Goals as goal

pub slice_bounds-result-start : goal.slice_bounds-result-start
slice_bounds-result-start c = omega (arith, words_length c.args.table.now, c.requires)

pub slice_bounds-result-count : goal.slice_bounds-result-count
slice_bounds-result-count c = omega (arith, words_length c.args.table.now, c.requires)

pub slice_bounds-result-start-2 : goal.slice_bounds-result-start-2
slice_bounds-result-start-2 c = omega (arith, words_length c.args.table.now, c.requires)

pub slice_bounds-result-count-2 : goal.slice_bounds-result-count-2
slice_bounds-result-count-2 c = omega (arith, words_length c.args.table.now, c.requires)

pub returns : goal.returns
returns c = record {
  entries_are = words_from c.args.table.now (c.args.node + 1);
  bodies_are = words_from c.args.table.now c.args.place;
  node_is = refl;
  place_is = refl;
}
