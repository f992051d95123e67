-- `Part::behind` meets its contract: a word is four bytes.
-- Assumes nothing.
use Rattle.std.proofs.Common.{refl, arith}
use Rattle.tables.proofs.WordLaws.{words_length, words_from}
use Rattle.tables.proofs.part.Part.behind.Goals as goal

pub slice_bounds-result-start : goal.slice_bounds-result-start
slice_bounds-result-start c = omega (arith, words_length c.args.self.entries.now, c.requires)

pub slice_bounds-result-count : goal.slice_bounds-result-count
slice_bounds-result-count c = omega (arith, words_length c.args.self.entries.now, c.requires)

pub slice_bounds-result-start-2 : goal.slice_bounds-result-start-2
slice_bounds-result-start-2 c = omega (arith, words_length c.args.self.bodies.now, c.requires)

pub slice_bounds-result-count-2 : goal.slice_bounds-result-count-2
slice_bounds-result-count-2 c = omega (arith, words_length c.args.self.bodies.now, c.requires)

pub returns : goal.returns
returns c = record {
  entries_are = words_from c.args.self.entries.now c.args.nodes;
  bodies_are = words_from c.args.self.bodies.now c.args.words;
  node_is = refl;
  place_is = refl;
}
