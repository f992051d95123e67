-- `rebuild::closed` meets its contract: what stands built becomes the table, or it has no room.
-- Assumes nothing.
use mathlib.Core.Path.{sym, ◌∙◌}
use Rattle.rules.specs.Rule.{Rule}
use Rattle.rules.specs.Table.{nodes}
use Rattle.rules.specs.Calls.{words}
use Rattle.tables.proofs.WordLaws.{same_words}
use Rattle.builder.specs.Built.{Built}
use Rattle.elimination.specs.Stepping.{Closing}
use Rattle.elimination.proofs.RebuildLaws.{stood_asks, stood_built, fits_asks, finish_asks, stepped, too_large}
use Rattle.elimination.proofs.rebuild.closed.Goals.{After-stood-b}
use Rattle.elimination.proofs.rebuild.closed.Goals as goal

-- what is built, where the rule f is to be closed
built : (c : After-stood-b) (f : Rule)
    → Closing (words c.args.table.now) (words c.args.work.now) c.args.room c.args.folded f
    → Built (words c.stood-b.new.out) c.stood-b.result (nodes f)
built c f k = stood_built k c.start.ensures c.stood-b.ensures

pub stood-b-requires : goal.stood-b-requires
stood-b-requires c = stood_asks c.requires.closing c.start.ensures

pub fits-requires : goal.fits-requires
fits-requires c =
    let k = c.requires.closing in
    fits_asks k (built (goal.at.fits-requires c).After-stood-b _ k)

pub returns-then-not-fits : goal.returns-then-not-fits
returns-then-not-fits c = λ f k.
    let there = built (goal.at.returns-then-not-fits c).After-stood-b f k in
    too_large _ f _ (sym (c.fits.ensures _ f there) ∙ c.if-not-fits.true)

pub finish-requires : goal.finish-requires
finish-requires c =
    let k = c.requires.closing in
    let there = built (goal.at.finish-requires c).After-stood-b _ k in
    record {
      rule = _;
      finishable = finish_asks k there (same_words _ _ c.stood-b.auto.out)
          (sym (c.fits.ensures _ _ there) ∙ c.if-not-fits.false);
    }

pub returns : goal.returns
returns c = λ f k.
    let there = built (goal.at.returns c).After-stood-b f k in
    let has_room = sym (c.fits.ensures _ f there) ∙ c.if-not-fits.false in
    stepped _ f _ has_room (c.finish.ensures f (finish_asks k there (same_words _ _ c.stood-b.auto.out) has_room))
