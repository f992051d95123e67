-- `Bound::first` meets its contract: each of the bounds is read from a literal, and those before the answer differ.
-- Assumes nothing.
use Rattle.std.proofs.Common.{rules, tests, sym, subst}
use Rattle.std.proofs.lemmas.Iterator.{YieldsList-from_slice, IsFirst-from_position}
use Rattle.std.proofs.lemmas.Iterator.Adapters.{serves_from_places}
use Rattle.std.proofs.lemmas.List.{get_or_read}
use Rattle.rules.specs.Calls.{words}
use Rattle.bodies.specs.declared.bound.Bound.{Bound}
use Rattle.bodies.specs.Bounds.{Alike, OfLiteral, none}
use Rattle.bodies.proofs.KeptLaws.{first_is}
use Rattle.bodies.proofs.bound.Bound.first.Goals as goal

pub position-requires-clause-callable : goal.position-requires-clause-callable
position-requires-clause-callable c =
    serves_from_places (YieldsList-from_slice c.args.bounds.now c.iter.ensures.rest) (λ x q k. search (rules, tests))
    (λ x k inside is.
    let same = get_or_read c.args.bounds.now k x.now inside is none in
    let of = subst (OfLiteral (words c.args.bodies.now)) (sym same) (c.requires.1 k inside) in
    search (rules, of))

pub returns : goal.returns
returns c =
    let same : Bound → Type 0 = λ b. Alike (words c.args.bodies.now) b.place c.args.self.place in
    first_is (words c.args.bodies.now) c.args.bounds.now c.args.self c.position.result
    (IsFirst-from_position _ _ c.position.result same (λ b. ¬ same b) c.position.ensures.ran
    (YieldsList-from_slice c.args.bounds.now c.iter.ensures.rest) (λ x q k. search (rules, tests))
    (λ x q k. search (rules, tests)))
