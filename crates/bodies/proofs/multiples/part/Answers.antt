-- `multiples::part` meets its contract: a literal brings what the setting, or none, asks for.
use Rattle.std.proofs.Common.{Option, ℕ, sym, ap, ◌∙◌}
use Rattle.whole.specs.Multiples.{lcms}
use Rattle.bodies.specs.Multiples.{brought}
use Rattle.bodies.proofs.multiples.part.Goals as goal

pub returns-in-Some : goal.returns-in-Some
returns-in-Some c = λ end t s ls l.
    c.size.ensures end t s ls l ∙ ap (λ (o : Option ℕ). lcms (brought o t s)) (sym c.in-Some.is)

pub returns-in-None : goal.returns-in-None
returns-in-None c = λ end t s ls l.
    c.divisor.ensures end t s ls l ∙ ap (λ (o : Option ℕ). lcms (brought o t s)) (sym c.in-None.is)
