-- `span::span` meets its contract: it is the extent of the rule in that part.
use Rattle.bodies.proofs.span.span.Goals as goal

pub extent-requires : goal.extent-requires
extent-requires c = record {
  rule = c.requires.0.rule;
  at = record { stands = c.requires.0.stands; few = c.requires.1; formed = c.requires.0.formed };
}

pub returns : goal.returns
returns c = λ a stands formed. c.extent.ensures a (record { stands = stands; few = c.requires.1; formed = formed })
