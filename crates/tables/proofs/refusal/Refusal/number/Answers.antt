-- `Refusal::number` meets its contract: an enum counts its variants from 0, and the paper its refusals from 1.
-- Assumes nothing.
use Rattle.std.proofs.Common.{◌≡◌, ◌+◌, refl}
use denote.Enum.Declared.{tag_of}
use Rattle.tables.specs.contracts.refusal.Refusal.{the_type}
use Rattle.tables.specs.declared.refusal.Refusal.{Refusal}
use Rattle.tables.specs.declared.refusal.Refusal.TheVariants.{Length, Contents, Node, Tree, Number, Room, Multiple}
use Rattle.tables.specs.declared.refusal.Refusal.TheVariants.{Setting, Value, Quantifier}
use Rattle.tables.specs.Refusals.{number_of}
use Rattle.tables.proofs.refusal.Refusal.number.Goals as goal

counted : (r : Refusal) → tag_of the_type r + 1 ≡ number_of r
unfolding number_of
counted Length = refl
counted Contents = refl
counted Node = refl
counted Tree = refl
counted Number = refl
counted Room = refl
counted Multiple = refl
counted Setting = refl
counted Value = refl
counted Quantifier = refl

pub returns : goal.returns
returns c = counted c.args.self
