-- `settings::has` meets its contract: the bit of v, moved down and masked.
-- Assumes nothing.
use mathlib.Core.Path.{◌∙◌}
use Rattle.tables.proofs.SettingLaws.{bit_tested}
use Rattle.tables.proofs.settings.has.Goals as goal

pub returns : goal.returns
returns c = λ p i. bit_tested c.args.s c.args.v ∙ i.each c.args.v c.requires.0 c.requires.1
