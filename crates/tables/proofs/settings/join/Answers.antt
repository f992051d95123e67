-- `settings::join` meets its contract: the bits of either.
-- Assumes nothing.
use Rattle.tables.proofs.SettingLaws.{joined_settings}
use Rattle.tables.proofs.settings.join.Goals as goal

pub returns : goal.returns
returns c = joined_settings _ _
