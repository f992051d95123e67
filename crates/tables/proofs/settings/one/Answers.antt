-- `settings::one` meets its contract: the shifted bit is that of v.
-- Assumes nothing.
use Rattle.tables.proofs.SettingLaws.{one_setting, one_shifted}
use Rattle.tables.proofs.settings.one.Goals as goal

pub returns : goal.returns
returns c = rw (one_shifted c.args.v c.requires.1) (one_setting c.args.v c.requires.0 c.requires.1)
