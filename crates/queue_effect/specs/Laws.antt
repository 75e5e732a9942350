-- Which tables are fit for commands.
use Rattle.ckpt_tables.specs.declared.tables.Tables.{Tables}
use Rattle.ckpt_tables.specs.Shape.{HasShape}
use Rattle.ckpt_pages.specs.Sound.{AreSound}
use Rattle.queue_effect.specs.Standing.{AreFit}

-- sound tables are fit
abbrev pub SoundAreFit : Type 0
SoundAreFit = (t : Tables) → HasShape t → AreSound t → AreFit t
