use Rattle.std.proofs.Common.{ap, ◌∙◌}
use Rattle.lay_bytes.specs.Fields.{first_bad}
use Rattle.lay_bytes.proofs.SlotLemmas.{none_some}
use Rattle.ckpt_pages.specs.Fields.{setting_fields}
use Rattle.ckpt_pages.specs.Kinds.{setting_good}
use Rattle.ckpt_pages.proofs.kinds.SettingEntry.read.Goals as goal

pub returns-in_default-clause-bad : goal.returns-in_default-clause-bad
returns-in_default-clause-bad c h x fit e = none_some _ _ (ap (first_bad 0 setting_fields) e ∙ setting_good x fit) c.in_default.ensures.err

pub returns-clause-found : goal.returns-clause-found
returns-clause-found c = c.in-Ok-setting_of.ensures
