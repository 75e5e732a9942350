use Rattle.std.proofs.Common.{ap, sym, ◌∙◌}
use Rattle.std.specs.Prelude.{is_some, option_copied}
use Rattle.queue_effect.proofs.UnitLemmas.{none_printed}
use Rattle.queue_effect.proofs.units.may_pick.Goals as goal

pub returns-in-None : goal.returns-in-None
returns-in-None c = λ Q stands. sym (ap is_some (none_printed Q c.args.by (c.setting.ensures Q stands ∙ ap option_copied c.in-None.is)))
