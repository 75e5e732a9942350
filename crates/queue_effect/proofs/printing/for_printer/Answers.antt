use Rattle.std.proofs.Common.{ap, ◌∙◌}
use Rattle.std.specs.Prelude.{option_copied}
use Rattle.queue_effect.proofs.UnitLemmas.{none_printed}
use Rattle.queue_effect.proofs.printing.for_printer.Goals as goal

pub returns-in-None-clause-none : goal.returns-in-None-clause-none
returns-in-None-clause-none c = λ Q stands. none_printed Q c.args.by (c.setting.ensures Q stands ∙ ap option_copied c.in-None.is)
