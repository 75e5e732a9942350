use Rattle.std.proofs.Common.{[], ap, sym, ◌∙◌}
use Rattle.std.specs.Prelude.{is_some, option_copied}
use Rattle.std.specs.Option.{option_map_or}
use Rattle.mas_types.specs.declared.queues.Setting.{Setting}
use Rattle.job_select.specs.Indexes.{for_classes}
use Rattle.queue_commands.proofs.UnitLemmas.{none_executed}
use Rattle.queue_indexed.proofs.ToldUnits.{told}
use Rattle.queue_indexed.proofs.units.any_to_execute.Goals as goal

pub returns-in-Some : goal.returns-in-Some
returns-in-Some c = λ Q tell.
    c.any_exec.ensures Q (told c.args.index.now c.args.tables.now Q c.requires tell)
    ∙ ap (λ ks. is_some (for_classes ks Q)) (sym (ap (λ s. option_map_or (λ (z : Setting). z.init) s []) (c.setting.ensures Q tell ∙ ap option_copied c.in-Some.is)))

pub returns-in-None : goal.returns-in-None
returns-in-None c = λ Q tell. sym (ap is_some (none_executed Q c.args.by (c.setting.ensures Q tell ∙ ap option_copied c.in-None.is)))
