use Rattle.std.proofs.Common.{ap, sym, ◌∙◌}
use Rattle.std.specs.Prelude.{is_some, option_copied}
use Rattle.queue_commands.proofs.UnitLemmas.{none_printed}
use Rattle.queue_indexed.proofs.ToldUnits.{told}
use Rattle.queue_indexed.proofs.units.any_to_pick.Goals as goal

pub returns-in-Some : goal.returns-in-Some
returns-in-Some c = λ Q tell.
    c.any_output.ensures Q (told c.args.index.now c.args.tables.now Q c.requires.indexed tell) (c.setting.ensures Q tell ∙ ap option_copied c.in-Some.is)

pub returns-in-None : goal.returns-in-None
returns-in-None c = λ Q tell. sym (ap is_some (none_printed Q c.args.by (c.setting.ensures Q tell ∙ ap option_copied c.in-None.is)))
