use Rattle.std.proofs.Common.{ap, ◌∙◌}
use Rattle.std.specs.Prelude.{is_some}
use Rattle.mas_types.specs.declared.jobs.Job.{Job}
use Rattle.mas_types.specs.Queue.{first_in, in_purge}
use Rattle.queue_indexed.proofs.ToldUnits.{told, is_some-map}
use Rattle.queue_indexed.proofs.units.any_to_purge.Goals as goal

pub returns : goal.returns
returns c = λ Q tell.
    c.is_some.ensures
    ∙ ap is_some (c.purge.ensures Q (told c.args.index.now c.args.tables.now Q c.requires tell))
    ∙ is_some-map (λ (j : Job). j.number) (first_in in_purge Q)
