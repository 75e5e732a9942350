-- Every command keeps the configuration and the routes.
use Rattle.std.proofs.Common.{◌==◌, refl}
use Rattle.mas_types.specs.declared.ids.MemberId.{MemberId}
use Rattle.mas_types.specs.declared.queues.Queue.{Queue}
use Rattle.mas_types.specs.declared.commands.Command.{Command}
use Rattle.mas_types.specs.declared.commands.Command.TheVariants as command
use Rattle.mas_types.specs.Queue.{job_at}
use Rattle.mas_types.specs.Commands.Input.{drop_row}
use Rattle.mas_types.specs.Commands.Operator.{cancel_row, is_busy}
use Rattle.mas_types.specs.Step.{row_of}
use Rattle.queue_laws.specs.Laws.{IsConfigurationKept, KeepsConfiguration}
use Rattle.queue_laws.proofs.Done.{done_keeps}
use Rattle.queue_laws.proofs.Finds.{test_cases}

effect_configuration : (Q : Queue) (m : MemberId) (c : Command) → IsConfigurationKept Q (row_of Q m c).effect
effect_configuration Q m (command.Drop job) =
    test_cases (job.0 == 0) (IsConfigurationKept Q (drop_row Q m job).effect)
    (λ e. rw e (record { config = refl; routes = refl })) (λ e. rw e (record { config = refl; routes = refl }))
effect_configuration Q m (command.Cancel job) =
    test_cases (is_busy (job_at Q job)) (IsConfigurationKept Q (cancel_row Q m job).effect)
    (λ e. rw e (record { config = refl; routes = refl })) (λ e. rw e (record { config = refl; routes = refl }))
effect_configuration Q m _ = record { config = refl; routes = refl }

pub keeps_configuration : KeepsConfiguration
keeps_configuration Q m c =
    done_keeps Q (row_of Q m c) (IsConfigurationKept Q) (record { config = refl; routes = refl }) (λ none. effect_configuration Q m c)
