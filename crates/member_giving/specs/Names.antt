-- The names that many contracts take, each from where it is declared.
pub use Rattle.job_exec.specs.Running.{AreOutputs}
pub use Rattle.job_outcome.specs.Next.{IsNamedEnd, end_by}
pub use Rattle.job_outcome.specs.declared.units.UnitEnd.TheVariants.{Done, Refused}
pub use Rattle.mas_complex.specs.Paper.{SamePapers, counts_of}
pub use Rattle.mas_complex.specs.Texts.{spools_at}
pub use Rattle.mas_types.specs.Closings.{AreMembersNamed, closing_line}
pub use Rattle.mas_types.specs.Commands.Life.{outputs_at_end}
pub use Rattle.mas_types.specs.Owners.{member_count}
pub use Rattle.mas_types.specs.Queue.{is_member, job_at, output_at}
pub use Rattle.mas_types.specs.declared.answers.Closing.TheVariants.{SpoolLost}
pub use Rattle.mas_types.specs.declared.commands.Command.{Command}
pub use Rattle.mas_types.specs.declared.ids.MemberId.{MemberId}
pub use Rattle.mas_types.specs.declared.journals.Entry.{Entry}
pub use Rattle.mas_types.specs.declared.queues.Queue.{Queue}
pub use Rattle.member_asides.specs.Ready.{HasFewer, IsReady, MayBeGiven}
pub use Rattle.member_asides.specs.Shapes.{MayEndBy}
pub use Rattle.member_asides.specs.SittingEnd.{SittingEnd}
pub use Rattle.member_decks.specs.Steps.{AreOf}
pub use Rattle.member_steps.specs.Counting.{HasCounted}
pub use Rattle.member_steps.specs.Noting.{OtherNotesStay}
pub use Rattle.member_work.specs.Spooled.{AreSpooled}
pub use Rattle.member_work.specs.Steps.{IsUnderWay}
pub use Rattle.member_work.specs.Units.{taken_end}
pub use Rattle.paper_laws.specs.Counts.{IsMarkRight, counts_after}
pub use Rattle.queue_effect.specs.Standing.{AreFit}
pub use Rattle.queue_telling.specs.Telling.{Tell}
pub use Rattle.step_turns.specs.Batches.{batch_of, cut, cut_after, is_full}
pub use Rattle.step_turns.specs.Entries.{all_entries, closing_reply, given_in}
pub use Rattle.step_turns.specs.JobEnds.{drop_groups, ending, groups_for_end, taking}
pub use Rattle.step_turns.specs.Laws.{units_left}
pub use Rattle.step_turns.specs.Turns.{Turn, is_spent, leaves, says, no_more, one_command, units_from}
pub use Rattle.step_turns.specs.declared.states.Holder.{Holder}
pub use Rattle.step_turns.specs.declared.states.Progress.{Progress}
pub use Rattle.step_turns.specs.declared.states.State.{State}
pub use Rattle.track_groups.specs.Groups.{held_by}
