-- The names that many contracts take, each from where it is declared.
pub use Rattle.ckpt_tables.specs.Shape.{HasSpelling}
pub use Rattle.ckpt_tables.specs.declared.tables.Tables.{Tables}
pub use Rattle.job_exec.specs.Running.{AreOutputs}
pub use Rattle.job_outcome.specs.Next.{IsNamedEnd, end_by}
pub use Rattle.job_outcome.specs.declared.outcomes.Read.{Read}
pub use Rattle.job_outcome.specs.declared.units.UnitEnd.{UnitEnd}
pub use Rattle.mas_complex.specs.Journals.{in_flight, kept_all}
pub use Rattle.mas_complex.specs.Meaning.{run}
pub use Rattle.mas_complex.specs.Paper.{MayBegin, counts_of}
pub use Rattle.mas_complex.specs.Parts.{Parts}
pub use Rattle.mas_complex.specs.Replies.{AreReplied}
pub use Rattle.mas_complex.specs.Texts.{HasTexts, IsThere, Spools, spools_at}
pub use Rattle.mas_types.specs.Commands.Life.{groups_of_outputs, is_cancelled, outputs_at_end, runs}
pub use Rattle.mas_types.specs.Fit.{IsFit, IsIndex, IsJobFields}
pub use Rattle.mas_types.specs.Ids.{no_number, same_number}
pub use Rattle.mas_types.specs.Limits.{members_most, printer_lines_most, text_lines_most}
pub use Rattle.mas_types.specs.Owners.{groups_needed, member_count}
pub use Rattle.mas_types.specs.Queue.{change_job, change_output, change_setting, has_output, is_member, job_at, line_count, output_at, printing_at, total}
pub use Rattle.mas_types.specs.Step.{may_give}
pub use Rattle.mas_types.specs.declared.answers.Closing.{Closing}
pub use Rattle.mas_types.specs.declared.commands.Command.{Command}
pub use Rattle.mas_types.specs.declared.commands.Reply.{Reply}
pub use Rattle.mas_types.specs.declared.ids.Dev.{Dev}
pub use Rattle.mas_types.specs.declared.ids.Dev.TheVariants.{Ckpt1, Ckpt2, Spool}
pub use Rattle.mas_types.specs.declared.ids.GroupNo.{GroupNo}
pub use Rattle.mas_types.specs.declared.ids.JobNo.{JobNo}
pub use Rattle.mas_types.specs.declared.ids.MemberId.{MemberId}
pub use Rattle.mas_types.specs.declared.ids.OutNo.{OutNo}
pub use Rattle.mas_types.specs.declared.jobs.Job.{Job}
pub use Rattle.mas_types.specs.declared.jobs.OutSpec.{OutSpec}
pub use Rattle.mas_types.specs.declared.jobs.Output.{Output}
pub use Rattle.mas_types.specs.declared.jobs.Text.{Text}
pub use Rattle.mas_types.specs.declared.jobs.Text.TheVariants.{Gone, Whole}
pub use Rattle.mas_types.specs.declared.journals.Batch.{Batch}
pub use Rattle.mas_types.specs.declared.journals.Entry.{Entry}
pub use Rattle.mas_types.specs.declared.queues.Config.{Config}
pub use Rattle.mas_types.specs.declared.queues.Queue.{Queue}
pub use Rattle.member_decks.specs.Decks.{all_entries, are_refused, closing_reply, given_in, takes}
pub use Rattle.member_decks.specs.Spooling.{AreQuiet, StandBelow, lies_there}
pub use Rattle.member_decks.specs.Steps.{AreOf, IsFoundLost}
pub use Rattle.member_node.specs.Batches.{HasDone}
pub use Rattle.member_node.specs.Calls.{console_now}
pub use Rattle.member_node.specs.Given.{IsGiver}
pub use Rattle.member_node.specs.Spares.{stopped_in}
pub use Rattle.member_node.specs.declared.member.NodeNo.{NodeNo}
pub use Rattle.member_node.specs.declared.member.NodeNo.TheVariants.{BothLost, ConsoleFault, Halted, NoMemory}
pub use Rattle.member_steps.specs.Steps.{entry_of, reply_to}
pub use Rattle.paper_laws.specs.Next.{limit_of}
pub use Rattle.queue_effect.specs.Standing.{AreFit}
pub use Rattle.queue_telling.specs.Telling.{Tell, TellSound}
pub use Rattle.spool_plant.specs.Acts.{Goes, Rose}
pub use Rattle.spool_plant.specs.View.{Line, View, disk_now, paper_now}
pub use Rattle.spool_plant.specs.declared.plant.Part.TheVariants.{Disk, Printer}
pub use Rattle.spool_volumes.specs.Volumes.{volume_of}
