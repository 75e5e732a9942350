-- The names that many contracts take, each from where it is declared.
pub use Rattle.brief_journal.specs.Brief.{command_of, reply_of}
pub use Rattle.job_outcome.specs.Outcomes.{IsReadable}
pub use Rattle.job_outcome.specs.declared.outcomes.Read.TheVariants.{Lines}
pub use Rattle.lock_cycle.specs.Books.{IsMember, is_stopped}
pub use Rattle.mas_complex.specs.Journals.{kept_all}
pub use Rattle.mas_complex.specs.Locking.{IsOfOther, IsUp}
pub use Rattle.mas_complex.specs.Meaning.{run}
pub use Rattle.mas_complex.specs.Paper.{counts_of}
pub use Rattle.mas_complex.specs.Parts.{Parts, parts_of}
pub use Rattle.mas_complex.specs.Spool.{IsGroupOf, IsHeldBy}
pub use Rattle.mas_complex.specs.Texts.{IsThereUnless, bytes_on, lost_now, spools_at}
pub use Rattle.mas_types.specs.Fit.{IsOutSpec}
pub use Rattle.mas_types.specs.Journal.{is_kept}
pub use Rattle.mas_types.specs.Limits.{members_most, page_bytes, printer_lines_most, text_lines_most}
pub use Rattle.mas_types.specs.Queue.{job_at, line_count, output_at}
pub use Rattle.mas_types.specs.Sound.{IsSound}
pub use Rattle.mas_types.specs.declared.ids.Dev.TheVariants.{Spool}
pub use Rattle.mas_types.specs.declared.jobs.Job.{Job}
pub use Rattle.mas_types.specs.declared.jobs.Output.{Output}
pub use Rattle.mas_types.specs.declared.jobs.Text.{Text}
pub use Rattle.member_asides.specs.Asides.{MayPrintLines, MayReadText, MayWriteOutputs, PrintsLines, ReadsText, SteadyGhosts, WritesOutputs, lines_to}
pub use Rattle.member_decks.specs.Spooling.{GroupsKept, OnVolumes, Rise, SpoolCauses}
pub use Rattle.member_decks.specs.Steps.{SpoolStops, names_volume}
pub use Rattle.queue_gone.specs.Gone.{brings_by, brings_job, brings_outputs, gone_at, gone_with, is_brought, names_job, text_at}
pub use Rattle.member_work.specs.Inked.{HasInked, OtherCountsStay, lines_read, lines_upto}
pub use Rattle.member_work.specs.Looks.{as_it_is}
pub use Rattle.member_work.specs.Printing.{IsBeside, SameDisks, after_lines}
pub use Rattle.member_work.specs.Reading.{IsCounted, IsFailedRead, IsReadOf, OnlyReads}
pub use Rattle.member_work.specs.Rounds.{HasFailed, names_nothing, names_read}
pub use Rattle.member_work.specs.Spooled.{AreSpooled, AreWritten}
pub use Rattle.spool_plant.specs.Acts.{SameWires}
pub use Rattle.spool_plant.specs.declared.plant.Part.TheVariants.{Disk}
pub use Rattle.spool_volumes.specs.Texts.{text_unless}
pub use Rattle.spool_volumes.specs.Volumes.{AreRoomy, page_of, volume_of}
