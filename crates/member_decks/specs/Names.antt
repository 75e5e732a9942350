-- The names that many contracts take, each from where it is declared.
pub use Rattle.mas_complex.specs.Journals.{begun, end_of}
pub use Rattle.mas_complex.specs.Locking.{MayAct}
pub use Rattle.mas_complex.specs.Meaning.{run, step}
pub use Rattle.mas_complex.specs.Paper.{MayBegin, SamePapers}
pub use Rattle.mas_complex.specs.Texts.{HasTexts, IsSynced, Spools, spools_at}
pub use Rattle.mas_types.specs.Closings.{IsReplyNamed, closing_line, reply_lines}
pub use Rattle.mas_types.specs.Limits.{members_most, page_bytes}
pub use Rattle.mas_types.specs.declared.commands.Command.{Command}
pub use Rattle.mas_types.specs.declared.commands.Reply.TheVariants.{Plain}
pub use Rattle.mas_types.specs.declared.ids.Dev.{Dev}
pub use Rattle.mas_types.specs.declared.ids.Dev.TheVariants.{Ckpt1, Ckpt2, Spool}
pub use Rattle.mas_types.specs.declared.ids.MemberId.{MemberId}
pub use Rattle.mas_types.specs.declared.jobs.JobFields.{JobFields}
pub use Rattle.mas_types.specs.declared.journals.Batch.{Batch}
pub use Rattle.mas_types.specs.declared.journals.Entry.{Entry}
pub use Rattle.mas_types.specs.declared.queues.Queue.{Queue}
pub use Rattle.member_steps.specs.Batches.{CanDraw, HasDone}
pub use Rattle.member_steps.specs.Calls.{none_lost}
pub use Rattle.member_steps.specs.Copies.{IsAtRest, first_of, second_of}
pub use Rattle.member_steps.specs.Counting.{HasCounted}
pub use Rattle.member_steps.specs.NodeNo.{NodeNo}
pub use Rattle.member_steps.specs.NodeNo.TheVariants.{BothLost, ConsoleFault, Halted, NoMemory}
pub use Rattle.member_steps.specs.Noting.{LeavesNotes}
pub use Rattle.member_steps.specs.Spares.{SparesBut, stopped_in}
pub use Rattle.member_steps.specs.Standing.{AreFit}
pub use Rattle.member_steps.specs.Steps.{entry_of}
pub use Rattle.queue_telling.specs.Telling.{Tell, TellSound}
pub use Rattle.spool_plant.specs.Acts.{Goes, Rose, SameWires, top}
pub use Rattle.spool_plant.specs.View.{Avoids, Disk as ViewDisk, Stretch, View, disk_now, slice}
pub use Rattle.spool_plant.specs.declared.plant.Part.TheVariants.{Disk}
