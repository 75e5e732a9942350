-- The names that many contracts take, each from where it is declared.
pub use Rattle.brief_journal.specs.Brief.{command_of, entry_of}
pub use Rattle.ckpt_copy.specs.Pages.{ArePages, Covers, bytes_of, level, page_in}
pub use Rattle.ckpt_places.specs.declared.places.Place.{Place}
pub use Rattle.ckpt_places.specs.declared.places.Place.TheVariants.{Before, Opened, Put, Unsure}
pub use Rattle.ckpt_tables.specs.Shape.{level_in, page_count}
pub use Rattle.duplex_pair.specs.ActCounts.{after_acts, read_acts}
pub use Rattle.duplex_pair.specs.Both.{PairActed}
pub use Rattle.duplex_pair.specs.Finds.{best}
pub use Rattle.duplex_pair.specs.Halves.{Acted, IsBothLost, IsCkpt, SomeAlive, other, pick}
pub use Rattle.duplex_pair.specs.Looks.{HasRoom, WasSeen}
pub use Rattle.duplex_pair.specs.Outcomes.{look_stopped, pair_stopped}
pub use Rattle.duplex_pair.specs.declared.errors.LookNo.{LookNo}
pub use Rattle.duplex_pair.specs.declared.errors.LookNo.TheVariants.{Halted as LookHalted, NoMemory}
pub use Rattle.duplex_pair.specs.declared.errors.PairNo.{PairNo}
pub use Rattle.duplex_pair.specs.declared.errors.PairNo.TheVariants.{BothLost, Halted}
pub use Rattle.lay_bytes.specs.Fields.{piece}
pub use Rattle.lock_cycle.specs.Books.{Book, IsMember, after_free, after_seize, after_spend, after_stop, after_try, free_refusal, is_holder, is_stopped, left_of, new_book, seize_refusal, try_refusal}
pub use Rattle.mas_types.specs.Closings.{closing_line}
pub use Rattle.mas_types.specs.Fit.{IsConfig}
pub use Rattle.mas_types.specs.Ids.{nobody, same_member}
pub use Rattle.mas_types.specs.Journal.{flying_at, is_flying, is_flying_at, is_kept, is_kept_by, kept_at}
pub use Rattle.mas_types.specs.Limits.{members_most, page_bytes, pages_least, pages_most, printer_lines_most}
pub use Rattle.mas_types.specs.Sound.{IsSound}
pub use Rattle.mas_types.specs.declared.answers.Closing.{Closing}
pub use Rattle.mas_types.specs.declared.ids.Dev.{Dev}
pub use Rattle.mas_types.specs.declared.ids.Dev.TheVariants.{Ckpt1, Ckpt2, Spool}
pub use Rattle.mas_types.specs.declared.ids.GroupNo.{GroupNo}
pub use Rattle.mas_types.specs.declared.ids.MemberId.{MemberId}
pub use Rattle.mas_types.specs.declared.ids.Page.{Page}
pub use Rattle.mas_types.specs.declared.jobs.Text.{Text}
pub use Rattle.mas_types.specs.declared.jobs.Text.TheVariants.{Gone, Whole}
pub use Rattle.mas_types.specs.declared.journals.Batch.{Batch}
pub use Rattle.mas_types.specs.declared.journals.Entry.{Entry}
pub use Rattle.mas_types.specs.declared.journals.Fate.{Fate}
pub use Rattle.mas_types.specs.declared.journals.Fate.TheVariants.{Dropped, Flying, Kept}
pub use Rattle.mas_types.specs.declared.queues.Config.{Config}
pub use Rattle.mas_types.specs.declared.queues.Queue.{Queue}
pub use Rattle.mas_types.specs.declared.queues.Thing.TheVariants.{Deck, Output}
pub use Rattle.pair_replacing.specs.Replacing.{IsFormed, Replaces, replace_stopped}
pub use Rattle.pair_replacing.specs.declared.replacing.ReplaceNo.TheVariants.{BothLost as ReplaceNoBothLost, Failed, Halted as ReplaceNoHalted, NoMemory as ReplaceNoNoMemory, NotLost}
pub use Rattle.paper_laws.specs.Counts.{AreAllowed, Counts, begins_anew, counts_anew}
pub use Rattle.paper_laws.specs.Next.{IsNextLine, MayPrint}
pub use Rattle.paper_laws.specs.Paper.{AreLinesOn, AreMarkedLinesOn, AreMarksOn}
pub use Rattle.queue_telling.specs.Telling.{AreToldAlike, PagesTell}
pub use Rattle.spool_plant.specs.Acts.{Acts, Arms, FitsInto, GivesOn, Goes, Loses, LosesThere, Prints, Reads, Rose, SameWires, Says, Syncs, Takes, Writes, act_of, top}
pub use Rattle.spool_plant.specs.View.{Avoids, Disk as ViewDisk, IsImage, LeavesOnly, Line, Throughout, View, disk_at, disk_now, slice}
pub use Rattle.spool_plant.specs.declared.plant.Act.{Act}
pub use Rattle.spool_plant.specs.declared.plant.Act.TheVariants.{Done, Halted as ActHalted}
pub use Rattle.spool_plant.specs.declared.plant.Part.TheVariants.{Console, Disk, Printer, Wire}
pub use Rattle.spool_volumes.specs.Texts.{records_on, text_of}
pub use Rattle.spool_volumes.specs.Volumes.{Volumes, start_of, volume_of}
pub use Rattle.track_groups.specs.Places.{groups_of}
