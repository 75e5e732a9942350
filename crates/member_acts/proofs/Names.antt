-- The names that many proofs take, each from where it is declared.
pub use Rattle.std.proofs.Common.{All, Bool, Err, IfOk, List, None, Ok, Option, Result, Some, [], ap, append-nil, append_assoc, arith, drop, false, get_or, if◌then◌else◌, inl, inr, is_some, length, map, nat_le, not, refl, slice_get, subst, suc, sym, take, true, unwrap_or, zero, ℕ, ◌&&◌, ◌*◌, ◌++◌, ◌+◌, ◌-◌, ◌<◌, ◌==◌, ◌||◌, ◌∙◌, ◌∷◌, ◌≡◌, ◌≢◌, ◌≤◌, ◌⊎◌}
pub use Rattle.std.proofs.Math.Logic.{∥∥₁_elim}
pub use Rattle.std.proofs.lemmas.Bool.Decides.{nat_tests}
pub use Rattle.std.proofs.lemmas.List.Folds.{list_any-append}
pub use Rattle.std.proofs.lemmas.List.{get_or-set_other, length-take-le, take_all, take_more}
pub use Rattle.std.proofs.lemmas.List.Elements.{All-append, All-cons, All-drop, All-get_or, All-head, All-nil, All-tail, All-take, All-weaker}
pub use Rattle.std.proofs.lemmas.Result.{err_from_is_err_and}
pub use Rattle.std.specs.Coded.{Coded, Coded-set, code_by, coded_option, coded_ℕ}
pub use Rattle.std.specs.List.{list_any}
pub use Rattle.std.specs.Option.{option_or}
pub use Rattle.brief_journal.specs.Brief.{brief_command, brief_of, brief_reply}
pub use Rattle.member_acts.specs.Names.{command_of, reply_of, IsMember, is_stopped, kept_all, IsOfOther, run, counts_of, Parts, parts_of, IsGroupOf, IsHeldBy, IsThereUnless, bytes_on, lost_now, spools_at, IsOutSpec, is_kept, page_bytes, job_at, line_count, output_at, Spool, Job, Output, Text, OnVolumes, Rise, SpoolStops, brings_job, brings_outputs, gone_with, is_brought, names_job, lines_read, lines_upto, as_it_is, after_lines, IsFailedRead, IsReadOf, HasFailed, names_nothing, names_read, AreWritten, Disk, AreRoomy, page_of, volume_of}
pub use Rattle.ckpt_copy.specs.Moments.{goes_none}
pub use Rattle.job_outcome.specs.declared.outcomes.Read.{Read}
pub use Rattle.lock_cycle.specs.Books.{Book}
pub use Rattle.mas_complex.specs.Headline.{whole}
pub use Rattle.mas_complex.specs.Journals.{entries_in, in_flight}
pub use Rattle.mas_complex.specs.Paper.{AreGivenIn, book_by, printed_by, reserved_by}
pub use Rattle.mas_complex.specs.Spool.{ReadsGroup, device_of, is_within, page_part, page_start}
pub use Rattle.mas_complex.specs.Texts.{HasTexts, Spools}
pub use Rattle.mas_types.specs.Commands.Life.{groups_of_outputs}
pub use Rattle.mas_types.specs.Fit.{is_text_line}
pub use Rattle.mas_types.specs.Limits.{line_bytes}
pub use Rattle.mas_types.specs.Owners.{groups_needed, member_count}
pub use Rattle.mas_types.specs.Queue.{has_key, has_number, printing_at, total}
pub use Rattle.mas_types.specs.declared.commands.Command.{Command}
pub use Rattle.mas_types.specs.declared.commands.Reply.{Reply}
pub use Rattle.mas_types.specs.declared.ids.GroupNo.{GroupNo}
pub use Rattle.mas_types.specs.declared.ids.JobNo.{JobNo}
pub use Rattle.mas_types.specs.declared.ids.MemberId.{MemberId}
pub use Rattle.mas_types.specs.declared.ids.OutNo.{OutNo}
pub use Rattle.mas_types.specs.declared.jobs.OutSpec.{OutSpec}
pub use Rattle.mas_types.specs.declared.jobs.Text.TheVariants.{Gone, Whole}
pub use Rattle.mas_types.specs.declared.journals.Batch.{Batch}
pub use Rattle.mas_types.specs.declared.journals.Entry.{Entry}
pub use Rattle.mas_types.specs.declared.queues.Config.{Config}
pub use Rattle.mas_types.specs.declared.queues.Queue.{Queue}
pub use Rattle.mas_types.specs.declared.queues.Thing.TheVariants.{Deck, Output as OutputThing}
pub use Rattle.queue_gone.specs.Gone.{brings_by}
pub use Rattle.member_asides.specs.Asides.{FindsText, HasOnlyPrinted, HasStayed, HasWritten, IsJobStill, IsOutputStill, lines_next, lowest_for, printed_in}
pub use Rattle.member_decks.proofs.HeldLemmas.{rise_front}
pub use Rattle.member_decks.proofs.OpenLemmas.{on_ok, tells_some}
pub use Rattle.member_decks.proofs.PageLemmas.{act_on, acts_none, acts_on, cause_by, kept_none, kept_quiet, kept_then, lies_alone, quiet_none, quiet_on, still_roomy, there_by}
pub use Rattle.member_decks.specs.Spooling.{AreQuiet, IsQuiet, StandBelow}
pub use Rattle.member_node.proofs.CourseLemmas.{wires_none, wires_then}
pub use Rattle.member_node.proofs.SpareLemmas.{sparing_before, sparing_beside, sparing_done, sparing_failed, sparing_halted, sparing_more, sparing_none, sparing_then}
pub use Rattle.member_node.specs.Calls.{none_lost}
pub use Rattle.member_node.specs.Spares.{SparesBut}
pub use Rattle.member_node.specs.declared.member.NodeNo.{NodeNo}
pub use Rattle.member_node.specs.declared.member.NodeNo.TheVariants.{Halted, NoMemory}
pub use Rattle.member_work.proofs.LookingLemmas.{coded_read, groups_within, number_of, told_job}
pub use Rattle.member_work.proofs.PrintedLemmas.{beside_none, beside_on, beside_print, beside_volumes, failed_wider, key_of, limit_most, lines_whole, output_key, print_failed, still_busy, told_output, whole_text}
pub use Rattle.member_work.proofs.SpoolLemmas.{all_spooled, behind_long, first_fits, lies_behind, lies_front, rise_behind, still_stand}
pub use Rattle.member_work.proofs.UnderWayLemmas.{both_second}
pub use Rattle.member_work.specs.Inked.{HasInked, Inked, IsCountOf, inked_of, lines_from}
pub use Rattle.member_work.specs.Printing.{IsChunkOf, IsPrinting, IsToldOutput}
pub use Rattle.member_work.specs.Rounds.{IsReadAs, IsWhole}
pub use Rattle.member_work.specs.Units.{chunk_end}
pub use Rattle.queue_laws.proofs.Finds.{find-All, test_cases}
pub use Rattle.spool_plant.specs.Acts.{Acts, Goes, Prints, ReadBy}
pub use Rattle.spool_plant.specs.View.{Disk as ViewDisk, Line, View, disk_now, paper_now, slice}
pub use Rattle.spool_plant.specs.declared.plant.Act.{Act}
pub use Rattle.spool_plant.specs.declared.plant.Act.TheVariants.{Done, Failed, Halted as ActHalted}
pub use Rattle.spool_plant.specs.declared.plant.Part.TheVariants.{Printer}
pub use Rattle.spool_plant.specs.declared.plant.Plant.{Ghosts}
pub use Rattle.spool_volumes.specs.Volumes.{start_of}
pub use Rattle.step_turns.specs.declared.states.Found.{Found}
pub use Rattle.track_groups.specs.Places.{groups_of}
