-- The names that many proofs take, each from where it is declared.
pub use Rattle.std.proofs.Common.{All, Bool, Err, List, None, Ok, Option, Result, Some, [], ap, append-nil, append_assoc, arith, drop, false, find, if◌then◌else◌, inl, inr, length, length-append, min, nat_lt, option_copied, refl, slice_get, subst, suc, sym, take, true, unwrap_or, zero, ℕ, ⊎_elim, ◌&&◌, ◌*◌, ◌++◌, ◌+◌, ◌-◌, ◌<◌, ◌==◌, ◌∙◌, ◌∷◌, ◌≡◌, ◌≢◌, ◌≤◌, ◌⊎◌, slice_index_or}
pub use Rattle.std.proofs.lemmas.Bool.Decides.{leb_tells, nat_tests}
pub use Rattle.std.proofs.lemmas.List.Elements.{All-append, All-cons, All-contains, All-drop, All-get_or, All-head, All-nil, All-push, All-tail, All-take, All-weaker}
pub use Rattle.std.proofs.lemmas.Result.{err_from_is_err_and}
pub use Rattle.std.specs.List.{list_any}
pub use Rattle.std.specs.Option.{option_map, option_map_or}
pub use Rattle.member_work.specs.Names.{HasSpelling, Tables, IsNamedEnd, end_by, Read, kept_all, run, MayBegin, counts_of, IsThere, Spools, groups_of_outputs, is_cancelled, outputs_at_end, runs, IsFit, IsIndex, same_number, printer_lines_most, groups_needed, member_count, has_output, is_member, job_at, line_count, output_at, printing_at, total, Closing, Command, Reply, Ckpt1, Ckpt2, Spool, GroupNo, JobNo, MemberId, OutNo, Job, OutSpec, Output, Text, Gone, Whole, Batch, Entry, Config, Queue, are_refused, closing_reply, given_in, takes, AreQuiet, StandBelow, lies_there, AreOf, IsFoundLost, entry_of, reply_to, limit_of, Tell, TellSound, Goes, View, Disk, Printer, volume_of}
pub use Rattle.job_queue.specs.Jobs.{AreJobs, HasJob}
pub use Rattle.lay_bytes.specs.Slots.{IfUsed, IsJobRec, IsOutRec}
pub use Rattle.lay_bytes.specs.declared.records.JobRec.{JobRec}
pub use Rattle.lay_bytes.specs.declared.records.OutRec.{OutRec}
pub use Rattle.mas_complex.proofs.Batches.{run_append, past_kept, replied_both, replied_front, replied_rest, without_last-append}
pub use Rattle.mas_complex.specs.Meaning.{step}
pub use Rattle.mas_complex.specs.Texts.{IsSynced, IsThereUnless}
pub use Rattle.mas_types.specs.Fit.{IsOutSpec, IsSetting}
pub use Rattle.mas_types.specs.Ids.{is_somebody, same_member}
pub use Rattle.mas_types.specs.Owners.{free_count}
pub use Rattle.mas_types.specs.Queue.{first_in, has_key, has_number, in_convert, in_execute, in_output, in_purge, is_busy_at, is_of, prints_at}
pub use Rattle.mas_types.specs.Sound.{IsSound}
pub use Rattle.mas_types.specs.declared.queues.Owner.{Owner}
pub use Rattle.mas_types.specs.declared.queues.Setting.{Setting}
pub use Rattle.mas_types.specs.declared.queues.Thing.{Thing}
pub use Rattle.member_decks.proofs.OpenLemmas.{tells_some, last_push}
pub use Rattle.member_decks.proofs.PageLemmas.{all_at, text_there}
pub use Rattle.member_decks.proofs.TakeLemmas.{take_counts}
pub use Rattle.member_decks.specs.Spooling.{OnVolumes, Rise, SpoolCauses, page_in}
pub use Rattle.member_decks.specs.Taking.{Asked, GivesAt, IsPart, LeaveWhere, asked}
pub use Rattle.member_node.proofs.SpareLemmas.{sparing_then}
pub use Rattle.member_node.specs.Batches.{last_reply}
pub use Rattle.member_node.specs.Calls.{none_lost}
pub use Rattle.member_node.specs.Spares.{SparesBut}
pub use Rattle.member_steps.proofs.StepLemmas.{if_ok}
pub use Rattle.member_steps.specs.Steps.{entry_with}
pub use Rattle.member_work.specs.Printing.{IsBeside, IsChunkOf, IsPrinting, IsToldOutput}
pub use Rattle.member_work.specs.Rounds.{HasFailed, HasPrinterFailed, IsReadAs, IsWhole}
pub use Rattle.member_work.specs.Spooled.{AreSpooled, AreWritten}
pub use Rattle.member_work.specs.Steps.{IsTold, IsUnderWay}
pub use Rattle.member_work.specs.Units.{drop_groups, ended_as, ending, taken_end, taking}
pub use Rattle.queue_effect.proofs.GroupLemmas.{groups_small, sum-groups, sum_more}
pub use Rattle.queue_laws.proofs.Finds.{find-All, test_cases}
pub use Rattle.queue_laws.specs.Laws.{is_refusal}
pub use Rattle.queue_texts.specs.Leaving.{HoldsOfTexts, OthersLeaveTexts, ToldAreTheirOwn, WasThere}
pub use Rattle.spool_plant.specs.Acts.{Acts, Prints}
pub use Rattle.spool_text.specs.Laws.{HasNeededGroups}
pub use Rattle.spool_volumes.specs.Laws.{ReadsTexts}
pub use Rattle.track_groups.specs.Groups.{groups_where, held_by, is_things}
pub use Rattle.track_groups.specs.Places.{groups_of}
pub use Rattle.std.proofs.lemmas.Bool.{eq-eqb, eqb-true, and_parts, or_left, or_right}
pub use Rattle.std.proofs.lemmas.List.{drop-take, take-take, length-drop, length-take, length-take-le, take-append-drop}
pub use Rattle.member_decks.proofs.HeldLemmas.{Picked, lists, of_front, rise_front}
pub use Rattle.member_work.specs.Giving.{CanGive, GivesAs, HasGiven, IsSoundPlain, MayEnd, LeavesTexts}
pub use Rattle.queue_laws.proofs.SoundEnter.{one_group}
pub use Rattle.std.proofs.Math.Logic.{∥∥₁_map, ∥∥₁_map₂}
pub use Rattle.std.proofs.lemmas.Option.{slice_get-get_or, slice_get_within, same_Some, same_Some as one_output}
pub use Rattle.paper_laws.proofs.Bools.{find_passes, own_key, same_key_is, same_member_is}
