-- The names that many proofs take, each from where it is declared.
pub use Rattle.duplex_pair.specs.Outcomes.{look_stopped, pair_stopped}
pub use Rattle.mas_complex.specs.Recovers.{recover_no, recover_no_seen, recover_stopped}
pub use Rattle.mas_complex.specs.declared.recover.RecoverNo.{RecoverNo}
pub use Rattle.mas_complex.specs.declared.recover.RecoverNo.TheVariants.{BothLost as RecoverBothLost, Halted as RecoverHalted}
pub use Rattle.std.proofs.Common.{All, Bool, Contains, Err, IfOk, IfSome, IsErrOf, IsSome, List, None, Ok, OnErr, OnOk, Option, Result, Some, [], add-one, ap, append-nil, append_assoc, ap₂, arith, cond, drop, drop-cons, false, filter, get_or, if◌then◌else◌, inl, inr, is_none, is_some, le_refl, le_trans, length, length-append, map, max, min, nat_le, nat_lt, not, option_map, refl, remove, replicate, rules, set, slice_get, slice_index, slice_index_or, slice_set, subst, suc, sym, take, true, unwrap_or, zero, ℕ, ⊎_elim, ◌%◌, ◌&&◌, ◌*◌, ◌++◌, ◌+◌, ◌-◌, ◌/◌, ◌<◌, ◌==◌, ◌^◌, ◌||◌, ◌∙◌, ◌∷◌, ◌≡◌, ◌≢◌, ◌≤◌, ◌⊎◌}
pub use Rattle.std.proofs.Math.Logic.{∥∥₁_elim, ∥∥₁_map, ∥∥₁_map₂, ∥∥₁_prop}
pub use Rattle.std.proofs.Math.Nat.{div-add-mod, div-lt_iff_lt-mul}
pub use Rattle.std.proofs.lemmas.Bool.{and_cases, and_from, and_parts, eq-eqb, eqb-false, eqb-true, le-leb, leb-true, ne_eqb, or_cases, true≢false, and_left, not-false, or_left, or_parts, or_right}
pub use Rattle.std.proofs.lemmas.Bool.Decides.{nat_tests}
pub use Rattle.std.proofs.lemmas.List.{drop-append-le, drop-drop, drop-set-lt, drop_at, drop_more, get_or-set_other, get_or-set_same, length-drop, length-set, set_past, take-append-le, take_all, take_more_set, get_or-replicate, get_or_past, length-replicate}
pub use Rattle.std.proofs.lemmas.List.Elements.{All-append, All-cons, All-head, All-nil, All-tail, All-weaker, Contains-append_left, Contains-append_right, Contains-append_cases, Contains-push_cases}
pub use Rattle.std.proofs.lemmas.List.Folds.{list_any_at, list_any_none}
pub use mathlib.Core.Bool.{and-false, and-true, or-true}
pub use Rattle.std.proofs.lemmas.Result.{err_from_is_err_and}
pub use Rattle.std.proofs.lemmas.Slice.Eq.{bytes_eq-Decides}
pub use Rattle.std.specs.Coded.{Coded-set, coded_list, coded_option, coded_ℕ, le_prop}
pub use Rattle.std.specs.List.{list_any}
pub use Rattle.std.specs.Str.{bytes_eq}
pub use Rattle.brief_journal.specs.Brief.{brief_command, brief_of}
pub use Rattle.mas_complex.specs.Names.{command_of, entry_of, ArePages, Covers, bytes_of, level, page_in, Place, Before, Opened, Put, Unsure, level_in, page_count, PairActed, Acted, IsBothLost, IsCkpt, SomeAlive, other, pick, WasSeen, LookNo, PairNo, BothLost, Halted, Book, IsMember, after_free, after_seize, after_spend, after_stop, after_try, is_holder, is_stopped, left_of, seize_refusal, try_refusal, nobody, same_member, flying_at, is_flying, is_flying_at, is_kept, is_kept_by, kept_at, members_most, page_bytes, pages_least, pages_most, IsSound, Dev, Ckpt1, Ckpt2, Spool, GroupNo, MemberId, Page, Text, Batch, Entry, Dropped, Flying, Kept, Queue, Replaces, AreAllowed, Counts, begins_anew, counts_anew, IsNextLine, MayPrint, AreLinesOn, AreMarksOn, AreToldAlike, Arms, Goes, Loses, Prints, Rose, SameWires, Says, top, Avoids, ViewDisk, IsImage, Line, Throughout, View, disk_at, disk_now, slice, Act, Done, ActHalted, Disk, Volumes, start_of, volume_of, closing_line, best, Deck, Output, groups_of}
pub use Rattle.brief_journal.specs.declared.entries.BriefEntry.{BriefEntry}
pub use Rattle.ckpt_copy.specs.Changes.{NoMore}
pub use Rattle.ckpt_copy.specs.Meanwhile.{Meanwhile, SameSides}
pub use Rattle.ckpt_copy.specs.Moments.{either_way, goes_none, goes_on, meanwhile_end, meanwhile_weaker}
pub use Rattle.ckpt_copy.specs.Reading.{AllRead, EachReads}
pub use Rattle.ckpt_copy.specs.Staying.{no_more_image}
pub use Rattle.ckpt_copy.specs.declared.copying.Copying.{Ghosts}
pub use Rattle.ckpt_form.specs.declared.steady.Steady.{Ghosts as SteadyGhosts}
pub use Rattle.ckpt_tables.specs.Shape.{HasSpelling}
pub use Rattle.duplex_pair.proofs.Mends.{held_then}
pub use Rattle.duplex_pair.specs.Both.{BothMeanwhile, Touched}
pub use Rattle.duplex_pair.specs.Halves.{IsGone, SameOrLost, AreReady}
pub use Rattle.duplex_pair.specs.declared.errors.Look.{Look}
pub use Rattle.duplex_pair.specs.declared.errors.Look.TheVariants.{Lost, Pages, Unread}
pub use Rattle.duplex_pair.specs.declared.half.Half.{Half}
pub use Rattle.duplex_pair.specs.declared.pair.Pair.{Pair}
pub use Rattle.lock_cycle.specs.Books.{beginner, granted, is_dormant, noted, standing, ticked, wakes, with_holder, with_standing}
pub use Rattle.mas_complex.specs.CallCounts.{CountsCopy, IsLostOnce, KeepsCounts, PairState, pair_state, pair_at}
pub use Rattle.mas_complex.specs.Crash.{Alike, Span, span_of, AreSunk, BeginsWith, Copy, CopyAt, EachTells, IsAt, IsAway, IsFound, IsLeft, IsNear, IsNext, IsOneOf, IsStale, IsUntold, Keeps, Moment, OnComing, RaisesOrders, ReadsAtLevel, ReadsBy, ReadsOne, ReadsStale, ReadsUpTo, Setting, SomeGood, SomeLeft, Stands, TextsStand, TextsAt, ToldAt, Versions, copy_of, found, is_away, left_at, lost_if, next_order, order_first, orders_most, said, setting, setting_with, TellOnly, whole, with_flying, AreNotedBefore, IsReadBy, is_good, read_left}
pub use Rattle.mas_complex.specs.Elsewhere.{Elsewhere, OnCopies, OnPair}
pub use Rattle.mas_complex.specs.Fits.{are_same, can_stay, differ_at, first_page, fits, found_numbers, is_before, is_found_at, numbers_from}
pub use Rattle.mas_complex.specs.Headline.{Headline, LeavesQueue}
pub use Rattle.mas_complex.specs.Journals.{AreFew, AreSettled, EndsInPlace, HasPlace, IsBegun, IsPlace, StepIsKept, batches_kept, end_of, entries_in, entries_most, entries_reserved, fated, flying, flying_of, has_step, in_flight, journal_most, kept, kept_all, kept_of, past_batches, with_last, without_last}
pub use Rattle.mas_complex.specs.Locking.{IsOfOther, is_of_member, reserved_after_stop}
pub use Rattle.mas_complex.specs.Meaning.{Closes, StandFor, run, step}
pub use Rattle.mas_complex.specs.Paper.{AreGivenIn, IsOfItsMember, IsOnPaper, KeepsPaper, LineAt, LineFrom, MayBegin, PaperAt, PaperKept, Papers, SamePapers, Account, account, book_by, count_from, counts_of, no_counts, printed_after, printed_by, reserved_by, turned, turned_last}
pub use Rattle.mas_complex.specs.Parts.{Parts, parts_of}
pub use Rattle.mas_complex.specs.Past.{AreLater, HasNoted, HasPast, HavePasts, IsLater, IsNextOf, Sight, nobody_noted, noted_by, sight_of, values_of}
pub use Rattle.mas_complex.specs.Places.{HasNoOther, IsAtLevel, IsPlaceAfter}
pub use Rattle.mas_complex.specs.Renewals.{AreRenewedBy, HasEndedBy, begun_on, ended_at, ended_on, has_ended, is_open, is_renewed_at, of_device, or_at, with_device, no_renewals}
pub use Rattle.mas_complex.specs.Replies.{AreReplied, HaveReplies, after_batch}
pub use Rattle.mas_complex.specs.Seen.{Agrees, DiffersAtFound, HasNext, IfPages, IsFatedBy, IsGreater, IsOneSeen, IsPlaceSeen, IsUnfit, Looked, OneSeen, ReadsSeen, Sought, Stays, WasUnfit, looked, sought, IsUsed, HasFound, Chosen}
pub use Rattle.mas_complex.specs.Spool.{IsHeldBy, ReadsGroup, WritesGroup, device_of, is_within, page_part, page_start}
pub use Rattle.mas_complex.specs.Texts.{GivesTexts, HasTexts, IsReadUnless, IsSynced, IsThere, IsThereUnless, Spools, bytes_on, lost_now, spools_at}
pub use Rattle.mas_complex.specs.declared.complex.Complex.{Complex}
pub use Rattle.mas_complex.specs.declared.renewals.Renewal.{Renewal}
pub use Rattle.mas_complex.specs.declared.renewals.Renewals.{Renewals}
pub use Rattle.mas_types.specs.Ids.{is_somebody}
pub use Rattle.mas_types.specs.Journal.{entries_of}
pub use Rattle.mas_types.specs.Printed.{printed_line}
pub use Rattle.mas_types.specs.Queue.{line_count, output_at}
pub use Rattle.mas_types.specs.declared.ids.JobNo.{JobNo}
pub use Rattle.mas_types.specs.declared.ids.OutNo.{OutNo}
pub use Rattle.pair_replacing.specs.Replacing.{IsOrForms, WhileReplaced}
pub use Rattle.paper_laws.proofs.Bools.{same_member_is, test_cases}
pub use Rattle.paper_laws.proofs.Commands.{entries_keep, fewer, marks_stay_on, stays_on, printed_upto}
pub use Rattle.paper_laws.specs.Counts.{counts_after, is_mark, none_printed, one_more}
pub use Rattle.paper_laws.specs.Paper.{mark_of}
pub use Rattle.queue_laws.specs.Runs.{IsGiven}
pub use Rattle.spool_plant.specs.Acts.{DirtiedIn, OnDevice, ReadBy, Said, SamePaper, Synced, Untouched, Written, next}
pub use Rattle.spool_plant.specs.View.{Apart, Stretch, World, paper_now}
pub use Rattle.spool_plant.specs.declared.plant.Act.TheVariants.{Failed}
pub use Rattle.spool_plant.specs.declared.plant.Plant.{Ghosts as PlantGhosts}
pub use Rattle.spool_volumes.specs.Laws.{IsLeftOf}
pub use Rattle.track_groups.specs.Laws.{AreItsOwn}
