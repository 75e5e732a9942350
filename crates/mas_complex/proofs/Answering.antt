-- The names that answers take: words, and the lemmas of this crate.
pub use Rattle.mas_complex.proofs.Names.{AllRead, AreLater, AreLinesOn, AreToldAlike, Batch, Before, BeginsWith, Bool, BothMeanwhile, Ckpt1, Ckpt2, Coded-set, Complex, Dev, Disk, Dropped, EachReads, Elsewhere, Entry, Err, Flying, Goes, Half, HasNext, HasPast, HasTexts, Headline, IfOk, IfSome, IsAtLevel, IsCkpt, IsErrOf, IsGone, IsNear, IsOnPaper, IsOneSeen, IsOrForms, IsPlaceAfter, IsPlaceSeen, Keeps, Kept, List, Look, LookNo, Lost, MayPrint, NoMore, None, Ok, OnComing, OnOk, OnPair, Opened, Option, Page, Pages, Pair, Parts, Place, Put, Queue, ReadsSeen, ReadsStale, Renewal, Renewals, Result, Rose, SameOrLost, Some, Spool, StandFor, Touched, Unread, View, ViewDisk, WasSeen, WasUnfit, [], ap, ap₂, are_same, arith, begun_on, bytes_of, coded_list, coded_option, coded_ℕ, copy_of, counts_of, differ_at, disk_at, disk_now, drop, drop_more, ended_at, fated, entries_in, entries_reserved, err_from_is_err_and, false, first_page, found_numbers, get_or, goes_on, held_then, if◌then◌else◌, in_flight, inl, inr, is_away, is_found_at, is_open, journal_most, kept_all, le_refl, length, level, level_in, looked, lost_now, map, meanwhile_end, min, next_order, numbers_from, of_device, order_first, orders_most, other, page_count, pages_least, pages_most, pair_state, parts_of, past_batches, pick, refl, rules, run, setting, sought, spools_at, subst, sym, take, test_cases, top, true, values_of, without_last, ℕ, ∥∥₁_elim, ∥∥₁_map, ∥∥₁_map₂, ∥∥₁_prop, ⊎_elim, ◌*◌, ◌++◌, ◌+◌, ◌-◌, ◌<◌, ◌==◌, ◌^◌, ◌||◌, ◌∙◌, ◌∷◌, ◌≡◌, ◌≤◌, ◌⊎◌, ReadsOne, Throughout, le_prop, Stands, IsUnfit, Looked, Sought, PairState, IsUsed, PairNo, is_flying, Agrees, OneSeen, IsSome, OnCopies, AreFew, volume_of, pair_stopped, Halted, BothLost, recover_no, recover_stopped, RecoverNo, RecoverBothLost, RecoverHalted}
pub use Rattle.mas_complex.proofs.Basics.{Passes, beside, dead_of, each, half_in, no, of_beside, part_beside, passes_of, pick_same, replaces_passes, some_of, stays_true}
pub use Rattle.mas_complex.proofs.Batches.{end_is, few_at_end, few_placed, few_unplaced, is_place, left_after_free, left_after_print, left_after_stop, past_given, past_step, placed_all, settled_push, stand_alike, without_last-append}
pub use Rattle.mas_complex.proofs.Books.{IsOwned, as_many_fated, frees, prints, seizes, settled_without_last, spends, stopped_up, stops, tries}
pub use Rattle.mas_complex.proofs.Present.{all_read, change_here, comes_near, each_reads, on_either, sent, side_reads, told_then}
pub use Rattle.mas_complex.proofs.Pasts.{alive_picked, image_now, later_later, later_next, nobody_later}
pub use Rattle.mas_complex.proofs.Sides.{Went, copies_went, found_many, held_at, idle, is_higher, kept_read, less_reads, look_at, look_next, look_stands, lost_while, more_at, never_unused, no_other, one_many, quiet, rests_before, seen_alive, seen_fits, stands_of, touched_by, touches, unused_there, with_coming}
pub use Rattle.mas_complex.proofs.Fates.{adds_line, first_reads, headline_of, kept_keeps, leaves_base, make_keeps, none_yet, one_kept, opened_at, placed_copy, same_keeps}
pub use Rattle.mas_complex.proofs.Papers.{kept_paper, makes_paper, prints_on_paper, somebody_is}
pub use Rattle.mas_complex.proofs.Counted.{elsewhere_is, elsewhere_of, fault_earlier, fault_later, if_err, left_some, left_why, look_left, on_both, pair_error, pair_less, pair_lost, pair_one, pair_then, props, rose_earlier}
pub use Rattle.mas_complex.proofs.Found.{agrees_stays, are_pages_of, chosen_of, first_is, numbers_more, own_agrees, page_with}
pub use Rattle.mas_complex.proofs.Values.{Call, FactsOf, KeepsAt, at_near, begins, beside_all, beside_devices, beside_quiet, beside_write, booked, call_of, copies_of, copy_here, copy_near, copy_there, ends, facts, facts_at, facts_on, facts_with, half_of, here, keeps_on, keeps_same, kept_past, laws_of, left_armed, left_by, left_with, lost_acted, lost_on, many_beside, near_dev, near_it, near_place, new, of_both, old, paper_after, paper_with, past_of, pasts_of, place_is, place_of, place_was, placed_as, ready_of, ready_on, rests_here, setting_of, sight_at, there, view_of}
pub use Rattle.mas_complex.proofs.Renewing.{begun_keep, begun_open, ended_keep, gone_closed, noted_keep, replaced_elsewhere, replaced_keep, same_was, still_closed}
pub use Rattle.mas_complex.proofs.Moves.{with_other}
pub use Rattle.mas_complex.proofs.Spooled.{quiet_untouched, read_quiet, sync_quiet}
