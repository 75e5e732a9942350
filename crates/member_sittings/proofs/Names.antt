-- The names that many proofs take, each from where it is declared.
pub use Rattle.std.proofs.Common.{All, Bool, Err, IfOk, List, None, Ok, OnOk, Option, Result, Some, [], ap, append-nil, arith, false, if◌then◌else◌, inl, inr, length, refl, subst, suc, sym, take, true, ℕ, ⊎_elim, ◌*◌, ◌++◌, ◌+◌, ◌<◌, ◌^◌, ◌∙◌, ◌∷◌, ◌≡◌, ◌≤◌}
pub use Rattle.std.proofs.Math.Logic.{∥∥₁_map}
pub use Rattle.std.proofs.lemmas.List.Elements.{All-append, All-cons, All-nil, All-take, All-weaker}
pub use Rattle.std.proofs.lemmas.Result.{err_from_is_err_and}
pub use Rattle.ckpt_tables.specs.declared.tables.Tables.{Tables}
pub use Rattle.member_sittings.specs.Names.{AreSettled, begun, kept_all, Parts, parts_of, HasTexts, IsThere, lost_now, spools_at, reply_lines, IsFit, IsJobFields, Command, MemberId, Batch, Entry, Config, HasAll, IsKeptBatch, AreOf, AreLow, orders_after, too_high, Member, NodeNo, BothLost, ConsoleFault, Halted, NoMemory, TellKept, AreKeptFrom, IsBetween, StepCauses, entry_with, ViewLine, View, PlantGhosts, AreRoomy, all_entries, closing_reply as entries_closing_reply, Sitting, released, sit, nothing_found, SpoolDeck, Found, Holder, State, Away, Fresh, Told}
pub use Rattle.mas_complex.specs.Journals.{fated}
pub use Rattle.mas_complex.specs.Meaning.{run, step}
pub use Rattle.mas_types.specs.Owners.{groups_needed, member_count}
pub use Rattle.mas_types.specs.Queue.{is_member}
pub use Rattle.mas_types.specs.Step.{may_give}
pub use Rattle.mas_types.specs.declared.commands.Reply.{Reply}
pub use Rattle.mas_types.specs.declared.jobs.JobFields.{JobFields}
pub use Rattle.mas_types.specs.declared.journals.Journal.{Journal}
pub use Rattle.mas_types.specs.declared.queues.Queue.{Queue}
pub use Rattle.member_decks.proofs.FinishLemmas.{finished_texts, finishing_all, one_named, one_of}
pub use Rattle.member_decks.proofs.OpenLemmas.{tells_some}
pub use Rattle.member_decks.proofs.PageLemmas.{acts_none, kept_none, still_roomy}
pub use Rattle.member_decks.proofs.DeckLemmas.{closed_of, groups_few}
pub use Rattle.member_decks.proofs.MayLemmas.{opening_unmarked, part_begins, part_of}
pub use Rattle.member_decks.specs.Batches.{AreAll}
pub use Rattle.member_decks.specs.Decks.{are_refused, closing_reply, ends_as, ends_begun, finishing, given_in, lines_by, opening}
pub use Rattle.mas_complex.specs.CallCounts.{PairState, pair_state}
pub use Rattle.member_decks.specs.Keeping.{CopyCauses, GivesUpLeaves, IsOnCopies}
pub use Rattle.member_decks.specs.Spooling.{GroupsKept, OnVolumes, Rise, SpoolCauses}
pub use Rattle.member_decks.specs.Taking.{Gives, LeaveOut, asked}
pub use Rattle.member_decks.specs.declared.opening.Opened.{Opened}
pub use Rattle.member_node.proofs.SpareLemmas.{sparing_none}
pub use Rattle.member_node.proofs.WriteLemmas.{none_out, run_append}
pub use Rattle.member_node.specs.Calls.{console_now}
pub use Rattle.member_node.specs.Reads.{IsSettle, ReadCauses}
pub use Rattle.member_node.specs.Writes.{HasFlying, HasKept}
pub use Rattle.member_sittings.specs.Asides.{HasGroups, HasPlaced, HasSpooled, deck_found, finds_of, lowest_groups}
pub use Rattle.member_sittings.specs.Ends.{deck_end, ends_in}
pub use Rattle.member_sittings.specs.Left.{HasLeft, HasSaid, IsLastBatch, Reach, ReachesBy, Said, SaidBy, StandThere, bare, left_by, reach_all}
pub use Rattle.member_sittings.specs.Sat.{CopiesActed, HasActed, IsEndOf, IsSatAs, IsSatOn, journal_of}
pub use Rattle.member_sittings.specs.Whole.{Commanded, Half, HasStepKept, HasTextsAfter, HasTextsOf, HasUntold, IsAtRest, IsBounded, IsGiving, IsRoomy, IsSeat, IsSitting, IsStepUntold, IsStill, IsToCut, IsToKeep, MayKeep, first_half, queue_of, second_half}
pub use Rattle.member_sittings.specs.declared.ends.SittingEnd.{SittingEnd}
pub use Rattle.member_steps.proofs.FateLemmas.{closing_tells, kept_from_out, reply_tells, settled_later, settled_out}
pub use Rattle.member_steps.proofs.NoteLemmas.{had_as, notes_none, notes_same}
pub use Rattle.member_steps.proofs.ReadLemmas.{at_lock, between_by, calm_rest, low_written, one_batch, told_sound, untold_later}
pub use Rattle.member_steps.proofs.StepLemmas.{begins_alone, between_done, can_draw, if_ok, may_alike, only_entry, some_of_one, step_texts}
pub use Rattle.member_steps.specs.Steps.{IsStep, StepLeaves, entry_of, reply_to}
pub use Rattle.queue_telling.specs.Telling.{Tell, TellSound}
pub use Rattle.step_turns.specs.Batches.{batch_of, cut, is_full}
pub use Rattle.step_turns.specs.Decks.{job_begun, job_opened}
pub use Rattle.step_turns.specs.Sittings.{sitting_of}
