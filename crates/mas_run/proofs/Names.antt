-- The names that many proofs take, each from where it is declared.
pub use Rattle.std.proofs.Common.{All, Bool, Err, IfErr, IsErrOf, List, None, Ok, OnOk, Option, Result, Some, [], ap, append-nil, append_assoc, arith, drop, drop-cons, drop_of_length-le, eq-eqb, false, get_or, if◌then◌else◌, inl, inr, is_none, is_some, le_refl, length, map, nat_le, nat_lt, not, refl, replicate, rules, set, slice_get, slice_index_or, slice_set, subst, suc, sym, take, true, zero, ℕ, ⊎_elim, ◌&&◌, ◌*◌, ◌++◌, ◌+◌, ◌-◌, ◌<◌, ◌==◌, ◌||◌, ◌∙◌, ◌∷◌, ◌≡◌, ◌≢◌, ◌≤◌, ◌⊎◌}
pub use Rattle.std.proofs.Math.Seq.{drop-append_seam}
pub use Rattle.std.proofs.lemmas.Bool.{and_from, and_parts, and_right as and_none, cases_eq, eqb-true, false_from_ne_true}
pub use Rattle.std.proofs.lemmas.Bool.Decides.{nat_tests}
pub use Rattle.std.proofs.lemmas.List.{get_or-set_other, get_or-set_same, length-drop, length-set, map-append, set-get_or}
pub use Rattle.std.proofs.lemmas.List.Elements.{All-append, All-cons, All-drop, All-head, All-nil, All-tail, All-take, All-weaker}
pub use Rattle.std.proofs.lemmas.Result.{err_from_is_err_and}
pub use Rattle.card_reader.specs.Decks.{job_seen_in, nothing_seen, read_as, refused_card, seen_after, text_of}
pub use Rattle.ckpt_copy.specs.Changes.{NoMore}
pub use Rattle.ckpt_copy.specs.Moments.{goes_none, goes_on, sides_none}
pub use Rattle.mas_run.specs.Names.{Ghosts, form_needs, form_reads, SteadyGhosts, page_count, IsBothLost, SomeAlive, Book, IsMember, is_stopped, left_of, AreSettled, kept_all, run as meaning_run, SamePapers, counts_of, Parts, parts_of, begun_on, ended_on, is_open, no_renewals, Complex, Renewals, members_most, steps_most, wires_most, Status, Dev, Ckpt1, Ckpt2, Spool, MemberId, Batch, Grows, IsLeft, VolumesStay, WasLost, console_now, none_lost, NodeNo, AreBatched, AtCut, IsBroken, IsHaltBy, IsTight, cause_by, whole_pieces, AreFoundIn, Wait, named_in, waits_in, IfRuns, IsResetPiece, ended_as, settle, journal_of, Proceeds, StaysLost, Answers, IsPlayedOut, refusal_of, refused_sizes, AreAway, OneIsGood, as_found, has_begun, BetweenLines, IsShown, LeftBetween, Shows, IsCaused, IsCausedFrom, status_of, IsNotStarted, AreVolumesKept, AreVolumesKeptUntil, Completes, HaveRead, Admission, Denied, Plays, Refused, Replaces, Resets, TakesOver, admitted, granted_by, resets, ArePiecesOf, Given, RightIf, given_first, last_cut, line_with, outcomes_with, play_with, queue_met, scene_with, sights_of, Piece, Play, fate_found, holder_of, console, given_on, paper_of, Armed, Batched, Scene, scene_of, Cut, Ends, Halt, LostAgain, NotLost, Renewed, Replaced, Saying, Sight, Stops, Writing, Outcome, Played, is_up, IsPlayed, Ask, Script, Step, Goes, Rose, SameWires, next, top, ViewLine, View, given_now, paper_now, taken_now, Console, Disk, Printer, PlantGhosts, AreRoomy, Finds, Away, Fresh, Task, Deck, Line, Work, OnlyStops, outcomes_of}
pub use Rattle.ckpt_form.specs.Form.{form_room}
pub use Rattle.duplex_pair.specs.Halves.{IsCkpt, other, pick}
pub use Rattle.job_outcome.specs.declared.outcomes.Read.{Read}
pub use Rattle.lock_cycle.specs.Books.{after_free, after_seize, after_spend, after_stop, after_try, beginner, granted, is_dormant, is_holder, noted, seize_refusal, standing, ticked, try_refusal, wakes, with_holder, with_standing}
pub use Rattle.lock_cycle.specs.declared.answers.LockNo.{LockNo}
pub use Rattle.lock_cycle.specs.declared.standings.Standing.{Standing}
pub use Rattle.mas_complex.proofs.Batches.{with_last-append, kept_all_append, placed_all, settled_later, unplaced_settled}
pub use Rattle.mas_complex.specs.CallCounts.{IsLostOnce, KeepsCounts, PairState, pair_at, pair_state}
pub use Rattle.mas_complex.specs.Elsewhere.{Elsewhere}
pub use Rattle.mas_complex.specs.Headline.{Headline}
pub use Rattle.mas_complex.specs.Journals.{end_of, in_flight, with_last}
pub use Rattle.mas_complex.specs.Locking.{IsOperatorAway, reserved_after_stop}
pub use Rattle.mas_complex.specs.Parts.{batches_left, placed_left, unreserved_in, with_half}
pub use Rattle.mas_complex.proofs.Basics.{each, of_if, volume_beside}
pub use Rattle.mas_complex.specs.Renewals.{ended_at, of_device, or_at, with_device}
pub use Rattle.mas_complex.specs.declared.renewals.Renewal.{Renewal}
pub use Rattle.mas_run.specs.Bounds.{level_most, levels_most}
pub use Rattle.mas_run.specs.Copies.{AreSidesLeft, CopiesKept, IsCopyKept, KeepCopies, LeavesCopies, LeavesOne, LeavesSome, Sides, StaysWhole, ends_both, is_alive, sides_of}
pub use Rattle.mas_run.specs.Histories.{AreHistory, as_history}
pub use Rattle.mas_run.specs.Lines.{Account, AdmissionLeaves, account_at, AskLeaves, CutsAs, EndsBy, IfIdle, IfOfMember, IsCutAs as LinesIsCutAs, IsGiven, IsHonest, IsHonestAs, IsNextAct, IsPassed, IsThere, IsUnsaid, IsWhy, IsWithin, LeavesVolumes, LosesAs, MayLoseCopy, PrintsNone, StaysAs, StopsUnsaid, arms_by, arms_then, cut_in, cut_of, is_replaced, is_takeover, is_work, loses_then, named_as, named_by, names_in, printed_at, same_device, taking}
pub use Rattle.mas_run.specs.LinesAt.{LineAt, admitted_at, pieces_as, pieces_at, play_as, played_at}
pub use Rattle.mas_run.specs.LinesDone.{AreUpSince, LineDone, LineIsPlayed}
pub use Rattle.mas_run.specs.LinesLeft.{ActsAs, AreCounted, flown_of, scene_as, HasLeft, HasLeftAs, IsCutBy, IsCutIn as LinesLeftIsCutIn, LeavesAt, LeftAt, LineIsLeft, left_as, left_at as linesleft_left_at, seen_of}
pub use Rattle.mas_run.specs.LinesPlayed.{HasPlayedLine, PassesLines, PlayedLines, PlayedLine, here_at, is_of_member, line_by, there_at, Known}
pub use Rattle.mas_run.specs.Passed.{AreEach, ArePassed, GoesOn, Here, IsNext, IsNextBy, LeaveVolumes, Passed, TakeNone, There, arms_after, here_after, line_of, loses_after}
pub use Rattle.mas_run.specs.Refusals.{IsSaid, calm as refusals_calm, refusal_before_play, said_by, steps_of}
pub use Rattle.mas_run.specs.Renewing.{Began, BeganAndEnded, CopiesAt, IsInLine, NoneBegan, Renewing, renewed_by, RenewsAs, RenewsBy, CameTo, copies_at, known_by}
pub use Rattle.mas_run.specs.Runs.{EndsAs, HasLost, HasLostSince, HasSteps, HavePassed, IsPlay, IsRun, LinesBegun, LinesEnded, NonePassed, ReplacesNone, RunResult, WerePlayed, begun_after, IsOpenForLines, ended_with, run_result, starts, stops}
pub use Rattle.mas_run.specs.Shapes.{IsShapedAs, IsTaskShaped, holder_as}
pub use Rattle.mas_run.specs.Statuses.{AreLeftAlone, CannotStop, IsLeftAlone, IsStill, TakesNone, resets_in}
pub use Rattle.mas_run.specs.Wires.{Carries, HeardFirst, HeardIn, stream_since, task_place, waits_as}
pub use Rattle.mas_types.specs.Closings.{AreMembersNamed, closing_line, reply_lines}
pub use Rattle.mas_types.specs.Fit.{IsConfig, IsFit, IsLine}
pub use Rattle.mas_types.specs.Ids.{is_somebody, nobody, same_member}
pub use Rattle.mas_types.specs.Journal.{is_flying, is_kept}
pub use Rattle.mas_types.specs.Queue.{is_member, job_at, output_at}
pub use Rattle.mas_types.specs.Run.{run}
pub use Rattle.mas_types.specs.Sound.{IsSound}
pub use Rattle.mas_types.specs.declared.answers.Closing.{Closing}
pub use Rattle.mas_types.specs.declared.commands.Command.{Command}
pub use Rattle.mas_types.specs.declared.ids.GroupNo.{GroupNo}
pub use Rattle.mas_types.specs.declared.ids.Page.{Page}
pub use Rattle.mas_types.specs.declared.jobs.Text.{Text}
pub use Rattle.mas_types.specs.declared.journals.Entry.{Entry}
pub use Rattle.mas_types.specs.declared.journals.Fate.{Fate}
pub use Rattle.mas_types.specs.declared.journals.Fate.TheVariants.{Dropped, Flying, Kept}
pub use Rattle.mas_types.specs.declared.journals.Journal.{Journal}
pub use Rattle.mas_types.specs.declared.queues.Config.{Config}
pub use Rattle.mas_types.specs.declared.queues.Queue.{Queue}
pub use Rattle.member_decks.specs.Keeping.{CopyCauses}
pub use Rattle.member_decks.specs.Steps.{AreOf, IsFoundLost}
pub use Rattle.member_lines.proofs.Earlier.{earlier_kept}
pub use Rattle.member_lines.specs.Admissions.{AreFewUnits, admission_of, tested_as}
pub use Rattle.member_lines.specs.Closes.{ActsOnce, Closes, HasCause, HasClosed, HasClosedBy, HasSaid, ended_by, IsCutAs, IsOneAct, IsSayer, IsTested, SaysStopped, at_line, before_line, failed, freed_by, left_at, stopped_said, stopped_so}
pub use Rattle.member_lines.specs.Locks.{HasNoSeat, HasSeat, SeatsAndCloses, SeatsBy}
pub use Rattle.member_node.proofs.CourseLemmas.{grow_rose, left, no, papers_none, papers_on, rose_grow, rose_later, rose_more, stay_both, stay_more, stay_none, stay_then, wires_none, wires_then}
pub use Rattle.member_node.proofs.ReadLemmas.{on_ok}
pub use Rattle.member_node.proofs.SpareLemmas.{spares_for, spares_none, spares_then}
pub use Rattle.member_node.proofs.WriteLemmas.{none_out, run_append}
pub use Rattle.member_node.specs.Spares.{Spares, is_stop, stopped_in}
pub use Rattle.member_node.specs.declared.member.Member.{Member}
pub use Rattle.member_resets.proofs.Acting.{aside_then, asided, seat_then}
pub use Rattle.member_resets.proofs.BookLemmas.{Since, admitted_since, freed_since, inside_since, line_since, none_since, piece_since, play_since, play_stops, seized_since, spent_since, stands_later, stopped_now, stopped_since, then_since, tried_since, unlocked_book}
pub use Rattle.member_resets.proofs.Flights.{journal_unreserved, settled_unreserved, stands_unreserved}
pub use Rattle.member_resets.proofs.ResetCutLemmas.{entered_same}
pub use Rattle.member_resets.proofs.Seated.{seated}
pub use Rattle.member_resets.proofs.SettleLemmas.{journal_still, settle_both, settle_still, settled_entries}
pub use Rattle.member_resets.proofs.ToldLemmas.{AreOfStep, EachSays, TellNone, Untells, closing_of, left_tells, reply_of, untold_then, whole_later}
pub use Rattle.member_resets.specs.Cuts.{ArePart, IsAsideHalt, IsBatched, IsBetweenSittings, IsCutBy as IsCutIn, OfFirst}
pub use Rattle.member_resets.specs.Found.{FindsJob, FindsOffered, FindsOutput, FindsWritten, IsFoundAt, printed_found, read_found}
pub use Rattle.member_resets.specs.Hears.{GivesOnly, HasTaken, Hears, HearsAtFirst, HearsIn, HearsStep, IsElsewhere, ReaderStaysFrom, TakesNothing, line_served}
pub use Rattle.member_resets.specs.Locks.{MayHold}
pub use Rattle.member_resets.specs.Plays.{HasActedIn, HasCut, HasPlayed, HasToldStep, IfCommand, IfNoPrint, IsAfterStep, IsOwnPiece, MayPlay, Passage, Played as PlaysPlayed, Writes, left_of as plays_left_of, play_in, played_in}
pub use Rattle.member_resets.specs.Quiet.{IsAside, IsQuiet, IsSeatedBy, MayGoOn, levels_for}
pub use Rattle.member_resets.specs.Resetting.{CopiesLeft, HasReset, HasResetBy, HasTakenOver, HasToldReset, IsAfterReset, IsAfterTakeover, IsTaken, IsUntaken, MayReset, MayTakeAt, TakeCauses, TakesAndResets, TakesBy, taker_at, untaken_book}
pub use Rattle.member_resets.specs.Settling.{reset_piece, settled_at, with_found}
pub use Rattle.member_resets.specs.Shapes.{AreFewPieces, AreShaped, DeckLinesIn, SaysIn, WorkLinesIn}
pub use Rattle.member_resets.specs.Sits.{AreFewUnits as SitsAreFewUnits, MayBeAsked, begins}
pub use Rattle.member_resets.specs.Standing.{IsOfEarlier, StandsIn}
pub use Rattle.member_resets.specs.WhyLost.{CouldNotStay, IsWhyLost}
pub use Rattle.member_sittings.specs.Gates.{IsAtGate, IsAtSeat, IsOpen, MayTakeSeat}
pub use Rattle.member_sittings.specs.Sat.{CopiesActed, begins as sat_begins, seated_in}
pub use Rattle.member_sittings.specs.Whole.{HasStepKept, HasUntold, HoldsLock, IsAtRest, IsGivable, IsSeat, first_half, queue_of, second_half}
pub use Rattle.member_steps.proofs.LineLemmas.{by_test}
pub use Rattle.member_steps.proofs.ReadLemmas.{between_by, low_later, pages_of_run}
pub use Rattle.member_steps.specs.Noting.{OtherNotesStay}
pub use Rattle.member_steps.specs.Saying.{OnConsole}
pub use Rattle.member_steps.specs.Steps.{AreEarlier, AreKeptFrom, IsKeptBy, StepCauses, entry_with}
pub use Rattle.member_work.proofs.PrintedLemmas.{beside_none}
pub use Rattle.member_work.specs.Rounds.{HasFailed, HasPrinterFailed, IsReadAs, IsSpoolLost}
pub use Rattle.nje_frames.specs.Laws.{ReadsAnyPieces}
pub use Rattle.paper_laws.proofs.Bools.{same_member_is}
pub use Rattle.paper_laws.specs.Counts.{Counts, is_mark}
pub use Rattle.queue_laws.proofs.RunLaws.{runs_keep_configuration}
pub use Rattle.run_opening.proofs.ProceedLemmas.{proceeds_none, proceeds_of, proceeds_on}
pub use Rattle.run_opening.proofs.RefusalLemmas.{not_unplayed, said_answers, script_kind, script_source, unread_answers}
pub use Rattle.run_opening.proofs.RoomLemmas.{roomy_on}
pub use Rattle.run_opening.proofs.VolumeLemmas.{by_order, kept_none, kept_on, kept_past, kept_then, more_then, no_more}
pub use Rattle.run_opening.specs.Lines.{is_copy}
pub use Rattle.run_opening.specs.Refusals.{is_refusal}
pub use Rattle.run_opening.specs.Runs.{IsAway, begins_at}
pub use Rattle.run_opening.specs.Shows.{AreLarge, AreMembers, IsBetween, IsFlight, IsMemberAt, IsMemberUp, is_left_held}
pub use Rattle.run_opening.specs.Wires.{AreReaders, HasRead, reader_place}
pub use Rattle.run_turns.proofs.Comes.{ArmCame, Comes, CommandCame, DeckCame, FreeCame, HasGot, LineCame, LockCame, LossCame, NoMember, NotGranted, ReplaceCame, ResetCame, SaysNo, StillUp, StopCame, TakeoverCame, WorkCame, comes, denied_holder, few_of, holder_is, holder_keeps, inside_of, some_of}
pub use Rattle.run_turns.proofs.Givens.{ask_right, right_lines}
pub use Rattle.run_turns.proofs.Keeping.{CallsKeep, adds_keeps, batches_are, left_keeps, tried_keeps}
pub use Rattle.run_turns.specs.Admissions.{Frees, Locks, Unplayed, asked, command_admitted, deck_admitted, denied_closing, if_granted, no_member, reset_admitted, tried, tries}
pub use Rattle.run_turns.specs.Cuts.{Left, adds, adds_all, adds_first, adds_part, batches_cut, begun, book_cut, cut_left, kept_all as cuts_kept_all, left_by, none_left, stopped_by}
pub use Rattle.run_turns.specs.Givens.{AreRight, IsRight, IsAskRight, ask_with, cut_if, flight_met, none_given, played_with}
pub use Rattle.run_turns.specs.Laws.{IsUp}
pub use Rattle.run_turns.specs.Pieces.{after_piece, closes_with, entered, is_locked, once_found, piece_at, piece_of, pieces_found, pieces_from, pieces_of, play_of, released_by, replaced_closing, replaced_pieces, reset_closing, reset_pieces, sayer_of, spent, task_pieces, unless_told}
pub use Rattle.run_turns.specs.Runs.{fate_then, history_from, outcomes_from, outcomes_if, scene_if, serves_ask, serves_line, settled}
pub use Rattle.run_turns.specs.Scenes.{count_then, flies_as, flight_found, flying_in, kept_in, kept_of, queue_found, with_count, with_fate}
pub use Rattle.run_turns.specs.Sights.{Begun, Cause, Waiting, clear}
pub use Rattle.run_turns.specs.Steps.{Said, arm, cause_of, counted, counted_at, flight_then, lose, nothing, played, played_as, played_ask, run_goes_on, said_by as steps_said_by, scene_left, silent, stop, stopped_lines}
pub use Rattle.script_lang.specs.Asks.{units_most}
pub use Rattle.script_lang.specs.Script.{Said as ScriptSaid}
pub use Rattle.script_laws.specs.Limits.{IsAsk, IsBy, IsCopy, IsStep}
pub use Rattle.spool_plant.specs.Acts.{Arms, Loses}
pub use Rattle.spool_plant.specs.View.{Disk as DiskView, World, disk_now}
pub use Rattle.spool_plant.specs.declared.plant.Fuse.{Fuse}
pub use Rattle.spool_plant.specs.declared.plant.Part.{Part}
pub use Rattle.step_turns.specs.Courses.{holder_then, sittings_most, task_most}
pub use Rattle.step_turns.specs.Entries.{all_entries, given_in, reply_to}
pub use Rattle.step_turns.specs.Examples.{calm, text_of as examples_text_of, with_text}
pub use Rattle.step_turns.specs.Laws.{lines_of, on_line, units_done, units_left}
pub use Rattle.step_turns.specs.Sittings.{Sitting, released, sit}
pub use Rattle.step_turns.specs.States.{nothing_found}
pub use Rattle.step_turns.specs.declared.states.Aside.TheVariants.{Acknowledge, Exchange, PrintLines, ReadText, SpoolArrival, SpoolDeck, SpoolOutputs}
pub use Rattle.step_turns.specs.declared.states.Found.{Found}
pub use Rattle.step_turns.specs.declared.states.Grant.{Grant}
pub use Rattle.step_turns.specs.declared.states.Grant.TheVariants.{ByLock, ForStep}
pub use Rattle.step_turns.specs.declared.states.Holder.{Holder}
pub use Rattle.step_turns.specs.declared.states.Offer.{Offer}
pub use Rattle.step_turns.specs.declared.states.Release.{Release}
pub use Rattle.step_turns.specs.declared.states.Release.TheVariants.{Inner, Keep, Outer}
pub use Rattle.step_turns.specs.declared.states.State.{State}
pub use Rattle.step_turns.specs.declared.states.State.TheVariants.{Rested, Told}
pub use Rattle.step_turns.specs.declared.states.Task.TheVariants.{Give}
pub use Rattle.member_node.specs.declared.member.NodeNo.TheVariants.{BothLost, ConsoleFault, Halted, NoMemory}
pub use Rattle.script_lang.specs.declared.types.Ask.TheVariants.{Line as AskLine, Lose, Replace, Stop, StopIn}
pub use Rattle.mas_types.specs.declared.commands.Command.TheVariants.{Load, Reset}
pub use Rattle.mas_types.specs.declared.answers.Closing.TheVariants.{Down, Reply as ReplyClosing, Stopped}
pub use Rattle.mas_types.specs.declared.commands.Reply.TheVariants.{Plain as PlainReply}
