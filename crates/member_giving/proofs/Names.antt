-- The names that many proofs take, each from where it is declared.
pub use Rattle.std.proofs.Common.{All, Bool, Err, IfOk, IfSome, List, None, Ok, OnOk, Option, Result, Some, [], ap, append-nil, append_assoc, arith, false, if◌then◌else◌, inl, inr, length, length-append, nat_le, not, refl, subst, suc, sym, take, true, zero, ℕ, ⊎_elim, ◌*◌, ◌++◌, ◌+◌, ◌<◌, ◌∙◌, ◌∷◌, ◌≡◌, ◌≤◌, ◌^◌}
pub use Rattle.std.proofs.lemmas.Bool.Decides.{nat_tests}
pub use Rattle.std.proofs.lemmas.List.Elements.{All-append, All-cons, All-head, All-nil, All-tail, All-weaker, All-drop}
pub use Rattle.std.specs.Option.{option_map_or}
pub use Rattle.ckpt_copy.specs.declared.copying.Copying.{Ghosts}
pub use Rattle.ckpt_form.specs.declared.steady.Steady.{Ghosts as SteadyGhosts}
pub use Rattle.ckpt_tables.specs.declared.tables.Tables.{Tables}
pub use Rattle.member_giving.specs.Names.{IsNamedEnd, end_by, Done, spools_at, is_member, job_at, output_at, Command, MemberId, Entry, Queue, HasFewer, IsReady, SittingEnd, AreOf, HasCounted, AreSpooled, IsMarkRight, Tell, batch_of, cut, cut_after, is_full, all_entries, closing_reply, given_in, drop_groups, ending, groups_for_end, taking, units_left, Turn, is_spent, no_more, one_command, units_from, Holder, Progress, State, held_by}
pub use Rattle.job_outcome.specs.declared.units.UnitEnd.{UnitEnd}
pub use Rattle.mas_complex.specs.Journals.{begun, end_of, kept_all, fated}
pub use Rattle.mas_complex.specs.Meaning.{run as meaning_run}
pub use Rattle.mas_complex.specs.Paper.{MayBegin}
pub use Rattle.mas_complex.specs.Parts.{parts_of, Parts}
pub use Rattle.mas_complex.specs.Past.{values_of}
pub use Rattle.mas_complex.specs.Texts.{HasTexts, Spools, lost_now}
pub use Rattle.mas_complex.specs.declared.complex.Complex.{Complex}
pub use Rattle.mas_types.specs.Commands.Life.{groups_of_outputs, is_cancelled}
pub use Rattle.mas_types.specs.Run.{run}
pub use Rattle.mas_types.specs.Step.{step}
pub use Rattle.mas_types.specs.Units.{unit_of}
pub use Rattle.mas_types.specs.declared.commands.Reply.{Reply}
pub use Rattle.mas_types.specs.declared.ids.Dev.TheVariants.{Ckpt1, Ckpt2}
pub use Rattle.mas_types.specs.declared.ids.JobNo.{JobNo}
pub use Rattle.mas_types.specs.declared.ids.OutNo.{OutNo}
pub use Rattle.mas_types.specs.declared.jobs.Job.{Job}
pub use Rattle.mas_types.specs.declared.jobs.OutSpec.{OutSpec}
pub use Rattle.mas_types.specs.declared.jobs.Output.{Output}
pub use Rattle.mas_types.specs.declared.journals.Batch.{Batch}
pub use Rattle.mas_types.specs.declared.journals.Journal.{Journal}
pub use Rattle.mas_types.specs.declared.queues.Config.{Config}
pub use Rattle.member_asides.specs.Ready.{AreStanding, IsToResume}
pub use Rattle.member_asides.specs.Shapes.{MayCloseBy, MayEndBy, MayRefuseBy, Says, SaysAtEnd, SaysWork, WorkLines}
pub use Rattle.member_decks.proofs.DeckLemmas.{given_of}
pub use Rattle.member_decks.proofs.OpenLemmas.{tells_some}
pub use Rattle.member_decks.proofs.PageLemmas.{still_roomy}
pub use Rattle.member_decks.specs.Batches.{AreAll, HasAll, IsKeptBatch}
pub use Rattle.mas_complex.specs.CallCounts.{pair_at, pair_of}
pub use Rattle.member_decks.specs.Keeping.{CopyCauses, IsOnCopies, KeepLeaves}
pub use Rattle.member_asides.specs.Left.{bare}
pub use Rattle.member_giving.specs.Plays.{Bounds, Closes, EndsAs, GivesUp, HasGiven, IsClosing, IsKeeping, IsWithin, Keeps, LeavesFirst, LeavesLast, MayFly, MayStopBy, Plays, PlaysAs, PlaysOut, SparesOthers, WorkLeaves, Wrote, after_full, bounds, closed, full_of, to_play, unit_part, unwritten, wrote_after, wrote_of}
pub use Rattle.member_giving.specs.Works.{Follow, HasBounds, HasRoom, HasSeat, IsLow, Leaves, MayLeave, Outside, Place, Run, Sits, SitsIn, UsesOne, Works, outside, pair_seen, place_of, queue_here, queue_kept, run_of}
pub use Rattle.member_node.proofs.WriteLemmas.{none_out}
pub use Rattle.member_node.specs.Calls.{Apart, Course, console_now}
pub use Rattle.member_node.specs.Reads.{IsSettle, pages_had}
pub use Rattle.member_node.specs.declared.member.Member.{Member}
pub use Rattle.member_node.specs.declared.member.NodeNo.{NodeNo}
pub use Rattle.member_node.specs.declared.member.NodeNo.TheVariants.{BothLost, ConsoleFault, Halted, NoMemory}
pub use Rattle.member_steps.proofs.CountLemmas.{counted_by, counted_none, counted_ok, counted_on, counted_then, counted_up}
pub use Rattle.member_steps.proofs.FateLemmas.{settled_later, closing_tells}
pub use Rattle.member_steps.proofs.NoteLemmas.{had_as, notes_by, notes_none, notes_same, notes_then}
pub use Rattle.member_steps.specs.Noting.{LeavesNotes}
pub use Rattle.member_steps.specs.Saying.{HaveSaid, OnConsole, TellKept}
pub use Rattle.member_steps.specs.Steps.{StepCauses, entry_with, AreKeptFrom}
pub use Rattle.member_work.proofs.BeginLemmas.{dropping_unmarked, ending_unmarked, more_begins, taking_unmarked}
pub use Rattle.member_decks.proofs.MayLemmas.{part_begins}
pub use Rattle.member_steps.proofs.StepLemmas.{if_ok, between_done, can_draw, can_still}
pub use Rattle.member_work.proofs.PartLemmas.{has_groups}
pub use Rattle.paper_laws.specs.Counts.{may_mark}
pub use Rattle.queue_laws.proofs.Finds.{test_cases}
pub use Rattle.queue_telling.specs.Telling.{TellSound}
pub use Rattle.spool_plant.specs.View.{Line, View, disk_now}
pub use Rattle.spool_plant.specs.declared.plant.Plant.{Ghosts as PlantGhosts}
pub use Rattle.step_turns.proofs.Given.{entries_append, run_append, given_length}
pub use Rattle.step_turns.specs.Courses.{sittings_most}
pub use Rattle.step_turns.specs.Decks.{are_refused, takes}
pub use Rattle.step_turns.specs.Entries.{closes, entry_of, is_drop, reply_to}
pub use Rattle.step_turns.specs.JobEnds.{printed_end}
pub use Rattle.step_turns.specs.Laws.{units_done}
pub use Rattle.step_turns.specs.Sittings.{Sitting, released, sitting_of}
pub use Rattle.step_turns.specs.Turns.{Units, after_part, closes_as, ends_with, gives, goes_on, goes_on_by, groups_taken, job_ends, leaves, next_unit, prints_output, reads_job, says, text_read, turn, last_part}
pub use Rattle.step_turns.specs.declared.states.Aside.{Aside}
pub use Rattle.step_turns.specs.declared.states.Aside.TheVariants.{PrintLines, ReadText, SpoolOutputs}
pub use Rattle.step_turns.specs.declared.states.Found.{Found}
pub use Rattle.step_turns.specs.declared.states.State.TheVariants.{Away, Rested, Told}
pub use Rattle.member_asides.specs.Whole.{IsStill, IsGiving, IsRoomy, first_half, second_half, HasTextsAfter, HasTextsOf}
pub use Rattle.member_node.proofs.CourseLemmas.{only_none, only_on, papers_none, papers_on, wires_none, wires_then, course_none, course_then}
pub use Rattle.member_node.specs.Spares.{stopped_in}
pub use Rattle.member_asides.proofs.ReachLemmas.{LeftBy, Lefts, by_all, cause_by, next_left, none_left, part_left, said_by, batch_some}
pub use Rattle.member_steps.proofs.ReadLemmas.{between_by}
pub use Rattle.member_decks.specs.Taking.{GivesAt, asked}
pub use Rattle.member_work.specs.Giving.{GivesAs, MayEnd}
pub use Rattle.member_asides.proofs.SeatLemmas.{front_is, of_strip, or_one, still_commanded, strip, Kept, sits_kept}
pub use Rattle.member_giving.specs.Kept.{HasKept, to_keep}
pub use Rattle.member_work.proofs.GivingLemmas.{one_more, end_ending, ended_leaves, gives_so}
pub use Rattle.std.proofs.lemmas.Result.{err_from_is_err_and}
