-- The names that many proofs take, each from where it is declared.
pub use Rattle.std.proofs.Common.{Err, is_some, true, zero, List, Ok, Option, Result, ap, arith, inl, inr, refl, subst, suc, sym, take, ◌-◌, ◌∙◌, false, Bool, append-nil, ◌++◌, ◌∷◌, if◌then◌else◌}
pub use Rattle.member_units.specs.Names.{AreOutputs, IfSome, None, Some, [], length, ℕ, ◌*◌, ◌+◌, ◌<◌, ◌≡◌, ◌≤◌, counts_of, spools_at, MayStopBy, Plays, bounds, unwritten, wrote_after, wrote_of, HasRoom, Works, outside, place_of, queue_here, queue_kept, run_of, MayEndBy, MayRefuseBy, IsMarkRight, sittings_most, groups_for_end, aside_turn, goes_on_by, job_ends, leaves, lines_printed, outputs_stand, text_read, units_from, Found, Fresh, Rested, HasGiven, IsLow, IsUnderWay, Follow, MayLeave, aside_done, aside_most, aside_units, too_high, rests}
pub use Rattle.std.proofs.lemmas.Result.{err_from_is_err_and}
pub use Rattle.mas_types.specs.Commands.Life.{outputs_at_end}
pub use Rattle.mas_types.specs.Queue.{job_at, output_at, is_member}
pub use Rattle.mas_types.specs.declared.commands.Command.{Command}
pub use Rattle.mas_types.specs.declared.ids.JobNo.{JobNo}
pub use Rattle.mas_types.specs.declared.ids.MemberId.{MemberId}
pub use Rattle.mas_types.specs.declared.ids.OutNo.{OutNo}
pub use Rattle.mas_types.specs.declared.journals.Entry.{Entry}
pub use Rattle.mas_types.specs.declared.queues.Queue.{Queue}
pub use Rattle.member_giving.proofs.Cuts.{of_cut, cut_end, after_few}
pub use Rattle.member_giving.proofs.Going.{apart_none, full_error, played_as, plays_more, plays_full, played_part, played_part_error, played_out, played_error}
pub use Rattle.member_giving.proofs.Resting.{tells_here, open_left, told_left}
pub use Rattle.member_giving.proofs.Sat.{frame_of, plays_units, sat_of, says_units}
pub use Rattle.member_giving.proofs.Seated.{low_bounds, works_sits}
pub use Rattle.member_giving.proofs.Within.{cut_few, full_le, leave_within, prints_by, stops_by, text_within, unwritten_one, wrote_within, TurnWithin, goes_within}
pub use Rattle.member_giving.proofs.Working.{kept_here, less_room, own_batch}
pub use Rattle.member_giving.specs.Works.{Outside, Run, Place}
pub use Rattle.member_node.specs.declared.member.NodeNo.{NodeNo}
pub use Rattle.member_sittings.specs.declared.ends.SittingEnd.{SittingEnd}
pub use Rattle.paper_laws.specs.Counts.{counts_after}
pub use Rattle.step_turns.specs.Batches.{cut}
pub use Rattle.step_turns.specs.declared.states.Aside.TheVariants.{PrintLines, ReadText, SpoolOutputs}
pub use Rattle.step_turns.specs.declared.states.State.TheVariants.{Away}
pub use Rattle.track_groups.specs.Groups.{held_by}
pub use Rattle.member_work.specs.Units.{chunk_end, taken_end, command_of}
pub use Rattle.std.proofs.lemmas.List.Elements.{All-nil}
pub use Rattle.member_node.specs.declared.member.Member.{Member}
pub use Rattle.member_sittings.specs.Names.{Complex, PlantGhosts, SteadyGhosts, Ghosts as CopyGhosts}
pub use Rattle.member_work.proofs.PartLemmas.{not_refused, spooled_nowhere, queue_is, under_way_taken}
pub use Rattle.member_giving.specs.Plays.{Bounds, IsWithin, to_play, unit_part}
pub use Rattle.step_turns.specs.declared.states.Aside.{Aside}
pub use Rattle.step_turns.specs.declared.states.Holder.{Holder}
pub use Rattle.step_turns.specs.declared.states.Progress.{Progress}
pub use Rattle.std.specs.Option.{option_map_or, option_map}
pub use Rattle.member_units.specs.Actions.{IsNext, IsRoomy, IsUpTo, MayFollow, above, action_turn, ahead, entries_of, most_of, most_then, rest_turn, wait_after, IsCaused, MayBegin, left_of, follow_in, is_text}
pub use Rattle.queue_telling.specs.Telling.{Tell}
pub use Rattle.member_units.specs.Nexts.{IsOfUnit, aside_of, lines_of, text_of}
pub use Rattle.member_decks.proofs.OpenLemmas.{tells_some}
pub use Rattle.member_work.proofs.UnderWayLemmas.{finish_indexed, print_under_way, text_under_way}
pub use Rattle.mas_complex.specs.Journals.{kept_all}
pub use Rattle.mas_types.specs.declared.queues.Config.{Config}
pub use Rattle.member_work.specs.Spooled.{AreSpooled}
pub use Rattle.queue_laws.proofs.RunLaws.{runs_keep_configuration}
pub use Rattle.step_turns.specs.Entries.{closing_reply, given_in, is_drop}
